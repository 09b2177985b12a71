-- An index gives the records that a scan finds.
use Rattle.std.proofs.Common.{◌≡◌, ◌<◌, ℕ, List, [], length, Option, None, Some, sym, ap, ◌∙◌}
use Rattle.std.specs.List.{position_from}
use Rattle.std.specs.List.Sorted.{IsNonDecreasingBy}
use Rattle.std.specs.Option.{option_map_or}
use Rattle.std.proofs.lemmas.Iterator.Adapters.{position_from-zero}
use Rattle.std.proofs.lemmas.List.Quantifiers.{position-Some}
use Rattle.sym_records.specs.declared.line.SymLine.{SymLine}
use Rattle.sym_records.specs.declared.line.SymLine.TheVariants.{Change}
use Rattle.sym_meaning.specs.TextNames.{is_func_at}
use Rattle.cfi_eval.specs.Inits.{is_init_at, init_place}
use Rattle.step_maps.specs.Stepping.{Stepping}
use Rattle.step_maps.specs.declared.stretch.FirstItem.{FirstItem}
use Rattle.sym_lookup.specs.declared.answers.Answer.{Answer}
use Rattle.sym_lookup.specs.declared.answers.Answer.TheVariants as answer
use Rattle.sym_lookup.specs.declared.marks.Mark.{Mark}
use Rattle.sym_lookup.specs.declared.marks.Marked.TheVariants as marked
use Rattle.sym_lookup.specs.declared.stretches.Kind.TheVariants as kind
use Rattle.sym_lookup.specs.Answers.{func_place, public_place, chain_places, line_place, answer_of}
use Rattle.sym_lookup.specs.IndexOf.{AreMarksOf}
use Rattle.sym_lookup.specs.declared.answers.PlaceRun.{PlaceRun}
use Rattle.sym_lookup.specs.PlaceMaps.{place_in, IsPlaceMap, IsPlaceRun}
use Rattle.sym_lookup.specs.internal.Kinds.{is_at}
use Rattle.sym_lookup.specs.internal.Marks.{marks_of}
use Rattle.sym_lookup.specs.NearestMarks.{mark_at, public_of}
use Rattle.sym_lookup.proofs.PublicMarkLemmas.{public_by_marks}

pub func_within : (lines : List SymLine) (x func : ℕ) → func_place lines x ≡ Some func → func < length lines
unfolding func_place
func_within lines x func h = let d : SymLine = Change 0 [] in (position-Some (is_func_at x) lines func d h).0

-- The maps of an index give the places that a scan finds.
pub funcs_map : (lines : List SymLine) (map : Stepping (Option FirstItem)) → IsPlaceMap (λ x. position_from (is_at kind.Functions x) 0 lines) map → IsPlaceMap (func_place lines) map
unfolding func_place
funcs_map lines map h = record { places = λ x l. h.places x l ∙ sym (position_from-zero (is_func_at x) lines) }

pub inits_map : (lines : List SymLine) (map : Stepping (Option FirstItem)) → IsPlaceMap (λ x. position_from (is_at kind.Inits x) 0 lines) map → IsPlaceMap (init_place lines) map
unfolding init_place
inits_map lines map h = record { places = λ x l. h.places x l ∙ sym (position_from-zero (is_init_at x) lines) }

-- An interval of a map is one of the scans.
pub run_of_map : (find : ℕ → Option ℕ) (map : Stepping (Option FirstItem)) (x : ℕ) (run : PlaceRun) → IsPlaceMap find map → IsPlaceRun (place_in map) x run → IsPlaceRun find x run
run_of_map find map x run is told = record { above = told.above; places = λ y low fits before. sym (is.places y fits) ∙ told.places y low fits before }

pub marks_found : (lines : List SymLine) (starts publics : List Mark) → IsNonDecreasingBy (λ m. m.key) starts → IsNonDecreasingBy (λ m. m.key) publics → ((x : ℕ) → mark_at starts x ≡ mark_at (marks_of marked.Functions 0 lines) x)
    → ((x : ℕ) → mark_at publics x ≡ mark_at (marks_of marked.Publics 0 lines) x) → AreMarksOf lines starts publics
marks_found lines starts publics s p f g = record {
  starts_sorted = s;
  publics_sorted = p;
  public = λ x. sym (public_by_marks lines x (mark_at publics x) (mark_at starts x) (sym (g x)) (sym (f x)));
}

-- The cases of an answer.
pub answer_function : (lines : List SymLine) (x func : ℕ) → func_place lines x ≡ Some func → answer_of lines x ≡ answer.Function func (chain_places lines func x) (line_place lines func x)
unfolding answer_of
answer_function lines x func h = ap (λ place. option_map_or (λ func. answer.Function func (chain_places lines func x) (line_place lines func x)) place (option_map_or answer.Public (public_place lines x) answer.Nothing)) h

pub answer_outside : (lines : List SymLine) (x : ℕ) → func_place lines x ≡ None → answer_of lines x ≡ option_map_or answer.Public (public_place lines x) answer.Nothing
unfolding answer_of
answer_outside lines x h = ap (λ place. option_map_or (λ func. answer.Function func (chain_places lines func x) (line_place lines func x)) place (option_map_or answer.Public (public_place lines x) answer.Nothing)) h

pub function_found : (lines file : List SymLine) (x func : ℕ) (found : Answer) → lines ≡ file → func_place lines x ≡ Some func → found ≡ answer.Function func (chain_places lines func x) (line_place lines func x) → found ≡ answer_of file x
function_found lines file x func found same h e = e ∙ sym (answer_function lines x func h) ∙ ap (λ ls. answer_of ls x) same

pub outside_found : (lines file : List SymLine) (x : ℕ) (found : Answer) (starts publics ss ps : List Mark) → lines ≡ file → ss ≡ starts → ps ≡ publics → func_place lines x ≡ None → AreMarksOf file starts publics
    → found ≡ option_map_or answer.Public (public_of (mark_at ps x) (mark_at ss x)) answer.Nothing → found ≡ answer_of file x
outside_found lines file x found starts publics ss ps same s p h marks e =
    let place : public_of (mark_at ps x) (mark_at ss x) ≡ public_place file x = ap (λ ms. public_of (mark_at ms x) (mark_at ss x)) p ∙ ap (λ ms. public_of (mark_at publics x) (mark_at ms x)) s ∙ marks.public x in
    e ∙ ap (λ o. option_map_or answer.Public o answer.Nothing) place ∙ sym (answer_outside file x (ap (λ ls. func_place ls x) (sym same) ∙ h))
