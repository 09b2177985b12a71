-- Records that are added one after another and are valid (for `started`, `add_record`, `add_line`
-- and `into_records`).
use Rattle.std.proofs.Common.{◌≡◌, ◌≢◌, ℕ, ◌^◌, ◌≤◌, true, List, [], ◌∷◌, ◌++◌, length, Some, None, Ok, refl, sym, ◌∙◌, ap, arith, subst}
use Rattle.std.specs.List.{list_all}
use Rattle.std.proofs.lemmas.Bool.{le-leb}
use Rattle.sym_rules.proofs.BoolLemmas.{both}
use Rattle.sym_rules.specs.Cuts.{is_within_line}
use Rattle.sym_records.proofs.JoiningLemmas.{push_behind, behind_pushed}
use Rattle.sym_records.proofs.RecordSoundLemmas.{line_good}
use Rattle.sym_records.specs.Reading.{fits, leads}
use Rattle.sym_records.specs.Text.{line_read}
use Rattle.sym_records.specs.Validity.{fields_fit, first_bad_from, first_bad, place_behind}
use Rattle.sym_records.specs.declared.line.SymLine.{SymLine}
use Rattle.sym_records.specs.declared.place.Place.{Place}
use Rattle.sym_records.specs.declared.place.Place.TheVariants.{Start}
use Rattle.sym_grammar.proofs.ShortLemmas.{read_short}
use Rattle.sym_grammar.specs.internal.Parts.{AreGood}

none_good : AreGood [] Start
unfolding first_bad_from place_behind
none_good = record { valid = refl; after = refl }

pub start_good : (lines : List SymLine) → lines ≡ [] → AreGood lines Start
start_good lines none = subst (λ (l : List SymLine). AreGood l Start) (sym none) none_good

pub pushed_good : (lines new : List SymLine) (place after : Place) (s : SymLine) → AreGood lines place → fits place s ≡ true → fields_fit s ≡ true → new ≡ lines ++ s ∷ [] → after ≡ leads place s → AreGood new after
pushed_good lines new place after s good stands fit same next =
    let at : fits (place_behind Start lines) s ≡ true = ap (λ p. fits p s) (sym good.after) ∙ stands in
    record {
      valid = ap (first_bad_from 0 Start) same ∙ push_behind Start lines s good.valid at fit;
      after = next ∙ ap (λ p. leads p s) good.after ∙ sym (behind_pushed Start lines s) ∙ ap (place_behind Start) (sym same);
    }

-- A record that was read from a line that is not too long passes the test.
pub read_fits : (limit : ℕ) (line : List ℕ) (s : SymLine) → limit ≤ 2 ^ 20 → length line ≤ limit → list_all is_within_line line ≡ true → line_read line ≡ Ok (Some s) → fields_fit s ≡ true
unfolding fields_fit
read_fits limit line s small short all read =
    both (line_good line s all read) (le-leb _ (2 ^ 20) (omega (arith, small, short, read_short line s read)))

pub some_good : (lines : List SymLine) → first_bad_from 0 Start lines ≡ None → length lines ≢ 0 → first_bad lines ≡ None
unfolding first_bad
some_good [] good some = absurd (some refl)
some_good (s ∷ lines) good some = good
