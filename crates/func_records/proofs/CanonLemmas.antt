-- The text of records, one after the other.
use Rattle.std.proofs.Common.{◌≡◌, ℕ, List, [], ◌∷◌, ◌++◌, None, refl, sym, ap, ◌∙◌, append_assoc, append-nil}
use Rattle.std.specs.List.{slice_get}
use Rattle.std.proofs.lemmas.Grind.{flat_map-append}
use Rattle.sym_records.specs.Canon.{canon, canon_text}
use Rattle.sym_records.specs.Validity.{first_bad_from}
use Rattle.sym_records.specs.declared.place.Place.{Place}
use Rattle.sym_records.specs.declared.line.SymLine.{SymLine}

pub canon_none : canon_text [] ≡ []
unfolding canon_text
canon_none = refl

pub canon_join : (xs ys : List SymLine) → canon_text (xs ++ ys) ≡ canon_text xs ++ canon_text ys
unfolding canon_text
canon_join xs ys = flat_map-append canon xs ys

pub canon_more : (s : SymLine) (xs : List SymLine) → canon_text (s ∷ xs) ≡ canon s ++ canon_text xs
unfolding canon_text
canon_more s xs = refl

pub nothing_added : (old : List ℕ) → old ≡ old ++ canon_text []
nothing_added old = sym (ap (λ t. old ++ t) canon_none ∙ append-nil old)

-- One record more was added to the text.
pub record_more : (old mid all : List ℕ) (s : SymLine) (rest : List SymLine) → old ++ canon_text (s ∷ rest) ≡ all → mid ≡ old ++ canon s → mid ++ canon_text rest ≡ all
record_more old mid all s rest so added =
    ap (λ t. t ++ canon_text rest) added ∙ append_assoc old (canon s) (canon_text rest) ∙ ap (λ t. old ++ t) (sym (canon_more s rest)) ∙ so

-- A list without a first member is empty.
pub nothing_first : {X : Type 0} (xs : List X) → None ≡ slice_get xs 0 → xs ≡ []
nothing_first [] is = refl
nothing_first (x ∷ xs) is = absurd (cc)

pub records_done : (old new : List ℕ) (rest : List SymLine) → rest ≡ [] → old ++ canon_text rest ≡ new → old ≡ new
records_done old new rest none so = sym (append-nil old) ∙ ap (λ t. old ++ t) (sym (ap canon_text none ∙ canon_none)) ∙ so

-- No record is left.
pub none_here : (i : ℕ) (place : Place) → first_bad_from i place [] ≡ None
unfolding first_bad_from
none_here i place = refl
