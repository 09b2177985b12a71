-- A search among entries whose places ascend.
use Rattle.std.proofs.Common.{◌≡◌, ◌<◌, ◌≤◌, ◌+◌, ℕ, zero, suc, true, false, eqb, List, [], ◌∷◌, map, length, get_or, None, Some, refl, sym, ap, ◌∙◌, arith}
use Rattle.std.specs.List.{find, slice_get}
use Rattle.std.specs.Option.{option_map}
use Rattle.std.proofs.lemmas.Bool.{eq-eqb}
use Rattle.std.proofs.lemmas.Bool.Decides.{nat_tests}
use Rattle.std.proofs.lemmas.Option.{gets, slice_get_within, get_or_from_slice_get}
use Rattle.sym_edges.specs.Rising.{RisesFrom, StandBelow}
use Rattle.sym_edges.proofs.RisingLemmas.{differ_below, differ_all, differ_other}
use Rattle.die_walk.specs.EntryTable.{DieFields}
use Rattle.debug_units.specs.UnitEntries.{Placed, unit_entries}
use Rattle.die_names.specs.internal.Finding.{is_at, found_in}

abbrev pub dies_places : List DieFields → List ℕ
dies_places dies = map (λ (d : DieFields). d.at) dies

-- The first entry of a unit at a place, or none if there is no entry at it.
numbered : (unit from place : ℕ) (dies : List DieFields) (k : ℕ) (d : DieFields) → k < length dies
    → ((j : ℕ) → j < k → eqb (get_or dies j d).at place ≡ false) → eqb (get_or dies k d).at place ≡ true
    → option_map {U = Placed} (λ die. record { unit = unit; entry = from + k; die = die }) (slice_get dies k) ≡ find (is_at place) (unit_entries unit from dies)
numbered unit from place [] k d there before passes = absurd (omega arith)
numbered unit from place (x ∷ dies) zero d there before passes = grind (arith, nat_tests, passes)
numbered unit from place (x ∷ dies) (suc k) d there before passes =
    grind (arith, nat_tests, before 0 (omega arith), numbered unit (from + 1) place dies k d (omega arith) (λ j below. before (suc j) (omega arith)) passes)

nowhere : (unit from place : ℕ) (dies : List DieFields) → ((j : ℕ) (d : DieFields) → j < length dies → eqb (get_or dies j d).at place ≡ false) → None ≡ find (is_at place) (unit_entries unit from dies)
nowhere unit from place [] fails = refl
nowhere unit from place (x ∷ dies) fails = grind (arith, nat_tests, fails 0 x (omega arith), nowhere unit (from + 1) place dies (λ j d below. fails (suc j) d (omega arith)))

pub die_found : (place count unit : ℕ) (dies : List DieFields) (d : DieFields) → StandBelow (λ (c : DieFields). c.at) place count dies → count < length dies → (get_or dies count d).at ≡ place → found_in unit dies (Some count) ≡ find (is_at place) (unit_entries unit 0 dies)
die_found place count unit dies d h there same =
    ap (λ (n : ℕ). option_map {U = Placed} (λ die. record { unit = unit; entry = n; die = die }) (slice_get dies count)) (omega arith)
    ∙ numbered unit 0 place dies count d there (λ j under. differ_below (λ (c : DieFields). c.at) place count dies h j d under) (eq-eqb _ _ same)

pub die_other : (place count unit : ℕ) (dies : List DieFields) (d : DieFields) → RisesFrom 0 (dies_places dies) → StandBelow (λ (c : DieFields). c.at) place count dies → count < length dies → ((get_or dies count d).at ≡ place → ⊥) → None ≡ find (is_at place) (unit_entries unit 0 dies)
die_other place count unit dies d rises h there other = nowhere unit 0 place dies (differ_other (λ (c : DieFields). c.at) place count dies d rises h there other)

pub die_none : (place count unit : ℕ) (dies : List DieFields) → StandBelow (λ (c : DieFields). c.at) place count dies → count ≡ length dies → None ≡ find (is_at place) (unit_entries unit 0 dies)
die_none place count unit dies h whole = nowhere unit 0 place dies (differ_all (λ (c : DieFields). c.at) place count dies h whole)

-- The same, given the entry with a number.
not_there : (dies : List DieFields) (k : ℕ) → None ≡ slice_get dies k → length dies ≤ k
not_there dies k is = grind (arith, gets, is)

pub die_lost : (place count unit : ℕ) (dies : List DieFields) → StandBelow (λ (c : DieFields). c.at) place count dies → None ≡ slice_get dies count → None ≡ find (is_at place) (unit_entries unit 0 dies)
die_lost place count unit dies h lost = die_none place count unit dies h (omega (arith, not_there dies count lost, h.within))

pub die_here : (place count unit : ℕ) (dies : List DieFields) (d : DieFields) → StandBelow (λ (c : DieFields). c.at) place count dies → Some d ≡ slice_get dies count → d.at ≡ place → found_in unit dies (Some count) ≡ find (is_at place) (unit_entries unit 0 dies)
die_here place count unit dies d h is same =
    die_found place count unit dies d h (slice_get_within dies count d (sym is)) (ap (λ (c : DieFields). c.at) (get_or_from_slice_get dies count d d (sym is)) ∙ same)

pub die_wrong : (place count unit : ℕ) (dies : List DieFields) (d : DieFields) → RisesFrom 0 (dies_places dies) → StandBelow (λ (c : DieFields). c.at) place count dies → Some d ≡ slice_get dies count → (d.at ≡ place → ⊥) → None ≡ find (is_at place) (unit_entries unit 0 dies)
die_wrong place count unit dies d rises h is other =
    die_other place count unit dies d rises h (slice_get_within dies count d (sym is)) (λ same. other (sym (ap (λ (c : DieFields). c.at) (get_or_from_slice_get dies count d d (sym is))) ∙ same))

pub die_inside : (dies : List DieFields) (count : ℕ) (d : DieFields) → Some d ≡ slice_get dies count → count < length dies
die_inside dies count d is = slice_get_within dies count d (sym is)

-- An entry that begins at a place, in a unit whose places ascend.
rises_at : (low : ℕ) (dies : List DieFields) (k : ℕ) (d : DieFields) → RisesFrom low (dies_places dies) → slice_get dies k ≡ Some d → low ≤ d.at
rises_at low [] k d rises is = absurd (cc)
rises_at low (x ∷ dies) zero d rises is = grind (arith, rises.0, is)
rises_at low (x ∷ dies) (suc k) d rises is = omega (arith, rises.0, rises_at (x.at + 1) dies k d rises.1 is)

guess_from : (unit from place low : ℕ) (dies : List DieFields) (k : ℕ) (d : DieFields) → RisesFrom low (dies_places dies) → slice_get dies k ≡ Some d → d.at ≡ place
    → option_map {U = Placed} (λ die. record { unit = unit; entry = from + k; die = die }) (slice_get dies k) ≡ find (is_at place) (unit_entries unit from dies)
guess_from unit from place low [] k d rises is same = absurd (cc)
guess_from unit from place low (x ∷ dies) zero d rises is same = grind (arith, nat_tests, is, same)
guess_from unit from place low (x ∷ dies) (suc k) d rises is same =
    grind (arith, nat_tests, same, rises_at (x.at + 1) dies k d rises.1 is, guess_from unit (from + 1) place (x.at + 1) dies k d rises.1 is same)

pub guess_here : (place count unit : ℕ) (dies : List DieFields) (d : DieFields) → RisesFrom 0 (dies_places dies) → Some d ≡ slice_get dies count → d.at ≡ place → found_in unit dies (Some count) ≡ find (is_at place) (unit_entries unit 0 dies)
guess_here place count unit dies d rises is same =
    ap (λ (n : ℕ). option_map {U = Placed} (λ die. record { unit = unit; entry = n; die = die }) (slice_get dies count)) (omega arith)
    ∙ guess_from unit 0 place 0 dies count d rises (sym is) same
