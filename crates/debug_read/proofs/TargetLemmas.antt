-- The places of a supplementary file to which entries lead, sorted.
use Rattle.std.proofs.Common.{◌≡◌, ℕ, zero, suc, ◌+◌, ◌-◌, ◌<◌, ◌≤◌, ◌&&◌, nat_le, nat_lt, Bool, true, false, if◌then◌else◌, List, [], ◌∷◌, ◌++◌, length, take, get_or, Option, Some, None, arith, refl, sym, ap, ◌∙◌}
use Rattle.std.specs.List.{flat_map, list_any, slice_get, slice_index_or}
use Rattle.std.specs.List.Sorted.{IsNonDecreasing, IsPartitionPoint, IsPermutation}
use Rattle.std.proofs.lemmas.Bool.Decides.{nat_tests}
use Rattle.std.proofs.lemmas.List.{flat_map_more, take_all, take_more}
use Rattle.std.proofs.lemmas.List.Folds.{list_any-append}
use Rattle.std.proofs.lemmas.List.Sorted.{list_any-IsPermutation}
use Rattle.std.proofs.lemmas.Option.{slice_get_past, slice_get_read, slice_get_within, get_or_from_slice_get}
use Rattle.abbrev_units.specs.DebugSections.{first_place}
use Rattle.abbrev_units.specs.declared.unit.Unit.{Unit}
use Rattle.die_walk.specs.EntryTable.{DieFields}
use Rattle.debug_units.specs.declared.unit_read.UnitRead.{UnitRead}
use Rattle.debug_read.specs.SupUnits.{is_place_in, leads_into, lies_in, AreTargets, entries_of}
use Rattle.debug_read.specs.internal.Targets.{sup_places, targets_of, unit_targets}

-- One entry more.
take_some : {X : Type 0} (xs : List X) (i : ℕ) (x : X) → Some x ≡ slice_get xs i → take (i + 1) xs ≡ take i xs ++ x ∷ []
take_some xs i x is = take_more xs i x (slice_get_within xs i x (sym is)) ∙ ap (λ y. take i xs ++ y ∷ []) (get_or_from_slice_get xs i x x (sym is))

pub one_more : {X : Type 0} (f : X → List ℕ) (before held after : List ℕ) (xs : List X) (i : ℕ) (x : X) → Some x ≡ slice_get xs i → held ≡ before ++ flat_map f (take i xs) → after ≡ held ++ f x → after ≡ before ++ flat_map f (take (i + 1) xs)
one_more f before held after xs i x there is more =
    more ∙ ap (λ l. l ++ f x) is ∙ flat_map_more f before (take i xs) x ∙ ap (λ l. before ++ flat_map f l) (sym (take_some xs i x there))

pub all_pushed : {X : Type 0} (f : X → List ℕ) (before held : List ℕ) (xs : List X) (i : ℕ) → length xs ≤ i → held ≡ before ++ flat_map f (take i xs) → held ≡ before ++ flat_map f xs
all_pushed f before held xs i past is = is ∙ ap (λ l. before ++ flat_map f l) (take_all i xs past)

pub all_taken : {X : Type 0} (xs : List X) (n : ℕ) → length xs ≤ n → xs ≡ take n xs
all_taken xs n past = sym (take_all n xs past)

-- A place in the supplementary file is in a unit exactly if it is there when it is counted through
-- the file and its supplementary file.
shifted : (first place low high : ℕ) (b : Bool) → nat_le first place ≡ b → list_any (λ (p : ℕ). nat_le low p && nat_lt p high) (if b then (place - first) ∷ [] else []) ≡ (nat_le (first + low) place && nat_lt place (first + high))
shifted first place low high true is = grind (arith, nat_tests, is)
shifted first place low high false is = grind (arith, nat_tests, is)

place_lies : (unit : Unit) (place : Option ℕ) → list_any (lies_in unit) (sup_places place) ≡ is_place_in unit place
place_lies unit None = refl
place_lies unit (Some place) = shifted (first_place true) place unit.start unit.end (nat_le (first_place true) place) refl

entry_leads : (unit : Unit) (die : DieFields) → list_any (lies_in unit) (targets_of die) ≡ leads_into unit die
entry_leads unit die =
    grind (arith, list_any-append (lies_in unit) (sup_places die.origin) (sup_places die.spec), place_lies unit die.origin, place_lies unit die.spec)

entries_lead : (unit : Unit) (dies : List DieFields) → list_any (lies_in unit) (flat_map targets_of dies) ≡ list_any (leads_into unit) dies
entries_lead unit [] = refl
entries_lead unit (die ∷ dies) =
    grind (arith, list_any-append (lies_in unit) (targets_of die) (flat_map targets_of dies), entry_leads unit die, entries_lead unit dies)

units_lead : (unit : Unit) (units : List UnitRead) → list_any (lies_in unit) (flat_map unit_targets units) ≡ list_any (leads_into unit) (entries_of units)
units_lead unit [] = refl
units_lead unit (u ∷ units) =
    grind (arith, list_any-append (lies_in unit) (unit_targets u) (flat_map unit_targets units), entries_lead unit u.die.dies, units_lead unit units, list_any-append (leads_into unit) u.die.dies (entries_of units))

-- Sorting the places does not change in which units they are.
pub are_targets : (units : List UnitRead) (places sorted : List ℕ) → places ≡ flat_map unit_targets units → IsPermutation places sorted → AreTargets (entries_of units) sorted
are_targets units places sorted is moved = record {
  each = λ unit. sym (list_any-IsPermutation (lies_in unit) places sorted moved) ∙ ap (list_any (lies_in unit)) is ∙ units_lead unit units;
}

pub front_targets : (units taken : List UnitRead) (count : ℕ) (held places sorted : List ℕ) → taken ≡ take count units → held ≡ [] → places ≡ held ++ flat_map unit_targets taken → IsPermutation places sorted → AreTargets (entries_of (take count units)) sorted
front_targets units taken count held places sorted front none is moved =
    are_targets (take count units) places sorted (is ∙ ap (λ l. l ++ flat_map unit_targets taken) none ∙ ap (flat_map unit_targets) front) moved

-- Places after the end of a unit are not in it.
none_behind : (unit : Unit) (xs : List ℕ) → ((k d : ℕ) → k < length xs → unit.end ≤ get_or xs k d) → list_any (lies_in unit) xs ≡ false
none_behind unit [] past = refl
none_behind unit (x ∷ xs) past = grind (arith, nat_tests, past 0 0 (omega arith), none_behind unit xs (λ k d h. past (suc k) d (omega arith)))

-- There is a place, and it is before the end.
abbrev pub ends_before : ℕ → Option ℕ → Bool
ends_before end None = false
ends_before end (Some place) = nat_lt place end

here_by : (unit : Unit) (x : ℕ) (xs : List ℕ) (b : Bool) → nat_lt x unit.end ≡ b → unit.start ≤ x → ((k d : ℕ) → k < length (x ∷ xs) → x ≤ get_or (x ∷ xs) k d) → b ≡ list_any (lies_in unit) (x ∷ xs)
here_by unit x xs true is from later = grind (arith, nat_tests, is, from)
here_by unit x xs false is from later = sym (none_behind unit (x ∷ xs) (λ k d h. grind (arith, nat_tests, is, later k d h)))

-- The first place that is not before the unit decides.
first_decides : (unit : Unit) (xs : List ℕ) (i : ℕ) → IsNonDecreasing xs → ((k d : ℕ) → k < i → k < length xs → get_or xs k d < unit.start) → ((k d : ℕ) → i ≤ k → k < length xs → unit.start ≤ get_or xs k d) → ends_before unit.end (slice_get xs i) ≡ list_any (lies_in unit) xs
first_decides unit [] i sorted low high = refl
first_decides unit (x ∷ xs) zero sorted low high = here_by unit x xs (nat_lt x unit.end) refl (high 0 0 (omega arith) (omega arith)) (λ k d there. sorted 0 k d (omega arith) there)
first_decides unit (x ∷ xs) (suc i) sorted low high =
    grind (arith, nat_tests, low 0 0 (omega arith) (omega arith), first_decides unit xs i (λ a b d order there. sorted (suc a) (suc b) d (omega arith) (omega arith)) (λ k d h l. low (suc k) d (omega arith) (omega arith)) (λ k d h l. high (suc k) d (omega arith) (omega arith)))

pub found : (unit : Unit) (xs : List ℕ) (i : ℕ) → IsNonDecreasing xs → IsPartitionPoint (λ p. nat_lt p unit.start ≡ true) (λ p. nat_lt p unit.start ≡ false) xs i → i ≤ length xs → ends_before unit.end (slice_get xs i) ≡ list_any (lies_in unit) xs
found unit xs i sorted point within =
    first_decides unit xs i sorted
    (λ k d h l. (let is : nat_lt (slice_index_or xs k d) unit.start ≡ true = point.0 k d (omega arith) h in grind (arith, nat_tests)))
    (λ k d h l. (let is : nat_lt (slice_index_or xs k d) unit.start ≡ false = point.1 k d h l in grind (arith, nat_tests)))

-- With a place, and without one.
pub found_some : (unit : Unit) (xs : List ℕ) (i x : ℕ) → ends_before unit.end (slice_get xs i) ≡ list_any (lies_in unit) xs → i < length xs → x ≡ get_or xs i x → nat_lt x unit.end ≡ list_any (lies_in unit) xs
found_some unit xs i x is within at = sym (ap (ends_before unit.end) (slice_get_read xs (length xs) i x refl within at)) ∙ is

pub found_none : (unit : Unit) (xs : List ℕ) (i : ℕ) → ends_before unit.end (slice_get xs i) ≡ list_any (lies_in unit) xs → length xs ≤ i → false ≡ list_any (lies_in unit) xs
found_none unit xs i is past = sym (ap (ends_before unit.end) (slice_get_past xs i past)) ∙ is
