-- The inlined copies of a piece at one address: the first copy of each level is the entry of that
-- level on the chain.
use Rattle.std.proofs.Common.{◌≡◌, ℕ, zero, suc, ◌+◌, ◌-◌, ◌<◌, ◌≤◌, Bool, true, false, ◌&&◌, ◌||◌, ◌==◌, nat_le, nat_lt, cond, map, filter, List, [], ◌∷◌, ◌++◌, Option, None, Some, arith, refl, sym, ap, ◌∙◌}
use Rattle.std.proofs.lemmas.Bool.Decides.{nat_tests}
use Rattle.std.specs.List.{find, slice_get, list_any}
use Rattle.std.specs.Option.{option_map, option_map_or}
use Rattle.sym_edges.specs.Addresses.{Range}
use Rattle.range_set.specs.Members.{holds, holds_any}
use Rattle.range_set.specs.Canonical.{IsCanonical}
use Rattle.die_walk.specs.EntryTable.{DieFields}
use Rattle.debug_units.specs.declared.unit_read.UnitRead.{UnitRead}
use Rattle.die_walk.specs.EntryKinds.{is_inlined}
use Rattle.debug_units.specs.UnitEntries.{entry_of}
use Rattle.debug_units.specs.Owners.{Covering, inside_of, chain_from, unit_covering, chain_by, entry_chain}
use Rattle.func_flatten.specs.declared.piece.Piece.{Piece}
use Rattle.func_flatten.specs.Publics.{is_inside}
use Rattle.inline_chain.specs.InlineRuns.{InlineParts, is_on_chain, is_of, spans_of, joined, AreInlineRuns}
use Rattle.func_records.proofs.ListLemmas.{or_left, or_right}

-- The entries on a chain are entries of the unit.
pub record IsEntry (units : List UnitRead) (unit : ℕ) (c : Covering) : Type 0 where
  pub unit_is : c.unit ≡ unit
  pub entry_is : entry_of units unit c.entry ≡ Some (record { unit = unit; entry = c.entry; die = c.die })

abbrev AreIn : List DieFields → ℕ → List Covering → Type 0
AreIn dies unit [] = Unit {0}
AreIn dies unit (c ∷ later) = (c.unit ≡ unit) × (slice_get dies c.entry ≡ Some c.die) × AreIn dies unit later

covering_in : (all : List DieFields) (unit n : ℕ) (dies : List DieFields) (sets : List (List Range)) → ((k : ℕ) → slice_get all (n + k) ≡ slice_get dies k) → AreIn all unit (unit_covering unit n dies sets)
covering_in all unit n [] sets there = tt
covering_in all unit n (die ∷ dies) [] there = tt
covering_in all unit n (die ∷ dies) (spans ∷ sets) there =
    let here : n ≡ n + 0 = omega arith in
    (refl, ap (slice_get all) here ∙ there 0, covering_in all unit (n + 1) dies sets (λ k. let next : (n + 1) + k ≡ n + suc k = omega arith in ap (slice_get all) next ∙ there (suc k)))

chain_in_unit : (dies : List DieFields) (unit a entry : ℕ) (covering : List Covering) → AreIn dies unit covering → AreIn dies unit (chain_from dies a entry covering)
chain_in_unit dies unit a entry [] are = tt
chain_in_unit dies unit a entry (c ∷ later) are = go (is_inlined c.die && (holds_any c.spans a && option_map_or (λ e. e == entry) (inside_of dies c.entry c.die.parent) false)) (λ inner. chain_in_unit dies unit a inner later are.2)
  where
    go : (b : Bool) → ((inner : ℕ) → AreIn dies unit (chain_from dies a inner later)) → AreIn dies unit (cond b (c ∷ chain_from dies a c.entry later) (chain_from dies a entry later))
    go true rest = (are.0, are.1, rest c.entry)
    go false rest = rest entry

in_at : (dies : List DieFields) (unit : ℕ) (chain : List Covering) (k : ℕ) (c : Covering) → AreIn dies unit chain → slice_get chain k ≡ Some c → (c.unit ≡ unit) × (slice_get dies c.entry ≡ Some c.die)
in_at dies unit [] k c are is = absurd (cc)
in_at dies unit (d ∷ chain) zero c are is =
    let same : d ≡ c = cc in
    (sym (ap (λ (e : Covering). e.unit) same) ∙ are.0, ap (λ (e : Covering). slice_get dies e.entry) (sym same) ∙ are.1 ∙ ap (λ (e : Covering). Some e.die) same)
in_at dies unit (d ∷ chain) (suc k) c are is = in_at dies unit chain k c are.2 is

pub chain_entry : (units : List UnitRead) (unit entry a k : ℕ) (c : Covering) → slice_get (entry_chain units unit entry a) k ≡ Some c → IsEntry units unit c
unfolding entry_chain entry_of
chain_entry units unit entry a k c is = go (slice_get units unit) refl is
  where
    go : (o : Option UnitRead) → slice_get units unit ≡ o → slice_get (chain_by unit entry a o) k ≡ Some c → IsEntry units unit c
    go None there at = absurd (cc)
    go (Some part) there at =
        let both = in_at part.die.dies unit (chain_from part.die.dies a entry (unit_covering unit 0 part.die.dies part.spans)) k c (chain_in_unit part.die.dies unit a entry (unit_covering unit 0 part.die.dies part.spans) (covering_in part.die.dies unit 0 part.die.dies part.spans (λ j. ap (slice_get part.die.dies) (omega arith)))) at in
        record {
          unit_is = both.0;
          entry_is = rw there (ap (option_map (λ (die : DieFields). record { unit = unit; entry = c.entry; die = die })) both.1);
        }

-- The addresses of the copies of one entry at one level.
holds_append : (xs ys : List Range) (a : ℕ) → holds_any (xs ++ ys) a ≡ (holds_any xs a || holds_any ys a)
holds_append [] ys a = refl
holds_append (x ∷ xs) ys a = ap (λ b. holds x a || b) (holds_append xs ys a) ∙ or_assoc (holds x a) (holds_any xs a) (holds_any ys a)
  where
    or_assoc : (b c d : Bool) → (b || (c || d)) ≡ ((b || c) || d)
    or_assoc true c d = refl
    or_assoc false c d = refl

abbrev is_held : ℕ → ℕ → ℕ → InlineParts → Bool
is_held level entry a r = is_of level entry r && holds_any r.spans a

joined_holds : (level entry a : ℕ) (runs : List InlineParts) → holds_any (joined (spans_of level entry runs)) a ≡ list_any (is_held level entry a) runs
unfolding joined
joined_holds level entry a [] = refl
joined_holds level entry a (r ∷ runs) = go (is_of level entry r) (joined_holds level entry a runs)
  where
    go : (b : Bool) → holds_any (joined (spans_of level entry runs)) a ≡ list_any (is_held level entry a) runs → holds_any (joined (map (λ (s : InlineParts). s.spans) (cond b (r ∷ filter (is_of level entry) runs) (filter (is_of level entry) runs)))) a ≡ ((b && holds_any r.spans a) || list_any (is_held level entry a) runs)
    go true rest = holds_append r.spans (joined (spans_of level entry runs)) a ∙ ap (λ b. holds_any r.spans a || b) rest
    go false rest = rest

-- The first copy of a level that has an address.
abbrev pub is_copy_at : ℕ → ℕ → InlineParts → Bool
is_copy_at level a r = (r.level == level) && holds_any r.spans a

abbrev pub Agree : ℕ → Option Covering → Option InlineParts → Type 0
Agree level None None = Unit {0}
Agree level (Some c) (Some r) = (r.entry ≡ c.entry) × (r.level ≡ level)
Agree level _ _ = ⊥

found_here : (level a : ℕ) (r : InlineParts) → is_copy_at level a r ≡ true → (r.level ≡ level) × (is_held level r.entry a r ≡ true)
found_here level a r is = go (r.level == level) refl (holds_any r.spans a) refl is
  where
    go : (b : Bool) → (r.level == level) ≡ b → (h : Bool) → holds_any r.spans a ≡ h → (b && h) ≡ true → (r.level ≡ level) × (is_held level r.entry a r ≡ true)
    go true same true held both =
        let level_is : r.level ≡ level = grind (arith, nat_tests) in
        let entry_is : (r.entry == r.entry) ≡ true = grind (arith, nat_tests) in
        (level_is, ap (λ b. (b && (r.entry == r.entry)) && holds_any r.spans a) same ∙ ap (λ b. b && holds_any r.spans a) entry_is ∙ held)
    go true same false held both = absurd (cc)
    go false same h held both = absurd (cc)

pub found_any : (level a : ℕ) (runs : List InlineParts) (r : InlineParts) (g : InlineParts → Bool) → find (is_copy_at level a) runs ≡ Some r → g r ≡ true → list_any g runs ≡ true
found_any level a [] r g is good = absurd (cc)
found_any level a (s ∷ runs) r g is good = go (is_copy_at level a s) is (λ same. found_any level a runs r g same good)
  where
    go : (b : Bool) → cond b (Some s) (find (is_copy_at level a) runs) ≡ Some r → (find (is_copy_at level a) runs ≡ Some r → list_any g runs ≡ true) → (g s || list_any g runs) ≡ true
    go true same rest = let alike : s ≡ r = cc in or_left (g s) (list_any g runs) (ap g alike ∙ good)
    go false same rest = or_right (g s) (list_any g runs) (rest same)

found_is : (level a : ℕ) (runs : List InlineParts) (r : InlineParts) → find (is_copy_at level a) runs ≡ Some r → is_copy_at level a r ≡ true
found_is level a [] r is = absurd (cc)
found_is level a (s ∷ runs) r is = go (is_copy_at level a s) refl is (λ same. found_is level a runs r same)
  where
    go : (b : Bool) → is_copy_at level a s ≡ b → cond b (Some s) (find (is_copy_at level a) runs) ≡ Some r → (find (is_copy_at level a) runs ≡ Some r → is_copy_at level a r ≡ true) → is_copy_at level a r ≡ true
    go true here same rest = let alike : s ≡ r = cc in ap (is_copy_at level a) (sym alike) ∙ here
    go false here same rest = rest same

none_held : (level entry a : ℕ) (runs : List InlineParts) → find (is_copy_at level a) runs ≡ None → list_any (is_held level entry a) runs ≡ false
none_held level entry a [] is = refl
none_held level entry a (r ∷ runs) is = go (r.level == level) (holds_any r.spans a) is (λ same. none_held level entry a runs same)
  where
    and_false : (b : Bool) → (b && false) ≡ false
    and_false true = refl
    and_false false = refl

    go : (b h : Bool) → cond (b && h) (Some r) (find (is_copy_at level a) runs) ≡ None → (find (is_copy_at level a) runs ≡ None → list_any (is_held level entry a) runs ≡ false) → (((b && (r.entry == entry)) && h) || list_any (is_held level entry a) runs) ≡ false
    go true true same rest = absurd (cc)
    go true false same rest = ap (λ b. b || list_any (is_held level entry a) runs) (and_false (r.entry == entry)) ∙ rest same
    go false h same rest = rest same

same_entry : (c : ℕ) → (c == c) ≡ true
same_entry c = grind (arith, nat_tests)

agree_by : (level a : ℕ) (runs : List InlineParts) (o : Option Covering) → ((entry : ℕ) → list_any (is_held level entry a) runs ≡ option_map_or (λ (c : Covering). c.entry == entry) o false) → Agree level o (find (is_copy_at level a) runs)
agree_by level a runs o each = go (find (is_copy_at level a) runs) refl o each
  where
    some : (r : InlineParts) → find (is_copy_at level a) runs ≡ Some r → (p : Option Covering) → ((entry : ℕ) → list_any (is_held level entry a) runs ≡ option_map_or (λ (c : Covering). c.entry == entry) p false) → Agree level p (Some r)
    some r is None every =
        let here = found_here level a r (found_is level a runs r is) in
        let any : list_any (is_held level r.entry a) runs ≡ true = found_any level a runs r (is_held level r.entry a) is here.1 in
        let none : list_any (is_held level r.entry a) runs ≡ false = every r.entry in
        absurd (cc)
    some r is (Some c) every =
        let here = found_here level a r (found_is level a runs r is) in
        let any : list_any (is_held level r.entry a) runs ≡ true = found_any level a runs r (is_held level r.entry a) is here.1 in
        let same : (c.entry == r.entry) ≡ true = sym (every r.entry) ∙ any in
        (grind (arith, nat_tests), here.0)

    go : (f : Option InlineParts) → find (is_copy_at level a) runs ≡ f → (p : Option Covering) → ((entry : ℕ) → list_any (is_held level entry a) runs ≡ option_map_or (λ (c : Covering). c.entry == entry) p false) → Agree level p f
    go (Some r) is p every = some r is p every
    go None is None every = tt
    go None is (Some c) every =
        let none : list_any (is_held level c.entry a) runs ≡ false = none_held level c.entry a runs is in
        let any : list_any (is_held level c.entry a) runs ≡ true = every c.entry ∙ same_entry c.entry in
        absurd (cc)

-- At an address of the piece, the first copy of a level is the entry of that level on the chain.
pub copies_agree : (units : List UnitRead) (piece : Piece) (runs : List InlineParts) (level a : ℕ) → AreInlineRuns units piece runs → is_inside a piece ≡ true → Agree level (slice_get (entry_chain units piece.unit piece.entry a) level) (find (is_copy_at level a) runs)
unfolding is_on_chain
copies_agree units piece runs level a are inside =
    agree_by level a runs (slice_get (entry_chain units piece.unit piece.entry a) level)
    (λ entry. sym (joined_holds level entry a runs) ∙ (are.copies level entry).members a ∙ ap (λ b. b && option_map_or (λ (c : Covering). c.entry == entry) (slice_get (entry_chain units piece.unit piece.entry a) level) false) inside)

-- The ranges of copies are not empty, and are inside their piece.
abbrev pub AllRanges : (Range → Type 0) → List Range → Type 0
AllRanges P [] = Unit {0}
AllRanges P (range ∷ ranges) = P range × AllRanges P ranges

abbrev pub AllOfRuns : (Range → Type 0) → List InlineParts → Type 0
AllOfRuns P [] = Unit {0}
AllOfRuns P (r ∷ runs) = AllRanges P r.spans × AllOfRuns P runs

abbrev AllOfOne : (Range → Type 0) → ℕ → ℕ → List InlineParts → Type 0
AllOfOne P level entry [] = Unit {0}
AllOfOne P level entry (r ∷ runs) = (is_of level entry r ≡ true → AllRanges P r.spans) × AllOfOne P level entry runs

all_front : (P : Range → Type 0) (xs ys : List Range) → AllRanges P (xs ++ ys) → AllRanges P xs × AllRanges P ys
all_front P [] ys all = (tt, all)
all_front P (x ∷ xs) ys all = let both = all_front P xs ys all.1 in ((all.0, both.0), both.1)

all_split : (P : Range → Type 0) (level entry : ℕ) (runs : List InlineParts) → AllRanges P (joined (spans_of level entry runs)) → AllOfOne P level entry runs
unfolding joined
all_split P level entry [] all = tt
all_split P level entry (r ∷ runs) all = go (is_of level entry r) refl all (λ later. all_split P level entry runs later)
  where
    go : (b : Bool) → is_of level entry r ≡ b → AllRanges P (joined (map (λ (s : InlineParts). s.spans) (cond b (r ∷ filter (is_of level entry) runs) (filter (is_of level entry) runs)))) → (AllRanges P (joined (spans_of level entry runs)) → AllOfOne P level entry runs) → (is_of level entry r ≡ true → AllRanges P r.spans) × AllOfOne P level entry runs
    go true is here rest = let both = all_front P r.spans (joined (spans_of level entry runs)) here in ((λ own. both.0), rest both.1)
    go false is here rest = ((λ own. absurd (cc)), rest here)

all_each : (P : Range → Type 0) (runs : List InlineParts) → ((level entry : ℕ) → AllOfOne P level entry runs) → AllOfRuns P runs
all_each P [] each = tt
all_each P (r ∷ runs) each =
    let own : is_of r.level r.entry r ≡ true = ap (λ b. b && (r.entry == r.entry)) (same_entry r.level) ∙ same_entry r.entry in
    ((each r.level r.entry).0 own, all_each P runs (λ level entry. (each level entry).1))

abbrev pub Good : ℕ → ℕ → Range → Type 0
Good low high range = (low ≤ range.start) × (range.start < range.end) × (range.end ≤ high)

abbrev IsWithin : ℕ → ℕ → ℕ → Type 0
IsWithin low high a = (low ≤ a) × (a < high)

good_from : (low high : ℕ) (all ranges : List Range) → ((a : ℕ) → holds_any all a ≡ true → IsWithin low high a) → ((a : ℕ) → holds_any ranges a ≡ true → holds_any all a ≡ true) → IsCanonical ranges → AllRanges (Good low high) ranges
good_from low high all [] within held canonical = tt
good_from low high all (range ∷ ranges) within held canonical =
    let from : IsWithin low high range.start = within range.start (held range.start (or_left (holds range range.start) (holds_any ranges range.start) (first_held range canonical.0))) in
    let to : IsWithin low high (range.end - 1) = within (range.end - 1) (held (range.end - 1) (or_left (holds range (range.end - 1)) (holds_any ranges (range.end - 1)) (last_held range canonical.0))) in (
      (from.0, canonical.0, omega (arith, to.1, canonical.0)),
      good_from low high all ranges within (λ a is. held a (or_right (holds range a) (holds_any ranges a) is)) canonical.2,
    )
  where
    first_held : (r : Range) → r.start < r.end → holds r r.start ≡ true
    first_held r some = grind (arith, nat_tests)

    last_held : (r : Range) → r.start < r.end → holds r (r.end - 1) ≡ true
    last_held r some = grind (arith, nat_tests)

chain_within : (units : List UnitRead) (piece : Piece) (level entry a : ℕ) → is_on_chain units piece level entry a ≡ true → IsWithin piece.start piece.end a
unfolding is_on_chain
chain_within units piece level entry a is = go (nat_le piece.start a) refl (nat_lt a piece.end) refl is
  where
    go : (b : Bool) → nat_le piece.start a ≡ b → (d : Bool) → nat_lt a piece.end ≡ d → ((b && d) && option_map_or (λ (c : Covering). c.entry == entry) (slice_get (entry_chain units piece.unit piece.entry a) level) false) ≡ true → IsWithin piece.start piece.end a
    go true low true high both = (grind (arith, nat_tests), grind (arith, nat_tests))
    go true low false high both = absurd (cc)
    go false low d high both = absurd (cc)

pub copies_good : (units : List UnitRead) (piece : Piece) (runs : List InlineParts) → AreInlineRuns units piece runs → AllOfRuns (Good piece.start piece.end) runs
copies_good units piece runs are =
    all_each (Good piece.start piece.end) runs (λ level entry. all_split (Good piece.start piece.end) level entry runs
    (good_from piece.start piece.end (joined (spans_of level entry runs)) (joined (spans_of level entry runs)) (λ a held. chain_within units piece level entry a (sym ((are.copies level entry).members a) ∙ held)) (λ a held. held) (are.copies level entry).canonical))
