-- The set of an entry's addresses, and the ranges that are gathered for it.
use Rattle.std.proofs.Common.{◌≡◌, ℕ, ◌<◌, ◌≤◌, min, max, ◌||◌, ◌&&◌, nat_le, nat_lt, List, [], ◌∷◌, ◌++◌, Option, None, Result, Ok, arith, sym, ap, ◌∙◌, append-nil}
use Rattle.std.proofs.Math.Bool.{or_assoc}
use Rattle.std.proofs.lemmas.Bool.Decides.{nat_tests}
use Rattle.sym_edges.specs.Addresses.{Range}
use Rattle.sym_edges.specs.declared.located.Located.{Located}
use Rattle.abbrev_units.specs.declared.fault.DwarfKind.{DwarfKind}
use Rattle.range_set.specs.Members.{holds, holds_any}
use Rattle.range_set.proofs.BuildingLemmas.{added_members}
use Rattle.abbrev_units.specs.declared.unit.Unit.{Unit}
use Rattle.abbrev_units.specs.declared.value.Value.{Value}
use Rattle.abbrev_units.specs.DebugSections.{DebugSections}
use Rattle.die_walk.specs.EntryTable.{RootFields}
use Rattle.range_lists.specs.EntryRanges.{list_place, list_of, in_ranges}

-- No pairs give no addresses.
pub none_given : (code set : List Range) (given : Result (List Range) (Located DwarfKind)) (a : ℕ) → given ≡ Ok [] → set ≡ [] → in_ranges code given a ≡ Ok (holds_any set a)
none_given code set given a is none = ap (λ g. in_ranges code g a) is ∙ ap (λ s. Ok (holds_any s a)) (sym none)

-- Two ranges that touch or overlap are one range, from the lower start to the higher end.
pub joined_holds : (l s : Range) (a : ℕ) → s.start ≤ l.end → l.start ≤ s.end → l.start < l.end → s.start < s.end → (nat_le (min l.start s.start) a && nat_lt a (max l.end s.end)) ≡ (holds l a || holds s a)
joined_holds l s a near far some other = grind (arith, nat_tests)

-- A range is added: as the first one, by widening the last one, or after the last one.
pub added_first : (done old : List Range) (s : Range) (a : ℕ) → done ++ [] ≡ old → holds_any (done ++ s ∷ []) a ≡ (holds_any old a || holds s a)
added_first done old s a is =
    added_members done s a ∙ ap (λ xs. holds_any xs a || holds s a) (sym (append-nil done) ∙ is)

pub added_joined : (done old : List Range) (l s both : Range) (a : ℕ) → done ++ l ∷ [] ≡ old → holds both a ≡ (holds l a || holds s a) → holds_any (done ++ both ∷ []) a ≡ (holds_any old a || holds s a)
added_joined done old l s both a is held =
    added_members done both a
    ∙ ap (λ b. holds_any done a || b) held
    ∙ sym (or_assoc (holds_any done a) (holds l a) (holds s a))
    ∙ ap (λ b. b || holds s a) (sym (added_members done l a) ∙ ap (λ xs. holds_any xs a) is)

pub added_next : (done old : List Range) (l s : Range) (a : ℕ) → done ++ l ∷ [] ≡ old → holds_any ((done ++ l ∷ []) ++ s ∷ []) a ≡ (holds_any old a || holds s a)
added_next done old l s a is = added_members (done ++ l ∷ []) s a ∙ ap (λ xs. holds_any xs a || holds s a) is

-- An entry without DW_AT_ranges has no list.
pub not_listed : (sections : DebugSections) (unit : Unit) (root : RootFields) (at : ℕ) (ranges : Option Value) → ranges ≡ None → list_of sections unit root at ranges ≡ Ok None
unfolding list_of list_place
not_listed sections unit root at ranges none = ap (λ r. list_of sections unit root at r) none
