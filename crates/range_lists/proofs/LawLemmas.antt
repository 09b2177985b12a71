-- The laws of `src/laws.rt` about items and about the ranges of code.
use Rattle.std.proofs.Common.{◌≡◌, ℕ, ◌&&◌, ◌||◌, nat_lt, List, [], ◌∷◌, Result, Ok, Err, refl, ap, ◌∙◌}
use Rattle.sym_edges.specs.Addresses.{Range}
use Rattle.sym_edges.specs.declared.located.Located.{Located}
use Rattle.leb_cursor.specs.Ahead.{Ahead}
use Rattle.leb_cursor.specs.Lists.{list_at, list_cases}
use Rattle.leb_cursor.proofs.ListLemmas.{list_follows}
use Rattle.abbrev_units.specs.declared.fault.DwarfKind.{DwarfKind}
use Rattle.range_set.specs.Members.{holds}
use Rattle.range_set.specs.Enclosing.{encloses}
use Rattle.range_lists.specs.AddressTable.{AddressTable}
use Rattle.range_lists.specs.ListPairs.{effect_at}
use Rattle.range_lists.specs.EntryRanges.{in_pairs, in_ranges}
use Rattle.range_lists.proofs.ItemLemmas.{effect_goes}

pub items_follow : (version : ℕ) (table : AddressTable) (c : Ahead) → list_at (effect_at version table) c ≡ list_cases (effect_at version table) c
items_follow version table c = list_follows (effect_at version table) (effect_goes version table) c

same_pairs : (code other : List Range) → ((start end : ℕ) → encloses code start end ≡ encloses other start end) → (pairs : List Range) (a : ℕ) → in_pairs code pairs a ≡ in_pairs other pairs a
same_pairs code other same [] a = refl
same_pairs code other same (pair ∷ pairs) a =
    ap (λ b. ((nat_lt pair.start pair.end && b) && holds pair a) || in_pairs code pairs a) (same pair.start pair.end)
    ∙ ap (λ b. ((nat_lt pair.start pair.end && encloses other pair.start pair.end) && holds pair a) || b) (same_pairs code other same pairs a)

pub same_ranges : (code other : List Range) → ((start end : ℕ) → encloses code start end ≡ encloses other start end) → (given : Result (List Range) (Located DwarfKind)) (a : ℕ) → in_ranges code given a ≡ in_ranges other given a
same_ranges code other same (Ok pairs) a = ap Ok (same_pairs code other same pairs a)
same_ranges code other same (Err fault) a = refl
