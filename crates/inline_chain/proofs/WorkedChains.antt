-- Worked examples: the inlined copies at addresses. There is a character for each address, in
-- order: the number of the entry at a level, or a point.
use Rattle.std.proofs.Common.{◌≡◌, ℕ, ◌+◌, map, List, [], ◌∷◌, Option, Some, None, refl}
use Rattle.std.specs.List.{range_with_len, slice_get}
use Prim.Native.String.{String}
use Rattle.sym_edges.specs.Addresses.{Range}
use Rattle.sym_edges.proofs.Shown.{shown}
use Rattle.die_walk.specs.EntryTable.{DieFields}
use Rattle.debug_units.specs.declared.unit_read.UnitRead.{UnitRead}
use Rattle.debug_units.specs.Owners.{Covering, entry_chain}
use Rattle.debug_units.proofs.MadeUnits.{bare_entry, bare_unit}
use Rattle.inline_chain.proofs.Computing.{inline_chain_computes}

record Made : Type 0 where
  die : DieFields
  spans : List Range

-- An entry, given its tag, the entry around it and its addresses.
unfoldable entry : ℕ → Option ℕ → List Range → Made
entry tag parent spans = record {
  die = record (bare_entry tag) { parent = parent };
  spans = spans;
}

abbrev on : ℕ → ℕ → List Range
on start end = record { start = start; end = end } ∷ []

abbrev root : Made
root = entry 0x11 None []

-- An inlined copy in an entry.
abbrev copy : ℕ → List Range → Made
copy parent spans = entry 0x1d (Some parent) spans

-- A function in an entry.
abbrev function : ℕ → List Range → Made
function parent spans = entry 0x2e (Some parent) spans

unfoldable unit : List Made → UnitRead
unit entries = bare_unit (map (λ m. m.die) entries) (map (λ m. m.spans) entries)

abbrev digit : Option Covering → ℕ
digit None = 46
digit (Some c) = 48 + c.entry

-- A level of the chain in an entry, at the addresses 0 to 7.
unfoldable level : List Made → ℕ → ℕ → String
level entries owner k = shown (map (λ a. digit (slice_get (entry_chain (unit entries ∷ []) 0 owner a) k)) (range_with_len 0 8))

-- A copy has no address outside the copy that it is in.
clipped_outer : level (root ∷ function 0 (on 0 8) ∷ copy 1 (on 2 6) ∷ copy 2 (on 4 8) ∷ []) 1 0 ≡ "..2222.."
unfolding inline_chain_computes level entry unit
clipped_outer = refl

clipped_inner : level (root ∷ function 0 (on 0 8) ∷ copy 1 (on 2 6) ∷ copy 2 (on 4 8) ∷ []) 1 1 ≡ "....33.."
unfolding inline_chain_computes level entry unit
clipped_inner = refl

-- Of two siblings the first counts.
first_sibling : level (root ∷ function 0 (on 0 8) ∷ copy 1 (on 1 5) ∷ copy 1 (on 3 7) ∷ []) 1 0 ≡ ".222233."
unfolding inline_chain_computes level entry unit
first_sibling = refl

-- A copy in the second sibling counts only where the second sibling does.
in_second_sibling : level (root ∷ function 0 (on 0 8) ∷ copy 1 (on 1 5) ∷ copy 1 (on 3 7) ∷ copy 3 (on 3 7) ∷ []) 1 1 ≡ ".....44."
unfolding inline_chain_computes level entry unit
in_second_sibling = refl

-- A structure between two entries does not count.
through_structure : level (root ∷ function 0 (on 0 8) ∷ entry 0x13 (Some 1) [] ∷ copy 2 (on 2 6) ∷ []) 1 0 ≡ "..3333.."
unfolding inline_chain_computes level entry unit
through_structure = refl

-- The copies in an inner function are not copies of the outer function.
in_inner_function : level (root ∷ function 0 (on 0 8) ∷ function 1 (on 2 6) ∷ copy 2 (on 2 6) ∷ []) 1 0 ≡ "........"
unfolding inline_chain_computes level entry unit
in_inner_function = refl

of_inner_function : level (root ∷ function 0 (on 0 8) ∷ function 1 (on 2 6) ∷ copy 2 (on 2 6) ∷ []) 2 0 ≡ "..3333.."
unfolding inline_chain_computes level entry unit
of_inner_function = refl

-- A copy with the same addresses as the copy that it is in.
same_addresses : level (root ∷ function 0 (on 0 8) ∷ copy 1 (on 2 6) ∷ copy 2 (on 2 6) ∷ []) 1 1 ≡ "..3333.."
unfolding inline_chain_computes level entry unit
same_addresses = refl
