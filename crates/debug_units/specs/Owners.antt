-- The function that owns an address, and the inline chain and the line of the address (DWARF 5, 3.3).
use Rattle.std.specs.Prelude.{ℕ, zero, suc, ◌+◌, ◌==◌, ◌&&◌, ◌||◌, false, if◌then◌else◌, List, [], ◌∷◌, ◌++◌, Option, None, Some}
use Rattle.std.specs.List.{find, slice_get}
use Rattle.std.specs.Option.{option_map_or}
use Rattle.sym_edges.specs.Addresses.{Range}
use Rattle.range_set.specs.Members.{holds_any}
use Rattle.die_walk.specs.EntryTable.{DieFields}
use Rattle.line_program.specs.LineMaps.{named_line, numbered_line}
use Rattle.debug_units.specs.declared.unit_read.UnitRead.{UnitRead}
use Rattle.die_walk.specs.EntryKinds.{is_function, is_inlined}

-- an entry with the number of its unit, its own number in the unit, and its addresses
pub record Covering : Type 0 where
  pub unit : ℕ
  pub entry : ℕ
  pub die : DieFields
  pub spans : List Range

abbrev pub unit_covering : ℕ → ℕ → List DieFields → List (List Range) → List Covering
unit_covering unit entry (die ∷ dies) (spans ∷ sets) = record { unit = unit; entry = entry; die = die; spans = spans } ∷ unit_covering unit (entry + 1) dies sets
unit_covering unit entry _ _ = []

abbrev pub covering_from : ℕ → List UnitRead → List Covering
covering_from unit [] = []
covering_from unit (part ∷ parts) = unit_covering unit 0 part.die.dies part.spans ++ covering_from (unit + 1) parts

-- the owner of an address: the first function, in the order of the section, that has the address
unfoldable pub owner : List UnitRead → ℕ → Option Covering
owner units a = find (λ c. is_function c.die && holds_any c.spans a) (covering_from 0 units)

-- the number of the nearest subprogram or inlined copy around an entry whose parent is `parent`. An
-- entry comes after its parent, so only the first `number` entries are searched
unfoldable pub inside_of : List DieFields → ℕ → Option ℕ → Option ℕ
inside_of dies zero parent = None
inside_of dies (suc number) parent =
    if option_map_or (λ p. p == number) parent false
    then option_map_or (λ die. if die.tag == 0x2e || is_inlined die then Some number else inside_of dies number die.parent) (slice_get dies number) None
    else inside_of dies number parent

-- the inlined copies in the entry `entry` that have the address `a`, level by level: the first such
-- copy directly in `entry`, then the first later one directly in that copy, and so on
abbrev pub chain_from : List DieFields → ℕ → ℕ → List Covering → List Covering
chain_from dies a entry [] = []
chain_from dies a entry (c ∷ later) =
    if is_inlined c.die && (holds_any c.spans a && option_map_or (λ e. e == entry) (inside_of dies c.entry c.die.parent) false)
    then c ∷ chain_from dies a c.entry later
    else chain_from dies a entry later

abbrev pub chain_by : ℕ → ℕ → ℕ → Option UnitRead → List Covering
chain_by unit entry a None = []
chain_by unit entry a (Some part) = chain_from part.die.dies a entry (unit_covering unit 0 part.die.dies part.spans)

-- the inlined copies in the entry `entry` of unit `unit` that have the address `a`
unfoldable pub entry_chain : List UnitRead → ℕ → ℕ → ℕ → List Covering
entry_chain units unit entry a = chain_by unit entry a (slice_get units unit)

abbrev pub chain_under : List UnitRead → ℕ → Option Covering → List Covering
chain_under units a None = []
chain_under units a (Some c) = entry_chain units c.unit c.entry a

unfoldable pub chain : List UnitRead → ℕ → List Covering
chain units a = chain_under units a (owner units a)

-- the path and the line of an address, from the line table of its owner's unit
abbrev pub line_in : ℕ → Option UnitRead → Option (List ℕ × ℕ)
line_in a None = None
line_in a (Some part) = named_line part.lines.paths (numbered_line part.lines a)

abbrev pub line_under : List UnitRead → ℕ → Option Covering → Option (List ℕ × ℕ)
line_under units a None = None
line_under units a (Some c) = line_in a (slice_get units c.unit)

unfoldable pub line : List UnitRead → ℕ → Option (List ℕ × ℕ)
line units a = line_under units a (owner units a)
