-- The function that owns an address, and the inline chain and the line of the address, from what DWARF says of each unit (DWARF 5, 2.17, 3.3 and
-- 6.2).
use Rattle.std.specs.Prelude.{ℕ, Bool, false, ◌+◌, ◌==◌, ◌&&◌, if◌then◌else◌, List, [], ◌∷◌, ◌++◌, Option, None, Some, option_and_then}
use Rattle.std.specs.List.{find, slice_get}
use Rattle.std.specs.Option.{option_map_or}
use Rattle.sym_edges.specs.Addresses.{Range}
use Rattle.range_set.specs.Enclosing.{encloses}
use Rattle.die_walk.specs.EntryTable.{DieFields}
use Rattle.die_walk.specs.EntryKinds.{is_function, is_inlined}
use Rattle.range_lists.specs.EntryRanges.{in_pairs}
use Rattle.line_program.specs.LineAt.{line_at}
use Rattle.debug_units.specs.Owners.{Covering, inside_of}
use Rattle.debug_read.specs.UnitSays.{UnitSays}

-- an entry with the number of its unit, its own number there, and the pairs of addresses that it gives
pub record SaidEntry : Type 0 where
  pub unit : ℕ
  pub entry : ℕ
  pub die : DieFields
  pub pairs : List Range

abbrev pub numbered_entries : ℕ → ℕ → List DieFields → List (List Range) → List SaidEntry
numbered_entries unit entry (die ∷ dies) (own ∷ pairs) = record { unit = unit; entry = entry; die = die; pairs = own } ∷ numbered_entries unit (entry + 1) dies pairs
numbered_entries unit entry _ _ = []

-- the entries of units, in the order of the section
abbrev pub said_entries : ℕ → List UnitSays → List SaidEntry
said_entries unit [] = []
said_entries unit (says ∷ later) = numbered_entries unit 0 says.table.dies says.pairs ++ said_entries (unit + 1) later

-- whether an entry has an address, if the spans `code` are code
abbrev pub is_at : List Range → ℕ → SaidEntry → Bool
is_at code a e = in_pairs code e.pairs a

-- the owner of an address: the first function, in the order of the section, that has the address
unfoldable pub said_owner : List Range → List UnitSays → ℕ → Option SaidEntry
said_owner code units a = find (λ e. is_function e.die && is_at code a e) (said_entries 0 units)

-- the inlined copies in the entry `entry` that have the address `a`, level by level: the first such
-- copy directly in `entry`, then the first later one directly in that copy, and so on
abbrev pub said_inside : List Range → List DieFields → ℕ → ℕ → List SaidEntry → List SaidEntry
said_inside code dies a entry [] = []
said_inside code dies a entry (e ∷ later) =
    if is_inlined e.die && (is_at code a e && option_map_or (λ o. o == entry) (inside_of dies e.entry e.die.parent) false)
    then e ∷ said_inside code dies a e.entry later
    else said_inside code dies a entry later

abbrev pub said_by : List Range → ℕ → ℕ → ℕ → Option UnitSays → List SaidEntry
said_by code unit entry a None = []
said_by code unit entry a (Some says) = said_inside code says.table.dies a entry (numbered_entries unit 0 says.table.dies says.pairs)

abbrev pub said_under : List Range → List UnitSays → ℕ → Option SaidEntry → List SaidEntry
said_under code units a None = []
said_under code units a (Some e) = said_by code e.unit e.entry a (slice_get units e.unit)

unfoldable pub said_chain : List Range → List UnitSays → ℕ → List SaidEntry
said_chain code units a = said_under code units a (said_owner code units a)

-- the path and the line of an address, from the line table of its owner's unit, if that unit has a
-- table
abbrev pub said_line_in : List Range → ℕ → Option UnitSays → Option (List ℕ × ℕ)
said_line_in code a None = None
said_line_in code a (Some says) = option_and_then (λ lines. line_at (encloses code) lines a) says.lines

abbrev pub said_line_under : List Range → List UnitSays → ℕ → Option SaidEntry → Option (List ℕ × ℕ)
said_line_under code units a None = None
said_line_under code units a (Some e) = said_line_in code a (slice_get units e.unit)

unfoldable pub said_line : List Range → List UnitSays → ℕ → Option (List ℕ × ℕ)
said_line code units a = said_line_under code units a (said_owner code units a)

-- the numbers of an entry, and its attributes
abbrev pub said_place : SaidEntry → ℕ × ℕ × DieFields
said_place e = (e.unit, e.entry, e.die)

abbrev pub kept_place : Covering → ℕ × ℕ × DieFields
kept_place c = (c.unit, c.entry, c.die)
