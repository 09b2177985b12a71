-- What is kept of a unit.
use Rattle.std.specs.Prelude.{◌≡◌, ℕ, Bool, true, false, List, Option, None, Some, Result, Ok, Err}
use Rattle.std.specs.List.{list_any}
use Rattle.sym_edges.specs.Addresses.{Range}
use Rattle.sym_edges.specs.declared.located.Located.{Located}
use Rattle.abbrev_units.specs.declared.fault.DwarfKind.{DwarfKind}
use Rattle.range_set.specs.Canonical.{IsCanonical}
use Rattle.range_set.specs.Enclosing.{encloses}
use Rattle.range_set.specs.Members.{holds_any}
use Rattle.die_walk.specs.EntryTable.{DieFields}
use Rattle.range_lists.specs.EntryRanges.{in_pairs}
use Rattle.line_program.specs.LineAt.{Lines}
use Rattle.line_program.specs.LineMaps.{LineMap, no_lines, SaysLines}
use Rattle.debug_units.specs.declared.unit_read.UnitRead.{UnitRead}
use Rattle.die_walk.specs.EntryKinds.{is_function}
use Rattle.debug_read.specs.Each.{Match}
use Rattle.debug_read.specs.UnitSays.{UnitSays}

-- a set has exactly the addresses that the pairs give: those in a pair that is code
pub record IsSet (code pairs set : List Range) : Type 0 where
  pub canonical : IsCanonical set
  pub each : (a : ℕ) → holds_any set a ≡ in_pairs code pairs a

-- some entry is a function
unfoldable pub has_function : List DieFields → Bool
has_function dies = list_any is_function dies

-- a unit's line table is kept if the unit has a function, since only the units of owners are asked for lines
abbrev pub KeepsLines : List Range → Bool → Option Lines → LineMap → Type 0
KeepsLines code true (Some lines) kept = SaysLines (encloses code) lines kept
KeepsLines code true None kept = kept ≡ no_lines
KeepsLines code false lines kept = kept ≡ no_lines

-- what is kept of a unit that says `says`, if the addresses `code` are code
pub record IsUnitRead (code : List Range) (says : UnitSays) (part : UnitRead) : Type 0 where
  pub die : part.die ≡ says.table
  pub spans : Match (IsSet code) says.pairs part.spans
  pub lines : KeepsLines code (has_function says.table.dies) says.lines part.lines

-- the result of reading a unit: what is kept of what the unit says, or its first fault
abbrev pub IsUnitAnswer : List Range → Result UnitSays (Located DwarfKind) → Result UnitRead (Located DwarfKind) → Type 0
IsUnitAnswer code (Ok says) (Ok part) = IsUnitRead code says part
IsUnitAnswer code (Err fault) (Err answered) = answered ≡ fault
IsUnitAnswer code _ _ = ⊥
