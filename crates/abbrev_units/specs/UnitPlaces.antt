-- Where units are in `.debug_info` (DWARF 5, 7.5.1): each unit comes after the previous one, and its entries come after its header.
use Rattle.std.specs.Prelude.{ℕ, ◌≤◌, ◌<◌, List, [], ◌∷◌}
use Rattle.abbrev_units.specs.declared.unit.Unit.{Unit}
use Rattle.abbrev_units.specs.declared.unit.UnitPart.{UnitPart}
use Rattle.abbrev_units.specs.declared.unit.UnitPart.TheVariants.{Read, Passed, Skipped}

-- if a unit is read, its entries begin after its start, and not after its end
abbrev pub BodyInside : Unit → UnitPart → Type 0
BodyInside unit Read = (unit.start < unit.body) × (unit.body ≤ unit.end)
BodyInside unit Passed = Prim.Unit {0}
BodyInside unit Skipped = Prim.Unit {0}

-- units that follow one another without overlap; the first begins at `low` or later, and the last
-- ends at `high` or earlier
abbrev pub Follow : ℕ → ℕ → List Unit → Type 0
Follow low high [] = Prim.Unit {0}
Follow low high (unit ∷ units) =
    (low ≤ unit.start) × (unit.start < unit.end) × (unit.end ≤ high) × BodyInside unit unit.part × Follow unit.end high units

-- the units after a unit, with that unit in front if it is read
abbrev pub with_read : Unit → UnitPart → List Unit → List Unit
with_read unit Read units = unit ∷ units
with_read unit Passed units = units
with_read unit Skipped units = units

-- the units that are read
abbrev pub read_units : List Unit → List Unit
read_units [] = []
read_units (unit ∷ units) = with_read unit unit.part (read_units units)

-- the entries of a unit lie in a section of the length `high`
pub record IsInside (high : ℕ) (unit : Unit) : Type 0 where
  pub ordered : unit.body ≤ unit.end
  pub inside : unit.end ≤ high
