-- The units that are read.
use Rattle.std.proofs.Common.{◌≡◌, ◌<◌, ◌≤◌, ◌+◌, ◌^◌, ℕ, List, [], ◌∷◌, ◌++◌, drop, length, Ok, arith}
use Rattle.abbrev_units.specs.declared.unit.Unit.{Unit}
use Rattle.abbrev_units.specs.declared.unit.UnitPart.{UnitPart}
use Rattle.abbrev_units.specs.declared.unit.UnitPart.TheVariants.{Read, Passed, Skipped}
use Rattle.abbrev_units.specs.Units.{units_in}
use Rattle.abbrev_units.specs.UnitPlaces.{Follow, with_read, read_units}
use Rattle.abbrev_units.proofs.UnitPlaceLemmas.{units_follow}

-- A section has no more units than bytes.
few_by : (unit : Unit) (which : UnitPart) (later : List Unit) (low high : ℕ) → low ≤ unit.start → unit.start < unit.end → length later + unit.end ≤ high → length (with_read unit which later) + low ≤ high
few_by unit Read later low high start some few = omega arith
few_by unit Passed later low high start some few = omega arith
few_by unit Skipped later low high start some few = omega arith

are_few : (low high : ℕ) (units : List Unit) → low ≤ high → Follow low high units → length (read_units units) + low ≤ high
are_few low high [] inside follow = omega arith
are_few low high (unit ∷ units) inside follow = few_by unit unit.part (read_units units) low high follow.0 follow.1 (are_few unit.end high units follow.2 follow.4)

pub units_few : (info : List ℕ) (units : List Unit) → units_in info ≡ Ok units → length info ≤ 2 ^ 29 → length (read_units units) ≤ 2 ^ 32
units_few info units is small =
    let few : length (read_units units) + 0 ≤ length info = are_few 0 (length info) units (omega arith) (units_follow info units is) in
    omega arith

-- The steps of the loop.
abbrev pub Picks : List Unit → ℕ → List Unit → Type 0
Picks units i read = read ++ read_units (drop i units) ≡ read_units units
