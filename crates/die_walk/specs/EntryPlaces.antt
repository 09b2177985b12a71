-- The places of the entries of a unit, which ascend (DWARF 5, 7.5.2).
use Rattle.std.specs.Prelude.{ℕ, ◌+◌, ◌≤◌, List, [], ◌∷◌, map}
use Rattle.die_walk.specs.EntryTable.{DieFields, EntryTable}

-- strictly ascending numbers, from `low` to `high` at most
abbrev pub RisesTo : ℕ → ℕ → List ℕ → Type 0
RisesTo low high [] = Prim.Unit {0}
RisesTo low high (x ∷ xs) = (low ≤ x) × (x ≤ high) × RisesTo (x + 1) high xs

-- the places of the kept entries
abbrev pub table_places : EntryTable → List ℕ
table_places table = map (λ (d : DieFields). d.at) table.dies
