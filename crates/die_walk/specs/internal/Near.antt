-- A list that has, for the first entries of a unit, the nearest scope around each of them.
use Rattle.std.specs.Prelude.{◌≡◌, ℕ, List, Option, Some}
use Rattle.std.specs.List.{slice_get}
use Rattle.die_walk.specs.EntryTable.{DieFields}
use Rattle.die_walk.specs.Scopes.{scope_of}

-- the list has at each of its indices the nearest scope around the entry at that index
abbrev pub AreNear : List DieFields → List (Option ℕ) → Type 0
AreNear dies near = (entry : ℕ) (said : Option ℕ) → slice_get near entry ≡ Some said → said ≡ scope_of dies entry
