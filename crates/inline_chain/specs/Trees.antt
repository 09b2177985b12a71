-- The inlined copies directly in each entry of a unit.
use Rattle.std.specs.Prelude.{ℕ, ◌+◌, ◌==◌, ◌&&◌, Bool, false, if◌then◌else◌, List, [], ◌∷◌, map, Option, None, Some, unwrap_or}
use Rattle.std.specs.List.{slice_get}
use Rattle.sym_edges.specs.Addresses.{Range}
use Rattle.range_set.specs.Members.{holds_any}
use Rattle.step_maps.specs.Runs.{IsRuns, between}
use Rattle.step_maps.specs.declared.stretch.Cover.{Cover}
use Rattle.step_maps.specs.Covers.{cover_run}
use Rattle.die_walk.specs.EntryTable.{DieFields}
use Rattle.debug_units.specs.declared.unit_read.UnitRead.{UnitRead}
use Rattle.die_walk.specs.EntryKinds.{is_inlined}
use Rattle.debug_units.specs.Owners.{inside_of}

-- whether the option has the number `n`
abbrev pub is_number : ℕ → Option ℕ → Bool
is_number n None = false
is_number n (Some m) = m == n

-- the first inlined copy directly in the entry `entry` that has the address, among entries numbered
-- from `number`
abbrev pub first_child : List DieFields → ℕ → ℕ → ℕ → List DieFields → List (List Range) → Option ℕ
first_child all a entry number (die ∷ dies) (spans ∷ sets) =
    if is_inlined die && (holds_any spans a && is_number entry (inside_of all number die.parent))
    then Some number
    else first_child all a entry (number + 1) dies sets
first_child all a entry number _ _ = None

-- the first inlined copy directly in an entry that has the address, among all entries of the unit
unfoldable pub child_at : UnitRead → ℕ → ℕ → Option ℕ
child_at part entry a = first_child part.die.dies a entry 0 part.die.dies part.spans

-- the covers of the inlined copies directly in an entry
unfoldable pub list_of : List (List Cover) → ℕ → List Cover
list_of lists x = unwrap_or (slice_get lists x) []

-- at each address of 64 bits the covers of an entry give the first inlined copy directly in it
abbrev pub IsTree : UnitRead → List (List Cover) → Type 0
IsTree part lists = (x : ℕ) → IsRuns (between 0 18446744073709551616 (child_at part x)) (map cover_run (list_of lists x))

abbrev pub AreTrees : List UnitRead → List (List (List Cover)) → Type 0
AreTrees [] [] = Prim.Unit {0}
AreTrees (part ∷ parts) (lists ∷ trees) = IsTree part lists × AreTrees parts trees
AreTrees _ _ = ⊥
