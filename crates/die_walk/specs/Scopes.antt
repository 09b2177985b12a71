-- The scopes that enclose entries (DWARF 5, 2.3).
use Rattle.std.specs.Prelude.{ℕ, zero, suc, ◌==◌, false, if◌then◌else◌, List, Option, None, Some, option_and_then}
use Rattle.std.specs.List.{slice_get}
use Rattle.std.specs.Option.{option_map_or}
use Rattle.die_walk.specs.EntryTable.{DieFields}
use Rattle.die_walk.specs.EntryKinds.{is_scope}

-- the nearest scope around an entry whose parent has the index `parent`. Scopes come before the
-- entries in them, so only the first `number` entries are searched
unfoldable pub scope_around : List DieFields → ℕ → Option ℕ → Option ℕ
scope_around dies zero parent = None
scope_around dies (suc number) parent =
    if option_map_or (λ p. p == number) parent false
    then option_and_then (λ die. if is_scope die then Some number else scope_around dies number die.parent) (slice_get dies number)
    else scope_around dies number parent

-- the nearest scope around the entry at an index
abbrev pub scope_of : List DieFields → ℕ → Option ℕ
scope_of dies entry = option_and_then (λ die. scope_around dies entry die.parent) (slice_get dies entry)
