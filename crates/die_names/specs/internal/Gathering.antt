-- The scopes of a name.
use Rattle.std.specs.Prelude.{ℕ, Bool, false, List, []}
use Rattle.std.specs.List.{slice_get, filter}
use Rattle.std.specs.Option.{option_map_or}
use Rattle.die_walk.specs.EntryTable.{DieFields}
use Rattle.die_walk.specs.EntryKinds.{is_scope}
use Rattle.die_names.specs.Names.{around}

abbrev pub is_scope_at : List DieFields → ℕ → Bool
is_scope_at dies number = option_map_or is_scope (slice_get dies number) false

-- the numbers of the scopes around the entry with a number, beginning with the innermost
unfoldable pub scopes_of : List DieFields → ℕ → List ℕ
scopes_of dies entry = option_map_or (λ die. filter (is_scope_at dies) (around dies entry die.parent)) (slice_get dies entry) []
