-- Which columns of a row an instruction may change.
use Rattle.std.specs.Prelude.{◌≡◌, ℕ, ◌<◌, ◌≤◌, Option, Some, None}
use Rattle.std.specs.List.{slice_index_or}
use Rattle.frame_rows.specs.declared.row.Rule.TheVariants as rule
use Rattle.frame_rows.specs.declared.row.Row.{Row}
use Rattle.frame_rows.specs.declared.columns.Columns.{Columns}
use Rattle.frame_rows.specs.Standing.{Standing, GoesOn, Stays}

-- two rows have the same rules in the columns outside of `columns`
pub record StayOutside (columns : Columns) (before after : Row) : Type 0 where
  pub below : (k : ℕ) → k < columns.first → slice_index_or before.rules k rule.Rest ≡ slice_index_or after.rules k rule.Rest
  pub above : (k : ℕ) → columns.end ≤ k → k < 17 → slice_index_or before.rules k rule.Rest ≡ slice_index_or after.rules k rule.Rest

-- a call of `next`: it goes on to the next row, and no column outside of the returned ones has
-- changed; or there is no next row, no columns are returned, and nothing changes
abbrev pub IsNext : Option Columns → Standing → Standing → Type 0
IsNext None before after = Stays before after
IsNext (Some columns) before after = GoesOn before after × StayOutside columns before.here.row after.here.row
