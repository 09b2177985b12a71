-- The columns that instructions may change.
use Rattle.std.specs.Prelude.{ℕ, ◌+◌, nat_lt, if◌then◌else◌}
use Rattle.frame_rows.specs.declared.columns.Columns.{Columns}
use Rattle.frame_rows.specs.Steps.{Effect, PutsRule, TakesBack}

-- no column, all columns, and one column, if it is a column of a row
abbrev pub no_columns : Columns
no_columns = record { first = 17; end = 0 }

abbrev pub all_columns : Columns
all_columns = record { first = 0; end = 17 }

abbrev pub one_column : ℕ → Columns
one_column column = if nat_lt column 17 then record { first = column; end = column + 1 } else no_columns

-- the columns that an effect may change
abbrev pub touched : Effect → Columns
touched (PutsRule column new why) = one_column column
touched TakesBack = all_columns
touched _ = no_columns
