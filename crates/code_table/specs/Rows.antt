-- A table of codes, as a list of rows.
use Rattle.std.specs.Prelude.{ℕ, ◌==◌, List, find, Option}
use Rattle.std.specs.Option.{option_map}
use Rattle.code_table.specs.declared.kind.Shape.{Shape}
use Rattle.code_table.specs.declared.code_row.CodeRow.{CodeRow}

-- the layout of a code: that of the first row with this code, if there is one
unfoldable pub shape_of : ℕ → List CodeRow → Option Shape
shape_of code rows = option_map (λ row. row.shape) (find (λ row. row.code == code) rows)
