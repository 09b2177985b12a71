-- The line of an address, given the rows of a line table's sequences (DWARF 5, 6.2.2).
use Rattle.std.specs.Prelude.{ℕ, ◌-◌, ◌==◌, ◌&&◌, nat_lt, nat_le, min, Bool, false, if◌then◌else◌, List, [], ◌∷◌, Option, Some, None}
use Rattle.std.specs.List.{slice_get}
use Rattle.std.specs.Option.{option_map}
use Rattle.line_program.specs.declared.row.Row.{Row}
use Rattle.line_program.specs.LineRows.{Sequence}

-- the content of a line table: its sequences, the number of its first file, and the files' paths
pub record Lines : Type 0 where
  pub sequences : List Sequence
  pub first : ℕ
  pub files : List (List ℕ)

-- the least address of some rows
abbrev pub or_least : ℕ → Option ℕ → Option ℕ
or_least address None = Some address
or_least address (Some other) = Some (min address other)

unfoldable pub least_address : List Row → Option ℕ
least_address [] = None
least_address (r ∷ rows) = or_least r.address (least_address rows)

-- of two rows, the one with the greater address; of two with the same address, the later one
abbrev pub later_row : Option Row → Option Row → Option Row
later_row None other = other
later_row (Some r) None = Some r
later_row (Some r) (Some s) = if nat_le r.address s.address then Some s else Some r

-- the row that counts at an address. Of the rows at or below the address it is the one with the
-- greatest address, and of several such rows the last one
unfoldable pub row_at : List Row → ℕ → Option Row
row_at [] a = None
row_at (r ∷ rows) a = later_row (if nat_le r.address a then Some r else None) (row_at rows a)

-- whether a range counts: it is not empty, and all of it is code. `code` says whether all of a
-- range is code
abbrev pub counts : (ℕ → ℕ → Bool) → ℕ → ℕ → Bool
counts code start end = nat_lt start end && code start end

abbrev pub covers_from : (ℕ → ℕ → Bool) → ℕ → Option ℕ → ℕ → Bool
covers_from code end None a = false
covers_from code end (Some start) a = counts code start end && (nat_le start a && nat_lt a end)

-- whether a sequence covers an address: the address is at or above the least address of its rows
-- and below its end, and this whole range counts
abbrev pub covers : (ℕ → ℕ → Bool) → Sequence → ℕ → Bool
covers code s a = covers_from code s.end (least_address s.rows) a

-- the row that counts at an address in the first sequence that covers the address
unfoldable pub row_in : (ℕ → ℕ → Bool) → List Sequence → ℕ → Option Row
row_in code [] a = None
row_in code (s ∷ sequences) a = if covers code s a then row_at s.rows a else row_in code sequences a

-- the path of a file, if the table has a file with that number
abbrev pub path_of : ℕ → List (List ℕ) → ℕ → Option (List ℕ)
path_of first files file = if nat_lt file first then None else slice_get files (file - first)

-- path and line of a row. There are none if the line is 0 or the table does not have the row's file
abbrev pub line_of : ℕ → List (List ℕ) → Option Row → Option (List ℕ × ℕ)
line_of first files None = None
line_of first files (Some r) = if r.line == 0 then None else option_map (λ path. (path, r.line)) (path_of first files r.file)

-- path and line of an address
unfoldable pub line_at : (ℕ → ℕ → Bool) → Lines → ℕ → Option (List ℕ × ℕ)
line_at code lines a = line_of lines.first lines.files (row_in code lines.sequences a)
