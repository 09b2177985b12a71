-- Lists of numbers, and the numbers that records give.
use Rattle.std.specs.Prelude.{ℕ, Bool, ◌==◌, List, [], ◌∷◌}
use Rattle.std.specs.List.{list_any}
use Rattle.sym_records.specs.declared.line.SymLine.{SymLine}
use Rattle.sym_records.specs.declared.line.SymLine.TheVariants.{File, Origin}

-- whether a number is in a list
unfoldable pub has_number : List ℕ → ℕ → Bool
has_number numbers n = list_any (λ m. m == n) numbers

-- the number of a FILE, and that of an INLINE_ORIGIN
abbrev pub file_number : SymLine → List ℕ
file_number (File number name) = number ∷ []
file_number _ = []

abbrev pub origin_number : SymLine → List ℕ
origin_number (Origin number name) = number ∷ []
origin_number _ = []
