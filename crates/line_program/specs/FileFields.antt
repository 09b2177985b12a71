-- An entry of a table of files or directories (DWARF 5, 6.2.4).
use Rattle.std.specs.Prelude.{ℕ, List}

-- the path as the table has it, and the number of its directory
pub record FileFields : Type 0 where
  pub path : List ℕ
  pub directory : ℕ
