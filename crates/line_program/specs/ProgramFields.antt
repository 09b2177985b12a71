-- The fields of a line table's header that its program depends on (DWARF 5, 6.2.4).
use Rattle.std.specs.Prelude.{ℕ, ℤ, List}

-- the version, minimum_instruction_length, line_base, line_range and opcode_base, and for each standard opcode its number of operands
pub record ProgramFields : Type 0 where
  pub version : ℕ
  pub minimum_length : ℕ
  pub line_base : ℤ
  pub line_range : ℕ
  pub opcode_base : ℕ
  pub lengths : List ℕ
