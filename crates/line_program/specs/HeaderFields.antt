-- The header of a line table (DWARF 5, 6.2.4), read up to its tables of directories and files.
use Rattle.std.specs.Prelude.{Bool}
use Rattle.leb_cursor.specs.Ahead.{Ahead}
use Rattle.line_program.specs.ProgramFields.{ProgramFields}

-- the fields that the program depends on, whether the format is the 64-bit one, the bytes of both
-- tables, and the bytes of the program
pub record HeaderFields : Type 0 where
  pub program : ProgramFields
  pub wide : Bool
  pub tables : Ahead
  pub opcodes : Ahead
