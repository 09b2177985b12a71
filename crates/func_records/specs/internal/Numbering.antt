-- The records that give numbers to texts.
use Rattle.std.specs.Prelude.{ℕ, List}
use Rattle.sym_records.specs.declared.line.SymLine.{SymLine}
use Rattle.sym_records.specs.declared.line.SymLine.TheVariants.{File, Origin}
use Rattle.func_records.specs.declared.text_numbers.Numbering.{Numbering}
use Rattle.func_records.specs.declared.text_numbers.Numbering.TheVariants as by

abbrev pub numbered : Numbering → ℕ → List ℕ → SymLine
numbered by.Files = File
numbered by.Origins = Origin
