-- The numbers under which two files have one name: the same number in both (`told`), or two numbers (`aliases`).
use Rattle.std.specs.Prelude.{List}
use Rattle.sym_records.specs.declared.line.SymLine.{SymLine}
use Rattle.sym_judge.specs.declared.aliases.Numbered.{Numbered}
use Rattle.sym_judge.specs.declared.file_pair.OneNames.{OneNames}
use Rattle.sym_judge.specs.internal.Aliases.{AreAliasesOf}
use Rattle.sym_judge.specs.internal.Blocks.{same_name, AreTold}

pub record AreOneNames (numbered : Numbered) (own other : List SymLine) (names : OneNames) : Type 0 where
  pub told : AreTold (same_name numbered) own other names.told.items
  pub aliases : AreAliasesOf numbered own other names.aliases
