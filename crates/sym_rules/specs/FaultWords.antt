-- The words that are printed for the faults of a symbol file.
use Rattle.std.specs.Prelude.{ℕ, List, codes}
use Rattle.sym_rules.specs.declared.text_fault.TextKind.{TextKind}
use Rattle.sym_rules.specs.declared.text_fault.TextKind.TheVariants.{Empty, Unknown, Fields, Hex, Decimal, Rule, Misplaced, LongLine, Windows, NoModule}

-- the word for each kind of fault in a line
abbrev pub text_word : TextKind → List ℕ
text_word Empty = codes "empty"
text_word Unknown = codes "unknown"
text_word Fields = codes "fields"
text_word Hex = codes "hex"
text_word Decimal = codes "decimal"
text_word Rule = codes "rule"
text_word Misplaced = codes "misplaced"
text_word LongLine = codes "long-line"
text_word Windows = codes "windows"
text_word NoModule = codes "no-module"
