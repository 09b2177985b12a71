-- `lookup SYM ADDR` writes what a symbol file names at an address: a line `NAME at PATH:LINE` for each frame, the innermost first; or `public NAME`;
-- or `none`.
use Rattle.std.specs.Prelude.{ℕ, List, []}
use Rattle.sym_records.specs.declared.line.SymLine.{SymLine}
use Rattle.sym_lookup.specs.Answers.{answer_of}
use Rattle.sym_lookup.specs.AnswerTexts.{answer_text}
use Rattle.dumpsyms_cmd.specs.Verdict.{Verdict}
use Rattle.dumpsyms_cmd.specs.SymbolInput.{symbol_verdict}

-- the verdict on the records
abbrev pub records_looked_up : ℕ → List SymLine → Verdict
records_looked_up address lines = record { status = 0; out = answer_text lines (answer_of lines address); err = [] }

-- the verdict on the bytes of the file
unfoldable pub lookup_answer : ℕ → List ℕ → Verdict
lookup_answer address bytes = symbol_verdict (records_looked_up address) bytes
