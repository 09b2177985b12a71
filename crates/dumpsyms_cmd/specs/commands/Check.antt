-- `check SYM` writes to standard output what a checker finds in the records of a symbol file: a line for each finding, with status 1; or
-- `no findings`, with status 0.
use Rattle.std.specs.Prelude.{ℕ, ◌+◌, List, [], ◌∷◌, codes, decimal}
use Rattle.std.specs.List.{flat_map}
use Rattle.sym_records.specs.Canon.{spaced}
use Rattle.sym_records.specs.declared.line.SymLine.{SymLine}
use Rattle.sym_findings.specs.Findings.{findings}
use Rattle.sym_findings.specs.FindingWords.{kind_word}
use Rattle.sym_findings.specs.declared.kind.Finding.{Finding}
use Rattle.stack_text.specs.Lines.{line}
use Rattle.dumpsyms_cmd.specs.Verdict.{Verdict}
use Rattle.dumpsyms_cmd.specs.SymbolInput.{symbol_verdict}

-- the line for a finding: its kind, and the number of the record, from 1 on
abbrev pub finding_line : Finding → List ℕ
finding_line f = line (spaced (kind_word f.kind) (codes "record" ∷ decimal (f.index + 1) ∷ []))

unfoldable pub findings_text : List Finding → List ℕ
findings_text found = flat_map finding_line found

abbrev pub no_findings_line : List ℕ
no_findings_line = line (codes "no findings")

-- the verdict on the findings
abbrev pub findings_verdict : List Finding → Verdict
findings_verdict [] = record { status = 0; out = no_findings_line; err = [] }
findings_verdict (f ∷ found) = record { status = 1; out = findings_text (f ∷ found); err = [] }

abbrev pub records_checked : List SymLine → Verdict
records_checked lines = findings_verdict (findings lines)

-- the verdict on the bytes of the file
unfoldable pub check_answer : List ℕ → Verdict
check_answer bytes = symbol_verdict records_checked bytes
