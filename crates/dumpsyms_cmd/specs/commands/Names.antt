-- `names SYM` writes the canonical text of a symbol file in which FUNC, INLINE_ORIGIN and PUBLIC records have their names in readable form (`named`).
use Rattle.std.specs.Prelude.{◌≡◌, ℕ, List, [], map, Option, Ok}
use Rattle.sym_edges.specs.Outside.{Files}
use Rattle.sym_records.specs.Canon.{canon_text}
use Rattle.sym_records.specs.Reading.{reading}
use Rattle.sym_records.specs.Validity.{AreValid}
use Rattle.sym_records.specs.declared.line.SymLine.{SymLine}
use Rattle.sym_findings.specs.Findings.{findings}
use Rattle.sym_grammar.specs.Input.{file_reading}
use Rattle.rust_names.specs.ShownRecords.{renamed}
use Rattle.rust_names.specs.Named.{named}
use Rattle.dumpsyms_cmd.specs.Verdict.{Verdict, LIMIT}
use Rattle.dumpsyms_cmd.specs.SymbolInput.{symbol_verdict, AnswersBytes}
use Rattle.dumpsyms_cmd.specs.declared.judgement.Judgement.{Judgement}

-- the verdict on the records
abbrev pub records_named : List SymLine → Verdict
records_named lines = record { status = 0; out = canon_text (map (renamed named) lines); err = [] }

-- the verdict on the bytes of the file
unfoldable pub names_answer : List ℕ → Verdict
names_answer bytes = symbol_verdict records_named bytes

-- the records with readable names are valid, their text reads back as these records, and a checker finds the same in them as in the records of the
-- file
pub record ReadsBackNamed (lines : List SymLine) : Type 0 where
  pub valid : AreValid (map (renamed named) lines)
  pub reads : reading (canon_text (map (renamed named) lines)) ≡ Ok (map (renamed named) lines)
  pub findings : findings (map (renamed named) lines) ≡ findings lines

-- what `names` promises about its judgement
pub record NamesPromises (sym : List ℕ) (files : Option Files) (j : Judgement) : Type 0 where
  pub answers : AnswersBytes sym names_answer files j
  pub reads_back : (lines : List SymLine) → file_reading LIMIT answers.bytes ≡ Ok lines → ReadsBackNamed lines
