-- What a command answers to the records of a symbol file, or which verdict it gives if the file has none.
use Rattle.std.specs.Prelude.{◌≡◌, ℕ, List, Option, Some, None, Result, Ok, Err}
use Rattle.sym_edges.specs.Outside.{Files, Tells}
use Rattle.sym_records.specs.declared.line.SymLine.{SymLine}
use Rattle.sym_grammar.specs.Input.{file_reading}
use Rattle.sym_grammar.specs.declared.refusal.SymRefusal.{SymRefusal}
use Rattle.sym_grammar.specs.declared.refusal.SymRefusal.TheVariants.{TooLong, Text}
use Rattle.dumpsyms_cmd.specs.Refusals.{too_long_line, text_line}
use Rattle.dumpsyms_cmd.specs.Verdict.{Verdict, refused, unread, LIMIT}
use Rattle.dumpsyms_cmd.specs.Judgement.{judgement_verdict}
use Rattle.dumpsyms_cmd.specs.declared.judgement.Judgement.{Judgement}

-- the line for a symbol file that is refused
abbrev pub refusal_line : SymRefusal → List ℕ
refusal_line TooLong = too_long_line
refusal_line (Text fault) = text_line fault

-- the verdict on the result of reading the file
abbrev pub by_records : (List SymLine → Verdict) → Result (List SymLine) SymRefusal → Verdict
by_records answer (Ok lines) = answer lines
by_records answer (Err why) = refused (refusal_line why)

-- the verdict on the bytes of the file, at most 2^29
abbrev pub symbol_verdict : (List SymLine → Verdict) → List ℕ → Verdict
symbol_verdict answer bytes = by_records answer (file_reading LIMIT bytes)

-- the verdict on the file, which may be missing
abbrev pub file_verdict : (List ℕ → Verdict) → Option (List ℕ) → Verdict
file_verdict answer None = unread
file_verdict answer (Some bytes) = answer bytes

-- a judgement is what a command answers to the bytes of the file that it names. If the store's files are known, these are the bytes of that file;
-- else they are some bytes
pub record AnswersBytes (name : List ℕ) (answer : List ℕ → Verdict) (files : Option Files) (j : Judgement) : Type 0 where
  pub bytes : List ℕ
  pub there : Tells files (λ f. f name ≡ Some bytes)
  pub is : judgement_verdict j ≡ answer bytes
