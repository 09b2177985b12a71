-- What a command answers to the records of a symbol file and the state of a state file, or which verdict it gives if one of the files has none.
use Rattle.std.specs.Prelude.{◌≡◌, ℕ, ◌^◌, nat_lt, if◌then◌else◌, List, length, Option, Some, Result, Ok, Err}
use Rattle.sym_edges.specs.Outside.{Files, Tells}
use Rattle.sym_records.specs.declared.line.SymLine.{SymLine}
use Rattle.state_file.specs.StateText.{state_of}
use Rattle.state_file.specs.declared.state.State.{State}
use Rattle.state_file.specs.declared.fault.StateFault.{StateFault}
use Rattle.sym_grammar.specs.Input.{file_reading}
use Rattle.sym_grammar.specs.declared.refusal.SymRefusal.{SymRefusal}
use Rattle.dumpsyms_cmd.specs.Refusals.{too_long_line, state_line}
use Rattle.dumpsyms_cmd.specs.Verdict.{Verdict, refused, LIMIT}
use Rattle.dumpsyms_cmd.specs.SymbolInput.{symbol_verdict, file_verdict}
use Rattle.dumpsyms_cmd.specs.Judgement.{judgement_verdict}
use Rattle.dumpsyms_cmd.specs.declared.judgement.Judgement.{Judgement}

-- the verdict on the state, or on the first fault of the state file
abbrev pub by_state : (List SymLine → State → Verdict) → List SymLine → Result State StateFault → Verdict
by_state answer lines (Ok state) = answer lines state
by_state answer lines (Err fault) = refused (state_line fault)

-- a state file has at most 2^24 bytes
abbrev pub STATE_LIMIT : ℕ
STATE_LIMIT = 2 ^ 24

-- the verdict on the bytes of a state file
abbrev pub state_answer : (List SymLine → State → Verdict) → List SymLine → List ℕ → Verdict
state_answer answer lines bytes = if nat_lt STATE_LIMIT (length bytes) then refused too_long_line else by_state answer lines (state_of bytes)

-- the verdict on the bytes of the state file and of the symbol file
abbrev pub both_answer : (List SymLine → State → Verdict) → List ℕ → List ℕ → Verdict
both_answer answer state bytes = symbol_verdict (λ lines. state_answer answer lines state) bytes

-- the verdict on both files; the state file is asked for only if the symbol file has records
abbrev pub both_verdict : (List SymLine → State → Verdict) → Option (List ℕ) → Option (List ℕ) → Verdict
both_verdict answer sym state = file_verdict (symbol_verdict (λ lines. file_verdict (state_answer answer lines) state)) sym

-- the symbol file has records
abbrev pub HasRecords : Result (List SymLine) SymRefusal → Type 0
HasRecords (Ok lines) = Unit {0}
HasRecords (Err why) = ⊥

-- a judgement is what the command answers to the bytes of both files. If the store's files are known, these are the bytes under both names; else they
-- are some bytes
pub record AnswersBoth (sym state : List ℕ) (answer : List SymLine → State → Verdict) (files : Option Files) (j : Judgement) : Type 0 where
  pub bytes : List ℕ
  pub there : Tells files (λ f. f sym ≡ Some bytes)
  pub state_bytes : List ℕ
  pub state_there : HasRecords (file_reading LIMIT bytes) → Tells files (λ f. f state ≡ Some state_bytes)
  pub is : judgement_verdict j ≡ both_answer answer state_bytes bytes
