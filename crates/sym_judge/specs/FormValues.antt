-- The value of a form, given registers, memory and the CFA of its frame.
use Rattle.std.specs.Prelude.{ℕ, ◌+◌, ◌%◌, ◌^◌, List, Option, Result, Ok, Err}
use Rattle.sym_edges.specs.Results.{◌>>=◌}
use Rattle.cfi_eval.specs.declared.registers.Regs.{Regs}
use Rattle.cfi_eval.specs.declared.memory.MemRun.{MemRun}
use Rattle.cfi_eval.specs.declared.outcome.Cause.{Cause}
use Rattle.cfi_eval.specs.declared.outcome.Outcome.{Outcome}
use Rattle.cfi_eval.specs.declared.outcome.Outcome.TheVariants.{Undefined}
use Rattle.cfi_eval.specs.Postfix.{register_value, cfa_value, word_value, rule_value}
use Rattle.cfi_eval.specs.TextValue.{outcome_of}
use Rattle.sym_judge.specs.declared.terms.Base.{Base}
use Rattle.sym_judge.specs.declared.terms.Base.TheVariants as base
use Rattle.sym_judge.specs.declared.terms.Term.{Term}
use Rattle.sym_judge.specs.declared.terms.Term.TheVariants.{Plain, Fetched}
use Rattle.sym_judge.specs.Forms.{Form, of_term, no_value, of_words}

-- a number added to a value, modulo 2^64
abbrev pub moved : ℕ → Result ℕ Cause → Result ℕ Cause
moved n (Err why) = Err why
moved n (Ok v) = Ok ((v + n) % 2 ^ 64)

abbrev pub sum_value : Regs → Option Outcome → Base → ℕ → Result ℕ Cause
sum_value regs cfa base.Nothing n = Ok n
sum_value regs cfa (base.Register register) n = moved n (register_value regs register)
sum_value regs cfa base.Cfa n = moved n (cfa_value cfa)

abbrev pub term_value : Regs → List MemRun → Option Outcome → Term → Result ℕ Cause
term_value regs memory cfa (Plain s) = sum_value regs cfa s.base s.offset
term_value regs memory cfa (Fetched s) = sum_value regs cfa s.base s.offset >>= word_value memory

abbrev pub form_value : Regs → List MemRun → Option Outcome → Form → Outcome
form_value regs memory cfa (of_term t) = outcome_of (term_value regs memory cfa t)
form_value regs memory cfa no_value = Undefined
form_value regs memory cfa (of_words words) = rule_value regs memory cfa words
