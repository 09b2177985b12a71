-- `frame SYM ADDR STATE` writes what the rules of a symbol file at an address evaluate to, given the registers and the memory of a state file. The
-- CFA, the return address and the sixteen registers have a line each. The text is `none` if the file has no rules at the address.
use Rattle.std.specs.Prelude.{ℕ, List, []}
use Rattle.sym_records.specs.declared.line.SymLine.{SymLine}
use Rattle.cfi_eval.specs.TextValue.{text_frame}
use Rattle.state_file.specs.declared.state.State.{State}
use Rattle.stack_text.specs.FrameText.{frame_or_none}
use Rattle.dumpsyms_cmd.specs.Verdict.{Verdict}

-- the verdict on the records of the symbol file and the state
abbrev pub frame_answer : ℕ → List SymLine → State → Verdict
frame_answer address lines state = record { status = 0; out = frame_or_none (text_frame lines address state.regs state.memory); err = [] }
