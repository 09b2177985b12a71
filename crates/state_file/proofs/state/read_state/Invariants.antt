use Rattle.std.proofs.Common.{◌≡◌}
use Rattle.std.specs.Option.{option_copied}
use Rattle.state_file.specs.StateText.{with_lines, state_of}
use Rattle.state_file.specs.internal.Parts.{state, lines_behind}
use Rattle.state_file.proofs.StateLemmas.{left}
use Rattle.state_file.proofs.state.read_state.Given as goal

abbrev pub invariant-lines : goal.invariant-lines
invariant-lines l = with_lines l.number (state l.regs l.runs.items) (lines_behind (option_copied l.rest)) ≡ state_of l.bytes

abbrev pub decreases-lines : goal.decreases-lines
decreases-lines l = left l.rest
