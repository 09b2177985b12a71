use Rattle.std.proofs.Common.{◌≡◌, length}
use Rattle.line_program.specs.LineRows.{line_rows}
use Rattle.line_program.specs.internal.KeptRows.{or_kept_state, run_kept}
use Rattle.line_program.proofs.program_run.run_program.Given as goal

abbrev pub invariant-opcodes : goal.invariant-opcodes
invariant-opcodes l = run_kept l.program l.machine l.cursor ≡ or_kept_state (line_rows l.program l.initial.cursor)

abbrev pub decreases-opcodes : goal.decreases-opcodes
decreases-opcodes l = length l.cursor.bytes
