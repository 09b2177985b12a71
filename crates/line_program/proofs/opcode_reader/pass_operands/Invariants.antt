use Rattle.std.proofs.Common.{◌≡◌, ◌-◌}
use Rattle.line_program.specs.Opcodes.{pass_ulebs}
use Rattle.line_program.proofs.opcode_reader.pass_operands.Given as goal

abbrev pub invariant-loop-index : goal.invariant-loop-index
invariant-loop-index l = pass_ulebs (l.count - l.index) l.cursor ≡ pass_ulebs l.count l.initial.cursor
