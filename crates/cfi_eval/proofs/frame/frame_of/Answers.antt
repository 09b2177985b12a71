use Rattle.std.proofs.Common.{arith}
use Rattle.std.proofs.lemmas.List.FromFn.{fill_by_all}
use Rattle.cfi_eval.specs.declared.outcome.Outcome.TheVariants.{Undefined}
use Rattle.cfi_eval.specs.TextValue.{frame_of, text_register}
use Rattle.cfi_eval.proofs.frame.frame_of.Goals as goal

pub returns : goal.returns
unfolding frame_of
returns g c =
    let all = fill_by_all (text_register c.args.regs.now (g.M.ByteMemory.runs c.args.memory.now) c.args.rules.now) c.registers.values 16 Undefined c.registers.invariant.many (λ k h. c.registers.invariant.known k (omega arith)) in
    let cfa = c.in_ok-cfa.ensures in
    let ra = c.in_ok-ra.ensures in
    cc
