use Rattle.std.proofs.Common.{◌∙◌, sym, arith}
use Rattle.sym_judge.proofs.FrameLemmas.{register_passed, register_met, registers_end}
use Rattle.sym_judge.proofs.frames.RulePair.first_register.Goals as goal

pub returns-then-not-branch : goal.returns-then-not-branch
returns-then-not-branch c = λ x p q.
    register_met c.args.self.now.own c.args.self.now.other x c.registers.register c.args.a.now c.args.b.now c.in_ok-agree.field-0 c.registers-test.true p q c.in_ok-agree.ensures c.if-not-branch.true ∙ sym (c.registers.invariant x p q)

pub registers-preserved : goal.registers-preserved
registers-preserved c = λ x p q.
    c.registers.invariant x p q ∙ register_passed c.args.self.now.own c.args.self.now.other x c.registers.register c.args.a.now c.args.b.now c.in_ok-agree.field-0 c.registers-test.true p q c.in_ok-agree.ensures c.if-not-branch.false

pub returns : goal.returns
returns c = λ x p q. registers_end c.args.self.now.own c.args.self.now.other x c.registers.register (omega arith) ∙ sym (c.registers.invariant x p q)
