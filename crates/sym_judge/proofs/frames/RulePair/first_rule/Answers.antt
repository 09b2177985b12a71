use Rattle.sym_judge.proofs.FrameLemmas.{cfa_met, ra_met, registers_behind, then_behind}
use Rattle.sym_judge.proofs.frames.RulePair.first_rule.Goals as goal

pub returns-then-not-branch : goal.returns-then-not-branch
returns-then-not-branch c = λ x p q. cfa_met c.args.self.now.own c.args.self.now.other x c.args.a.now c.args.b.now c.in_ok-agree.field-0 p q c.in_ok-agree.ensures c.if-not-branch.true

pub returns-then-not-branch-2 : goal.returns-then-not-branch-2
returns-then-not-branch-2 c = λ x p q. ra_met c.args.self.now.own c.args.self.now.other x c.args.a.now c.args.b.now c.in_ok-agree.field-0 c.in_ok-agree-2.field-0 p q c.in_ok-agree.ensures c.if-not-branch.false c.in_ok-agree-2.ensures c.if-not-branch-2.true

pub returns : goal.returns
returns c = λ x p q.
    then_behind c.first_register.result (c.first_register.ensures x p q)
    (registers_behind c.args.self.now.own c.args.self.now.other x c.args.a.now c.args.b.now c.in_ok-agree.field-0 c.in_ok-agree-2.field-0 p q c.in_ok-agree.ensures c.if-not-branch.false c.in_ok-agree-2.ensures c.if-not-branch-2.false)
