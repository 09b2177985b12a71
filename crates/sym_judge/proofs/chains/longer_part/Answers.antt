use Rattle.std.proofs.Common.{subst}
use Rattle.sym_judge.specs.internal.Chains.{IsPart}
use Rattle.sym_judge.proofs.ChainLemmas.{some_behind}
use Rattle.sym_judge.proofs.chains.longer_part.Goals as goal

pub returns-in_ok-joined_number-in-Whole-clause-part : goal.returns-in_ok-joined_number-in-Whole-clause-part
returns-in_ok-joined_number-in-Whole-clause-part c = λ own front behind g means is.
    some_behind own _ _ _ _ c.args.number c.in-Whole.other front behind _ g c.in_ok-joined_number-in-Whole.ensures.keeps c.in_ok-joined_number-in-Whole.ensures.number c.numbered.ensures means
    (subst (IsPart own c.args.numbers.now.entries.items behind g) c.in-Whole.is is)

pub returns-in_ok-joined_number-in-Ended-clause-part : goal.returns-in_ok-joined_number-in-Ended-clause-part
returns-in_ok-joined_number-in-Ended-clause-part c = λ own front behind g means is.
    some_behind own _ _ _ _ c.args.number c.in-Ended.other front behind _ g c.in_ok-joined_number-in-Ended.ensures.keeps c.in_ok-joined_number-in-Ended.ensures.number c.numbered-in-Ended.ensures means
    (subst (IsPart own c.args.numbers.now.entries.items behind g) c.in-Ended.is is)
