use Rattle.std.proofs.Common.{[], reverse}
use Rattle.rust_names.proofs.StepLemmas.{moved}
use Rattle.rust_names.proofs.passing.do_step.Goals as goal

pub returns-in-Some-find-clause-waits : goal.returns-in-Some-find-clause-waits
returns-in-Some-find-clause-waits c = λ first waits.
    moved c.args.name.now first (reverse c.args.hidden.now.steps.items) c.in-Read.part [] c.args.now c.in-Some-find.end c.joined-in-Some-find.result c.in-Some-find.ensures c.joined-in-Some-find.ensures (rw c.in-Read.is at waits)

pub returns-in_ok-keep-in-End-clause-waits : goal.returns-in_ok-keep-in-End-clause-waits
returns-in_ok-keep-in-End-clause-waits c = λ first waits.
    let both = rw c.in-End.is at waits in
    moved c.args.name.now first (reverse c.args.hidden.now.steps.items) c.in-End.begun.part [] c.in-End.begun.from c.in-Some.end c.joined.result c.in-Some.ensures c.joined.ensures both.1

pub returns-in-Some-2-clause-waits : goal.returns-in-Some-2-clause-waits
returns-in-Some-2-clause-waits c = λ first waits.
    moved c.args.name.now first (reverse c.args.hidden.now.steps.items) c.in-Read.part [] c.args.now c.in-Some-2.end c.joined-in-Some-2.result (rw c.in-Some-2.is at c.in_ok-end-in-Read.ensures.passes) c.joined-in-Some-2.ensures (rw c.in-Read.is at waits)
