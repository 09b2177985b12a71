use Rattle.std.proofs.Common.{arith}
use Rattle.rust_names.proofs.PassingLemmas.{steps_read}
use Rattle.rust_names.proofs.hidden.pass_steps.Goals as goal

pub returns-clause-reads : goal.returns-clause-reads
returns-clause-reads c =
    steps_read c.args.name.now c.args.levels c.args.ahead.now.rest.now c.from_place.result.now c.args.ahead.now.opened c.in-Some.end c.requires.ends (rw c.in-Some.is at c.in_ok-end.ensures.passes) (omega (arith, c.if-end-levels.false)) c.from_place.ensures
