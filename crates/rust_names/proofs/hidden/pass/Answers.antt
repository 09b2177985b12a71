use Rattle.rust_names.specs.internal.Running.{at}
use Rattle.rust_names.proofs.PassingLemmas.{impl_none, impl_read}
use Rattle.rust_names.proofs.hidden.pass.Goals as goal

pub returns-then-frame-eq0-clause-read : goal.returns-then-frame-eq0-clause-read
returns-then-frame-eq0-clause-read c = λ text. impl_none c.args.name.now c.args.frame (at c.args.ahead.now.rest.now text c.args.ahead.now.opened) c.requires.path c.if-frame-eq0.true

pub returns-clause-read : goal.returns-clause-read
returns-clause-read c = λ text. impl_read c.args.name.now c.args.frame (at c.args.ahead.now.rest.now text c.args.ahead.now.opened) _ c.requires.path c.if-frame-eq0.false (c.in_ok-next.ensures.read c.args.frame.scope.bound text)
