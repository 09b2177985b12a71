use Rattle.std.proofs.Common.{sym, subst, arith}
use Rattle.inline_chain.specs.internal.Copies.{HaveClasses}
use Rattle.inline_chain.proofs.class_links.class_end.Goals as goal

pub items-preserved : goal.items-preserved
items-preserved c = λ n above below.
    c.items.invariant n (omega (arith, above, c.max-end.ensures)) (subst (HaveClasses n) (sym c.in-Some.ensures.cases.0) (omega (arith, above, c.max-end.ensures), below))
