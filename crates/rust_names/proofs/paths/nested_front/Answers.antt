use Rattle.std.proofs.Common.{sym, ◌∙◌}
use Rattle.rust_names.proofs.PathLemmas.{begins_nested}
use Rattle.rust_names.proofs.paths.nested_front.Goals as goal

pub returns-then-is_namespace-clause-is : goal.returns-then-is_namespace-clause-is
returns-then-is_namespace-clause-is c =
    let is = c.in-Some.ensures.is in
    (is.0, is.1, sym c.is_namespace.ensures ∙ c.if-is_namespace.true, begins_nested c.in-Some-front.space c.args.bytes.now c.in-Some.nested.now c.in-Some-front.after.now is.2 c.in-Some-front.ensures.front)
