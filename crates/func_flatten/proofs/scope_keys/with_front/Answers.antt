use Rattle.std.proofs.Common.{sym, ◌∙◌}
use Rattle.func_flatten.specs.internal.ScopeFronts.{unit_dies}
use Rattle.func_flatten.proofs.FrontLemmas.{key_none, key_bare, key_scope}
use Rattle.func_flatten.proofs.scope_keys.with_front.Goals as goal

pub returns-in_default : goal.returns-in_default
returns-in_default c = key_none c.args.units.now c.args.key (unit_dies c.args.units.now c.args.unit) c.args.entry c.in_default.ensures

pub returns-then-not-is_scope : goal.returns-then-not-is_scope
returns-then-not-is_scope c = key_bare c.args.units.now c.args.key (unit_dies c.args.units.now c.args.unit) c.args.entry c.in-Some.die c.in-Some.ensures (sym c.is_scope.ensures ∙ c.if-not-is_scope.true)

pub returns : goal.returns
returns c =
    key_scope c.args.units.now c.args.key c.with-named.result c.with.result (unit_dies c.args.units.now c.args.unit) c.args.entry c.in-Some.die c.scope_name.result.now c.in-Some.ensures (sym c.is_scope.ensures ∙ c.if-not-is_scope.false) c.scope_name.ensures (c.with-named.ensures c.args.units.now)
    (c.with.ensures c.args.units.now)
