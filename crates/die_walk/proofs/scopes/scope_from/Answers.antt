use Rattle.std.proofs.Common.{refl, sym, ◌∙◌}
use Rattle.std.proofs.lemmas.Option.{slice_get_read}
use Rattle.die_walk.proofs.ScopeLemmas.{ends_none, ends_past, ends_lost, ends_found, ends_known, goes_on}
use Rattle.die_walk.proofs.scopes.scope_from.Goals as goal

pub returns-in_err-number : goal.returns-in_err-number
returns-in_err-number c = c.from_residual.ensures ∙ ends_none c.args.entries.now.dies c.around.limit c.around.next _ c.in_err-number.was c.around.invariant

pub returns-then-number-limit : goal.returns-then-number-limit
returns-then-number-limit c = ends_past c.args.entries.now.dies c.around.limit c.in_ok-number.number c.around.next _ c.in_ok-number.was c.if-number-limit.true c.around.invariant

pub returns-in_err-die : goal.returns-in_err-die
returns-in_err-die c = c.from_residual-in_err-die.ensures ∙ ends_lost c.args.entries.now.dies c.around.limit c.in_ok-number.number c.around.next _ c.in_ok-number.was c.if-number-limit.false c.in_err-die.ensures c.around.invariant

pub returns-then-is_scope : goal.returns-then-is_scope
returns-then-is_scope c =
    ends_found c.args.entries.now.dies c.around.limit c.in_ok-number.number c.in_ok-die.die c.around.next _ c.in_ok-number.was c.if-number-limit.false c.in_ok-die.ensures (sym c.is_scope.ensures ∙ c.if-is_scope.true) c.around.invariant

pub returns-in-Some : goal.returns-in-Some
returns-in-Some c =
    ends_known c.args.entries.now.dies c.args.near.now c.around.limit c.in_ok-number.number c.in_ok-die.die c.around.next _ c.in-Some.known.now c.requires
    (sym (slice_get_read c.args.near.now _ c.in_ok-number.number c.in-Some.known.now refl c.in-Some.ensures.lookup.3.0 c.in-Some.ensures.lookup.1))
    c.in_ok-number.was c.if-number-limit.false c.in_ok-die.ensures (sym c.is_scope.ensures ∙ c.if-is_scope.false) c.around.invariant

pub around-preserved : goal.around-preserved
around-preserved c =
    goes_on c.args.entries.now.dies c.around.limit c.in_ok-number.number c.in_ok-die.die c.around.next c.parent-next.result _ c.in_ok-number.was c.if-number-limit.false c.in_ok-die.ensures (sym c.is_scope.ensures ∙ c.if-is_scope.false) c.around.invariant c.parent-next.ensures
