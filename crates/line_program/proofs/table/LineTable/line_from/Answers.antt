use Rattle.std.proofs.Common.{◌∙◌, sym, subst, Option, ℕ, ◌<◌, length}
use Rattle.std.specs.Option.{IfSome}
use Rattle.line_program.proofs.StopLemmas.{value_there, line_there, named_there}
use Rattle.line_program.proofs.table.LineTable.line_from.Goals as goal

pub bounds-values-stop : goal.bounds-values-stop
bounds-values-stop c =
    value_there _ _ _ _ _ c.args.stop c.self.view_is c.stops-stops.ensures.stepping c.values-values.ensures.same c.requires

pub returns-clause-line : goal.returns-clause-line
returns-clause-line c =
    c.shown.ensures ∙ line_there _ _ _ _ _ c.args.stop _ c.self.view_is c.stops-stops.ensures.stepping c.values-values.ensures.same c.requires

pub returns-clause-known : goal.returns-clause-known
returns-clause-known c =
    subst (λ (o : Option (ℕ × ℕ)). IfSome o (λ line. line.0 < length c.args.self.now.paths)) (sym c.shown.ensures)
    (named_there _ _ _ _ _ c.args.stop _ c.self.view_is c.self.invariant.0 c.stops-stops.ensures.stepping c.values-values.ensures.same c.requires)
