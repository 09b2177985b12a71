use Rattle.std.proofs.Common.{sym, ap, ◌∙◌, ◌&&◌, not}
use Rattle.sym_lookup.proofs.HeldLemmas.{held_by, no_func}
use Rattle.sym_lookup.proofs.under.is_held.Goals as goal

pub returns-then-is_func : goal.returns-then-is_func
returns-then-is_func c =
    sym (held_by c.args.lines.now c.under_func.result.now c.args.func c.index-lines-func.result c.are_few.result c.index-lines-func.is c.requires c.under_func.ensures.under c.are_few.ensures ∙ ap (λ b. b && not c.are_few.result) (sym c.is_func.ensures ∙ c.if-is_func.true))

pub returns-else-is_func : goal.returns-else-is_func
returns-else-is_func c = c.if-is_func.false ∙ sym (no_func c.args.lines.now c.args.func c.index-lines-func.result c.index-lines-func.is c.requires (sym c.is_func.ensures ∙ c.if-is_func.false))
