use Rattle.std.proofs.Common.{◌++◌, ap, ◌∙◌, sym, append-nil}
use Rattle.die_names.specs.Names.{fronts}
use Rattle.die_names.proofs.JoinLemmas.{fronts_more, front_none, front_some}
use Rattle.die_names.proofs.joined_name.join.Goals as goal

pub scopes-preserved-in-Continue-branch-2 : goal.scopes-preserved-in-Continue-branch-2
scopes-preserved-in-Continue-branch-2 c =
    fronts_more c.args.dies.now c.pop.new.self.items c.in-Some.number c.scopes.text.items c.add_front.new.text.items _
    (ap (λ ns. c.scopes.text.items ++ fronts c.args.dies.now ns) (sym c.in-Some.ensures.items) ∙ c.scopes.invariant)
    (c.in_ok-add_front.ensures ∙ ap (λ f. c.scopes.text.items ++ f) (sym (front_some c.args.dies.now c.in-Some.number c.in-Some-entry_in.die c.in-Some-entry_in.ensures)))

pub scopes-preserved : goal.scopes-preserved
scopes-preserved c =
    fronts_more c.args.dies.now c.pop.new.self.items c.in-Some.number c.scopes.text.items c.scopes.text.items _
    (ap (λ ns. c.scopes.text.items ++ fronts c.args.dies.now ns) (sym c.in-Some.ensures.items) ∙ c.scopes.invariant)
    (sym (append-nil c.scopes.text.items) ∙ ap (λ f. c.scopes.text.items ++ f) (sym (front_none c.args.dies.now c.in-Some.number c.in_default-entry_in.ensures)))
