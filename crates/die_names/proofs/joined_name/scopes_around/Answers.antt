use Rattle.die_names.proofs.JoinLemmas.{gathered_all, gathered_more, scope_before}
use Rattle.die_names.proofs.joined_name.scopes_around.Goals as goal

pub returns-in_default : goal.returns-in_default
returns-in_default c = gathered_all c.args.dies.now c.around.numbers.items c.around.limit _ c.in_default.ensures c.around.invariant

pub around-smaller : goal.around-smaller
around-smaller c = scope_before c.args.dies.now c.around.limit c.in-Some.number c.in-Some.ensures

pub around-preserved : goal.around-preserved
around-preserved c = gathered_more c.args.dies.now c.around.numbers.items c.push.new.self.items c.around.limit c.in-Some.number _ c.in-Some.ensures c.around.invariant c.in_ok-push.ensures.items
