use Rattle.std.proofs.Common.{[], ◌∷◌, ◌++◌, length, ap, ◌∙◌, rules}
use Rattle.die_walk.specs.internal.Sites.{HeldEntries}
use Rattle.die_walk.specs.internal.Heads.{broad}
use Rattle.die_walk.proofs.HeadLemmas.{there_wide, pushed_wide}
use Rattle.die_walk.proofs.heads.EntryList.push_wide.Goals as goal

pub invariant_of-self-2 : goal.invariant_of-self-2
invariant_of-self-2 c =
    there_wide (length c.self.inside.parts.sites.items) c.self.inside.parts.wides.items c.push.new.self.items c.self.inside.heads.items c.push-2.new.self.items c.args.head c.with_rest.result c.args.wide c.len-number.result
    c.self.invariant c.requires (search rules) c.with_rest.ensures c.in_ok-push.ensures.items c.in_ok-push-2.ensures.items

pub returns-clause-dies : goal.returns-clause-dies
returns-clause-dies c =
    pushed_wide c.self.inside.parts.texts c.self.inside.parts.sites.items c.self.inside.parts.wides.items c.push.new.self.items c.self.inside.heads.items c.push-2.new.self.items c.args.head c.with_rest.result c.args.wide c.len-number.result
    c.self.invariant c.requires (search rules) c.with_rest.ensures c.in_ok-push.ensures.items c.in_ok-push-2.ensures.items
    ∙ ap (λ (e : HeldEntries). e.dies ++ broad e.homes c.args.head c.args.wide ∷ []) c.self.view_is
