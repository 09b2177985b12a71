use Rattle.std.proofs.Common.{rules, sym, ap, ◌∙◌}
use Rattle.die_names.specs.Names.{way}
use Rattle.die_names.specs.internal.Finding.{found}
use Rattle.die_names.specs.internal.Following.{followed}
use Rattle.die_names.proofs.FollowLemmas.{linkage_is}
use Rattle.die_names.proofs.name_source.+follow.Goals as goal

pub returns-then-has_linkage : goal.returns-then-has_linkage
returns-then-has_linkage t c =
    c.refer.ensures
    ∙ linkage_is c.args.units.now c.args.links c.args.best c.in-Some.at c.in-Some-entry.die c.in-Some-entry.ensures (search rules)
    ∙ ap (λ h. followed c.args.best (way c.args.units.now c.args.links (found c.args.units.now h))) (sym c.in-Some.is)
