use Rattle.std.proofs.Common.{◌≡◌, length, ap, ◌∙◌, subst, OnOk}
use Rattle.die_walk.specs.Steps.{Walked, begun_by}
use Rattle.die_walk.proofs.StepLemmas.{begun_is}
use Rattle.die_walk.proofs.walker.Walker.begin.Goals as goal

pub returns : goal.returns
returns c =
    let walked : Walked = record { dies = c.self.inside.dies.dies; root = c.self.inside.root; open_levels = c.self.inside.open_levels.items; own = record { sections = c.self.inside.sections.now; unit = c.self.inside.unit.now } } in
    subst (λ (w : Walked). OnOk c.add.result (c.add.new.self ≡ begun_by w.own.sections w.own.unit w c.args.at c.args.tag c.args.picks.now)) c.self.view_is
    (begun_is c.add.result c.self.inside.sections.now c.self.inside.unit.now walked c.add.new.self c.make_root-self-inside.result c.args.at c.args.tag c.args.picks.now
    (ap (λ (w : Walked). length w.dies) c.self.view_is ∙ c.requires.first) c.make_root-self-inside.ensures c.add.ensures)
