use Rattle.std.proofs.Common.{◌≡◌, ◌+◌, List, [], ◌∷◌, ◌++◌, sym, ap, ◌∙◌, subst}
use Rattle.abbrev_units.specs.DebugSections.{first_place}
use Rattle.die_walk.specs.declared.entry_heads.Frame.{Frame}
use Rattle.die_walk.specs.EntryTable.{DieFields}
use Rattle.die_walk.specs.Picking.{die_by}
use Rattle.die_walk.specs.Steps.{Walked, innermost, added_by}
use Rattle.die_walk.specs.internal.Heads.{Says}
use Rattle.die_walk.proofs.HeadLemmas.{on_ok}
use Rattle.die_walk.proofs.walker.Walker.add_wide.Goals as goal

pub returns : goal.returns
returns c =
    let sections = c.self.inside.sections.now in
    let unit = c.self.inside.unit.now in
    let base = c.self.inside.root.str_offsets_base in
    let walked : List DieFields → Walked = λ dies. record { dies = dies; root = c.self.inside.root; open_levels = c.self.inside.open_levels.items; own = record { sections = sections; unit = unit } } in
    let says : Says sections unit base c.args.picks.now c.parts-parts.result =
    subst (λ (w : Walked). Says w.own.sections w.own.unit w.root.str_offsets_base c.args.picks.now c.parts-parts.result) (sym c.self.view_is) c.parts-parts.ensures.says in
    let frame = c.parts-parts.ensures.frame ∙ c.frame.ensures ∙ ap (λ (w : Walked). record { at = first_place w.own.sections.is_sup + c.args.at; parent = innermost w.open_levels }) (sym c.self.view_is) in
    on_ok c.push_wide.result c.push_wide.ensures.added (λ added.
    subst (λ (w : Walked). walked c.push_wide.new.list.dies ≡ added_by w.own.sections w.own.unit w c.args.at c.args.tag c.args.picks.now) c.self.view_is
    (ap walked (added sections unit base c.self.invariant.0 says
    ∙ ap (λ (f : Frame). c.self.inside.dies.dies ++ die_by sections unit base f.at f.parent c.args.tag c.args.picks.now ∷ []) frame)))
