use Rattle.std.proofs.Common.{◌≡◌, Bool, cond, Some, None, Ok, Err, refl, sym, ap, ◌∙◌, subst}
use Rattle.die_walk.specs.EntryTable.{entry_table}
use Rattle.die_walk.specs.Steps.{Owned, Walked, Steps, rounded, step_at, table_in}
use Rattle.die_walk.proofs.WalkLemmas.{walked_start, walked_more, walked_end, walked_stopped, step_short, short_start, step_own}
use Rattle.die_walk.proofs.table.walk_all.Goals as goal

pub entries-init : goal.entries-init
entries-init c = record {
  rest = walked_start c.args.walker.now.own.sections c.args.walker.now.own.unit c.args.abbrevs.now c.args.walker.now c.args.entries c.requires.dies c.requires.levels c.requires.start;
  short = short_start c.args.walker.now.own.sections c.args.walker.now.own.unit c.args.walker.now c.args.entries c.requires.dies c.requires.start c.requires.ordered c.requires.inside c.requires.small;
  own = refl;
  picks = c.new-picks.ensures;
}

pub entries-preserved : goal.entries-preserved
entries-preserved c =
    let made = c.in-Ok-true.ensures.step ∙ ap (λ (b : Bool). Ok (cond b (Some c.step.new.self) None, c.step.new.cursor)) c.in-Ok-true.field-0-test in
    let steps = subst (λ (o : Owned). step_at o.sections o.unit c.args.abbrevs.now c.entries.walker c.entries.cursor ≡ Ok (Some c.step.new.self, c.step.new.cursor)) c.entries.invariant.own made in
    record {
      rest = walked_more c.args.walker.now.own.sections c.args.walker.now.own.unit c.args.abbrevs.now c.entries.walker c.step.new.self c.entries.cursor c.step.new.cursor (entry_table c.args.walker.now.own.sections c.args.walker.now.own.unit c.args.abbrevs.now) c.entries.invariant.rest steps;
      short = step_short c.args.walker.now.own.sections c.args.walker.now.own.unit c.args.abbrevs.now c.entries.walker c.step.new.self c.entries.cursor c.step.new.cursor steps c.entries.invariant.short;
      own = step_own c.args.walker.now.own.sections c.args.walker.now.own.unit c.args.abbrevs.now c.entries.walker c.step.new.self c.entries.cursor c.step.new.cursor steps ∙ c.entries.invariant.own;
      picks = c.in-Ok-true.ensures.cleared;
    }

pub returns-in-Err : goal.returns-in-Err
returns-in-Err c =
    walked_stopped c.args.walker.now.own.sections c.args.walker.now.own.unit c.args.abbrevs.now c.entries.walker c.step.new.self c.entries.cursor c.step.new.cursor c.in-Err.stop (entry_table c.args.walker.now.own.sections c.args.walker.now.own.unit c.args.abbrevs.now) c.entries.invariant.rest
    (subst (λ (o : Owned). Steps (Err c.in-Err.stop) c.step.new.self c.step.new.cursor (step_at o.sections o.unit c.args.abbrevs.now c.entries.walker c.entries.cursor)) c.entries.invariant.own c.in-Err.ensures.step)

pub returns : goal.returns
returns c =
    let made = c.in-Ok-false.ensures.step ∙ ap (λ (b : Bool). Ok (cond b (Some c.step.new.self) None, c.step.new.cursor)) c.in-Ok-false.field-0-test in
    let steps = subst (λ (o : Owned). step_at o.sections o.unit c.args.abbrevs.now c.entries.walker c.entries.cursor ≡ Ok (None, c.step.new.cursor)) c.entries.invariant.own made in
    let still = c.in-Ok-false.ensures.still c.in-Ok-false.field-0-test in
    let own = ap (λ (w : Walked). w.own) still ∙ c.entries.invariant.own in
    walked_end c.args.walker.now.own.sections c.args.walker.now.own.unit c.args.abbrevs.now c.entries.walker c.entries.cursor c.step.new.cursor (entry_table c.args.walker.now.own.sections c.args.walker.now.own.unit c.args.abbrevs.now) c.entries.invariant.rest steps
    ∙ ap (λ (w : Walked). Ok (table_in (rounded c.args.walker.now.own.sections c.args.walker.now.own.unit w))) (sym still)
    ∙ ap (λ (o : Owned). Ok (table_in (rounded o.sections o.unit c.step.new.self))) (sym own)
    ∙ ap (λ (w : Walked). Ok (table_in w)) (sym c.in_ok-round.ensures)
