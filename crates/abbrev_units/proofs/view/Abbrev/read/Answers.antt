use Rattle.std.proofs.Common.{List, sym, ap, ◌∙◌}
use Rattle.leb_cursor.specs.Ahead.{Ahead}
use Rattle.abbrev_units.specs.declared.take.Take.{Take}
use Rattle.abbrev_units.specs.SpecFields.{Abbrev}
use Rattle.abbrev_units.specs.Values.{behind_values}
use Rattle.abbrev_units.specs.internal.Listed.{part}
use Rattle.abbrev_units.specs.internal.Takes.{takes_at}
use Rattle.abbrev_units.proofs.TakeLemmas.{read_passed}
use Rattle.abbrev_units.proofs.view.Abbrev.read.Goals as goal

pub returns-clause-passed : goal.returns-clause-passed
returns-clause-passed c done =
    let lists = c.self.inside.lists.now in
    let head = c.self.inside.head.now in
    let picks = c.args.picks.now in
    let goes = ap (λ (takes : List Take). takes_at (part head.takes takes) head.tail picks c.args.cursor.now) (sym c.as_slice.ensures.value)
    ∙ ap (λ (a : Ahead). takes_at (part head.takes c.as_slice.result.now) head.tail picks a) (sym c.fork-probe.ensures)
    ∙ c.read_takes.ensures c.if-not-read_takes.false in
    ap (λ (a : Abbrev). behind_values a.specs c.args.cursor.now) (sym c.self.view_is)
    ∙ read_passed head.kept (part head.takes lists.takes.items) head.tail (part head.specs lists.specs.items) picks c.read_takes.new.picks c.args.cursor.now c.read_takes.new.cursor (c.self.invariant.are c.if-not-self.false) goes c.requires
