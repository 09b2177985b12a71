use Rattle.std.proofs.Common.{sym, ◌∙◌}
use Rattle.die_walk.proofs.StepLemmas.{taken}
use Rattle.die_walk.proofs.walker.Walker.take_entry.Goals as goal

pub returns-clause-moves : goal.returns-clause-moves
returns-clause-moves c =
    taken c.args.self.now.own.sections c.args.self.now.own.unit c.args.self.now c.add_picked.new.self c.args.at c.tag.result c.args.found.now c.read.new.picks c.args.cursor.now c.read.new.cursor
    (c.read.ensures.picked c.if-not-read.false (sym c.is_kept.ensures ∙ c.if-not-is_kept.false)) c.in_ok-add_picked.ensures.added c.tag.ensures
