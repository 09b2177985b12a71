use Rattle.std.proofs.Common.{sym}
use Rattle.die_walk.proofs.StepLemmas.{taken}
use Rattle.die_walk.proofs.walker.Walker.take_slowly.Goals as goal

pub returns-clause-moves : goal.returns-clause-moves
returns-clause-moves c =
    taken c.args.self.now.own.sections c.args.self.now.own.unit c.args.self.now c.add_any.new.self c.args.at c.tag.result c.args.found.now c.read_picks.new.picks c.args.cursor.now c.read_picks.new.cursor
    (sym c.in-Ok.ensures) c.in_ok-add_any.ensures.added c.tag.ensures
