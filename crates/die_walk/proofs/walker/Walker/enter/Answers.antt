use Rattle.std.proofs.Common.{sym, ◌∙◌}
use Rattle.die_walk.proofs.StepLemmas.{moved_opened, own_is}
use Rattle.die_walk.proofs.walker.Walker.enter.Goals as goal

pub returns-clause-moves : goal.returns-clause-moves
returns-clause-moves c =
    moved_opened c.args.self.now.own.sections c.args.self.now.own.unit c.args.self.now c.take_entry.new.self c.open.new.self c.args.at c.args.found.now c.own_number-own.result c.args.cursor.now c.take_entry.new.cursor c.in-Ok.ensures.moves
    (sym c.children.ensures ∙ c.if-not-children.false)
    (c.own_number-own.ensures ∙ own_is c.args.self.now.own.sections c.args.self.now.own.unit c.args.self.now c.take_entry.new.self c.args.at c.args.found.now c.args.cursor.now c.take_entry.new.cursor c.in-Ok.kept c.in-Ok.ensures.moves c.in-Ok.ensures.kept)
    c.in_ok-open.ensures
