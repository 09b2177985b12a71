use Rattle.std.proofs.Common.{sym, ◌∙◌}
use Rattle.rust_names.proofs.ConstantLemmas.{no_constant}
use Rattle.rust_names.proofs.turns.read_known_leaf.Goals as goal

pub returns-in-None-clause-read : goal.returns-in-None-clause-read
returns-in-None-clause-read c =
    no_constant c.args.leaf c.args.scope c.args.rest.now c.args.room.now.text.items (sym c.is_constant.ensures ∙ c.if-not-is_constant.false) (rw c.in-None.is at c.in_ok-constant.ensures.is)
