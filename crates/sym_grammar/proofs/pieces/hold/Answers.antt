use Rattle.std.proofs.Common.{arith}
use Rattle.sym_grammar.proofs.PieceLemmas.{held_up, held_on}
use Rattle.sym_grammar.proofs.pieces.hold.Goals as goal

pub returns-clause-goes_on : goal.returns-clause-goes_on
returns-clause-goes_on c = (
  held_up c.args.limit c.args.seen.now c.args.held.now.items c.args.front.now _ c.requires.front c.requires.one_line (omega (arith, c.if-front-limit.false, c.len.ensures)) c.in_ok-extend_from_slice.ensures.items,
  held_on c.args.limit c.args.seen.now c.args.held.now.items c.args.front.now _ c.in_ok-extend_from_slice.ensures.items,
)
