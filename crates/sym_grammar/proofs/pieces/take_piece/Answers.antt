use Rattle.std.specs.Prelude.{⊤}
use Rattle.sym_grammar.proofs.PieceLemmas.{line_taken, line_stopped, rest_held}
use Rattle.sym_grammar.proofs.pieces.take_piece.Goals as goal

pub returns-in-Err-clause-goes_on : goal.returns-in-Err-clause-goes_on
returns-in-Err-clause-goes_on c =
    line_stopped ⊤ c.args.limit _ c.lines.seen c.end_line.new.seen c.args.piece.now c.lines.held.items c.lines.rest.now c.in-Some.line.now c.in-Some.later.now c.in-Err.stop _ c.lines.invariant.on c.lines.invariant.front c.in-Some.ensures.cut.0 c.in-Some.ensures.cut.1 c.in-Err.ensures.ends

pub lines-preserved : goal.lines-preserved
lines-preserved c = record {
  front = c.in-Ok.ensures.front;
  on = line_taken c.args.limit _ c.lines.seen c.end_line.new.seen c.args.piece.now c.lines.held.items c.end_line.new.held.items c.lines.rest.now c.in-Some.line.now c.in-Some.later.now c.lines.invariant.on c.lines.invariant.front c.in-Some.ensures.cut.0 c.in-Some.ensures.cut.1 c.in-Ok.ensures.ends c.in-Ok.ensures.empty;
}

pub returns-in-None-clause-goes_on : goal.returns-in-None-clause-goes_on
returns-in-None-clause-goes_on c = rest_held c.args.limit _ _ _ c.args.piece.now c.lines.rest.now c.hold.result c.lines.invariant.on c.hold.ensures.goes_on
