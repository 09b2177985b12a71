use Rattle.std.proofs.Common.{length}
use Rattle.sym_grammar.specs.internal.Parts.{IsFront, part_of, GoesOn}
use Rattle.sym_grammar.proofs.pieces.take_piece.Given as goal

abbrev pub invariant-lines : goal.invariant-lines
invariant-lines l = record {
  front : IsFront l.limit l.held.items;
  on : GoesOn l.limit (part_of l.fn.seen l.fn.held.items) l.piece (part_of l.seen l.held.items) l.rest;
}

abbrev pub decreases-lines : goal.decreases-lines
decreases-lines l = length l.rest
