use Rattle.std.proofs.Common.{refl}
use Rattle.range_set.specs.Enclosing.{encloses}
use Rattle.line_program.proofs.CountLemmas.{sequence_kept}
use Rattle.line_program.proofs.stretches.count_sequence.Goals as goal

pub returns : goal.returns
returns c =
    sequence_kept (encloses c.args.code.now) _ _ _ _ _ _ _ _ _ c.sequence.view_is c.as_slice.ensures.value c.in-Some.ensures c.if-end-start.false c.if-not-encloses.ensures refl c.in_ok-sort_rows.ensures.sorted c.in_ok-sort_rows.ensures.same c.in_ok-push.ensures.items
