use Rattle.std.proofs.Common.{arith}
use Rattle.std.proofs.lemmas.List.{nil_from_length}
use Rattle.line_program.proofs.CountLemmas.{counts_none, counts_more, counts_all}
use Rattle.line_program.proofs.stretches.count_sequences.Goals as goal

pub sequences-init : goal.sequences-init
sequences-init c = counts_none _ _ _ c.clear.ensures.items

pub sequences-preserved : goal.sequences-preserved
sequences-preserved c = counts_more _ _ _ _ _ _ _ c.sequences.invariant c.in-Some.ensures.items c.in_ok-count_sequence.ensures

pub returns : goal.returns
returns c = counts_all _ _ _ _ _ c.sequences.invariant (nil_from_length _ (omega (arith, c.in_default.ensures.cases, c.sequences.sequences.ok.0))) c.reverse.ensures.items
