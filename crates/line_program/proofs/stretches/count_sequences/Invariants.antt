use Rattle.std.proofs.Common.{length}
use Rattle.range_set.specs.Enclosing.{encloses}
use Rattle.line_program.proofs.CountLemmas.{Counts}
use Rattle.line_program.proofs.stretches.count_sequences.Given as goal

abbrev pub invariant-sequences : goal.invariant-sequences
invariant-sequences l = Counts (encloses l.code) l.initial.sequences.items l.sequences.items l.kept.items

abbrev pub decreases-sequences : goal.decreases-sequences
decreases-sequences l = length l.sequences.items
