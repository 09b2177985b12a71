use Rattle.sym_judge.proofs.half_comparison.HalfComparison.of.Goals as goal

pub invariant_of-result : goal.invariant_of-result
invariant_of-result c = (c.no_meetings.ensures c.args.both.now.own c.args.both.now.other, c.bare.ensures)

pub invariant_of-result-in-Frames : goal.invariant_of-result-in-Frames
invariant_of-result-in-Frames c = (c.no_meetings-in-Frames.ensures c.args.both.now.own c.args.both.now.other, c.in_ok-rules-in-Frames.ensures)
