use Rattle.func_flatten.proofs.repeats.guess_repeats.Given as goal

abbrev pub invariant-stretches : goal.invariant-stretches
invariant-stretches l = Unit {0}

abbrev pub invariant-sorted : goal.invariant-sorted
invariant-sorted l = Unit {0}
