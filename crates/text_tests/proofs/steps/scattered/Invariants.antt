use Rattle.step_maps.specs.Covers.{AreStretches}
use Rattle.text_tests.proofs.steps.scattered.Given as goal

abbrev pub invariant-loop-k : goal.invariant-loop-k
invariant-loop-k l = AreStretches l.items.items
