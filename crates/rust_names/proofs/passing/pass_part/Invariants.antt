use Rattle.std.proofs.Common.{[], reverse}
use Rattle.rust_names.specs.internal.Passing.{AreConstants}
use Rattle.rust_names.specs.internal.Stepping.{AreHidden, Waits}
use Rattle.rust_names.proofs.passing.pass_part.Given as goal

abbrev pub invariant-steps : goal.invariant-steps
invariant-steps l = record {
  waits : Waits l.name (record { part = l.fn.part; from = l.fn.from }) (reverse l.hidden.steps.items) [] l.now;
  known : AreHidden l.name l.hidden.known;
  constants : AreConstants l.name l.hidden.room.constants;
}
