use Rattle.sym_lookup.specs.UnderOf.{AreUnders}
use Rattle.sym_lookup.specs.internal.HeldUnders.{AreHeld}
use Rattle.sym_lookup.proofs.under.unders_of.Given as goal

abbrev pub invariant-lines : goal.invariant-lines
invariant-lines l = record {
  unders : AreUnders l.lines l.unders.items;
  held : AreHeld l.lines 0 l.at l.unders.items;
}
