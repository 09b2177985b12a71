use Rattle.std.proofs.Common.{List, length}
use Rattle.sym_edges.specs.Addresses.{Range}
use Rattle.abbrev_units.specs.declared.unit.Unit.{Unit}
use Rattle.line_program.specs.LineMaps.{EncloseAlike}
use Rattle.debug_read.specs.Each.{Match}
use Rattle.debug_read.specs.internal.Owing.{IsOwing}
use Rattle.debug_read.proofs.JobLemmas.{Joining}
use Rattle.debug_read.proofs.unit_tables.settle_all.Given as goal

abbrev pub invariant-units : goal.invariant-units
invariant-units l = (spans : List Range) → EncloseAlike l.known.code.now spans → (units : List Unit) → Match (IsOwing spans l.known.sections.now) units l.fn.found.items → Joining spans l.known.sections.now units l.left.items l.parts.items

abbrev pub decreases-units : goal.decreases-units
decreases-units l = length l.left.items
