use Rattle.std.proofs.Common.{ap}
use Rattle.abbrev_units.specs.DebugSections.{DebugSections}
use Rattle.debug_read.proofs.FileLemmas.{headers_stop}
use Rattle.debug_read.proofs.units.read_file.Goals as goal

pub returns-in-Err-clause-says : goal.returns-in-Err-clause-says
returns-in-Err-clause-says g c = headers_stop _ c.args.sections.now _ c.in-Err.stop (ap (λ (s : DebugSections). s.info) c.sections.view_is) c.in-Err.ensures
