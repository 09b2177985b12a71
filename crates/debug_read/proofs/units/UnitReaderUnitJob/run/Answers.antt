use Rattle.std.proofs.Common.{Ok, Err, sym, rules}
use Rattle.debug_read.proofs.JobLemmas.{reader_found}
use Rattle.debug_read.proofs.OwingLemmas.{stop_fault}
use Rattle.debug_read.proofs.units.UnitReaderUnitJob.run.Goals as goal

pub returns-in-Ok : goal.returns-in-Ok
returns-in-Ok c =
    reader_found c.args.self.now (record { sections = c.self.inside.sections.now; units = c.self.inside.units.now; code = c.self.inside.code.now; shared = c.self.inside.shared.now }) c.args.k c.in-Some.unit.now (Ok c.in-Ok.found)
    (search rules) (sym c.in-Some.ensures) (λ spans same. c.in-Ok.ensures spans same)

pub returns-in-Err-Fault : goal.returns-in-Err-Fault
returns-in-Err-Fault c =
    reader_found c.args.self.now (record { sections = c.self.inside.sections.now; units = c.self.inside.units.now; code = c.self.inside.code.now; shared = c.self.inside.shared.now }) c.args.k c.in-Some.unit.now (Err c.in-Err-Fault.fault)
    (search rules) (sym c.in-Some.ensures) (λ spans same. stop_fault _ _ _ c.in-Err-Fault.field-0 c.in-Err-Fault.fault c.in-Err-Fault.field-0-is c.in-Err-Fault.ensures)
