use Rattle.std.proofs.Common.{sym, subst, rules}
use Rattle.sym_edges.specs.declared.located.Located.{Located}
use Rattle.abbrev_units.specs.declared.fault.DwarfKind.{DwarfKind}
use Rattle.debug_read.specs.internal.Owing.{IsRefused}
use Rattle.debug_read.proofs.OwingLemmas.{whole_by, fault_refused, stop_fault}
use Rattle.debug_read.proofs.named_tables.read_named.Goals as goal

pub returns-in_ok-read-in-Ok : goal.returns-in_ok-read-in-Ok
returns-in_ok-read-in-Ok c =
    c.in_ok-read-in-Ok.ensures c.args.code.now c.args.sections.now c.args.name.offset c.args.name.comp_dir.now
    (λ spans at same. whole_by spans c.args.sections.now c.args.name.offset 0 at c.args.name.comp_dir.now c.in-Ok.table (search rules) (c.in-Ok.ensures spans same))

pub returns-in-Err-Fault : goal.returns-in-Err-Fault
returns-in-Err-Fault c =
    subst (λ (f : Located DwarfKind). IsRefused c.args.sections.now c.args.name.offset f) (sym c.in-Err-Fault.fault-is)
    (fault_refused c.args.sections.now c.args.name.offset 0 c.args.name.comp_dir.now c.in-Err-Fault.fault (search rules)
    (stop_fault _ _ _ c.in-Err-Fault.field-0 c.in-Err-Fault.fault c.in-Err-Fault.field-0-is c.in-Err-Fault.ensures))
