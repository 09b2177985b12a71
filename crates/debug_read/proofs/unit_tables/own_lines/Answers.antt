use Rattle.std.proofs.Common.{◌≡◌, Err, ap, sym, subst, ◌∙◌, if◌then◌else◌}
use Rattle.sym_edges.specs.declared.located.Located.{Located}
use Rattle.abbrev_units.specs.declared.fault.DwarfKind.{DwarfKind}
use Rattle.line_program.specs.LineMaps.{LineMap, no_lines}
use Rattle.debug_read.specs.UnitSays.{root_lines}
use Rattle.debug_read.proofs.LineLemmas.{table_kept, table_refused}
use Rattle.debug_read.proofs.OwingLemmas.{stop_fault}
use Rattle.debug_read.proofs.unit_tables.own_lines.Goals as goal

pub returns-in_ok-kept-in-Ok : goal.returns-in_ok-kept-in-Ok
returns-in_ok-kept-in-Ok c = λ spans same.
    table_kept c.args.known.now.sections.now c.args.root.now c.args.offset spans c.args.function c.in-Ok.table c.in_ok-kept-in-Ok.kept c.requires.offset (c.in-Ok.ensures spans same)
    (c.in_ok-kept-in-Ok.ensures ∙ ap (λ (t : LineMap). if c.args.function then t else no_lines) c.in_ok-lines-in-Ok.ensures)

pub returns-in-Err-Fault : goal.returns-in-Err-Fault
returns-in-Err-Fault c = λ spans same.
    subst (λ (f : Located DwarfKind). root_lines c.args.known.now.sections.now c.args.root.now ≡ Err f) (sym c.in-Err-Fault.fault-is)
    (table_refused c.args.known.now.sections.now c.args.root.now c.args.offset c.in-Err-Fault.fault c.requires.offset
    (stop_fault _ _ _ c.in-Err-Fault.field-0 c.in-Err-Fault.fault c.in-Err-Fault.field-0-is c.in-Err-Fault.ensures))
