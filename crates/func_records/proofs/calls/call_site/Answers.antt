use Rattle.std.proofs.Common.{refl}
use Rattle.func_records.proofs.SiteLemmas.{site_without_unit, site_without_entry, site_there}
use Rattle.func_records.proofs.calls.call_site.Goals as goal

pub returns-in_default : goal.returns-in_default
returns-in_default c = site_without_unit c.args.units.now c.args.unit c.args.entry _ refl c.in_default.ensures

pub returns-in_default-entry : goal.returns-in_default-entry
returns-in_default-entry c = site_without_entry c.args.units.now c.args.unit c.args.entry _ c.in-Some.part.now refl c.in-Some.ensures c.in_default-entry.ensures

pub returns : goal.returns
returns c =
    site_there c.args.units.now c.args.unit c.args.entry _ c.in-Some.part.now c.in-Some-entry.die c.in-Some.ensures c.in-Some-entry.ensures
    (rw c.table.ensures at (rw c.call_file.ensures at c.number_of_file.ensures.number)) (rw c.table.ensures at c.number_of_file.ensures.known) c.call_line.ensures
