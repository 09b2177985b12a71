use Rattle.std.proofs.Common.{◌≡◌, Some, subst, rules}
use Rattle.std.specs.List.{slice_get}
use Rattle.debug_read.specs.Each.{Match}
use Rattle.debug_read.specs.internal.Sharing.{SharedParts, IsRead}
use Rattle.debug_read.proofs.SharingLemmas.{shared_table}
use Rattle.debug_read.proofs.shared_abbrevs.SharedAbbrevs.table.Goals as goal

pub returns-in-Some-table_at : goal.returns-in-Some-table_at
returns-in-Some-table_at c =
    let firsts = c.self.inside.firsts.items in
    let tables = c.self.inside.tables.items in
    let view : c.args.self.now ≡ record { firsts = firsts; tables = tables } = search rules in
    let match = subst (λ (s : SharedParts). Match (IsRead c.args.sections.now) s.firsts s.tables) view c.requires in
    let first : Some c.in-Some-unit_at.first.now ≡ slice_get firsts c.in-Some.number.now = search rules in
    let table : Some c.in-Some-table_at.table.now ≡ slice_get tables c.in-Some.number.now = search rules in
    let same = c.is_shared.ensures (search rules) in
    shared_table c.args.sections.now firsts tables c.in-Some.number.now c.in-Some-unit_at.first.now c.args.unit.now c.in-Some-table_at.table.now match first table same.0 same.1 same.2
