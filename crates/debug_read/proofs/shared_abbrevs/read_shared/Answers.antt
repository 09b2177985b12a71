use Rattle.std.proofs.Common.{◌≡◌, length, ap, arith, rules}
use Rattle.debug_read.proofs.SharingLemmas.{tables_match}
use Rattle.debug_read.proofs.shared_abbrevs.read_shared.Goals as goal

pub returns : goal.returns
returns g c =
    let picked : c.as_slice.result.now ≡ c.in_ok-firsts.field-0.firsts.items = search rules in
    tables_match c.of-job.result c.args.sections.now c.in_ok-firsts.field-0.firsts.items c.as_slice.result.now c.in_ok-tables.tables.items c.of-job.ensures picked
    (omega (arith, c.in_ok-tables.ensures.count, c.in_ok-tables.tables.ok.0, c.len-2.ensures, ap length c.as_slice.ensures.value))
    c.in_ok-tables.ensures.each
