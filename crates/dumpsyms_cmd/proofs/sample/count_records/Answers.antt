use Rattle.std.proofs.Common.{ℕ, List, [], length, ◌∙◌, ap}
use Rattle.sym_records.specs.declared.line.SymLine.{SymLine}
use Rattle.dumpsyms_cmd.specs.commands.Sample.{counts_line}
use Rattle.dumpsyms_cmd.proofs.SampleLemmas.{given, records_counted}
use Rattle.dumpsyms_cmd.proofs.sample.count_records.Goals as goal

pub returns : goal.returns
returns g c =
    let units : ℕ = length c.as_slice-units.result.now in
    let left : ℕ = c.in_ok-dumped.dumped.omitted in
    records_counted (given 0 c.of.result []) c.args.image.now c.args.debug.now c.in_ok-dumped.dumped.file c.in_ok-dumped.dumped.err c.in_ok-text.text.items left units c.requires.found c.in_ok-dumped.ensures
    (ap length c.as_slice-units.ensures.units)
    (c.in_ok-text.ensures ∙ ap (λ (lines : List SymLine). counts_line units lines left) c.in_ok-file.ensures)
    (ap (λ (t : List ℕ). given 0 t []) c.of.ensures)
