use Rattle.std.proofs.Common.{◌≡◌, ◌≤◌, ◌^◌, length, ap, sym, subst, ◌∙◌, arith}
use Rattle.std.specs.List.{AllByRecursion}
use Rattle.abbrev_units.specs.UnitPlaces.{IsInside, read_units}
use Rattle.abbrev_units.proofs.UnitPlaceLemmas.{units_inside}
use Rattle.debug_read.proofs.PickLemmas.{units_few}
use Rattle.debug_read.proofs.JobLemmas.{found_in}
use Rattle.debug_read.proofs.units.find_all.Goals as goal

pub of-job-requires : goal.of-job-requires
of-job-requires g c =
    let is : c.as_slice-2.result.now ≡ read_units c.args.headers.now = c.as_slice-2.ensures.value ∙ c.in_ok-read.ensures in
    record {
      inside = subst (λ us. AllByRecursion (IsInside (length c.args.sections.now.info)) us) (sym is) (units_inside c.args.sections.now.info c.args.headers.now c.requires.headers);
      small = c.requires.small;
      shared = c.in_ok-shared.ensures;
    }

pub run-requires-clause-count : goal.run-requires-clause-count
run-requires-clause-count g c κs within =
    let few : length (read_units c.args.headers.now) ≤ 2 ^ 32 = units_few c.args.sections.now.info c.args.headers.now c.requires.headers c.requires.small in
    omega (arith, few, ap length c.in_ok-read.ensures, c.len.ensures)

pub returns : goal.returns
returns g c =
    let is : c.as_slice-2.result.now ≡ read_units c.args.headers.now = c.as_slice-2.ensures.value ∙ c.in_ok-read.ensures in
    found_in c.of-job.result c.args.sections.now c.as_slice-2.result.now (read_units c.args.headers.now) c.in_ok-code.code c.args.code.now c.in_ok-shared.shared c.in_ok-found.found.items
    c.of-job.ensures is c.in_ok-code.ensures.same
    (omega (arith, c.in_ok-found.ensures.count, c.in_ok-found.found.ok.0, c.len.ensures, ap length c.as_slice-2.ensures.value))
    c.in_ok-found.ensures.each
