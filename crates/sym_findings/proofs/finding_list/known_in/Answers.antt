use Rattle.sym_findings.proofs.NumberLemmas.{files_known, origins_known}
use Rattle.sym_findings.proofs.finding_list.known_in.Goals as goal

pub returns : goal.returns
returns c = record {
  files = files_known c.args.lines.now c.in_ok-files.files c.in_ok-numbers.numbers.files.items c.in_ok-files.ensures c.in_ok-numbers.ensures.files;
  origins = origins_known c.args.lines.now c.in_ok-origins.origins c.in_ok-numbers.numbers.origins.items c.in_ok-origins.ensures c.in_ok-numbers.ensures.origins;
}
