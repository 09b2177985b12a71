use Rattle.sym_lookup.proofs.NumberLemmas.{file_numbered, origin_numbered}
use Rattle.sym_lookup.proofs.numbers.numbers_of.Goals as goal

pub returns : goal.returns
returns c = record {
  files_sorted = c.in_ok-files.ensures.sorted;
  origins_sorted = c.in_ok-origins.ensures.sorted;
  file = file_numbered _ _ c.in_ok-files.ensures.same;
  origin = origin_numbered _ _ c.in_ok-origins.ensures.same;
}
