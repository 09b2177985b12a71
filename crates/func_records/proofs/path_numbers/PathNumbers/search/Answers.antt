use Rattle.std.proofs.Common.{unwrap_or, ◌∙◌, ap}
use Rattle.std.specs.List.{slice_get}
use Rattle.func_records.specs.internal.Spelling.{row_of}
use Rattle.func_records.proofs.path_numbers.PathNumbers.search.Goals as goal

pub returns-clause-numbered : goal.returns-clause-numbered
returns-clause-numbered c = c.in_ok-number.ensures ∙ ap (λ rows. unwrap_or (slice_get (row_of rows c.args.unit) c.args.path) 0) c.self.view_is
