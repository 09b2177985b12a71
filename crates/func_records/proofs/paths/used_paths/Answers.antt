use Rattle.std.proofs.Common.{ap, ◌∙◌}
use Rattle.func_records.specs.internal.Gathering.{has_path}
use Rattle.func_records.proofs.paths.used_paths.Goals as goal

pub returns-clause-same : goal.returns-clause-same
returns-clause-same c = λ path. ap (λ rs. has_path c.args.units.now rs path) c.into_refs-refs.ensures ∙ c.in_ok-join_paths.ensures path
