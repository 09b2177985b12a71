use Rattle.std.proofs.Common.{◌||◌, ap, ◌∙◌, arith}
use Rattle.std.proofs.lemmas.List.{take_all}
use Rattle.func_records.specs.internal.Gathering.{has_path}
use Rattle.func_records.specs.internal.Shares.{all_paths}
use Rattle.func_records.proofs.PathLemmas.{share_next}
use Rattle.func_records.proofs.paths.join_paths.Goals as goal

pub shares-init : goal.shares-init
shares-init c = λ path. ap (λ rs. has_path c.args.units.now rs path) c.in_ok-list.ensures

pub shares-preserved : goal.shares-preserved
shares-preserved c = λ path.
    share_next c.args.units.now c.args.shares.now c.shares.k _ (has_path c.args.units.now c.shares.list path) _ path (omega arith)
    (c.in_ok-add_all.ensures c.args.units.now path ∙ ap (λ rs. has_path c.args.units.now c.shares.list path || has_path c.args.units.now rs path) c.as_slice-in-shares.ensures.value)
    (c.shares.invariant path)

pub returns : goal.returns
returns c = λ path. c.shares.invariant path ∙ ap (λ ss. has_path c.args.units.now (all_paths ss) path) (take_all c.shares.k c.args.shares.now (omega arith))
