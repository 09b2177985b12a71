use Rattle.std.proofs.Common.{arith}
use Rattle.func_records.specs.internal.Gathering.{has_path}
use Rattle.func_records.proofs.PathLemmas.{path_start, path_next, path_end}
use Rattle.func_records.proofs.path_list.PathList.add_all.Goals as goal

pub refs-init : goal.refs-init
refs-init c = λ units path. path_start units c.args.refs.now _ path

pub refs-preserved : goal.refs-preserved
refs-preserved c = λ units path. path_next units c.args.refs.now c.refs.place _ _ (has_path units c.refs.self path) _ path (omega arith) (c.in_ok-put.ensures units path) (c.refs.invariant units path)

pub returns : goal.returns
returns c = λ units path. path_end units c.args.refs.now c.refs.place _ _ path (omega arith) (c.refs.invariant units path)
