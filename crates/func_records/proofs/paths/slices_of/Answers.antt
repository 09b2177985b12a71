use Rattle.std.proofs.Common.{arith}
use Rattle.func_records.proofs.ListLemmas.{member_at}
use Rattle.func_records.proofs.PathLemmas.{slice_next}
use Rattle.func_records.proofs.paths.slices_of.Goals as goal

pub lists-preserved : goal.lists-preserved
lists-preserved c = slice_next c.args.lists.now c.lists.place _ c.lists.slices.items _ c.at.result (omega arith) (member_at c.args.lists.now c.lists.place c.at.result.now c.at.ensures) c.in_ok-push.ensures.items c.lists.invariant
