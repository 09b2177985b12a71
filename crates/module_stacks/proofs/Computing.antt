-- The definitions of module_stacks that a proof unfolds to compute a result from given texts.
use Rattle.std.specs.Prelude.{⊤}
use Rattle.cfi_eval.proofs.Computing.{cfi_eval_computes}
use Rattle.core_file.proofs.Computing.{core_file_computes}
use Rattle.module_stacks.specs.CoreRuns.{run_of, runs_of}
use Rattle.module_stacks.specs.ModuleAt.{holder_from, module_at}

unfoldable pub module_stacks_computes : ⊤
unfolding cfi_eval_computes core_file_computes run_of runs_of holder_from module_at
module_stacks_computes = tt
