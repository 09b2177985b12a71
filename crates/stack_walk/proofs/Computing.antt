-- The definitions of this crate that a proof unfolds to compute a result from given texts.
use Rattle.std.specs.Prelude.{⊤}
use Rattle.state_file.proofs.Computing.{state_file_computes}
use Rattle.sym_lookup.proofs.Computing.{sym_lookup_computes}
use Rattle.stack_walk.specs.Walk.{is_signal, step_known, walk_from, walk_of}

unfoldable pub stack_walk_computes : ⊤
unfolding state_file_computes sym_lookup_computes is_signal step_known walk_from walk_of
stack_walk_computes = tt
