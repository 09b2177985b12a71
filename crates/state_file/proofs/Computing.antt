-- The definitions of this crate that a proof unfolds to compute a result from given bytes.
use Rattle.std.specs.Prelude.{⊤}
use Rattle.cfi_eval.proofs.Computing.{cfi_eval_computes}
use Rattle.state_file.specs.StateText.{named_register, register_line, bytes_of, memory_line, worded_line, line_read, with_lines, state_of}

unfoldable pub state_file_computes : ⊤
unfolding cfi_eval_computes named_register register_line bytes_of memory_line worded_line line_read with_lines state_of
state_file_computes = tt
