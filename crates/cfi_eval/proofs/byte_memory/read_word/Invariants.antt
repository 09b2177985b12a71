use Rattle.cfi_eval.proofs.WordLemmas.{Partly}
use Rattle.cfi_eval.proofs.byte_memory.read_word.Given as goal

abbrev pub invariant-bytes : goal.invariant-bytes
invariant-bytes g l = Partly (g.M.ByteMemory.runs l.memory) l.a l.word l.place
