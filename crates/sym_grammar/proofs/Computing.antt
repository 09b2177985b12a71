-- What a proof unfolds to compute the definitions of this crate where the input is written out.
use Rattle.std.specs.Prelude.{⊤}
use Rattle.sym_records.proofs.Computing.{sym_records_computes}
use Rattle.sym_grammar.specs.Answer.{outcome, answer, but_last, last_line, whole_lines, open_line}

unfoldable pub sym_grammar_computes : ⊤
unfolding sym_records_computes outcome answer but_last last_line whole_lines open_line
sym_grammar_computes = tt
