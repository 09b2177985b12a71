-- What a proof unfolds to compute the definitions of this crate where the input is written out.
use Rattle.std.specs.Prelude.{⊤}
use Rattle.sym_records.proofs.Computing.{sym_records_computes}
use Rattle.sym_edges.proofs.Shown.{shown}
use Rattle.sym_meaning.specs.TextNames.{text_owner, text_line, text_chain}
use Rattle.sym_lookup.specs.Answers.{chain_places, line_place, func_place, nearest_public, public_place, answer_of}
use Rattle.sym_lookup.specs.AnswerTexts.{answer_text}

unfoldable pub sym_lookup_computes : ⊤
unfolding sym_records_computes shown text_owner text_line text_chain chain_places line_place func_place nearest_public public_place answer_of answer_text
sym_lookup_computes = tt
