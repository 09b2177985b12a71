-- The definitions of this crate that a proof unfolds to compute a result from given bytes.
use Rattle.std.specs.Prelude.{⊤}
use Rattle.cfi_eval.proofs.Computing.{cfi_eval_computes}
use Rattle.sym_lookup.proofs.Computing.{sym_lookup_computes}
use Rattle.sym_judge.specs.Forms.{with_word, terms_after, term_of, form_of, rule_form}
use Rattle.sym_judge.specs.Alike.{agrees, rule_aspects, frame_aspects, first_unlike}

unfoldable pub sym_judge_computes : ⊤
unfolding cfi_eval_computes sym_lookup_computes with_word terms_after term_of form_of rule_form agrees rule_aspects frame_aspects first_unlike
sym_judge_computes = tt
