-- What a proof unfolds to compute the definitions of this crate where the input is written out.
use Rattle.std.specs.Prelude.{⊤}
use Rattle.std.specs.Int.{int_wrap}
use lib.Count.{ones}
use Rattle.sym_edges.specs.Abi.{is_kept, default_of}
use Rattle.sym_records.proofs.Computing.{sym_records_computes}
use Rattle.cfi_eval.specs.Bytes.{byte_at, number_at, word_at}
use Rattle.cfi_eval.specs.Postfix.{register_value, name_value, word_value, with_token, postfix_from, rule_value}
use Rattle.cfi_eval.specs.TextRules.{changes_until, text_rules, rule_for}
use Rattle.cfi_eval.specs.TextValue.{text_cfa, text_ra, text_register, frame_of, text_frame}
use Rattle.cfi_eval.specs.Inits.{init_place}

unfoldable pub cfi_eval_computes : ⊤
unfolding sym_records_computes int_wrap ones is_kept default_of byte_at number_at word_at register_value name_value word_value with_token postfix_from rule_value changes_until text_rules rule_for text_cfa text_ra text_register frame_of text_frame init_place
cfi_eval_computes = tt
