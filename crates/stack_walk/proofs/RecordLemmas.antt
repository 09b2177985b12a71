-- Addresses that no INIT covers, for `Records::rules`.
use Rattle.std.proofs.Common.{◌≡◌, ℕ, List, None, sym}
use Rattle.sym_records.specs.declared.line.SymLine.{SymLine}
use Rattle.cfi_eval.specs.Inits.{init_place}
use Rattle.cfi_eval.specs.TextRules.{text_rules}
use Rattle.cfi_eval.proofs.InitLemmas.{no_rules}

pub no_rules_at : (lines : List SymLine) (x : ℕ) → None ≡ init_place lines x → None ≡ text_rules lines x
no_rules_at lines x none = sym (no_rules lines x (sym none))
