-- The text of the records so far, and the INIT that is open.
use Rattle.std.specs.Prelude.{◌≡◌, ℕ, Bool, not, List, [], ◌∷◌, ◌++◌}
use Rattle.frame_rows.specs.declared.row.RowAt.{RowAt}
use Rattle.frame_rows.specs.Steps.{has_cfa}
use Rattle.sym_rules.specs.Rules.{spelled_rules}
use Rattle.sym_records.specs.Canon.{canon_text}
use Rattle.rule_postfix.specs.declared.open_init.OpenInit.{OpenInit}
use Rattle.rule_postfix.specs.internal.Writing.{Open}

-- the text has the records so far after `front`, and the open INIT has the start, the rules and the changes of `o`
pub record IsSpelled (front : List ℕ) (base : ℕ) (text : List ℕ) (p : OpenInit) (o : Open) : Type 0 where
  pub based : o.base ≡ base
  pub start : p.start ≡ o.start
  pub body : p.body.items ≡ (spelled_rules o.rules ++ 10 ∷ []) ++ canon_text o.changes
  pub lines : text ≡ front ++ canon_text o.lines

-- a row lacks a rule for the CFA
abbrev pub lacks_rule : RowAt → Bool
lacks_rule r = not (has_cfa r.row)
