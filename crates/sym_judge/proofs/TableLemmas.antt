-- Lemmas about the last rule of each target.
use Rattle.std.proofs.Common.{◌≡◌, ◌≢◌, ◌+◌, ◌<◌, ◌≤◌, ℕ, Bool, true, false, List, [], ◌∷◌, ◌++◌, length, get_or, set, drop, take, Option, None, Some, refl, sym, ap, subst, ◌∙◌, ◌==◌, arith, length-set, replicate, zero, suc, append_assoc, append-nil}
use Rattle.std.proofs.lemmas.Bool.{lt-leb, le-leb}
use Rattle.std.proofs.lemmas.Bool.Decides.{nat_tests}
use Rattle.std.proofs.lemmas.List.{drop_more, drop_all, take_more, get_or-set_same, get_or-set_other}
use Rattle.std.specs.List.{slice_get}
use Rattle.std.proofs.lemmas.Option.{slice_get-get_or}
use Rattle.sym_records.specs.declared.line.SymLine.{SymLine}
use Rattle.sym_records.specs.declared.line.SymLine.TheVariants.{Init, Change}
use Rattle.sym_rules.specs.declared.rules.Target.{Target}
use Rattle.sym_rules.specs.declared.rules.Target.TheVariants as target
use Rattle.sym_rules.specs.declared.rules.RuleText.{RuleText}
use Rattle.cfi_eval.specs.Inits.{init_place}
use Rattle.cfi_eval.specs.TextRules.{same_target, rule_for, changes_until}
use Rattle.cfi_eval.proofs.RuleLemmas.{rule_push}
use Rattle.cfi_eval.proofs.InitLemmas.{init_rules}
use Rattle.sym_judge.specs.declared.rule_tables.RulePlace.{RulePlace}
use Rattle.sym_judge.specs.declared.rule_tables.RuleTable.{RuleTable}
use Rattle.sym_judge.specs.internal.Tables.{rules_or, rules_at, words_at, words_in, IsTable, IsTableAt, IsTableUpTo}

-- A target's rule is at this place.
abbrev StandsAt : List SymLine → List RuleText → Target → Option RulePlace → Type 0
StandsAt lines rules t place = words_in lines place ≡ rule_for t rules

told : (lines : List SymLine) (rules : List RuleText) (rule : RuleText) (place : RulePlace) (t : Target) → same_target rule.target t ≡ true → words_at lines place ≡ Some rule.tokens → StandsAt lines (rules ++ rule ∷ []) t (Some place)
told lines rules rule place t same is = is ∙ sym (rule_push t rules rule ∙ rw same refl)

kept : (lines : List SymLine) (rules : List RuleText) (rule : RuleText) (t : Target) (place : Option RulePlace) → same_target rule.target t ≡ false → StandsAt lines rules t place → StandsAt lines (rules ++ rule ∷ []) t place
kept lines rules rule t place same is = is ∙ sym (rule_push t rules rule ∙ rw same refl)

pub no_table : (lines : List SymLine) (registers : List (Option RulePlace)) → length registers ≡ 16 → ((k : ℕ) → k < 16 → get_or registers k None ≡ None) → IsTable lines [] (record { cfa = None; ra = None; registers = registers })
unfolding rule_for
no_table lines registers many none = record { cfa = refl; ra = refl; many = many; registers = λ k l. ap (words_in lines) (none k l) }

pub put_cfa : (lines : List SymLine) (rules : List RuleText) (rule : RuleText) (place : RulePlace) (table : RuleTable) → rule.target ≡ target.Cfa → words_at lines place ≡ Some rule.tokens → IsTable lines rules table
    → IsTable lines (rules ++ rule ∷ []) (record { cfa = Some place; ra = table.ra; registers = table.registers })
put_cfa lines rules rule place table is words before = record {
  cfa = told lines rules rule place target.Cfa (ap (λ u. same_target u target.Cfa) is) words;
  ra = kept lines rules rule target.Ra table.ra (ap (λ u. same_target u target.Ra) is) before.ra;
  many = before.many;
  registers = λ k l. kept lines rules rule (target.Reg k) (get_or table.registers k None) (ap (λ u. same_target u (target.Reg k)) is) (before.registers k l);
}

pub put_ra : (lines : List SymLine) (rules : List RuleText) (rule : RuleText) (place : RulePlace) (table : RuleTable) → rule.target ≡ target.Ra → words_at lines place ≡ Some rule.tokens → IsTable lines rules table
    → IsTable lines (rules ++ rule ∷ []) (record { cfa = table.cfa; ra = Some place; registers = table.registers })
put_ra lines rules rule place table is words before = record {
  cfa = kept lines rules rule target.Cfa table.cfa (ap (λ u. same_target u target.Cfa) is) before.cfa;
  ra = told lines rules rule place target.Ra (ap (λ u. same_target u target.Ra) is) words;
  many = before.many;
  registers = λ k l. kept lines rules rule (target.Reg k) (get_or table.registers k None) (ap (λ u. same_target u (target.Reg k)) is) (before.registers k l);
}

-- A rule whose target has no place in the table.
pub put_nowhere : (lines : List SymLine) (rules : List RuleText) (rule : RuleText) (table : RuleTable) → same_target rule.target target.Cfa ≡ false → same_target rule.target target.Ra ≡ false
    → ((k : ℕ) → k < 16 → same_target rule.target (target.Reg k) ≡ false) → IsTable lines rules table → IsTable lines (rules ++ rule ∷ []) table
put_nowhere lines rules rule table cfa ra registers before = record {
  cfa = kept lines rules rule target.Cfa table.cfa cfa before.cfa;
  ra = kept lines rules rule target.Ra table.ra ra before.ra;
  many = before.many;
  registers = λ k l. kept lines rules rule (target.Reg k) (get_or table.registers k None) (registers k l) (before.registers k l);
}

register_at : (lines : List SymLine) (rules : List RuleText) (rule : RuleText) (place : RulePlace) (registers : List (Option RulePlace)) (register k : ℕ) → rule.target ≡ target.Reg register → words_at lines place ≡ Some rule.tokens
    → register < length registers → StandsAt lines rules (target.Reg k) (get_or registers k None) → (b : Bool) → (register == k) ≡ b → StandsAt lines (rules ++ rule ∷ []) (target.Reg k) (get_or (set registers register (Some place)) k None)
register_at lines rules rule place registers register k is words l before true e =
    let same : register ≡ k = grind (arith, nat_tests) in
    let here : get_or (set registers register (Some place)) k None ≡ Some place = ap (λ n. get_or (set registers register (Some place)) n None) (sym same) ∙ get_or-set_same registers register (Some place) None l in
    ap (words_in lines) here ∙ told lines rules rule place (target.Reg k) (ap (λ u. same_target u (target.Reg k)) is ∙ e) words
register_at lines rules rule place registers register k is words l before false e =
    let other : k ≢ register = λ same. grind (arith, nat_tests) in
    ap (words_in lines) (get_or-set_other registers register k (Some place) None other) ∙ kept lines rules rule (target.Reg k) (get_or registers k None) (ap (λ u. same_target u (target.Reg k)) is ∙ e) before

pub put_register : (lines : List SymLine) (rules : List RuleText) (rule : RuleText) (place : RulePlace) (table : RuleTable) (register : ℕ) → rule.target ≡ target.Reg register → register < 16 → words_at lines place ≡ Some rule.tokens → IsTable lines rules table
    → IsTable lines (rules ++ rule ∷ []) (record { cfa = table.cfa; ra = table.ra; registers = set table.registers register (Some place) })
put_register lines rules rule place table register is few words before = record {
  cfa = kept lines rules rule target.Cfa table.cfa (ap (λ u. same_target u target.Cfa) is) before.cfa;
  ra = kept lines rules rule target.Ra table.ra (ap (λ u. same_target u target.Ra) is) before.ra;
  many = length-set table.registers register (Some place) ∙ before.many;
  registers = λ k l. register_at lines rules rule place table.registers register k is words (omega (arith, before.many)) (before.registers k l) (register == k) refl;
}

other_register : (register k : ℕ) → 16 ≤ register → k < 16 → (register == k) ≡ false
other_register register k l m = grind (arith, nat_tests)

pub put_no_register : (lines : List SymLine) (rules : List RuleText) (rule : RuleText) (table : RuleTable) (register : ℕ) → rule.target ≡ target.Reg register → 16 ≤ register → IsTable lines rules table → IsTable lines (rules ++ rule ∷ []) table
put_no_register lines rules rule table register is many before =
    put_nowhere lines rules rule table (ap (λ u. same_target u target.Cfa) is) (ap (λ u. same_target u target.Ra) is) (λ k l. ap (λ u. same_target u (target.Reg k)) is ∙ other_register register k many l) before

pub put_name : (lines : List SymLine) (rules : List RuleText) (rule : RuleText) (table : RuleTable) (name : List ℕ) → rule.target ≡ target.Other name → IsTable lines rules table → IsTable lines (rules ++ rule ∷ []) table
put_name lines rules rule table name is before =
    put_nowhere lines rules rule table (ap (λ u. same_target u target.Cfa) is) (ap (λ u. same_target u target.Ra) is) (λ k l. ap (λ u. same_target u (target.Reg k)) is) before

-- The words of a rule of a record.
pub words_there : (lines : List SymLine) (rules : List RuleText) (line place : ℕ) (rule : RuleText) → rules_at lines line ≡ rules → slice_get rules place ≡ Some rule → words_at lines (record { line = line; rule = place }) ≡ Some rule.tokens
words_there lines rules line place rule is there = rw (is, there) refl

abbrev no_place : Option RulePlace
no_place = None

pub none_there : (n k : ℕ) → get_or (replicate n no_place) k no_place ≡ no_place
none_there zero k = refl
none_there (suc n) zero = refl
none_there (suc n) (suc k) = none_there n k

-- One more rule of a record.
pub rules_more : (lines : List SymLine) (rules before : List RuleText) (line place : ℕ) (rule : RuleText) (old new : RuleTable) → place < length rules → rule ≡ get_or rules place rule
    → ((lines : List SymLine) (some : List RuleText) → words_at lines (record { line = line; rule = place }) ≡ Some rule.tokens → IsTable lines some old → IsTable lines (some ++ rule ∷ []) new)
    → rules_at lines line ≡ rules → IsTable lines (before ++ take place rules) old → IsTable lines (before ++ take (place + 1) rules) new
rules_more lines rules before line place rule old new l e puts is table =
    let there : slice_get rules place ≡ Some rule = slice_get-get_or rules place rule l ∙ ap Some (sym e) in
    let more : before ++ take (place + 1) rules ≡ (before ++ take place rules) ++ rule ∷ [] = ap (λ rs. before ++ rs) (take_more rules place rule l ∙ ap (λ r. take place rules ++ r ∷ []) (sym e)) ∙ sym (append_assoc before (take place rules) (rule ∷ [])) in
    rw more (puts lines (before ++ take place rules) (words_there lines rules line place rule is there) table)

-- The rules of the INIT, and then those of its changes, one record after another.
pub record_there : (lines : List SymLine) (place : ℕ) (line : SymLine) → place < length lines → line ≡ get_or lines place line → slice_get lines place ≡ Some line
record_there lines place line l e = slice_get-get_or lines place line l ∙ ap Some (sym e)

abbrev Puts : ℕ → List RuleText → RuleTable → RuleTable → Type 0
Puts place rules old new = (lines : List SymLine) (before : List RuleText) → rules_at lines place ≡ rules → IsTable lines before old → IsTable lines (before ++ rules) new

pub table_start : (lines : List SymLine) (x init : ℕ) (line : SymLine) (address size : ℕ) (rules given : List RuleText) (old new : RuleTable) → init < length lines → init_place lines x ≡ Some init → line ≡ get_or lines init line → line ≡ Init address size rules → given ≡ rules
    → IsTable lines [] old → Puts init given old new → IsTableUpTo lines x (init + 1) new
table_start lines x init line address size rules given old new l first e is same none puts =
    let there : rules_at lines init ≡ rules = ap rules_or (record_there lines init line l e ∙ ap Some is) in
    record { done = rules; is = init_rules lines x init line address size rules first e is; table_is = subst (λ rs. IsTable lines rs new) same (puts lines [] (there ∙ sym same) none) }

pub change_there : (lines : List SymLine) (place start : ℕ) (line : SymLine) (rules : List RuleText) → place < length lines → line ≡ get_or lines place line → line ≡ Change start rules → drop place lines ≡ Change start rules ∷ drop (place + 1) lines
change_there lines place start line rules l e is = drop_more lines place line l ∙ ap (λ s. s ∷ drop (place + 1) lines) (sym e ∙ is)

pub table_counts : (lines : List SymLine) (x place start : ℕ) (line : SymLine) (rules given : List RuleText) (old new : RuleTable) → place < length lines → line ≡ get_or lines place line → line ≡ Change start rules → given ≡ rules → start ≤ x
    → Puts place given old new → IsTableUpTo lines x place old → IsTableUpTo lines x (place + 1) new
unfolding changes_until
table_counts lines x place start line rules given old new l e is same up puts before =
    let there : rules_at lines place ≡ rules = ap rules_or (record_there lines place line l e ∙ ap Some is) in
    record {
      done = before.done ++ rules;
      is = before.is ∙ ap (λ rest. Some (before.done ++ changes_until x rest)) (change_there lines place start line rules l e is) ∙ rw (le-leb start x up) (ap Some (sym (append_assoc before.done rules (changes_until x (drop (place + 1) lines)))));
      table_is = subst (λ rs. IsTable lines (before.done ++ rs) new) same (puts lines before.done (there ∙ sym same) before.table_is);
    }

pub table_waits : (lines : List SymLine) (x place start : ℕ) (line : SymLine) (rules : List RuleText) (table : RuleTable) → place < length lines → line ≡ get_or lines place line → line ≡ Change start rules → x < start
    → IsTableUpTo lines x place table → IsTableUpTo lines x (place + 1) table
unfolding changes_until
table_waits lines x place start line rules table l e is up before = record {
  done = before.done;
  is = before.is ∙ ap (λ rest. Some (before.done ++ changes_until x rest)) (change_there lines place start line rules l e is) ∙ rw (lt-leb start x up) refl;
  table_is = before.table_is;
}

pub no_change : (x : ℕ) (line : SymLine) (lines : List SymLine) → ((address : ℕ) (rules : List RuleText) → line ≡ Change address rules → ⊥) → changes_until x (line ∷ lines) ≡ []
unfolding changes_until
no_change x (Change address rules) lines h = absurd (h address rules refl)
no_change x _ lines h = refl

ended : (lines : List SymLine) (x place : ℕ) (table : RuleTable) → changes_until x (drop place lines) ≡ [] → IsTableUpTo lines x place table → IsTableAt lines x table
ended lines x place table none before = record { rules = before.done; is = before.is ∙ ap (λ rest. Some (before.done ++ rest)) none ∙ ap Some (append-nil before.done); table_is = before.table_is }

pub table_stops : (lines : List SymLine) (x place : ℕ) (line : SymLine) (table : RuleTable) → place < length lines → line ≡ get_or lines place line → ((address : ℕ) (rules : List RuleText) → line ≡ Change address rules → ⊥)
    → IsTableUpTo lines x place table → IsTableAt lines x table
table_stops lines x place line table l e none before =
    ended lines x place table (ap (changes_until x) (drop_more lines place line l ∙ ap (λ s. s ∷ drop (place + 1) lines) (sym e)) ∙ no_change x line (drop (place + 1) lines) none) before

pub table_ends : (lines : List SymLine) (x place : ℕ) (table : RuleTable) → length lines ≤ place → IsTableUpTo lines x place table → IsTableAt lines x table
unfolding changes_until
table_ends lines x place table l before = ended lines x place table (ap (changes_until x) (drop_all place lines l)) before
