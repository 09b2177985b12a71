-- The last rule for a target.
use Rattle.std.proofs.Common.{◌≡◌, ◌+◌, ◌<◌, ◌≤◌, ℕ, List, [], ◌∷◌, ◌++◌, length, get_or, drop, Option, refl, sym, ap, ◌∙◌}
use Rattle.std.proofs.lemmas.Bool.{le-leb, lt-leb}
use Rattle.std.proofs.lemmas.List.{drop_more, drop_all}
use Rattle.std.specs.Option.{option_or}
use Rattle.sym_records.specs.declared.line.SymLine.{SymLine}
use Rattle.sym_records.specs.declared.line.SymLine.TheVariants.{Change}
use Rattle.sym_rules.specs.declared.rules.Target.{Target}
use Rattle.sym_rules.specs.declared.rules.Token.{Token}
use Rattle.sym_rules.specs.declared.rules.RuleText.{RuleText}
use Rattle.cfi_eval.specs.TextRules.{rule_for, changes_until}
use Rattle.cfi_eval.specs.internal.Tables.{rule_in}
use Rattle.cfi_eval.proofs.OptionLemmas.{or_none, or_assoc}

-- Later rules override earlier ones.
pub rule_append : (t : Target) (xs ys : List RuleText) → rule_for t (xs ++ ys) ≡ option_or (rule_for t ys) (rule_for t xs)
unfolding rule_for
rule_append t [] ys = sym (or_none (rule_for t ys))
rule_append t (x ∷ xs) ys = ap (λ o. option_or o (rule_in t x)) (rule_append t xs ys) ∙ or_assoc (rule_for t ys) (rule_for t xs) (rule_in t x)

pub rule_push : (t : Target) (xs : List RuleText) (x : RuleText) → rule_for t (xs ++ x ∷ []) ≡ option_or (rule_in t x) (rule_for t xs)
unfolding rule_for
rule_push t xs x = rule_append t xs (x ∷ [])

-- The records after an INIT, one after another.
pub changes_start : (t : Target) (x : ℕ) (first : List RuleText) (behind : List SymLine) (found : Option (List Token)) → found ≡ rule_for t first
    → rule_for t (first ++ changes_until x behind) ≡ option_or (rule_for t (changes_until x behind)) found
changes_start t x first behind found e = rw e (rule_append t first (changes_until x behind))

-- The record is not a change.
abbrev pub IsNoChange : SymLine → Type 0
IsNoChange line = (address : ℕ) (rules : List RuleText) → line ≡ Change address rules → ⊥

no_changes : (x : ℕ) (line : SymLine) (lines : List SymLine) → IsNoChange line → changes_until x (line ∷ lines) ≡ []
unfolding changes_until
no_changes x (Change address rules) lines h = absurd (h address rules refl)
no_changes x _ lines h = refl

pub changes_stop : (t : Target) (x : ℕ) (behind : List SymLine) (i : ℕ) (line : SymLine) (found : Option (List Token)) → i < length behind → line ≡ get_or behind i line → IsNoChange line
    → option_or (rule_for t (changes_until x (drop i behind))) found ≡ found
unfolding rule_for
changes_stop t x behind i line found l e h =
    let now : drop i behind ≡ line ∷ drop (i + 1) behind = drop_more behind i line l ∙ ap (λ s. s ∷ drop (i + 1) behind) (sym e) in
    rw (now, no_changes x line (drop (i + 1) behind) h) refl

pub changes_end : (t : Target) (x : ℕ) (behind : List SymLine) (i : ℕ) (found : Option (List Token)) → length behind ≤ i → option_or (rule_for t (changes_until x (drop i behind))) found ≡ found
unfolding rule_for changes_until
changes_end t x behind i found h = rw (drop_all i behind h) refl

-- A change at or below the address.
pub change_counts : (t : Target) (x : ℕ) (behind : List SymLine) (i : ℕ) (line : SymLine) (start : ℕ) (rules : List RuleText) (found : Option (List Token)) → i < length behind → line ≡ get_or behind i line
    → line ≡ Change start rules → start ≤ x
    → option_or (rule_for t (changes_until x (drop i behind))) found ≡ option_or (rule_for t (changes_until x (drop (i + 1) behind))) (option_or (rule_for t rules) found)
unfolding changes_until
change_counts t x behind i line start rules found l e c h =
    let now : drop i behind ≡ Change start rules ∷ drop (i + 1) behind = drop_more behind i line l ∙ ap (λ s. s ∷ drop (i + 1) behind) (sym e ∙ c) in
    rw (now, le-leb start x h, rule_append t rules (changes_until x (drop (i + 1) behind))) (or_assoc (rule_for t (changes_until x (drop (i + 1) behind))) (rule_for t rules) found)

-- A change above the address.
pub change_waits : (t : Target) (x : ℕ) (behind : List SymLine) (i : ℕ) (line : SymLine) (start : ℕ) (rules : List RuleText) (found : Option (List Token)) → i < length behind → line ≡ get_or behind i line
    → line ≡ Change start rules → x < start
    → option_or (rule_for t (changes_until x (drop i behind))) found ≡ option_or (rule_for t (changes_until x (drop (i + 1) behind))) found
unfolding changes_until
change_waits t x behind i line start rules found l e c h =
    let now : drop i behind ≡ Change start rules ∷ drop (i + 1) behind = drop_more behind i line l ∙ ap (λ s. s ∷ drop (i + 1) behind) (sym e ∙ c) in
    rw (now, lt-leb start x h) refl
