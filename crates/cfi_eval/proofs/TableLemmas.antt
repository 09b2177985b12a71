-- Tables of rules by target.
use Rattle.std.proofs.Common.{◌≡◌, ◌+◌, ◌<◌, ◌≤◌, ◌==◌, ◌++◌, nat_lt, ℕ, zero, suc, Bool, cond, true, false, List, [], ◌∷◌, length, get_or, set, take, drop, replicate, Option, None, Some, refl, sym, ap, subst, ◌∙◌, arith}
use Rattle.std.proofs.lemmas.Bool.Decides.{nat_tests}
use Rattle.std.proofs.lemmas.List.{take_more, take_all}
use Rattle.std.proofs.lemmas.Option.{slice_get-get_or}
use Rattle.std.specs.Borrow.{Bor}
use Rattle.std.specs.List.{slice_get}
use Rattle.std.specs.Option.{option_or, option_copied, option_and_then, IfSome}
use Rattle.sym_records.specs.declared.line.SymLine.{SymLine}
use Rattle.sym_records.specs.declared.line.SymLine.TheVariants.{Change}
use Rattle.sym_rules.specs.declared.rules.Target.{Target}
use Rattle.sym_rules.specs.declared.rules.Target.TheVariants.{Cfa, Ra, Reg, Other}
use Rattle.sym_rules.specs.declared.rules.Token.{Token}
use Rattle.sym_rules.specs.declared.rules.RuleText.{RuleText}
use Rattle.cfi_eval.specs.TextRules.{rule_for, same_target, changes_until}
use Rattle.cfi_eval.specs.internal.Tables.{target_place, rule_in, words_at, IsTable}
use Rattle.cfi_eval.proofs.OptionLemmas.{or_none, or_assoc}
use Rattle.cfi_eval.proofs.RuleLemmas.{rule_push, IsNoChange, changes_start, changes_stop, changes_end, change_counts, change_waits}

abbrev pub Table : Type 0
Table = List (Option (Bor (List Token)))

abbrev pub Find : Type 0
Find = Target → Option (List Token)

-- A table is one for any function with the same values.
pub table_same : (find other : Find) (table : Table) → ((t : Target) → find t ≡ other t) → IsTable find table → IsTable other table
table_same find other table same h = λ t. go t (target_place t) (h t)
  where
    go : (t : Target) (place : Option ℕ) → IfSome place (λ p. words_at table p ≡ find t) → IfSome place (λ p. words_at table p ≡ other t)
    go t None is = tt
    go t (Some p) is = is ∙ same t

none_there : (n p : ℕ) → words_at (replicate n None) p ≡ None
none_there zero p = refl
none_there (suc n) zero = refl
none_there (suc n) (suc p) = none_there n p

pub table_none : (n : ℕ) → IsTable (λ t. None) (replicate n None)
table_none n = λ t. go (target_place t)
  where
    go : (place : Option ℕ) → IfSome place (λ p. words_at (replicate n None) p ≡ None)
    go None = tt
    go (Some p) = none_there n p

-- Equal targets have the same place, and different targets different places.
register_place : (a b : ℕ) → (a == b) ≡ true → target_place (Reg b) ≡ target_place (Reg a)
register_place a b h = let same : b ≡ a = grind (arith, nat_tests) in ap (λ n. target_place (Reg n)) same

pub place_same : (a t : Target) → same_target a t ≡ true → target_place t ≡ target_place a
place_same Cfa Cfa h = refl
place_same Ra Ra h = refl
place_same (Reg a) (Reg b) h = register_place a b h
place_same (Other a) (Other b) h = refl
place_same _ _ h = cc

register_at : (a p : ℕ) → target_place (Reg a) ≡ Some p → (a ≡ p) × (a < 16)
register_at a p h = go (nat_lt a 16) refl h
  where
    go : (b : Bool) → nat_lt a 16 ≡ b → cond b (Some a) None ≡ Some p → (a ≡ p) × (a < 16)
    go true is h = (cc, grind (arith, nat_tests))
    go false is h = cc

some_at : (n p : ℕ) → Some n ≡ Some p → n ≡ p
some_at n p h = cc

-- One more rule in a table.
words_set : (table : Table) (p : ℕ) (words : Option (Bor (List Token))) → p < length table → words_at (set table p words) p ≡ option_copied words
words_set [] p words l = absurd (omega arith)
words_set (w ∷ table) zero words l = refl
words_set (w ∷ table) (suc p) words l = words_set table p words (omega arith)

words_kept : (table : Table) (p q : ℕ) (words : Option (Bor (List Token))) → (p ≡ q → ⊥) → words_at (set table p words) q ≡ words_at table q
words_kept [] p q words d = refl
words_kept (w ∷ table) zero zero words d = absurd (d refl)
words_kept (w ∷ table) zero (suc q) words d = refl
words_kept (w ∷ table) (suc p) zero words d = refl
words_kept (w ∷ table) (suc p) (suc q) words d = words_kept table p q words (λ e. d (ap suc e))

-- The invariant of `put_rules`: the rules that are left override those in the table.
abbrev pub Puts : List RuleText → Table → Table → Type 0
Puts rules old new = (find : Find) → IsTable find old → IsTable (λ t. option_or (rule_for t rules) (find t)) new

pub puts_none : (table : Table) (rules : List RuleText) → Puts (take 0 rules) table table
unfolding rule_for
puts_none table rules = λ find h. h

pub puts_more : (rules : List RuleText) (i : ℕ) (rule : RuleText) (old table next : Table) → i < length rules → rule ≡ get_or rules i rule → Puts (take i rules) old table
    → ((find : Find) → IsTable find table → IsTable (λ t. option_or (rule_in t rule) (find t)) next) → Puts (take (i + 1) rules) old next
puts_more rules i rule old table next l is before put = λ find h.
    table_same _ _ next
    (λ t. sym (or_assoc (rule_in t rule) (rule_for t (take i rules)) (find t)) ∙ ap (λ o. option_or o (find t)) (sym (rule_push t (take i rules) rule) ∙ ap (rule_for t) (sym (take_more rules i rule l ∙ ap (λ r. take i rules ++ r ∷ []) (sym is)))))
    (put (λ t. option_or (rule_for t (take i rules)) (find t)) (before find h))

pub puts_all : (rules : List RuleText) (i : ℕ) (old table : Table) → length rules ≤ i → Puts (take i rules) old table → Puts rules old table
puts_all rules i old table l h = subst (λ r. Puts r old table) (take_all i rules l) h

-- The words that a table has for each target.
abbrev pub held : Table → Find
held table t = option_and_then (words_at table) (target_place t)

is_held : (table : Table) → IsTable (held table) table
is_held table = λ t. go (target_place t)
  where
    go : (place : Option ℕ) → IfSome place (λ p. words_at table p ≡ option_and_then (words_at table) place)
    go None = tt
    go (Some p) = refl

-- The invariant of `table_at`: the rules of the records that are left override those in the table.
abbrev pub Leads : List RuleText → ℕ → List SymLine → ℕ → Table → Type 0
Leads first x behind i table = (t : Target) → IfSome (target_place t) (λ p. rule_for t (first ++ changes_until x behind) ≡ option_or (rule_for t (changes_until x (drop i behind))) (words_at table p))

pub leads_start : (first : List RuleText) (x : ℕ) (behind : List SymLine) (n : ℕ) (table : Table) → Puts first (replicate n None) table → Leads first x behind 0 table
leads_start first x behind n table puts = λ t. go t (target_place t) (puts (λ t. None) (table_none n) t)
  where
    go : (t : Target) (place : Option ℕ) → IfSome place (λ p. words_at table p ≡ option_or (rule_for t first) None)
        → IfSome place (λ p. rule_for t (first ++ changes_until x behind) ≡ option_or (rule_for t (changes_until x behind)) (words_at table p))
    go t None is = tt
    go t (Some p) is = changes_start t x first behind (words_at table p) (is ∙ or_none (rule_for t first))

pub leads_stop : (first : List RuleText) (x : ℕ) (behind : List SymLine) (i : ℕ) (line : SymLine) (table : Table) → i < length behind → line ≡ get_or behind i line → IsNoChange line → Leads first x behind i table
    → IsTable (λ t. rule_for t (first ++ changes_until x behind)) table
leads_stop first x behind i line table l is h leads = λ t. go t (target_place t) (leads t)
  where
    go : (t : Target) (place : Option ℕ) → IfSome place (λ p. rule_for t (first ++ changes_until x behind) ≡ option_or (rule_for t (changes_until x (drop i behind))) (words_at table p))
        → IfSome place (λ p. words_at table p ≡ rule_for t (first ++ changes_until x behind))
    go t None at = tt
    go t (Some p) at = sym (at ∙ changes_stop t x behind i line (words_at table p) l is h)

pub leads_end : (first : List RuleText) (x : ℕ) (behind : List SymLine) (i : ℕ) (table : Table) → length behind ≤ i → Leads first x behind i table → IsTable (λ t. rule_for t (first ++ changes_until x behind)) table
leads_end first x behind i table l leads = λ t. go t (target_place t) (leads t)
  where
    go : (t : Target) (place : Option ℕ) → IfSome place (λ p. rule_for t (first ++ changes_until x behind) ≡ option_or (rule_for t (changes_until x (drop i behind))) (words_at table p))
        → IfSome place (λ p. words_at table p ≡ rule_for t (first ++ changes_until x behind))
    go t None at = tt
    go t (Some p) at = sym (at ∙ changes_end t x behind i (words_at table p) l)

pub leads_counts : (first : List RuleText) (x : ℕ) (behind : List SymLine) (i : ℕ) (line : SymLine) (start : ℕ) (rules : List RuleText) (table next : Table) → i < length behind → line ≡ get_or behind i line → line ≡ Change start rules → start ≤ x
    → Puts rules table next → Leads first x behind i table → Leads first x behind (i + 1) next
leads_counts first x behind i line start rules table next l is c h puts leads = λ t. go t (target_place t) refl (puts (held table) (is_held table) t) (leads t)
  where
    go : (t : Target) (place : Option ℕ) → target_place t ≡ place → IfSome place (λ p. words_at next p ≡ option_or (rule_for t rules) (option_and_then (words_at table) (target_place t)))
        → IfSome place (λ p. rule_for t (first ++ changes_until x behind) ≡ option_or (rule_for t (changes_until x (drop i behind))) (words_at table p))
        → IfSome place (λ p. rule_for t (first ++ changes_until x behind) ≡ option_or (rule_for t (changes_until x (drop (i + 1) behind))) (words_at next p))
    go t None k put at = tt
    go t (Some p) k put at =
        at
        ∙ change_counts t x behind i line start rules (words_at table p) l is c h
        ∙ ap (option_or (rule_for t (changes_until x (drop (i + 1) behind)))) (sym (put ∙ ap (λ o. option_or (rule_for t rules) (option_and_then (words_at table) o)) k))

pub leads_waits : (first : List RuleText) (x : ℕ) (behind : List SymLine) (i : ℕ) (line : SymLine) (start : ℕ) (rules : List RuleText) (table : Table) → i < length behind → line ≡ get_or behind i line → line ≡ Change start rules → x < start
    → Leads first x behind i table → Leads first x behind (i + 1) table
leads_waits first x behind i line start rules table l is c h leads = λ t. go t (target_place t) (leads t)
  where
    go : (t : Target) (place : Option ℕ) → IfSome place (λ p. rule_for t (first ++ changes_until x behind) ≡ option_or (rule_for t (changes_until x (drop i behind))) (words_at table p))
        → IfSome place (λ p. rule_for t (first ++ changes_until x behind) ≡ option_or (rule_for t (changes_until x (drop (i + 1) behind))) (words_at table p))
    go t None at = tt
    go t (Some p) at = at ∙ change_waits t x behind i line start rules (words_at table p) l is c h

-- The words at the place of a target.
pub table_at : (find : Find) (table : Table) (t : Target) (p : ℕ) (words : Option (Bor (List Token))) → IsTable find table → Some p ≡ target_place t → p < length table → words ≡ get_or table p words → option_copied words ≡ find t
table_at find table t p words h at l is =
    let there : slice_get table p ≡ Some words = slice_get-get_or table p words l ∙ ap Some (sym is) in
    sym (ap (option_and_then option_copied) there) ∙ subst (λ o. IfSome o (λ q. words_at table q ≡ find t)) (sym at) (h t)
