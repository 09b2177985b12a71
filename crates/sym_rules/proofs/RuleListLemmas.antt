-- Frame rules are read from the words that spell them (for `sym_records`).
use Rattle.std.proofs.Common.{◌≡◌, ℕ, ◌<◌, ◌==◌, ◌||◌, Bool, true, false, List, [], ◌∷◌, ◌++◌, length, map, Ok, nat_lt, refl, sym, ◌∙◌, ap, arith, append-nil}
use Rattle.std.specs.List.{list_all, flat_map}
use Rattle.std.proofs.lemmas.List.Folds.{list_all-append}
use Rattle.std.proofs.lemmas.Bool.Decides.{nat_tests}
use Rattle.sym_rules.proofs.BoolLemmas.{and_true, both, not_true, elim_bool}
use Rattle.sym_rules.proofs.EndLemmas.{end_behind, last_later, last_one, last_nothing}
use Rattle.sym_rules.proofs.WordLemmas.{parted, is_word, goes_on, words_are, Begun, groups_first, each_are}
use Rattle.sym_rules.proofs.RuleLemmas.{target_reads, target_ends, target_is_word, token_parts}
use Rattle.sym_rules.specs.Cuts.{is_cr, is_margin, last_is}
use Rattle.sym_rules.specs.Rules.{target_word, token_word, rule_words}
use Rattle.sym_rules.specs.RuleReading.{groups, some_of, token_at, rule_at, rules_at}
use Rattle.sym_rules.specs.RuleValidity.{is_target, is_token, is_rule, ends_in_cr, end_in_cr, are_rules}
use Rattle.sym_rules.specs.declared.rules.Token.{Token}
use Rattle.sym_rules.specs.declared.rules.RuleText.{RuleText}

-- Facts about the words of a rule.
pub record RuleParts (r : RuleText) : Type 0 where
  pub target : is_target r.target ≡ true
  pub some : 0 < length r.tokens
  pub tokens : list_all is_token r.tokens ≡ true

no_more : (r : RuleText) → nat_lt 0 (length r.tokens) ≡ true → 0 < length r.tokens
no_more r is = grind (arith, nat_tests)

pub rule_parts : (r : RuleText) → is_rule r ≡ true → RuleParts r
unfolding is_rule
rule_parts r is = record { target = (and_true (and_true is).0).0; some = no_more r (and_true (and_true is).0).1; tokens = (and_true is).1 }

some_given : (given : List (List ℕ)) → 0 < length given → some_of given ≡ Ok given
some_given [] some = absurd (omega arith)
some_given (w ∷ given) some = refl

some_words : (ts : List Token) → 0 < length ts → 0 < length (map token_word ts)
some_words [] some = absurd (omega arith)
some_words (t ∷ ts) some = omega arith

rule_reads : (r : RuleText) → is_rule r ≡ true → rule_at (rule_words r) ≡ Ok r
unfolding rule_at
rule_reads r is =
    let parts = rule_parts r is in
    rw (target_reads r.target parts.target, some_given (map token_word r.tokens) (some_words r.tokens parts.some), each_are token_at token_word is_token (λ t good. (token_parts t good).reads) r.tokens parts.tokens) refl

tokens_on : (ts : List Token) → list_all is_token ts ≡ true → list_all goes_on (map token_word ts) ≡ true
tokens_on [] all = refl
tokens_on (t ∷ ts) all = both (token_parts t (and_true all).0).on (tokens_on ts (and_true all).1)

tokens_words : (ts : List Token) → list_all is_token ts ≡ true → list_all is_word (map token_word ts) ≡ true
tokens_words [] all = refl
tokens_words (t ∷ ts) all = both (token_parts t (and_true all).0).is (tokens_words ts (and_true all).1)

begun : (rules : List RuleText) → Begun (flat_map rule_words rules)
begun [] = tt
begun (r ∷ rules) = target_ends r.target

groups_nothing : groups [] ≡ []
unfolding groups
groups_nothing = refl

-- The words of rules are grouped by rule.
groups_are : (rules : List RuleText) → list_all is_rule rules ≡ true → groups (flat_map rule_words rules) ≡ map rule_words rules
groups_are [] all = groups_nothing
groups_are (r ∷ rules) all =
    let parts = rule_parts r (and_true all).0 in
    groups_first (target_word r.target) (map token_word r.tokens) (flat_map rule_words rules) (tokens_on r.tokens parts.tokens) (begun rules)
    ∙ ap (λ l. rule_words r ∷ l) (groups_are rules (and_true all).1)

pub rules_words : (rules : List RuleText) → list_all is_rule rules ≡ true → list_all is_word (flat_map rule_words rules) ≡ true
rules_words [] all = refl
rules_words (r ∷ rules) all =
    let parts = rule_parts r (and_true all).0 in
    list_all-append is_word (rule_words r) (flat_map rule_words rules)
    ∙ both (both (target_is_word r.target parts.target) (tokens_words r.tokens parts.tokens)) (rules_words rules (and_true all).1)

-- The last word of a rule is that of its last token.
tokens_end : (ts : List Token) → list_all is_token ts ≡ true → last_is ends_in_cr ts ≡ false → last_is (last_is is_margin) (map token_word ts) ≡ false
tokens_end [] all ends = last_nothing (last_is is_margin)
tokens_end (t ∷ []) all ends =
    last_one (last_is is_margin) (token_word t) ∙ (token_parts t (and_true all).0).ends (sym (last_one ends_in_cr t) ∙ ends)
tokens_end (t ∷ u ∷ ts) all ends =
    last_later (last_is is_margin) (token_word t) (token_word u) (map token_word ts)
    ∙ tokens_end (u ∷ ts) (and_true {a = is_token t} {b = list_all is_token (u ∷ ts)} all).1 (sym (last_later ends_in_cr t u ts) ∙ ends)

rule_end : (w : List ℕ) (ts : List Token) → 0 < length ts → list_all is_token ts ≡ true → last_is ends_in_cr ts ≡ false → last_is (last_is is_margin) (w ∷ map token_word ts) ≡ false
rule_end w [] some all ends = absurd (omega arith)
rule_end w (t ∷ ts) some all ends = last_later (last_is is_margin) w (token_word t) (map token_word ts) ∙ tokens_end (t ∷ ts) all ends

abbrev cr_last : RuleText → Bool
cr_last rule = last_is ends_in_cr rule.tokens

rules_end : (rules : List RuleText) → list_all is_rule rules ≡ true → last_is cr_last rules ≡ false → last_is (last_is is_margin) (flat_map rule_words rules) ≡ false
rules_end [] all ends = last_nothing (last_is is_margin)
rules_end (r ∷ []) all ends =
    let parts = rule_parts r (and_true all).0 in
    ap (last_is (last_is is_margin)) (append-nil (rule_words r))
    ∙ rule_end (target_word r.target) r.tokens parts.some parts.tokens (sym (last_one cr_last r) ∙ ends)
rules_end (r ∷ q ∷ rules) all ends =
    end_behind (last_is is_margin) (rule_words r) (target_word q.target) (map token_word q.tokens ++ flat_map rule_words rules)
    ∙ rules_end (q ∷ rules) (and_true {a = is_rule r} {b = list_all is_rule (q ∷ rules)} all).1 (sym (last_later cr_last r q rules) ∙ ends)

word_end : (f : List ℕ) → is_word f ≡ true → last_is is_margin f ≡ false → last_is is_margin (32 ∷ f) ≡ false
word_end [] is ends = cc
word_end (x ∷ w) is ends = last_later is_margin 32 x w ∙ ends

parted_end : (fs : List (List ℕ)) → list_all is_word fs ≡ true → last_is (last_is is_margin) fs ≡ false → last_is is_margin (parted fs) ≡ false
parted_end [] all ends = last_nothing is_margin
parted_end (f ∷ []) all ends =
    ap (λ l. last_is is_margin (32 ∷ l)) (append-nil f) ∙ word_end f (and_true all).0 (sym (last_one (last_is is_margin) f) ∙ ends)
parted_end (f ∷ g ∷ fs) all ends =
    end_behind is_margin (32 ∷ f) 32 (g ++ parted fs)
    ∙ parted_end (g ∷ fs) (and_true {a = is_word f} {b = list_all is_word (g ∷ fs)} all).1 (sym (last_later (last_is is_margin) f g fs) ∙ ends)

-- Facts about the words of a record's rules.
pub record RulesParts (rules : List RuleText) : Type 0 where
  pub some : 0 < length rules
  pub all : list_all is_rule rules ≡ true
  pub words : list_all is_word (flat_map rule_words rules) ≡ true
  pub ends : last_is is_margin (parted (flat_map rule_words rules)) ≡ false

some_rules : (rules : List RuleText) → nat_lt 0 (length rules) ≡ true → 0 < length rules
some_rules [] is = cc
some_rules (r ∷ rules) is = omega arith

pub rules_parts : (rules : List RuleText) → are_rules rules ≡ true → RulesParts rules
unfolding are_rules end_in_cr
rules_parts rules good =
    let all : list_all is_rule rules ≡ true = (and_true (and_true good).0).1 in
    record {
      some = some_rules rules (and_true (and_true good).0).0;
      all = all;
      words = rules_words rules all;
      ends = parted_end (flat_map rule_words rules) (rules_words rules all) (rules_end rules all (not_true (and_true good).1));
    }

-- Rules are read from their words.
pub rules_read : (rules : List RuleText) → are_rules rules ≡ true → rules_at (parted (flat_map rule_words rules)) ≡ Ok rules
unfolding rules_at
rules_read [] good = absurd (let parts = rules_parts [] good in let some = parts.some in omega arith)
rules_read (r ∷ rules) good =
    let parts = rules_parts (r ∷ rules) good in
    rw (words_are (flat_map rule_words (r ∷ rules)) parts.words, groups_are (r ∷ rules) parts.all) (each_are rule_at rule_words is_rule rule_reads (r ∷ rules) parts.all)

margin_cr : (b : ℕ) → is_margin b ≡ false → is_cr b ≡ false
margin_cr b is = elim_bool (b == 32) (λ t. (t || (b == 13)) ≡ false → (b == 13) ≡ false) (λ _ h. cc) (λ _ h. h) is

-- Bytes that do not end in a space or CR do not end in CR.
pub cr_none : (xs : List ℕ) → last_is is_margin xs ≡ false → last_is is_cr xs ≡ false
unfolding last_is
cr_none [] ends = refl
cr_none (x ∷ []) ends = margin_cr x ends
cr_none (x ∷ y ∷ ys) ends = cr_none (y ∷ ys) ends
