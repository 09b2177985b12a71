-- Frame records of the rules that rows have are valid; for `rules_of_rows_fit`.
use Rattle.std.proofs.Common.{◌≡◌, ℕ, ◌^◌, ◌<◌, ◌≤◌, ◌*◌, suc, true, false, pos, negsuc, List, [], ◌∷◌, codes, length, nat_lt, nat_le, refl, arith, length-append}
use Rattle.std.specs.List.{list_all, flat_map}
use Rattle.std.proofs.lemmas.Bool.{lt-ltb, le-leb, ltb-true, leb-true}
use Rattle.std.proofs.lemmas.Slice.Eq.{bytes_eq-Decides}
use Rattle.sym_edges.specs.Abi.{register_name}
use Rattle.sym_rules.proofs.BoolLemmas.{and_true, both, not_false}
use Rattle.sym_rules.proofs.EndLemmas.{last_none}
use Rattle.sym_rules.proofs.RuleLemmas.{decimal_parts, register_parts}
use Rattle.sym_rules.proofs.LengthLemmas.{length_rule}
use Rattle.sym_rules.proofs.DigitsLemmas.{length_hex}
use Rattle.sym_rules.proofs.Computing.{sym_rules_computes}
use Rattle.sym_records.proofs.LengthLemmas.{length_init, length_change}
use Rattle.sym_rules.specs.Cuts.{last_is}
use Rattle.sym_rules.specs.Rules.{target_name, token_word, spelled_token, spelled_rule, spelled_rules}
use Rattle.sym_rules.specs.RuleValidity.{is_target, is_token, is_rule, ends_in_cr, end_in_cr, are_rules, is_plain_target}
use Rattle.sym_rules.specs.declared.rules.Target.{Target}
use Rattle.sym_rules.specs.declared.rules.Target.TheVariants as target
use Rattle.sym_rules.specs.declared.rules.Token.{Token}
use Rattle.sym_rules.specs.declared.rules.Token.TheVariants as token
use Rattle.sym_rules.specs.declared.rules.RuleText.{RuleText}
use Rattle.sym_records.specs.Canon.{body}
use Rattle.sym_records.specs.Validity.{has_fields, fields_fit}
use Rattle.sym_records.specs.declared.line.SymLine.{SymLine}
use Rattle.sym_records.specs.declared.line.SymLine.TheVariants.{Init, Change}
use Rattle.expr_postfix.specs.ExprTokens.{is_expr_word}
use Rattle.rule_postfix.specs.LongRules.{is_long_rule}

-- A word of an expression is short, can be spelled, and does not end in CR.
record GoodWord (t : Token) : Type 0 where
  short : length (token_word t) ≤ 20
  is : is_token t ≡ true
  ends : ends_in_cr t ≡ false

rip_good : GoodWord (token.Other (codes "$rip"))
unfolding sym_rules_computes
rip_good = record { short = omega arith; is = refl; ends = refl }

good_word : (t : Token) → is_expr_word t ≡ true → GoodWord t
good_word (token.Number (pos n)) fits = record { short = (let few = (decimal_parts n (let small = ltb-true n (2 ^ 63) fits in omega arith)).few in omega arith); is = fits; ends = refl }
good_word (token.Number (negsuc n)) fits = record { short = (let few = (decimal_parts (suc n) (let small = ltb-true n (2 ^ 63) fits in omega arith)).few in omega arith); is = fits; ends = refl }
good_word (token.Reg number) fits = record { short = (let short = leb-true (length (register_name number)) 4 (register_parts number (ltb-true number 16 fits)).short in omega arith); is = fits; ends = refl }
good_word (token.Other name) fits = let P : List ℕ → Type 0 = λ n. GoodWord (token.Other n) in rip_by name ((bytes_eq-Decides name (codes "$rip")).0 fits)
  where
    rip_by : (n : List ℕ) → n ≡ codes "$rip" → GoodWord (token.Other n)
    rip_by n same = rw same rip_good
good_word token.Cfa fits = record { short = omega arith; is = refl; ends = refl }
good_word token.Undef fits = record { short = omega arith; is = refl; ends = refl }
good_word token.Add fits = record { short = omega arith; is = refl; ends = refl }
good_word token.Sub fits = record { short = omega arith; is = refl; ends = refl }
good_word token.Mul fits = record { short = omega arith; is = refl; ends = refl }
good_word token.Div fits = record { short = omega arith; is = refl; ends = refl }
good_word token.Rem fits = record { short = omega arith; is = refl; ends = refl }
good_word token.Align fits = record { short = omega arith; is = refl; ends = refl }
good_word token.Fetch fits = record { short = omega arith; is = refl; ends = refl }

target_short : (t : Target) → is_plain_target t ≡ true → length (target_name t) ≤ 4
target_short target.Cfa is = omega arith
target_short target.Ra is = omega arith
target_short (target.Reg number) is = leb-true (length (register_name number)) 4 (register_parts number (ltb-true number 16 is)).short
target_short (target.Other name) is = cc

plain_target : (t : Target) → is_plain_target t ≡ true → is_target t ≡ true
plain_target target.Cfa is = refl
plain_target target.Ra is = refl
plain_target (target.Reg number) is = is
plain_target (target.Other name) is = cc

tokens_short : (ts : List Token) → list_all is_expr_word ts ≡ true → length (flat_map spelled_token ts) ≤ 21 * length ts
tokens_short [] all = omega arith
tokens_short (t ∷ ts) all = omega (arith, length-append (spelled_token t) (flat_map spelled_token ts), (good_word t (and_true all).0).short, tokens_short ts (and_true all).1)

tokens_are : (ts : List Token) → list_all is_expr_word ts ≡ true → list_all is_token ts ≡ true
tokens_are [] all = refl
tokens_are (t ∷ ts) all = both (good_word t (and_true all).0).is (tokens_are ts (and_true all).1)

rule_short : (r : RuleText) → is_long_rule r ≡ true → length (spelled_rule r) ≤ 21531
unfolding is_long_rule
rule_short r is =
    let later = and_true {a = is_plain_target r.target} is in
    let last = and_true {a = nat_lt 0 (length r.tokens)} later.1 in
    let few : length r.tokens ≤ 1025 = leb-true (length r.tokens) 1025 (and_true {a = nat_le (length r.tokens) 1025} last.1).0 in
    omega (arith, length_rule r, target_short r.target later.0, tokens_short r.tokens (and_true {a = nat_le (length r.tokens) 1025} last.1).1, few)

rules_short : (rules : List RuleText) → list_all is_long_rule rules ≡ true → length (spelled_rules rules) ≤ 21531 * length rules
unfolding spelled_rules
rules_short [] all = omega arith
rules_short (r ∷ rules) all = omega (arith, length-append (spelled_rule r) (flat_map spelled_rule rules), rule_short r (and_true all).0, rules_short rules (and_true all).1)

rule_is : (r : RuleText) → is_long_rule r ≡ true → is_rule r ≡ true
unfolding is_long_rule is_rule
rule_is r is =
    let later = and_true {a = is_plain_target r.target} is in
    let last = and_true {a = nat_lt 0 (length r.tokens)} later.1 in
    both (both (plain_target r.target later.0) last.0) (tokens_are r.tokens (and_true {a = nat_le (length r.tokens) 1025} last.1).1)

rule_end : (r : RuleText) → is_long_rule r ≡ true → last_is ends_in_cr r.tokens ≡ false
unfolding is_long_rule
rule_end r is =
    last_none ends_in_cr is_expr_word (λ t word. (good_word t word).ends) r.tokens
    (and_true {a = nat_le (length r.tokens) 1025} (and_true {a = nat_lt 0 (length r.tokens)} (and_true {a = is_plain_target r.target} is).1).1).1

all_rules : (rules : List RuleText) → list_all is_long_rule rules ≡ true → list_all is_rule rules ≡ true
all_rules [] all = refl
all_rules (r ∷ rules) all = both (rule_is r (and_true all).0) (all_rules rules (and_true all).1)

rules_are : (rules : List RuleText) → list_all is_long_rule rules ≡ true → 0 < length rules → are_rules rules ≡ true
unfolding are_rules end_in_cr
rules_are rules all some =
    both (both (lt-ltb 0 (length rules) some) (all_rules rules all)) (not_false (last_none (λ rule. last_is ends_in_cr rule.tokens) is_long_rule rule_end rules all))

-- A record is valid if its fields fit and its line is short.
fits_both : (s : SymLine) → has_fields s ≡ true → length (body s) ≤ 2 ^ 20 → fields_fit s ≡ true
unfolding fields_fit
fits_both s fits short = both fits (le-leb (length (body s)) (2 ^ 20) short)

small : (n : ℕ) → n < 2 ^ 64 → nat_lt n (2 ^ 64) ≡ true
small n is = lt-ltb n (2 ^ 64) is

pub init_fits : (address size : ℕ) (rules : List RuleText) → address < 2 ^ 64 → size < 2 ^ 64 → list_all is_long_rule rules ≡ true → 0 < length rules → length rules ≤ 18 → fields_fit (Init address size rules) ≡ true
init_fits address size rules first second all some few =
    fits_both (Init address size rules) (both (small address first) (both (small size second) (rules_are rules all some)))
    (omega (arith, length_init address size rules, length_hex address first, length_hex size second, rules_short rules all))

pub change_fits : (address : ℕ) (rules : List RuleText) → address < 2 ^ 64 → list_all is_long_rule rules ≡ true → 0 < length rules → length rules ≤ 18 → fields_fit (Change address rules) ≡ true
change_fits address rules first all some few =
    fits_both (Change address rules) (both (small address first) (rules_are rules all some)) (omega (arith, length_change address rules, length_hex address first, rules_short rules all))
