-- Frame rules without `Other` names can be spelled, and are short (for `sym_records`).
use Rattle.std.proofs.Common.{◌≡◌, ◌^◌, ◌<◌, ◌≤◌, suc, true, false, pos, negsuc, List, [], ◌∷◌, length, nat_lt, refl, arith, length-append, ◌*◌}
use Rattle.std.specs.List.{list_all, flat_map}
use Rattle.std.proofs.lemmas.Bool.{lt-ltb, ltb-true, leb-true}
use Rattle.sym_rules.proofs.BoolLemmas.{and_true, both, not_false}
use Rattle.sym_rules.proofs.EndLemmas.{last_none}
use Rattle.sym_rules.proofs.RuleLemmas.{decimal_parts, register_parts}
use Rattle.sym_rules.proofs.LengthLemmas.{length_rule}
use Rattle.sym_rules.specs.Cuts.{last_is}
use Rattle.sym_edges.specs.Abi.{register_name}
use Rattle.sym_rules.specs.Rules.{target_name, token_word, spelled_token, spelled_rule, spelled_rules}
use Rattle.sym_rules.specs.RuleValidity.{is_target, is_token, is_rule, ends_in_cr, end_in_cr, are_rules, is_plain_target, is_plain_token, is_plain_rule}
use Rattle.sym_rules.specs.declared.rules.Target.{Target}
use Rattle.sym_rules.specs.declared.rules.Target.TheVariants as target
use Rattle.sym_rules.specs.declared.rules.Token.{Token}
use Rattle.sym_rules.specs.declared.rules.Token.TheVariants as token
use Rattle.sym_rules.specs.declared.rules.RuleText.{RuleText}

token_short : (t : Token) → is_plain_token t ≡ true → length (token_word t) ≤ 20
token_short (token.Number (pos n)) is = let parts = decimal_parts n (let small = ltb-true n (2 ^ 63) is in omega arith) in let few = parts.few in omega arith
token_short (token.Number (negsuc n)) is = let parts = decimal_parts (suc n) (let small = ltb-true n (2 ^ 63) is in omega arith) in let few = parts.few in omega arith
token_short (token.Reg number) is = let short = leb-true (length (register_name number)) 4 (register_parts number (ltb-true number 16 is)).short in omega arith
token_short (token.Other name) is = cc
token_short token.Cfa is = omega arith
token_short token.Undef is = omega arith
token_short token.Add is = omega arith
token_short token.Sub is = omega arith
token_short token.Mul is = omega arith
token_short token.Div is = omega arith
token_short token.Rem is = omega arith
token_short token.Align is = omega arith
token_short token.Fetch is = omega arith

target_short : (t : Target) → is_plain_target t ≡ true → length (target_name t) ≤ 4
target_short target.Cfa is = omega arith
target_short target.Ra is = omega arith
target_short (target.Reg number) is = leb-true (length (register_name number)) 4 (register_parts number (ltb-true number 16 is)).short
target_short (target.Other name) is = cc

tokens_short : (ts : List Token) → list_all is_plain_token ts ≡ true → length (flat_map spelled_token ts) ≤ 21 * length ts
tokens_short [] all = omega arith
tokens_short (t ∷ ts) all = omega (arith, length-append (spelled_token t) (flat_map spelled_token ts), token_short t (and_true all).0, tokens_short ts (and_true all).1)

rule_short : (r : RuleText) → is_plain_rule r ≡ true → length (spelled_rule r) ≤ 90
unfolding is_plain_rule
rule_short r is =
    let few : length r.tokens ≤ 4 = leb-true (length r.tokens) 4 (and_true (and_true is).0).1 in
    omega (arith, length_rule r, target_short r.target (and_true (and_true (and_true is).0).0).0, tokens_short r.tokens (and_true is).1, few)

pub rules_short : (rules : List RuleText) → list_all is_plain_rule rules ≡ true → length (spelled_rules rules) ≤ 90 * length rules
unfolding spelled_rules
rules_short [] all = omega arith
rules_short (r ∷ rules) all = omega (arith, length-append (spelled_rule r) (flat_map spelled_rule rules), rule_short r (and_true all).0, rules_short rules (and_true all).1)

plain_token : (t : Token) → is_plain_token t ≡ true → (is_token t ≡ true) × (ends_in_cr t ≡ false)
plain_token (token.Number n) is = (is, refl)
plain_token (token.Reg number) is = (is, refl)
plain_token (token.Other name) is = cc
plain_token token.Cfa is = (refl, refl)
plain_token token.Undef is = (refl, refl)
plain_token token.Add is = (refl, refl)
plain_token token.Sub is = (refl, refl)
plain_token token.Mul is = (refl, refl)
plain_token token.Div is = (refl, refl)
plain_token token.Rem is = (refl, refl)
plain_token token.Align is = (refl, refl)
plain_token token.Fetch is = (refl, refl)

plain_target : (t : Target) → is_plain_target t ≡ true → is_target t ≡ true
plain_target target.Cfa is = refl
plain_target target.Ra is = refl
plain_target (target.Reg number) is = is
plain_target (target.Other name) is = cc

plain_tokens : (ts : List Token) → list_all is_plain_token ts ≡ true → list_all is_token ts ≡ true
plain_tokens [] all = refl
plain_tokens (t ∷ ts) all = both (plain_token t (and_true all).0).0 (plain_tokens ts (and_true all).1)

plain_rule : (r : RuleText) → is_plain_rule r ≡ true → is_rule r ≡ true
unfolding is_plain_rule is_rule
plain_rule r is = both (both (plain_target r.target (and_true (and_true (and_true is).0).0).0) (and_true (and_true (and_true is).0).0).1) (plain_tokens r.tokens (and_true is).1)

plain_end : (r : RuleText) → is_plain_rule r ≡ true → last_is ends_in_cr r.tokens ≡ false
unfolding is_plain_rule
plain_end r is = last_none ends_in_cr is_plain_token (λ t plain. (plain_token t plain).1) r.tokens (and_true is).1

plain_rules : (rules : List RuleText) → list_all is_plain_rule rules ≡ true → list_all is_rule rules ≡ true
plain_rules [] all = refl
plain_rules (r ∷ rules) all = both (plain_rule r (and_true all).0) (plain_rules rules (and_true all).1)

some_rules : (rules : List RuleText) → 0 < length rules → nat_lt 0 (length rules) ≡ true
some_rules rules some = lt-ltb 0 (length rules) some

pub rules_are : (rules : List RuleText) → list_all is_plain_rule rules ≡ true → 0 < length rules → are_rules rules ≡ true
unfolding are_rules end_in_cr
rules_are rules all some =
    both (both (some_rules rules some) (plain_rules rules all)) (not_false (last_none (λ rule. last_is ends_in_cr rule.tokens) is_plain_rule plain_end rules all))
