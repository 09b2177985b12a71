-- The length of frame rules (for `rule_length`, `rules_length` and `tokens_length`).
use Rattle.std.proofs.Common.{◌≡◌, ℕ, ◌+◌, ◌-◌, ◌^◌, ◌<◌, ◌≤◌, min, List, [], ◌∷◌, ◌++◌, length, take, get_or, refl, ◌∙◌, ap, arith, length-append}
use Rattle.std.specs.List.{flat_map}
use Rattle.std.proofs.lemmas.List.{take_all}
use Rattle.std.proofs.lemmas.List.Concat.{flat_map-append}
use Rattle.std.proofs.lemmas.List.Folds.{flat_map-map}
use Rattle.sym_rules.proofs.BufferLemmas.{pieces_more}
use Rattle.sym_rules.proofs.WordLemmas.{parted}
use Rattle.sym_rules.specs.Rules.{target_name, target_word, token_word, rule_words, spelled_token, spelled_rule, spelled_rules}
use Rattle.sym_rules.specs.declared.rules.RuleText.{RuleText}

rule_spelled : (r : RuleText) → parted (rule_words r) ≡ spelled_rule r
unfolding spelled_rule
rule_spelled r = ap (λ l. 32 ∷ (target_word r.target ++ l)) (flat_map-map (λ f. 32 ∷ f) token_word r.tokens)

-- The words of rules, with one space before each, are the spelling of the rules.
pub rules_spelled : (rules : List RuleText) → parted (flat_map rule_words rules) ≡ spelled_rules rules
unfolding spelled_rules
rules_spelled [] = refl
rules_spelled (r ∷ rules) =
    flat_map-append (λ f. 32 ∷ f) (rule_words r) (flat_map rule_words rules) ∙ ap (λ l. l ++ parted (flat_map rule_words rules)) (rule_spelled r)
    ∙ ap (λ l. spelled_rule r ++ l) (rules_spelled rules)

-- The length with one more piece, at most 2^64 - 1.
pub pieces_length : {X : Type 0} (f : X → List ℕ) (xs : List X) (i : ℕ) (d : X) (total piece : ℕ) → i < length xs → d ≡ get_or xs i d → total ≡ min (length (flat_map f (take i xs))) (2 ^ 64 - 1) → piece ≡ min (length (f d)) (2 ^ 64 - 1) → min (total + piece) (2 ^ 64 - 1) ≡ min (length (flat_map f (take (i + 1) xs))) (2 ^ 64 - 1)
pieces_length f xs i d total piece within is first second =
    let more : length (flat_map f (take (i + 1) xs)) ≡ length (flat_map f (take i xs)) + length (f d) = ap length (pieces_more f xs i d within is) ∙ length-append (flat_map f (take i xs)) (f d) in
    omega (arith, more, first, second)

pub pieces_whole : {X : Type 0} (f : X → List ℕ) (xs : List X) (i total : ℕ) → length xs ≤ i → total ≡ min (length (flat_map f (take i xs))) (2 ^ 64 - 1) → total ≡ min (length (flat_map f xs)) (2 ^ 64 - 1)
pieces_whole f xs i total past is = is ∙ ap (λ l. min (length (flat_map f l)) (2 ^ 64 - 1)) (take_all i xs past)

pub length_rule : (r : RuleText) → length (spelled_rule r) ≡ length (target_name r.target) + 2 + length (flat_map spelled_token r.tokens)
unfolding spelled_rule
length_rule r = omega (arith, length-append (32 ∷ target_word r.target) (flat_map spelled_token r.tokens), length-append (target_name r.target) (58 ∷ []))

pub rule_length : (r : RuleText) (name rest : ℕ) → name ≡ min (length (target_name r.target) + 2) (2 ^ 64 - 1) → rest ≡ min (length (flat_map spelled_token r.tokens)) (2 ^ 64 - 1) → min (name + rest) (2 ^ 64 - 1) ≡ min (length (spelled_rule r)) (2 ^ 64 - 1)
rule_length r name rest first second = omega (arith, length_rule r, first, second)
