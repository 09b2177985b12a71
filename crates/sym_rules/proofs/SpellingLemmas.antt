-- Frame rules that are put into a buffer (for `put_rule` and `put_target`).
use Rattle.std.proofs.Common.{◌≡◌, ℕ, List, [], ◌∷◌, ◌++◌, Option, Result, Ok, Err, subst}
use Rattle.std.specs.List.{flat_map}
use Rattle.sym_rules.proofs.BufferLemmas.{hands_both, hands_off}
use Rattle.sym_rules.specs.Buffer.{Hands}
use Rattle.sym_rules.specs.Rules.{target_name, target_word, spelled_token, spelled_rule}
use Rattle.sym_rules.specs.declared.rules.Target.{Target}
use Rattle.sym_rules.specs.declared.rules.Token.{Token}
use Rattle.sym_rules.specs.declared.rules.RuleText.{RuleText}

-- The name of a target, and `:` after it.
pub target_hands : {A F : Type 0} (t : Target) (name : List ℕ) (x : A) (end : Result A F) (a b c : Option (List ℕ)) (f g h : ℕ) (w v u : List ℕ) → name ≡ target_name t → Hands {A = A} {F = F} (Ok x) a f w (32 ∷ name) b g v → Hands end b g v (58 ∷ []) c h u → Hands end a f w (32 ∷ target_word t) c h u
target_hands t name x end a b c f g h w v u is first second =
    subst (λ (l : List ℕ). Hands end a f w (32 ∷ (l ++ 58 ∷ [])) c h u) is (hands_both x end a b c f g h w (32 ∷ name) v (58 ∷ []) u first second)

pub target_off : {A F : Type 0} (t : Target) (name : List ℕ) (d e : F) (a b : Option (List ℕ)) (f g : ℕ) (w v u : List ℕ) → name ≡ target_name t → Hands {A = A} {F = F} (Err d) a f w (32 ∷ name) b g v → Hands {A = A} {F = F} (Err e) a f w (32 ∷ target_word t) b g u
target_off {A = A} {F = F} t name d e a b f g w v u is first =
    subst (λ (l : List ℕ). Hands {A = A} {F = F} (Err e) a f w (32 ∷ (l ++ 58 ∷ [])) b g u) is (hands_off d e a b f g w (32 ∷ name) v (58 ∷ []) u first)

-- The target of a rule, and its tokens after it.
pub rule_hands : {A F : Type 0} (r : RuleText) (ts : List Token) (x : A) (end : Result A F) (a b c : Option (List ℕ)) (f g h : ℕ) (w v u : List ℕ) → ts ≡ r.tokens → Hands {A = A} {F = F} (Ok x) a f w (32 ∷ target_word r.target) b g v → Hands end b g v (flat_map spelled_token ts) c h u → Hands end a f w (spelled_rule r) c h u
unfolding spelled_rule
rule_hands r ts x end a b c f g h w v u is first second =
    subst (λ (l : List Token). Hands end a f w ((32 ∷ target_word r.target) ++ flat_map spelled_token l) c h u) is (hands_both x end a b c f g h w (32 ∷ target_word r.target) v (flat_map spelled_token ts) u first second)

pub rule_off : {A F : Type 0} (r : RuleText) (d e : F) (a b : Option (List ℕ)) (f g : ℕ) (w v u : List ℕ) → Hands {A = A} {F = F} (Err d) a f w (32 ∷ target_word r.target) b g v → Hands {A = A} {F = F} (Err e) a f w (spelled_rule r) b g u
unfolding spelled_rule
rule_off r d e a b f g w v u first = hands_off d e a b f g w (32 ∷ target_word r.target) v (flat_map spelled_token r.tokens) u first
