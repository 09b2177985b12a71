-- The words of a rule, which are written from the last to the first; for `write_base`, `write_cfa`,
-- `write_column`, `write_own`, `write_part`, `write_rule` and others.
use Rattle.std.proofs.Common.{◌≡◌, ℕ, ℤ, ◌∷◌, ◌++◌, List, [], codes, Some, None, refl, ap, sym, ◌∙◌, append_assoc, append-nil}
use Rattle.std.specs.List.{flat_map}
use Rattle.std.specs.Fmt.{signed_decimal}
use Rattle.sym_edges.specs.Abi.{register_name}
use Rattle.sym_rules.specs.Rules.{target_word, spelled_token, spelled_rule, spelled_rules}
use Rattle.sym_rules.specs.declared.rules.Target.{Target}
use Rattle.sym_rules.specs.declared.rules.Target.TheVariants.{Cfa, Reg}
use Rattle.sym_rules.specs.declared.rules.Token.{Token}
use Rattle.sym_rules.specs.declared.rules.Token.TheVariants as token
use Rattle.rule_postfix.specs.internal.Backward.{rule_text}

-- The CFA plus an offset, and the word at that address.
pub sum_written : (n : ℤ) (old a b c : List ℕ) → a ≡ codes " +" ++ old → b ≡ signed_decimal n ++ a → c ≡ codes " .cfa " ++ b → c ≡ flat_map spelled_token (token.Cfa ∷ token.Number n ∷ token.Add ∷ []) ++ old
sum_written n old a b c p q r = rw (r, q, p) (ap (λ l. codes " .cfa " ++ l) (sym (append_assoc (signed_decimal n) (codes " +") old)))

pub word_written : (n : ℤ) (old a b c : List ℕ) → a ≡ codes " + ^" ++ old → b ≡ signed_decimal n ++ a → c ≡ codes " .cfa " ++ b → c ≡ flat_map spelled_token (token.Cfa ∷ token.Number n ∷ token.Add ∷ token.Fetch ∷ []) ++ old
word_written n old a b c p q r = rw (r, q, p) (ap (λ l. codes " .cfa " ++ l) (sym (append_assoc (signed_decimal n) (codes " + ^") old)))

-- A register.
pub value_written : (k : ℕ) (old a b : List ℕ) → a ≡ register_name k ++ old → b ≡ 32 ∷ a → b ≡ flat_map spelled_token (token.Reg k ∷ []) ++ old
value_written k old a b p q = rw (q, p) (ap (λ l. 32 ∷ (l ++ old)) (sym (append-nil (register_name k))))

-- A register plus an offset.
pub base_written : (k : ℕ) (n : ℤ) (old a b c d e : List ℕ) → a ≡ codes " +" ++ old → b ≡ signed_decimal n ++ a → c ≡ 32 ∷ b → d ≡ register_name k ++ c → e ≡ 32 ∷ d → e ≡ flat_map spelled_token (token.Reg k ∷ token.Number n ∷ token.Add ∷ []) ++ old
base_written k n old a b c d e p q r s t =
    rw (t, s, r, q, p)
    (ap (λ l. 32 ∷ l) (sym (append_assoc (register_name k) (32 ∷ (signed_decimal n ++ codes " +")) old ∙ ap (λ l. register_name k ++ (32 ∷ l)) (append_assoc (signed_decimal n) (codes " +") old))))

-- The name of a register as a target.
pub register_written : (k : ℕ) (old a b c : List ℕ) → a ≡ 58 ∷ old → b ≡ register_name k ++ a → c ≡ 32 ∷ b → c ≡ (32 ∷ target_word (Reg k)) ++ old
register_written k old a b c p q r = rw (r, q, p) (ap (λ l. 32 ∷ l) (sym (append_assoc (register_name k) (58 ∷ []) old)))

-- The rule of a target, if there is one.
pub no_rule : (t : Target) (old : List ℕ) → old ≡ rule_text t None ++ old
unfolding rule_text spelled_rules
no_rule t old = refl

pub rule_written : (t : Target) (tokens : List Token) (old a b : List ℕ) → a ≡ flat_map spelled_token tokens ++ old → b ≡ (32 ∷ target_word t) ++ a → b ≡ rule_text t (Some tokens) ++ old
unfolding rule_text spelled_rules spelled_rule
rule_written t tokens old a b p q =
    let rule : List ℕ = (32 ∷ target_word t) ++ flat_map spelled_token tokens in
    q ∙ ap (λ l. (32 ∷ target_word t) ++ l) p ∙ sym (append_assoc (32 ∷ target_word t) (flat_map spelled_token tokens) old) ∙ ap (λ l. l ++ old) (sym (append-nil rule))

pub cfa_written : (tokens : List Token) (old a b : List ℕ) → a ≡ flat_map spelled_token tokens ++ old → b ≡ codes " .cfa:" ++ a → b ≡ rule_text Cfa (Some tokens) ++ old
cfa_written tokens old a b p q = rule_written Cfa tokens old a b p q
