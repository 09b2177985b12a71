use Rattle.std.proofs.Common.{◌≡◌, ℕ, ◌<◌, List, [], ◌∷◌, ◌++◌, Some, None, codes, length, take, drop, refl, sym, ◌∙◌, ap, arith, append_assoc}
use Rattle.hex.specs.Hex.{encode_lower}
use Rattle.debug_pair.specs.DebugPath.{debug_path}

-- Texts that are joined one after another.
pub joined : (a b c d e f p q r s t : List ℕ) → p ≡ a ++ b → q ≡ p ++ c → r ≡ q ++ d → s ≡ r ++ e → t ≡ s ++ f → t ≡ a ++ b ++ c ++ d ++ e ++ f
joined a b c d e f p q r s t one two three four five =
    five ∙ ap (λ l. l ++ f) (four ∙ ap (λ l. l ++ e) (three ∙ ap (λ l. l ++ d) (two ∙ ap (λ l. l ++ c) one)))
    ∙ simp append_assoc

pub joined_eight : (a b c d e f g h p q r s t u v : List ℕ) → p ≡ a ++ b → q ≡ p ++ c → r ≡ q ++ d → s ≡ r ++ e → t ≡ s ++ f → u ≡ t ++ g → v ≡ u ++ h → v ≡ a ++ b ++ c ++ d ++ e ++ f ++ g ++ h
joined_eight a b c d e f g h p q r s t u v one two three four five six seven =
    seven ∙ ap (λ l. l ++ h) (six ∙ ap (λ l. l ++ g) (five ∙ ap (λ l. l ++ f) (four ∙ ap (λ l. l ++ e) (three ∙ ap (λ l. l ++ d) (two ∙ ap (λ l. l ++ c) one)))))
    ∙ simp append_assoc

pub short_id : (root id : List ℕ) → length id < 2 → debug_path root id ≡ None
short_id root [] few = refl
short_id root (a ∷ []) few = refl
short_id root (a ∷ b ∷ id) few = absurd (omega arith)

pub long_id : (root id path : List ℕ) → (length id < 2 → ⊥) → path ≡ root ++ codes "/.build-id/" ++ encode_lower (take 1 id) ++ codes "/" ++ encode_lower (drop 1 id) ++ codes ".debug" → debug_path root id ≡ Some path
long_id root [] path many is = absurd (many (omega arith))
long_id root (a ∷ []) path many is = absurd (many (omega arith))
long_id root (a ∷ b ∷ id) path many is = ap Some (sym is)

pub joined_three : (a b c p q : List ℕ) → p ≡ a ++ b → q ≡ p ++ c → q ≡ a ++ b ++ c
joined_three a b c p q one two = two ∙ ap (λ l. l ++ c) one
