-- A text is added to a list without repetitions.
use Rattle.std.proofs.Common.{◌≡◌, ℕ, Bool, true, false, cond, ◌||◌, not, List, [], ◌∷◌, ◌++◌, refl, ap, ◌∙◌, append-nil}
use Rattle.std.specs.List.{filter, list_any}
use Rattle.std.specs.Str.{bytes_eq}
use Rattle.std.proofs.lemmas.List.Elements.{filter-append}
use Rattle.stack_text.specs.Once.{once}

abbrev other_than : List ℕ → List ℕ → Bool
other_than text other = not (bytes_eq other text)

pub once_more : (texts : List (List ℕ)) (text : List ℕ) → once (texts ++ text ∷ []) ≡ cond (list_any (bytes_eq text) texts) (once texts) (once texts ++ text ∷ [])
unfolding once
once_more [] text = refl
once_more (x ∷ texts) text = ap (λ l. x ∷ filter (other_than x) l) (once_more texts text) ∙ go (bytes_eq text x) refl (list_any (bytes_eq text) texts)
  where
    one : filter (other_than x) (once texts ++ text ∷ []) ≡ filter (other_than x) (once texts) ++ filter (other_than x) (text ∷ [])
    one = filter-append (other_than x) (once texts) (text ∷ [])

    same : bytes_eq text x ≡ true → filter (other_than x) (text ∷ []) ≡ []
    same is = ap (λ b. cond (not b) (text ∷ []) []) is

    other : bytes_eq text x ≡ false → filter (other_than x) (text ∷ []) ≡ text ∷ []
    other is = ap (λ b. cond (not b) (text ∷ []) []) is

    go : (c : Bool) → bytes_eq text x ≡ c → (b : Bool) → x ∷ filter (other_than x) (cond b (once texts) (once texts ++ text ∷ [])) ≡ cond (c || b) (x ∷ filter (other_than x) (once texts)) ((x ∷ filter (other_than x) (once texts)) ++ text ∷ [])
    go true is true = refl
    go false is true = refl
    go true is false = ap (λ l. x ∷ l) (one ∙ ap (λ l. filter (other_than x) (once texts) ++ l) (same is) ∙ append-nil (filter (other_than x) (once texts)))
    go false is false = ap (λ l. x ∷ l) (one ∙ ap (λ l. filter (other_than x) (once texts) ++ l) (other is))
