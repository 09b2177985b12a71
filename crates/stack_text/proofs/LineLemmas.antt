-- Words one after another, for `add_words`.
use Rattle.std.proofs.Common.{◌≡◌, ℕ, ◌≤◌, List, [], ◌∷◌, ◌++◌, map, length, take, refl, ◌∙◌, ap, append_assoc}
use Rattle.std.specs.List.{flat_map}
use Rattle.std.proofs.lemmas.List.{take_all}
use Rattle.sym_records.specs.Canon.{spaced}

-- Words that are computed from elements.
fields_are : {X : Type 0} (f : X → List ℕ) (words : List X) → flat_map (λ word. 32 ∷ f word) words ≡ flat_map (λ field. 32 ∷ field) (map f words)
fields_are f [] = refl
fields_are f (w ∷ words) = ap (λ l. (32 ∷ f w) ++ l) (fields_are f words)

-- After the last word.
pub words_end : {X : Type 0} (f : X → List ℕ) (before first text : List ℕ) (words : List X) (i : ℕ) → length words ≤ i → text ≡ (before ++ first) ++ flat_map (λ word. 32 ∷ f word) (take i words) → text ≡ before ++ spaced first (map f words)
words_end f before first text words i past is =
    is ∙ ap (λ l. (before ++ first) ++ flat_map (λ word. 32 ∷ f word) l) (take_all i words past) ∙ ap (λ l. (before ++ first) ++ l) (fields_are f words)
    ∙ append_assoc before first (flat_map (λ field. 32 ∷ field) (map f words))
