-- The names of symbol files, for `path_by` and `names_of`.
use Rattle.std.proofs.Common.{◌≡◌, ℕ, ◌+◌, ◌<◌, ◌≤◌, Bool, true, false, cond, List, [], ◌∷◌, ◌++◌, length, map, take, get_or, None, Some, refl, sym, ap, ◌∙◌}
use Rattle.std.proofs.lemmas.List.{take_more, take_all, map-append}
use Rattle.std.proofs.lemmas.Str.{IsUtf8-from_is_utf8, is_utf8-from_IsUtf8}
use Rattle.std.specs.Str.{IsUtf8, is_utf8}
use Rattle.debug_pair.specs.SymbolPath.{symbol_path}
use Rattle.module_stacks.specs.Symbols.{path_by}

pub path_good : (folder name text identity path : List ℕ) → IsUtf8 name → text ≡ name → path ≡ symbol_path folder text identity → Some path ≡ path_by folder name identity
path_good folder name text identity path good same is =
    ap Some (is ∙ ap (λ t. symbol_path folder t identity) same) ∙ sym (ap (λ b. cond b (Some (symbol_path folder name identity)) None) (is_utf8-from_IsUtf8 name good))

pub path_bad : (folder name identity : List ℕ) → (IsUtf8 name → ⊥) → None ≡ path_by folder name identity
path_bad folder name identity bad = sym (ap (λ b. cond b (Some (symbol_path folder name identity)) None) (not_utf8 (is_utf8 name) refl))
  where
    not_utf8 : (b : Bool) → is_utf8 name ≡ b → is_utf8 name ≡ false
    not_utf8 true is = absurd (bad (IsUtf8-from_is_utf8 name is))
    not_utf8 false is = is

-- One element more of a list that `map` gives.
pub map_more : {A B : Type 0} (f : A → B) (xs : List A) (i : ℕ) (x : A) (ys next : List B) (y : B) → i < length xs → x ≡ get_or xs i x → ys ≡ map f (take i xs) → y ≡ f x → next ≡ ys ++ y ∷ [] → next ≡ map f (take (i + 1) xs)
map_more f xs i x ys next y low at before is more =
    more ∙ ap (λ l. l ++ y ∷ []) before ∙ ap (λ z. map f (take i xs) ++ z ∷ []) is
    ∙ sym (map-append f (take i xs) (x ∷ [])) ∙ ap (map f) (sym (take_more xs i x low ∙ ap (λ z. take i xs ++ z ∷ []) (sym at)))

pub map_whole : {A B : Type 0} (f : A → B) (xs : List A) (i : ℕ) (ys : List B) → length xs ≤ i → ys ≡ map f (take i xs) → ys ≡ map f xs
map_whole f xs i ys all is = is ∙ ap (map f) (take_all i xs all)
