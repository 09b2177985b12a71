-- Bytes that are compared with a text, one by one.
use Rattle.std.proofs.Common.{◌≡◌, ◌≢◌, ℕ, ◌+◌, ◌<◌, ◌≤◌, Bool, true, false, List, [], ◌∷◌, ◌++◌, length, take, drop, get_or, refl, sym, ◌∙◌, ap, arith}
use Rattle.std.specs.Str.{bytes_eq}
use Rattle.std.proofs.lemmas.List.{get_or-drop, get_or-take, length-take-le, length-drop, take_all, take_more}
use Rattle.std.proofs.lemmas.Slice.Eq.{bytes_eq-Decides}

pub equal : (xs ys : List ℕ) → xs ≡ ys → bytes_eq xs ys ≡ true
equal xs ys is = (bytes_eq-Decides xs ys).1 is

not_true : (t : Bool) → (t ≡ true → ⊥) → t ≡ false
not_true true never = absurd (never refl)
not_true false never = refl

pub unequal : (xs ys : List ℕ) → (xs ≡ ys → ⊥) → bytes_eq xs ys ≡ false
unequal xs ys never = not_true (bytes_eq xs ys) (λ is. never ((bytes_eq-Decides xs ys).0 is))

-- Bytes of another length are not the text.
pub other_length : (list text : List ℕ) (at len : ℕ) → at + len ≤ length list → len ≢ length text → bytes_eq (take len (drop at list)) text ≡ false
other_length list text at len inside other =
    unequal (take len (drop at list)) text (λ is. other (sym (length-take-le len (drop at list) (omega (arith, length-drop at list))) ∙ ap length is))

-- Bytes of which one differs are not the text.
pub other_byte : (list text : List ℕ) (at len i : ℕ) → len ≡ length text → i < length text → get_or list (at + i) 0 ≢ get_or text i 0 → bytes_eq (take len (drop at list)) text ≡ false
other_byte list text at len i same inside differs =
    unequal (take len (drop at list)) text (λ is. differs (sym (get_or-take len (drop at list) i 0 (omega arith) ∙ get_or-drop at list i 0) ∙ ap (λ l. get_or l i 0) is))

pub front_more : (list text : List ℕ) (at i : ℕ) → at + i < length list → i < length text → take i (drop at list) ≡ take i text → get_or list (at + i) 0 ≡ get_or text i 0 → take (i + 1) (drop at list) ≡ take (i + 1) text
front_more list text at i inside within front same =
    take_more (drop at list) i 0 (omega (arith, length-drop at list))
    ∙ ap (λ l. l ++ get_or (drop at list) i 0 ∷ []) front
    ∙ ap (λ b. take i text ++ b ∷ []) (get_or-drop at list i 0 ∙ same)
    ∙ sym (take_more text i 0 within)

pub all_bytes_same : (list text : List ℕ) (at len : ℕ) → len ≡ length text → take (length text) (drop at list) ≡ take (length text) text → bytes_eq (take len (drop at list)) text ≡ true
all_bytes_same list text at len same front =
    equal (take len (drop at list)) text (ap (λ n. take n (drop at list)) same ∙ front ∙ take_all (length text) text (omega arith))

pub copy_more : (list : List ℕ) (at i : ℕ) → at + i < length list → take (i + 1) (drop at list) ≡ take i (drop at list) ++ get_or list (at + i) 0 ∷ []
copy_more list at i inside =
    take_more (drop at list) i 0 (omega (arith, length-drop at list)) ∙ ap (λ b. take i (drop at list) ++ b ∷ []) (get_or-drop at list i 0)
