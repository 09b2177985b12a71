-- Parts of lists, and parts of such parts.
use Rattle.std.proofs.Common.{◌≡◌, ℕ, zero, suc, ◌+◌, ◌-◌, ◌<◌, ◌≤◌, List, [], ◌∷◌, length, take, drop, get_or, refl, sym, ◌∙◌, ap, arith, length-drop}
use Rattle.std.proofs.lemmas.List.{get_or-drop, get_or-take, length-take-le, drop-take}
use Rattle.std.proofs.Math.Seq.{drop-nil}

pub length_part : (bytes : List ℕ) (from size : ℕ) → from + size ≤ length bytes → length (take size (drop from bytes)) ≡ size
length_part bytes from size inside = length-take-le size (drop from bytes) (omega (arith, length-drop from bytes))

pub byte_of_part : (bytes : List ℕ) (from size at : ℕ) → at < size → get_or (take size (drop from bytes)) at 0 ≡ get_or bytes (from + at) 0
byte_of_part bytes from size at inside = get_or-take size (drop from bytes) at 0 inside ∙ get_or-drop from bytes at 0

pub drop_drop : {X : Type 0} → (n m : ℕ) (xs : List X) → drop n (drop m xs) ≡ drop (m + n) xs
drop_drop n zero xs = let e : n ≡ 0 + n = omega arith in ap (λ k. drop k xs) e
drop_drop n (suc m) [] = drop-nil n ∙ sym (drop-nil (suc m + n))
drop_drop n (suc m) (x ∷ xs) = let e : suc (m + n) ≡ suc m + n = omega arith in drop_drop n m xs ∙ ap (λ k. drop k (x ∷ xs)) e

pub take_take : (n m : ℕ) (xs : List ℕ) → n ≤ m → take n (take m xs) ≡ take n xs
take_take zero m xs less = refl
take_take (suc n) zero xs less = absurd (omega arith)
take_take (suc n) (suc m) [] less = refl
take_take (suc n) (suc m) (x ∷ xs) less = ap (λ l. x ∷ l) (take_take n m xs (omega arith))

pub part_of_part : (bytes : List ℕ) (from all at size : ℕ) → at + size ≤ all → take size (drop (from + at) bytes) ≡ take size (drop at (take all (drop from bytes)))
part_of_part bytes from all at size inside =
    let e : all ≡ at + (all - at) = omega arith in
    sym (ap (λ k. take size (drop at (take k (drop from bytes)))) e
    ∙ ap (take size) (drop-take at (all - at) (drop from bytes))
    ∙ take_take size (all - at) (drop at (drop from bytes)) (omega arith)
    ∙ ap (take size) (drop_drop at from bytes))
