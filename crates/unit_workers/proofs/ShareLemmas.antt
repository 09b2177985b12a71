-- The shares of a list (for `share_of`, and for crates that join shares).
use Rattle.std.proofs.Common.{◌≡◌, ℕ, zero, suc, ◌+◌, ◌-◌, ◌*◌, ◌≤◌, min, List, [], ◌∷◌, ◌++◌, length, take, drop, inl, inr, ap, sym, ◌∙◌, arith}
use Rattle.std.proofs.lemmas.Bool.{cases_lt}
use Rattle.std.proofs.lemmas.List.{length-drop, take_all, drop_all}
use Rattle.unit_workers.specs.Shares.{share}

-- The members between the bounds of a share are the share.
pub share_between : {A : Type 0} (size k from to : ℕ) (xs : List A) → from ≡ min (size * k) (length xs) → to ≡ min (size * k + size) (length xs) → take (to - from) (drop from xs) ≡ share size k xs
share_between size k from to xs at last =
    elim (cases_lt (size * k) (length xs)) [
      | inl less ↦
          let same : from ≡ size * k = omega (arith, at, less) in
          ap (λ n. take (to - from) (drop n xs)) same
          ∙ elim (cases_lt (length (drop (size * k) xs)) size) [
            | inl short ↦
                let whole : length (drop (size * k) xs) ≤ to - from = omega (arith, last, same, less, short, length-drop (size * k) xs) in
                take_all (to - from) (drop (size * k) xs) whole ∙ sym (take_all size (drop (size * k) xs) (omega (arith, short)))
            | inr long ↦
                let part : to - from ≡ size = omega (arith, last, same, less, long, length-drop (size * k) xs) in
                ap (λ n. take n (drop (size * k) xs)) part
          ]
      | inr past ↦
          let none : drop from xs ≡ [] = drop_all from xs (omega (arith, at, past)) in
          let no_share : drop (size * k) xs ≡ [] = drop_all (size * k) xs past in
          ap (take (to - from)) none ∙ take_all (to - from) [] (omega arith) ∙ sym (ap (take size) no_share ∙ take_all size [] (omega arith))
    ]

-- The first shares and the next one.
pub share_next : {A : Type 0} (size k : ℕ) (xs : List A) → take (size * (k + 1)) xs ≡ take (size * k) xs ++ share size k xs
share_next size k xs = ap (λ n. take n xs) (let more : size * (k + 1) ≡ size * k + size = omega arith in more) ∙ take_plus (size * k) size xs
  where
    take_plus : {A : Type 0} (m n : ℕ) (xs : List A) → take (m + n) xs ≡ take m xs ++ take n (drop m xs)
    take_plus zero n xs = ap (λ k. take k xs) (let same : zero + n ≡ n = omega arith in same)
    take_plus (suc m) n [] = take_all (suc m + n) [] (omega arith) ∙ sym (take_all n [] (omega arith))
    take_plus (suc m) n (x ∷ xs) =
        let next : suc m + n ≡ suc (m + n) = omega arith in
        ap (λ k. take k (x ∷ xs)) next ∙ ap (λ l. x ∷ l) (take_plus m n xs)
