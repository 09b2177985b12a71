-- The first place in a list at which a test holds, found one by one.
use Rattle.std.proofs.Common.{◌≡◌, ℕ, ◌+◌, ◌<◌, ◌≤◌, Bool, true, false, cond, List, ◌∷◌, None, Some, length, drop, get_or, refl, ◌∙◌, ap, arith}
use Rattle.std.specs.Prelude.{position, nat_lt, not}
use Rattle.std.specs.List.{position_or_len}
use Rattle.std.proofs.lemmas.Bool.{lt-ltb, le-ltb, ltb-false}
use Rattle.std.proofs.lemmas.List.{drop_more}
use Rattle.std.proofs.lemmas.List.Sums.{fails_before_first}

not_cond : (b : Bool) (n : ℕ) → cond (not b) (1 + n) 0 ≡ cond b 0 (1 + n)
not_cond true n = refl
not_cond false n = refl

first_is : {X : Type 0} (p : X → Bool) (x : X) (xs : List X) → position_or_len p (x ∷ xs) ≡ cond (p x) 0 (1 + position_or_len p xs)
first_is p x xs = not_cond (p x) (position_or_len p xs)

at_drop : {X : Type 0} (p : X → Bool) (xs : List X) (k : ℕ) (d : X) → k < length xs → position_or_len p (drop k xs) ≡ cond (p (get_or xs k d)) 0 (1 + position_or_len p (drop (k + 1) xs))
at_drop p xs k d inside = ap (position_or_len p) (drop_more xs k d inside) ∙ first_is p (get_or xs k d) (drop (k + 1) xs)

-- The test holds at this place.
pub place_here : {X : Type 0} (p : X → Bool) (xs : List X) (k : ℕ) (d : X) → k < length xs → position_or_len p xs ≡ k + position_or_len p (drop k xs) → p (get_or xs k d) ≡ true → position p xs ≡ Some k
place_here p xs k d inside is test =
    let z : position_or_len p (drop k xs) ≡ 0 = at_drop p xs k d inside ∙ rw test refl in
    let e : position_or_len p xs ≡ k = omega arith in
    rw e (rw (lt-ltb k (length xs) inside) refl)

-- The test holds at no place up to this one.
pub place_later : {X : Type 0} (p : X → Bool) (xs : List X) (k : ℕ) (d : X) → k < length xs → position_or_len p xs ≡ k + position_or_len p (drop k xs) → p (get_or xs k d) ≡ false → position_or_len p xs ≡ (k + 1) + position_or_len p (drop (k + 1) xs)
place_later p xs k d inside is test =
    let e : position_or_len p (drop k xs) ≡ 1 + position_or_len p (drop (k + 1) xs) = at_drop p xs k d inside ∙ rw test refl in
    is ∙ omega arith

-- The test holds at no place of the list.
pub place_none : {X : Type 0} (p : X → Bool) (xs : List X) (k : ℕ) → length xs ≤ k → position_or_len p xs ≡ k + position_or_len p (drop k xs) → position p xs ≡ None
place_none p xs k past is =
    rw (le-ltb (position_or_len p xs) (length xs) (omega arith)) refl

past_end : {X : Type 0} (p : X → Bool) (xs : List X) (b : Bool) → nat_lt (position_or_len p xs) (length xs) ≡ b → cond b (Some (position_or_len p xs)) None ≡ None → length xs ≤ position_or_len p xs
past_end p xs true test is = cc
past_end p xs false test is = ltb-false (position_or_len p xs) (length xs) test

-- If no place was found, the test fails at each place.
pub place_no : {X : Type 0} (p : X → Bool) (xs : List X) (k : ℕ) (d : X) → position p xs ≡ None → k < length xs → p (get_or xs k d) ≡ false
place_no p xs k d is inside =
    fails_before_first p xs k d (omega (arith, past_end p xs (nat_lt (position_or_len p xs) (length xs)) refl is))
