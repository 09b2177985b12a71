-- Lemmas on tests of bytes and lists, for the lemmas on cleaning.
use Rattle.std.proofs.Common.{◌≡◌, ℕ, ◌&&◌, cond, Bool, true, false, not, List, ◌∷◌, length, nat_lt, refl, arith}
use Rattle.std.proofs.lemmas.Bool.Decides.{nat_tests}

pub and_true : {a b : Bool} → (a && b) ≡ true → (a ≡ true) × (b ≡ true)
and_true {a = true} is = (refl, is)
and_true {a = false} is = cc

pub both : {a b : Bool} → a ≡ true → b ≡ true → (a && b) ≡ true
both {a = true} first second = second
both {a = false} first second = cc

pub not_false : {b : Bool} → b ≡ false → not b ≡ true
not_false {b = true} is = cc
not_false {b = false} is = refl

pub if_both : {A : Type 0} (P : A → Type 0) (b : Bool) (x y : A) → P x → P y → P (cond b x y)
if_both P true x y first second = first
if_both P false x y first second = second

pub some_bytes : (x : ℕ) (xs : List ℕ) → nat_lt 0 (length (x ∷ xs)) ≡ true
some_bytes x xs = grind (arith, nat_tests)
