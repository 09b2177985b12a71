-- Lemmas on tests and on their two cases.
use Rattle.std.proofs.Common.{◌≡◌, ℕ, ◌==◌, cond, Bool, true, false, not, List, length, nat_lt, ◌<◌, Result, Ok, Err, refl, arith, ◌⊎◌, inl, inr}
use Rattle.std.proofs.lemmas.Bool.Decides.{nat_tests}
use Rattle.sym_edges.specs.Results.{◌>>=◌}
pub use Rattle.clean_names.proofs.BoolLemmas.{and_true, both, not_false, if_both, some_bytes}

pub not_true : {b : Bool} → not b ≡ true → b ≡ false
not_true {b = true} is = cc
not_true {b = false} is = refl

pub elim_bool : (b : Bool) (P : Bool → Type 0) → (b ≡ true → P true) → (b ≡ false → P false) → P b
elim_bool true P whole none = whole refl
elim_bool false P whole none = none refl

pub chosen : {A : Type 0} (b : Bool) (x y z : A) → cond b x y ≡ z → ((b ≡ true) × (x ≡ z)) ⊎ ((b ≡ false) × (y ≡ z))
chosen true x y z is = inl (refl, is)
chosen false x y z is = inr (refl, is)

-- If two steps gave a value, so did the first.
pub bind_ok : {A B F : Type 0} (r : Result A F) (f : A → Result B F) (y : B) → (r >>= f) ≡ Ok y → (x : A) × (r ≡ Ok x) × (f x ≡ Ok y)
bind_ok (Ok x) f y is = (x, refl, is)
bind_ok (Err e) f y is = cc

pub eq_32 : (x : ℕ) → (x == 32) ≡ true → x ≡ 32
eq_32 x is = grind (arith, nat_tests)

pub no_bytes : (xs : List ℕ) → nat_lt 0 (length xs) ≡ true → 0 < length xs
no_bytes xs is = grind (arith, nat_tests)

pub false_true : {A : Type 0} {b : Bool} → b ≡ false → b ≡ true → A
false_true is isnt = cc
