-- Lemmas about several tests that all hold.
use Rattle.std.proofs.Common.{◌≡◌, Bool, true, false, refl}
use Rattle.std.specs.Prelude.{◌&&◌, ◌||◌}

pub and_left : (x y : Bool) → (x && y) ≡ true → x ≡ true
and_left true y is = refl
and_left false y is = is

pub and_right : (x y : Bool) → (x && y) ≡ true → y ≡ true
and_right true y is = is
and_right false y is = cc

pub and_false : (x : Bool) → (x && false) ≡ false
and_false true = refl
and_false false = refl

pub or_right : (x y : Bool) → y ≡ true → (x || y) ≡ true
or_right true y is = refl
or_right false y is = is
