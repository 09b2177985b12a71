use Rattle.std.proofs.Common.{◌≡◌, ℕ, ◌<◌, ◌≤◌, max, Bool, true, false, ◌||◌, ◌&&◌, List, ◌∷◌, refl, ap, ◌∙◌, arith}
use Rattle.std.proofs.Math.Bool.{or_assoc}
use Rattle.sym_edges.specs.Addresses.{Range}
use Rattle.range_set.specs.Members.{holds, holds_any}
use Rattle.range_set.specs.Canonical.{IsCanonical}
use Rattle.range_set.specs.Building.{last_start}
use Rattle.range_set.proofs.MemberLemmas.{within, above_none, above_all, first_at, rest_held}

-- The invariant of `meet_spans`: the built ranges, and what is in what is left of both lists, hold
-- what is in both lists; what is left does not begin before what is built.
pub record Meets (left right built xs ys : List Range) : Type 0 where
  pub first : IsCanonical xs
  pub second : IsCanonical ys
  pub members : (a : ℕ) → (holds_any built a || (holds_any xs a && holds_any ys a)) ≡ (holds_any left a && holds_any right a)
  pub order : (a : ℕ) → holds_any xs a ≡ true → holds_any ys a ≡ true → last_start built ≤ a

first_goes : (p q u v : Bool) → (p ≡ true → u ≡ false) → (p ≡ true → v ≡ false) → ((p && q) || (u && (q || v))) ≡ ((p || u) && (q || v))
first_goes false q u v f g = refl
first_goes true false false false f g = refl
first_goes true true false false f g = refl
first_goes true q true v f g = (let h : true ≡ false = f refl in cc)
first_goes true q u true f g = (let h : true ≡ false = g refl in cc)

second_goes : (p q u v : Bool) → (q ≡ true → u ≡ false) → (q ≡ true → v ≡ false) → ((p && q) || ((p || u) && v)) ≡ ((p || u) && (q || v))
second_goes false false u v f g = refl
second_goes true false u v f g = refl
second_goes false true false false f g = refl
second_goes true true false false f g = refl
second_goes p true true v f g = (let h : true ≡ false = f refl in cc)
second_goes p true u true f g = (let h : true ≡ false = g refl in cc)

-- The step of `meet_spans`: the two next ranges were met, and the one that ends first is done.
pub meets_first : (left right built after : List Range) (x y : Range) (xs ys : List Range) → Meets left right built (x ∷ xs) (y ∷ ys) → x.end ≤ y.end → ((a : ℕ) → holds_any after a ≡ (holds_any built a || (holds x a && holds y a))) → last_start after ≤ max (last_start built) (max x.start y.start) → Meets left right after xs (y ∷ ys)
meets_first left right built after x y xs ys m ends members order = record {
  first = m.first.2;
  second = m.second;
  members = λ a.
      let none : holds x a ≡ true → holds_any xs a ≡ false = λ h. (let w = within x a h in above_none x.end xs a m.first.1 m.first.2 (omega (arith, w.1))) in
      let too : holds x a ≡ true → holds_any ys a ≡ false = λ h. (let w = within x a h in above_none y.end ys a m.second.1 m.second.2 (omega (arith, w.1))) in
      ap (λ b. b || (holds_any xs a && holds_any (y ∷ ys) a)) (members a)
      ∙ or_assoc (holds_any built a) (holds x a && holds y a) (holds_any xs a && holds_any (y ∷ ys) a)
      ∙ ap (λ b. holds_any built a || b) (first_goes (holds x a) (holds y a) (holds_any xs a) (holds_any ys a) none too)
      ∙ m.members a;
  order = λ a h k.
      let before : last_start built ≤ a = m.order a (rest_held x xs a h) k in
      let above : x.end < a = above_all x.end xs a m.first.1 m.first.2 h in
      let from : y.start ≤ a = first_at y ys a m.second k in
      omega (arith, m.first.0);
}

pub meets_second : (left right built after : List Range) (x y : Range) (xs ys : List Range) → Meets left right built (x ∷ xs) (y ∷ ys) → y.end < x.end → ((a : ℕ) → holds_any after a ≡ (holds_any built a || (holds x a && holds y a))) → last_start after ≤ max (last_start built) (max x.start y.start) → Meets left right after (x ∷ xs) ys
meets_second left right built after x y xs ys m ends members order = record {
  first = m.first;
  second = m.second.2;
  members = λ a.
      let none : holds y a ≡ true → holds_any xs a ≡ false = λ h. (let w = within y a h in above_none x.end xs a m.first.1 m.first.2 (omega (arith, w.1))) in
      let too : holds y a ≡ true → holds_any ys a ≡ false = λ h. (let w = within y a h in above_none y.end ys a m.second.1 m.second.2 (omega (arith, w.1))) in
      ap (λ b. b || (holds_any (x ∷ xs) a && holds_any ys a)) (members a)
      ∙ or_assoc (holds_any built a) (holds x a && holds y a) (holds_any (x ∷ xs) a && holds_any ys a)
      ∙ ap (λ b. holds_any built a || b) (second_goes (holds x a) (holds y a) (holds_any xs a) (holds_any ys a) none too)
      ∙ m.members a;
  order = λ a h k.
      let before : last_start built ≤ a = m.order a h (rest_held y ys a k) in
      let above : y.end < a = above_all y.end ys a m.second.1 m.second.2 k in
      let from : x.start ≤ a = first_at x xs a m.first h in
      omega (arith, m.second.0);
}
