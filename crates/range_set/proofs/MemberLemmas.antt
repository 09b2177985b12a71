use Rattle.std.proofs.Common.{◌≡◌, ℕ, ◌<◌, ◌≤◌, true, false, ◌||◌, List, [], ◌∷◌, ◌++◌, length, arith, refl, sym, ap, ◌∙◌, inl, inr}
use Rattle.std.proofs.Math.Bool.{or_assoc}
use Rattle.std.proofs.lemmas.Bool.{or_right}
use Rattle.std.proofs.lemmas.Bool.Decides.{nat_tests, leb_tells}
use Rattle.sym_edges.specs.Addresses.{Range}
use Rattle.range_set.specs.Members.{holds, holds_any}
use Rattle.range_set.specs.Canonical.{IsCanonical, BeginsAbove}

-- A joined list holds what either of the two lists holds.
pub holds_joined : (xs ys : List Range) (a : ℕ) → holds_any (xs ++ ys) a ≡ (holds_any xs a || holds_any ys a)
holds_joined [] ys a = refl
holds_joined (x ∷ xs) ys a = ap (λ b. holds x a || b) (holds_joined xs ys a) ∙ sym (or_assoc (holds x a) (holds_any xs a) (holds_any ys a))

pub within : (x : Range) (a : ℕ) → holds x a ≡ true → (x.start ≤ a) × (a < x.end)
within x a h = grind (arith, nat_tests)

pub holds_within : (x : Range) (a : ℕ) → x.start ≤ a → a < x.end → holds x a ≡ true
holds_within x a l h = grind (arith, nat_tests)

pub below_not : (x : Range) (a : ℕ) → a < x.start → holds x a ≡ false
below_not x a l = grind (arith, nat_tests)

pub above_not : (x : Range) (a : ℕ) → x.end ≤ a → holds x a ≡ false
above_not x a l = grind (arith, nat_tests)

-- A canonical list that begins above an address does not hold it.
pub above_none : (e : ℕ) (xs : List Range) (a : ℕ) → BeginsAbove e xs → IsCanonical xs → a ≤ e → holds_any xs a ≡ false
above_none e [] a begins canonical low = refl
above_none e (x ∷ xs) a begins canonical low =
    ap (λ b. b || holds_any xs a) (below_not x a (omega arith))
    ∙ above_none x.end xs a canonical.1 canonical.2 (omega arith)

-- A canonical list holds no address below its first start.
pub first_below : (x : Range) (xs : List Range) (a : ℕ) → IsCanonical (x ∷ xs) → a < x.start → holds_any (x ∷ xs) a ≡ false
first_below x xs a canonical low =
    ap (λ b. b || holds_any xs a) (below_not x a (omega arith))
    ∙ above_none x.end xs a canonical.1 canonical.2 (omega arith)

-- What a canonical list that begins above an address holds is above that address.
pub above_all : (e : ℕ) (xs : List Range) (a : ℕ) → BeginsAbove e xs → IsCanonical xs → holds_any xs a ≡ true → e < a
above_all e xs a begins canonical held = elim (leb_tells a e) [
  | inl low ↦ (let none : holds_any xs a ≡ false = above_none e xs a begins canonical low.1 in cc)
  | inr high ↦ high.1
]

pub first_at : (x : Range) (xs : List Range) (a : ℕ) → IsCanonical (x ∷ xs) → holds_any (x ∷ xs) a ≡ true → x.start ≤ a
first_at x xs a canonical held = elim (leb_tells x.start a) [
  | inl low ↦ low.1
  | inr high ↦ (let none : holds_any (x ∷ xs) a ≡ false = first_below x xs a canonical high.1 in cc)
]

pub first_held : (x : Range) (xs : List Range) (a : ℕ) → x.start ≤ a → a < x.end → holds_any (x ∷ xs) a ≡ true
first_held x xs a low high = ap (λ b. b || holds_any xs a) (holds_within x a low high)

pub rest_held : (x : Range) (xs : List Range) (a : ℕ) → holds_any xs a ≡ true → holds_any (x ∷ xs) a ≡ true
rest_held x xs a held = or_right (holds x a) (holds_any xs a) held

pub first_holds : (x : Range) (xs : List Range) (a : ℕ) → holds x a ≡ true → holds_any (x ∷ xs) a ≡ true
first_holds x xs a held = ap (λ b. b || holds_any xs a) held

pub none_held : (xs : List Range) (a : ℕ) → length xs ≡ 0 → holds_any xs a ≡ false
none_held [] a none = refl
none_held (x ∷ xs) a none = absurd (omega arith)
