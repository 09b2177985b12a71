use Rattle.std.proofs.Common.{◌≡◌, ℕ, ◌<◌, ◌≤◌, max, Bool, true, false, ◌||◌, ◌&&◌, nat_le, nat_lt, List, [], ◌∷◌, ◌++◌, Option, None, Some, arith, refl, ap, sym, ◌∙◌, subst, append-nil}
use Rattle.std.proofs.Math.Bool.{or-false}
use Rattle.std.specs.Option.{option_to_list}
use Rattle.std.proofs.lemmas.Bool.Decides.{nat_tests}
use Rattle.sym_edges.specs.Addresses.{Range}
use Rattle.range_set.specs.Members.{holds, holds_any}
use Rattle.range_set.specs.Canonical.{IsCanonical, BeginsAbove}
use Rattle.range_set.specs.Building.{last_start, EndsBelow, IsBuilt}
use Rattle.range_set.proofs.MemberLemmas.{holds_joined}

-- The greatest start of a joined list is the greatest of the two lists' greatest starts.
pub last_start_joined : (xs ys : List Range) → last_start (xs ++ ys) ≡ max (last_start xs) (last_start ys)
last_start_joined [] ys = omega arith
last_start_joined (x ∷ xs) ys = omega (arith, last_start_joined xs ys)

pub starts_below : (s : ℕ) (xs : List Range) → IsCanonical xs → EndsBelow s xs → last_start xs ≤ s
starts_below s [] canonical below = omega arith
starts_below s (x ∷ xs) canonical below = omega (arith, starts_below s xs canonical.2 below.1)

pub ends_below_more : (s t : ℕ) (xs : List Range) → EndsBelow s xs → s ≤ t → EndsBelow t xs
ends_below_more s t [] below more = tt
ends_below_more s t (x ∷ xs) below more = (omega arith, ends_below_more s t xs below.1 more)

pub ends_below_joined : (s : ℕ) (xs ys : List Range) → EndsBelow s xs → EndsBelow s ys → EndsBelow s (xs ++ ys)
ends_below_joined s [] ys p q = q
ends_below_joined s (x ∷ xs) ys p q = (p.0, ends_below_joined s xs ys p.1 q)

begins_joined : (e : ℕ) (xs : List Range) (l : Range) → BeginsAbove e xs → e < l.start → BeginsAbove e (xs ++ l ∷ [])
begins_joined e [] l p q = q
begins_joined e (x ∷ xs) l p q = p

-- A canonical list stays canonical if a range that starts above all its ends is added at its end.
pub canonical_joined : (xs : List Range) (l : Range) → IsCanonical xs → EndsBelow l.start xs → l.start < l.end → IsCanonical (xs ++ l ∷ [])
canonical_joined [] l canonical below some = (some, tt, tt)
canonical_joined (x ∷ xs) l canonical below some =
    (canonical.0, begins_joined x.end xs l canonical.1 below.0, canonical_joined xs l canonical.2 below.1 some)

-- The done ranges and the last one together are canonical.
pub canonical_built : (done : List Range) (last : Option Range) → IsBuilt done last → IsCanonical (done ++ option_to_list last)
canonical_built done None built = let P : List Range → Type 0 = λ l. IsCanonical l in subst P (sym (append-nil done ∙ built)) tt
canonical_built done (Some l) built = canonical_joined done l built.2 built.1 built.0

-- If the next range starts above the last one's end, the last one is done.
pub built_next : (done : List Range) (l s : Range) → IsBuilt done (Some l) → l.end < s.start → s.start < s.end → IsBuilt (done ++ l ∷ []) (Some s)
built_next done l s built gap some = (
  some,
  ends_below_joined s.start done (l ∷ []) (ends_below_more l.start s.start done built.1 (omega arith)) (gap, tt),
  canonical_joined done l built.2 built.1 built.0,
)

-- If two ranges overlap or touch, the range up to the greater end holds what the two hold.
widened_holds : (l s : Range) (a : ℕ) → l.start ≤ s.start → s.start ≤ l.end → (nat_le l.start a && nat_lt a (max l.end s.end)) ≡ (holds l a || holds s a)
widened_holds l s a low near = grind (arith, nat_tests)

regrouped : (p q r : Bool) → (p || ((q || r) || false)) ≡ ((p || (q || false)) || r)
regrouped true q r = refl
regrouped false true r = refl
regrouped false false true = refl
regrouped false false false = refl

-- To widen the last range by one that overlaps or touches it adds the addresses of that range.
pub widened_members : (done : List Range) (l s : Range) (a : ℕ) → last_start (done ++ l ∷ []) ≤ s.start → s.start ≤ l.end → holds_any (done ++ record { start = l.start; end = max l.end s.end } ∷ []) a ≡ (holds_any (done ++ l ∷ []) a || holds s a)
widened_members done l s a low near =
    let lower : l.start ≤ s.start = omega (arith, last_start_joined done (l ∷ [])) in
    simp (holds_joined) (ap (λ b. holds_any done a || (b || false)) (widened_holds l s a lower near) ∙ regrouped (holds_any done a) (holds l a) (holds s a))

pub widened_start : (done : List Range) (l s : Range) (end : ℕ) → last_start (done ++ l ∷ []) ≤ s.start → last_start (done ++ record { start = l.start; end = end } ∷ []) ≤ s.start
widened_start done l s end low =
    let w : Range = record { start = l.start; end = end } in
    omega (arith, last_start_joined done (l ∷ []), last_start_joined done (w ∷ []))

-- A range at the end of a list adds its own addresses.
pub added_members : (old : List Range) (s : Range) (a : ℕ) → holds_any (old ++ s ∷ []) a ≡ (holds_any old a || holds s a)
added_members old s a = simp (holds_joined) (ap (λ b. holds_any old a || b) (or-false (holds s a)))

pub added_start : (old : List Range) (s : Range) → last_start old ≤ s.start → last_start (old ++ s ∷ []) ≤ s.start
added_start old s low = omega (arith, last_start_joined old (s ∷ []))
