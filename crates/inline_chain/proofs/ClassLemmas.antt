-- Stretches, sorted by their classes.
use Rattle.std.proofs.Common.{◌≡◌, ℕ, zero, suc, ◌+◌, ◌<◌, ◌≤◌, ◌==◌, ◌&&◌, ◌≢◌, ◌^◌, not, Bool, true, false, if◌then◌else◌, List, [], ◌∷◌, length, take, drop, get_or, arith, refl, sym, ap, subst, ◌∙◌, inl, inr}
use Rattle.std.specs.List.{AllByRecursion}
use Rattle.std.specs.List.Sorted.{IsNonDecreasingBy, IsStableByKey, IsPermutation, ties}
use Rattle.std.specs.Ordering.{nat_cmp, is_lt}
use Rattle.std.proofs.lemmas.Bool.{cond-true, cond-false, eq-eqb, ne_eqb}
use Rattle.std.proofs.lemmas.Bool.Decides.{nat_tests, eqb_tells}
use Rattle.std.proofs.lemmas.List.Elements.{filter_agree}
use Rattle.std.proofs.ByRecursion.{all_shuffled}
use Rattle.step_maps.specs.declared.stretch.Stretch.{Stretch}
use Rattle.step_maps.specs.Covers.{AreStretches}
use Rattle.step_maps.specs.SpanStretches.{AreFit}
use Rattle.inline_chain.specs.internal.Copies.{of_class, SortedFrom, front_count}

pub tie_is : (v w : ℕ) → (not (is_lt (nat_cmp v w)) && not (is_lt (nat_cmp w v))) ≡ (w == v)
tie_is v w = grind (arith, nat_tests)

-- A stable sort keeps the order of the stretches of each class.
pub same_sorted : (xs ys : List Stretch) → IsStableByKey (λ (s : Stretch). s.class) nat_cmp xs ys → (x : ℕ) → of_class x ys ≡ of_class x xs
same_sorted xs ys stable x =
    let tied : Stretch = record { first = 0; last = 0; index = 0; class = x } in
    sym (filter_agree (ties (λ (s t : Stretch). is_lt (nat_cmp s.class t.class)) tied) (λ (s : Stretch). s.class == x) (λ s. tie_is x s.class) ys)
    ∙ stable tied
    ∙ filter_agree (ties (λ (s t : Stretch). is_lt (nat_cmp s.class t.class)) tied) (λ (s : Stretch). s.class == x) (λ s. tie_is x s.class) xs

sorted_by : (low : ℕ) (items : List Stretch) → IsNonDecreasingBy (λ (s : Stretch). s.class) items → (0 < length items → (d : Stretch) → low ≤ (get_or items 0 d).class) → SortedFrom low items
sorted_by low [] rises first = tt
sorted_by low (s ∷ items) rises first =
    (first (omega arith) s, sorted_by s.class items (λ i j d up h. rises (suc i) (suc j) d (omega arith) (omega arith)) (λ some d. rises 0 1 d (omega arith) (omega arith)))

pub sorted_of : (items : List Stretch) → IsNonDecreasingBy (λ (s : Stretch). s.class) items → SortedFrom 0 items
sorted_of items rises = sorted_by 0 items rises (λ some d. omega arith)

abbrev IsFit : Stretch → Type 0
IsFit s = (s.first ≤ s.last) × (s.last + 1 < 2 ^ 64)

all_fit : (items : List Stretch) → AreFit items → AllByRecursion IsFit items
all_fit [] fit = tt
all_fit (s ∷ items) fit = ((fit.0, fit.1), all_fit items fit.2)

fit_all : (items : List Stretch) → AllByRecursion IsFit items → AreFit items
fit_all [] fit = tt
fit_all (s ∷ items) fit = (fit.0.0, fit.0.1, fit_all items fit.1)

pub fit_sorted : (xs ys : List Stretch) → IsPermutation xs ys → AreFit xs → AreFit ys
fit_sorted xs ys moved fit = fit_all ys (all_shuffled IsFit xs ys moved (all_fit xs fit))

pub fit_take : (k : ℕ) (items : List Stretch) → AreFit items → AreFit (take k items)
fit_take zero items fit = tt
fit_take (suc k) [] fit = tt
fit_take (suc k) (s ∷ items) fit = (fit.0, fit.1, fit_take k items fit.2)

pub fit_drop : (k : ℕ) (items : List Stretch) → AreFit items → AreFit (drop k items)
fit_drop zero items fit = fit
fit_drop (suc k) [] fit = tt
fit_drop (suc k) (s ∷ items) fit = fit_drop k items fit.2

pub fit_some : (items : List Stretch) → AreFit items → AreStretches items
fit_some [] fit = tt
fit_some (s ∷ items) fit = (fit.0, fit_some items fit.2)

pub front_inside : (x : ℕ) (items : List Stretch) → front_count x items ≤ length items
unfolding front_count
front_inside x [] = omega arith
front_inside x (s ∷ items) = go (s.class == x) (front_inside x items)
  where
    go : (b : Bool) → front_count x items ≤ length items → (if b then suc (front_count x items) else 0) ≤ length (s ∷ items)
    go true less = omega (arith, less)
    go false less = omega arith

-- Sorted stretches have none of a class below the lowest.
none_low : (x low : ℕ) (items : List Stretch) → SortedFrom low items → x < low → of_class x items ≡ []
none_low x low [] sorted above = refl
none_low x low (s ∷ items) sorted above = cond-false _ _ _ (ne_eqb s.class x (λ (is : s.class ≡ x). absurd (omega (arith, sorted.0)))) ∙ none_low x s.class items sorted.1 (omega (arith, sorted.0))

-- The stretches of the first class are at the start.
pub take_front : (x : ℕ) (items : List Stretch) → SortedFrom x items → take (front_count x items) items ≡ of_class x items
unfolding front_count
take_front x [] sorted = refl
take_front x (s ∷ items) sorted = elim (eqb_tells s.class x) [
  | inl is ↦
      (λ i. take ((cond-true _ (suc (front_count x items)) 0 is.0) i) (s ∷ items))
      ∙ ap (λ l. s ∷ l) (take_front x items (subst (λ n. SortedFrom n items) is.1 sorted.1))
      ∙ sym (cond-true _ _ _ is.0)
  | inr is ↦
      (λ i. take ((cond-false _ (suc (front_count x items)) 0 is.0) i) (s ∷ items))
      ∙ sym (cond-false _ _ _ is.0 ∙ none_low x s.class items sorted.1 (let less : x < s.class = omega (arith, sorted.0, is.1) in less))
]

-- The stretches of other classes are after them.
pub drop_front : (x y : ℕ) (items : List Stretch) → x ≢ y → of_class y (drop (front_count x items) items) ≡ of_class y items
unfolding front_count
drop_front x y [] other = refl
drop_front x y (s ∷ items) other = elim (eqb_tells s.class x) [
  | inl is ↦
      (λ i. of_class y (drop ((cond-true _ (suc (front_count x items)) 0 is.0) i) (s ∷ items)))
      ∙ drop_front x y items other
      ∙ sym (cond-false _ _ _ (ne_eqb s.class y (λ (e : s.class ≡ y). other (sym is.1 ∙ e))))
  | inr is ↦ (λ i. of_class y (drop ((cond-false _ (suc (front_count x items)) 0 is.0) i) (s ∷ items)))
]

pub sorted_behind : (x : ℕ) (items : List Stretch) → SortedFrom x items → SortedFrom (x + 1) (drop (front_count x items) items)
unfolding front_count
sorted_behind x [] sorted = tt
sorted_behind x (s ∷ items) sorted = elim (eqb_tells s.class x) [
  | inl is ↦
      subst (λ n. SortedFrom (x + 1) (drop n (s ∷ items))) (sym (cond-true _ (suc (front_count x items)) 0 is.0))
      (sorted_behind x items (subst (λ n. SortedFrom n items) is.1 sorted.1))
  | inr is ↦
      subst (λ n. SortedFrom (x + 1) (drop n (s ∷ items))) (sym (cond-false _ (suc (front_count x items)) 0 is.0))
      ((let less : x + 1 ≤ s.class = omega (arith, sorted.0, is.1) in less), sorted.1)
]

-- The stretches at the start are counted.
pub counted_one : (x : ℕ) (s : Stretch) (rest left items : List Stretch) (count : ℕ) → rest ≡ s ∷ left → s.class ≡ x → count + front_count x rest ≡ front_count x items → count + 1 + front_count x left ≡ front_count x items
unfolding front_count
counted_one x s rest left items count is same counted =
    (let here : front_count x rest ≡ suc (front_count x left) = ap (front_count x) is ∙ cond-true _ _ _ (eq-eqb s.class x same) in omega (arith, here, counted))

pub counted_other : (x : ℕ) (s : Stretch) (rest left items : List Stretch) (count : ℕ) → rest ≡ s ∷ left → s.class ≢ x → count + front_count x rest ≡ front_count x items → count ≡ front_count x items
unfolding front_count
counted_other x s rest left items count is other counted =
    (let none : front_count x rest ≡ 0 = ap (front_count x) is ∙ cond-false _ _ _ (ne_eqb s.class x other) in omega (arith, none, counted))

pub counted_none : (x : ℕ) (rest items : List Stretch) (count : ℕ) → length rest ≡ 0 → count + front_count x rest ≡ front_count x items → count ≡ front_count x items
unfolding front_count
counted_none x [] items count out counted = omega (arith, counted)
counted_none x (s ∷ rest) items count out counted = absurd (omega arith)
