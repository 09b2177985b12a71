-- Records in the order of their first addresses.
use Rattle.std.proofs.Common.{◌≡◌, ℕ, zero, suc, ◌<◌, ◌≤◌, ◌==◌, ◌&&◌, ◌++◌, Bool, true, false, if◌then◌else◌, List, [], ◌∷◌, length, get_or, map, arith, refl, sym, ap, ◌∙◌, inl, inr}
use Rattle.std.specs.List.{filter, list_all, AllByRecursion}
use Rattle.std.specs.List.Sorted.{IsNonDecreasingBy, IsStableByKey, IsPermutation, ties}
use Rattle.std.specs.Ordering.{nat_cmp, is_lt}
use Rattle.std.proofs.ByRecursion.{all_shuffled}
use Rattle.std.proofs.lemmas.Bool.{cond-true, cond-false, eq-eqb, ne_eqb, cases_lt}
use Rattle.std.proofs.lemmas.Bool.Decides.{nat_tests, eqb_tells}
use Rattle.std.proofs.lemmas.List.Elements.{filter_agree}
use Rattle.std.proofs.lemmas.List.Kept.{IsNonDecreasingBy-filter}
use Rattle.sym_edges.specs.Addresses.{Range}
use Rattle.range_set.specs.Canonical.{IsCanonical}
use Rattle.inline_chain.proofs.ClassLemmas.{tie_is}
use Rattle.inline_chain.specs.InlineRuns.{InlineParts, is_of, spans_of, joined, AreParts, first_address, is_before, IsOrdered}
use Rattle.inline_chain.specs.internal.Levels.{AreOfLevel, Rising}

abbrev key : InlineParts → ℕ
key r = first_address r.spans

-- The numbers of the records ascend, from `low` on.
abbrev pub RiseBy : (InlineParts → ℕ) → ℕ → List InlineParts → Type 0
RiseBy n low [] = Prim.Unit {0}
RiseBy n low (r ∷ runs) = (low ≤ n r) × RiseBy n (n r) runs

-- The records with a number.
abbrev pub of_number : (InlineParts → ℕ) → ℕ → List InlineParts → List InlineParts
of_number n v runs = filter (λ r. n r == v) runs

none_of : (n : InlineParts → ℕ) (low v : ℕ) (runs : List InlineParts) → RiseBy n low runs → v < low → of_number n v runs ≡ []
none_of n low v [] rise below = refl
none_of n low v (r ∷ runs) rise below = cond-false _ _ _ (ne_eqb (n r) v (λ (e : n r ≡ v). absurd (omega (arith, rise.0)))) ∙ none_of n (n r) v runs rise.1 (omega (arith, rise.0))

first_kept : (n : InlineParts → ℕ) (r : InlineParts) (runs : List InlineParts) → of_number n (n r) (r ∷ runs) ≡ r ∷ of_number n (n r) runs
first_kept n r runs = cond-true _ _ _ (eq-eqb (n r) (n r) refl)

some_left : (n : InlineParts → ℕ) (r : InlineParts) (runs others : List InlineParts) → of_number n (n r) (r ∷ runs) ≡ others → others ≡ [] → ⊥
some_left n r runs others is none = (let e : r ∷ of_number n (n r) runs ≡ [] = sym (first_kept n r runs) ∙ is ∙ none in cc)

cons_first : (x y : InlineParts) (xs ys : List InlineParts) → x ∷ xs ≡ y ∷ ys → x ≡ y
cons_first x y xs ys is = cc

cons_rest : (x y : InlineParts) (xs ys : List InlineParts) → x ∷ xs ≡ y ∷ ys → xs ≡ ys
cons_rest x y xs ys is = cc

-- A list in this order is determined by its members with each number.
pub one_order : (n : InlineParts → ℕ) (low high : ℕ) (xs ys : List InlineParts) → RiseBy n low xs → RiseBy n high ys → ((v : ℕ) → of_number n v xs ≡ of_number n v ys) → xs ≡ ys
one_order n low high [] [] p q same = refl
one_order n low high [] (y ∷ ys) p q same = absurd (some_left n y ys [] (sym (same (n y))) refl)
one_order n low high (x ∷ xs) [] p q same = absurd (some_left n x xs [] (same (n x)) refl)
one_order n low high (x ∷ xs) (y ∷ ys) p q same = elim (cases_lt (n x) (n y)) [
  | inl less ↦ absurd (some_left n x xs _ (same (n x)) (none_of n (n y) (n x) (y ∷ ys) (omega arith, q.1) less))
  | inr from ↦ elim (cases_lt (n y) (n x)) [
    | inl less ↦ absurd (some_left n y ys _ (sym (same (n y))) (none_of n (n x) (n y) (x ∷ xs) (omega arith, p.1) less))
    | inr to ↦
        let numbers : n x ≡ n y = omega arith in
        let fronts : x ∷ of_number n (n x) xs ≡ y ∷ of_number n (n y) ys = sym (first_kept n x xs) ∙ same (n x) ∙ ap (λ v. of_number n v (y ∷ ys)) numbers ∙ first_kept n y ys in
        (λ i. (cons_first x y _ _ fronts) i ∷ (one_order n (n x) (n y) xs ys p.1 q.1 (λ v. tail_same v numbers fronts (same v))) i)
  ]
]
  where
    tail_same : (v : ℕ) → n x ≡ n y → x ∷ of_number n (n x) xs ≡ y ∷ of_number n (n y) ys → of_number n v (x ∷ xs) ≡ of_number n v (y ∷ ys) → of_number n v xs ≡ of_number n v ys
    tail_same v numbers fronts both = elim (eqb_tells (n x) v) [
      | inl is ↦ ap (λ m. of_number n m xs) (sym is.1) ∙ cons_rest x y _ _ fronts ∙ ap (λ m. of_number n m ys) (sym numbers ∙ is.1)
      | inr is ↦ sym (cond-false _ _ _ is.0) ∙ both ∙ cond-false _ _ _ (ne_eqb (n y) v (λ (e : n y ≡ v). is.1 (numbers ∙ e)))
    ]

pub filter_swap : (p q : InlineParts → Bool) (runs : List InlineParts) → filter p (filter q runs) ≡ filter q (filter p runs)
filter_swap p q [] = refl
filter_swap p q (r ∷ runs) = go (p r) (q r) refl refl (filter_swap p q runs)
  where
    go : (b c : Bool) → p r ≡ b → q r ≡ c → filter p (filter q runs) ≡ filter q (filter p runs) → filter p (if c then r ∷ filter q runs else filter q runs) ≡ filter q (if b then r ∷ filter p runs else filter p runs)
    go true true pr qr later = cond-true _ _ _ pr ∙ ap (λ l. r ∷ l) later ∙ sym (cond-true _ _ _ qr)
    go true false pr qr later = later ∙ sym (cond-false _ _ _ qr)
    go false true pr qr later = cond-false _ _ _ pr ∙ later
    go false false pr qr later = later

keys_by : (low : ℕ) (runs : List InlineParts) → IsNonDecreasingBy key runs → (0 < length runs → (d : InlineParts) → low ≤ key (get_or runs 0 d)) → RiseBy key low runs
keys_by low [] rises first = tt
keys_by low (r ∷ runs) rises first =
    (first (omega arith) r, keys_by (key r) runs (λ i j d up h. rises (suc i) (suc j) d (omega arith) (omega arith)) (λ some d. rises 0 1 d (omega arith) (omega arith)))

keys_of : (runs : List InlineParts) → IsNonDecreasingBy key runs → RiseBy key 0 runs
keys_of runs rises = keys_by 0 runs rises (λ some d. omega arith)

-- A stable sort keeps the order of the records with one first address.
same_keys : (xs ys : List InlineParts) → IsStableByKey key nat_cmp xs ys → (v : ℕ) → of_number key v ys ≡ of_number key v xs
same_keys xs ys stable v =
    let tied : InlineParts = record { level = 0; entry = 0; spans = record { start = v; end = v } ∷ [] } in
    sym (filter_agree (ties (λ (r s : InlineParts). is_lt (nat_cmp (key r) (key s))) tied) (λ r. key r == v) (λ r. tie_is v (key r)) ys)
    ∙ stable tied
    ∙ filter_agree (ties (λ (r s : InlineParts). is_lt (nat_cmp (key r) (key s))) tied) (λ r. key r == v) (λ r. tie_is v (key r)) xs

pub sorted_spans : (level : ℕ) (xs ys : List InlineParts) → Rising level xs → IsNonDecreasingBy key ys → IsStableByKey key nat_cmp xs ys → (x : ℕ) → spans_of level x ys ≡ spans_of level x xs
sorted_spans level xs ys rising sorted stable x =
    ap (map (λ (r : InlineParts). r.spans))
    (one_order key 0 0 (filter (is_of level x) ys) (filter (is_of level x) xs) (keys_of _ (IsNonDecreasingBy-filter key (is_of level x) ys sorted)) (keys_of _ (rising x))
    (λ v. filter_swap (λ r. key r == v) (is_of level x) ys ∙ ap (filter (is_of level x)) (same_keys xs ys stable v) ∙ filter_swap (is_of level x) (λ r. key r == v) xs))

all_level : (level : ℕ) (runs : List InlineParts) → AreOfLevel level runs → AllByRecursion (λ (r : InlineParts). r.level ≡ level) runs
all_level level [] are = tt
all_level level (r ∷ runs) are = (are.0, all_level level runs are.1)

level_all : (level : ℕ) (runs : List InlineParts) → AllByRecursion (λ (r : InlineParts). r.level ≡ level) runs → AreOfLevel level runs
level_all level [] are = tt
level_all level (r ∷ runs) are = (are.0, level_all level runs are.1)

pub sorted_level : (level : ℕ) (xs ys : List InlineParts) → IsPermutation xs ys → AreOfLevel level xs → AreOfLevel level ys
sorted_level level xs ys moved are = level_all level ys (all_shuffled (λ (r : InlineParts). r.level ≡ level) xs ys moved (all_level level xs are))

all_before : (low level : ℕ) (r : InlineParts) (runs : List InlineParts) → RiseBy key low runs → key r ≤ low → r.level ≡ level → AreOfLevel level runs → list_all (is_before r) runs ≡ true
all_before low level r [] keys less is are = refl
all_before low level r (s ∷ runs) keys less is are = go (is_before r s) (list_all (is_before r) runs) before (all_before (key s) level r runs keys.1 (omega (arith, keys.0)) is are.1)
  where
    before : is_before r s ≡ true
    before = (let up : key r ≤ key s = omega (arith, keys.0) in let same : r.level ≡ s.level = is ∙ sym are.0 in grind (arith, nat_tests))

    go : (b c : Bool) → b ≡ true → c ≡ true → (b && c) ≡ true
    go true c one two = two
    go false c one two = absurd (cc)

ordered_by : (low level : ℕ) (runs : List InlineParts) → RiseBy key low runs → AreOfLevel level runs → IsOrdered runs
ordered_by low level [] keys are = tt
ordered_by low level (r ∷ runs) keys are = (all_before (key r) level r runs keys.1 (omega arith) are.0 are.1, ordered_by (key r) level runs keys.1 are.1)

pub sorted_ordered : (level : ℕ) (xs ys : List InlineParts) → IsPermutation xs ys → IsNonDecreasingBy key ys → AreOfLevel level xs → IsOrdered ys
sorted_ordered level xs ys moved sorted are = ordered_by 0 level ys (keys_of ys sorted) (sorted_level level xs ys moved are)

-- The parts of a set begin one after the other.
abbrev BeginsFrom : ℕ → List Range → Type 0
BeginsFrom low [] = Prim.Unit {0}
BeginsFrom low (r ∷ spans) = low ≤ r.start

suffix : (r : Range) (spans more : List Range) → IsCanonical (r ∷ (spans ++ more)) → IsCanonical more × BeginsFrom r.start more
suffix r [] [] canonical = (tt, tt)
suffix r [] (m ∷ more) canonical = (canonical.2, omega (arith, canonical.0, canonical.1))
suffix r (s ∷ spans) more canonical =
    (let later : IsCanonical more × BeginsFrom s.start more = suffix s spans more canonical.2 in (later.0, lower more later.1 (omega (arith, canonical.0, canonical.1))))
  where
    lower : (more : List Range) → BeginsFrom s.start more → r.start ≤ s.start → BeginsFrom r.start more
    lower [] begins less = tt
    lower (m ∷ more) begins less = omega (arith, begins)

parts_rise : (low : ℕ) (runs : List InlineParts) → AreParts (map (λ (r : InlineParts). r.spans) runs) → IsCanonical (joined (map (λ (r : InlineParts). r.spans) runs)) → BeginsFrom low (joined (map (λ (r : InlineParts). r.spans) runs)) → RiseBy key low runs
unfolding joined
parts_rise low [] parts canonical begins = tt
parts_rise low (r ∷ []) parts canonical begins = go r.spans parts.0 begins
  where
    go : (spans : List Range) → 0 < length spans → BeginsFrom low (spans ++ []) → (low ≤ first_address spans) × Prim.Unit {0}
    go [] some begins = absurd (omega arith)
    go (s ∷ spans) some begins = (begins, tt)
parts_rise low (r ∷ s ∷ runs) parts canonical begins = go r.spans (omega (arith, parts.0)) canonical begins (λ low. parts_rise low (s ∷ runs) parts.1)
  where
    go : (spans : List Range) → 0 < length spans → IsCanonical (spans ++ joined (map (λ (r : InlineParts). r.spans) (s ∷ runs))) → BeginsFrom low (spans ++ joined (map (λ (r : InlineParts). r.spans) (s ∷ runs)))
        → ((low : ℕ) → IsCanonical (joined (map (λ (r : InlineParts). r.spans) (s ∷ runs))) → BeginsFrom low (joined (map (λ (r : InlineParts). r.spans) (s ∷ runs))) → RiseBy key low (s ∷ runs))
        → (low ≤ first_address spans) × RiseBy key (first_address spans) (s ∷ runs)
    go [] some canonical begins later = absurd (omega arith)
    go (t ∷ spans) some canonical begins later =
        (let behind : IsCanonical (joined (map (λ (r : InlineParts). r.spans) (s ∷ runs))) × BeginsFrom t.start (joined (map (λ (r : InlineParts). r.spans) (s ∷ runs))) = suffix t spans _ canonical in (begins, later t.start behind.0 behind.1))

keys_non_decreasing : (low : ℕ) (runs : List InlineParts) → RiseBy key low runs → IsNonDecreasingBy key runs
keys_non_decreasing low [] keys i j d up h = absurd (omega arith)
keys_non_decreasing low (r ∷ runs) keys zero zero d up h = omega arith
keys_non_decreasing low (r ∷ runs) keys zero (suc j) d up h = from_key (key r) runs keys.1 j d (omega arith)
  where
    from_key : (low : ℕ) (runs : List InlineParts) → RiseBy key low runs → (k : ℕ) (d : InlineParts) → k < length runs → low ≤ key (get_or runs k d)
    from_key low [] keys k d h = absurd (omega arith)
    from_key low (r ∷ runs) keys zero d h = keys.0
    from_key low (r ∷ runs) keys (suc k) d h = (let up : key r ≤ key (get_or runs k d) = from_key (key r) runs keys.1 k d (omega arith) in omega (arith, keys.0))
keys_non_decreasing low (r ∷ runs) keys (suc i) zero d up h = absurd (omega arith)
keys_non_decreasing low (r ∷ runs) keys (suc i) (suc j) d up h = keys_non_decreasing (key r) runs keys.1 i j d (omega arith) (omega arith)

pub rising_parts : (runs : List InlineParts) → AreParts (map (λ (r : InlineParts). r.spans) runs) → IsCanonical (joined (map (λ (r : InlineParts). r.spans) runs)) → IsNonDecreasingBy key runs
rising_parts runs parts canonical = keys_non_decreasing 0 runs (parts_rise 0 runs parts canonical (from_0 (joined (map (λ (r : InlineParts). r.spans) runs))))
  where
    from_0 : (spans : List Range) → BeginsFrom 0 spans
    from_0 [] = tt
    from_0 (r ∷ spans) = omega arith
