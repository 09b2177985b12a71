-- Which of some ranges without overlap a range overlaps, in their union or in an ascending list;
-- for `union_of`, `union_with`, `meets`, `meets_rising`, `new`, `put`.
use Rattle.std.proofs.Common.{◌≡◌, ℕ, zero, suc, ◌+◌, ◌<◌, ◌≤◌, ◌&&◌, ◌||◌, nat_lt, nat_le, max, true, false, List, [], ◌∷◌, ◌++◌, length, take, get_or, Option, None, Some, refl, ap, sym, ◌∙◌, inl, inr, subst, arith}
use Rattle.std.specs.List.{list_any}
use Rattle.std.specs.List.Sorted.{IsNonDecreasingBy, IsPartitionedBy, IsPartitionPoint}
use Rattle.std.proofs.lemmas.List.Sorted.{IsPartitionedBy-leb}
use Rattle.std.proofs.lemmas.List.{length-append, get_or_append_left, get_or_at, take_at, take-append-le, take_more}
use Rattle.std.proofs.lemmas.List.Folds.{list_any-append}
use Rattle.std.proofs.Math.Bool.{or_comm}
use Rattle.std.proofs.lemmas.Bool.{cases_lt, lt-ltb, le-ltb, leb-true, leb-false, or_from, and_right}
use Rattle.sym_edges.specs.Addresses.{Range}
use Rattle.range_union.specs.Ranges.{overlap, any_overlap}
use Rattle.rule_postfix.specs.internal.Taken.{AreRising, EndBy, AreAlike, AreFound, AreTaken}

-- If all ranges end at or below an address, none overlaps a range that starts at it or later.
pub none_reaches : (q : Range) (top : ℕ) (ranges : List Range) → top ≤ q.start → EndBy top ranges → false ≡ any_overlap q ranges
unfolding any_overlap
none_reaches q top [] le by = refl
none_reaches q top (r ∷ ranges) le by =
    sym (or_from (overlap q r) (list_any (overlap q) ranges) (ap (λ t. t && nat_lt r.start q.end) (le-ltb q.start r.end (omega (arith, le, by.0)))) (sym (none_reaches q top ranges le by.1)))

-- One range more in a list.
meets_push : (q : Range) (ranges : List Range) (r : Range) → any_overlap q (ranges ++ r ∷ []) ≡ (any_overlap q ranges || overlap q r)
unfolding any_overlap
meets_push q ranges r = list_any-append (overlap q) ranges (r ∷ []) ∙ ap (λ t. list_any (overlap q) ranges || t) (or_comm (overlap q r) false)

-- One range more in the union.
abbrev pub GrowsBy : List Range → List Range → Range → Type 0
GrowsBy united more r = (q : Range) → any_overlap q more ≡ (any_overlap q united || overlap q r)

pub grows_by : (united more : List Range) (r s : Range) → r ≡ s → GrowsBy united more r → GrowsBy united more s
grows_by united more r s same = subst (λ (x : Range). GrowsBy united more x) same

pub union_push : (ranges united more : List Range) (r : Range) → AreAlike ranges united → GrowsBy united more r → AreAlike (ranges ++ r ∷ []) more
union_push ranges united more r alike grown = record { same = λ q. grown q ∙ ap (λ t. t || overlap q r) (alike.same q) ∙ sym (meets_push q ranges r) }

pub union_next : (ranges : List Range) (k : ℕ) (r : Range) (united more : List Range) → AreAlike (take k ranges) united → k < length ranges → r ≡ get_or ranges k r → GrowsBy united more r → AreAlike (take (k + 1) ranges) more
union_next ranges k r united more alike inside is grown =
    subst (λ (rs : List Range). AreAlike rs more) (sym (take_more ranges k r inside ∙ ap (λ x. take k ranges ++ x ∷ []) (sym is))) (union_push (take k ranges) united more r alike grown)

ends_push : (top more : ℕ) (ranges : List Range) (r : Range) → EndBy top ranges → top ≤ more → r.end ≤ more → EndBy more (ranges ++ r ∷ [])
ends_push top more [] r by le last = (last, tt)
ends_push top more (x ∷ ranges) r by le last = (omega (arith, le, by.0), ends_push top more ranges r by.1 le last)

apart_push : (ranges : List Range) (r : Range) → ((k : ℕ) (d : Range) → k < length ranges → any_overlap (get_or ranges k d) (take k ranges) ≡ false) → any_overlap r ranges ≡ false →
    (k : ℕ) (d : Range) → k < length (ranges ++ r ∷ []) → any_overlap (get_or (ranges ++ r ∷ []) k d) (take k (ranges ++ r ∷ [])) ≡ false
apart_push ranges r apart none k d below =
    elim (cases_lt k (length ranges)) [
      | inl less ↦
          ap (λ x. any_overlap x (take k (ranges ++ r ∷ []))) (get_or_append_left ranges (r ∷ []) d k less)
          ∙ ap (any_overlap (get_or ranges k d)) (take-append-le k ranges (r ∷ []) (omega (arith, less))) ∙ apart k d less
      | inr from ↦
          let last : k ≡ length ranges = omega (arith, from, below, length-append ranges (r ∷ [])) in
          ap (λ x. any_overlap x (take k (ranges ++ r ∷ []))) (get_or_at ranges r [] d k (sym last))
          ∙ ap (any_overlap r) (take_at ranges (r ∷ []) k (sym last)) ∙ none
    ]

rising_push : (low top : ℕ) (ranges : List Range) (r : Range) → AreRising low ranges → EndBy top ranges → top ≤ r.start → low ≤ r.start → r.start < r.end → AreRising low (ranges ++ r ∷ [])
rising_push low top [] r up by le from some = (from, some, tt)
rising_push low top (x ∷ ranges) r up by le from some = (up.0, up.1, rising_push x.end top ranges r up.2 by.1 le (omega (arith, by.0, le)) some)

pub taken_push : (ranges new : List Range) (ends after : Option (List Range)) (top same more : ℕ) (r : Range) → AreTaken ranges ends top → any_overlap r ranges ≡ false → new ≡ ranges ++ r ∷ [] → same ≡ top → more ≡ max same r.end → AreFound (ranges ++ r ∷ []) after → AreTaken new after more
taken_push ranges new ends after top same more r taken none grown is last found =
    subst (λ (rs : List Range). AreTaken rs after more) (sym grown) (record {
      found = found;
      by = ends_push top more ranges r taken.by (omega (arith, is, last)) (omega (arith, last));
      apart = apart_push ranges r taken.apart none;
    })

pub found_push : (ranges : List Range) (ends : Option (List Range)) (top : ℕ) (r : Range) → ends ≡ None → AreTaken ranges ends top → top ≤ r.start → r.start < r.end → AreFound (ranges ++ r ∷ []) ends
found_push ranges None top r none taken le some = rising_push 0 top ranges r taken.found taken.by le (omega arith) some
found_push ranges (Some ends) top r none taken le some = cc

-- In ascending ranges, the first that ends above the start decides.
rising_none : (q : Range) (low : ℕ) (ranges : List Range) → q.end ≤ low → AreRising low ranges → list_any (overlap q) ranges ≡ false
rising_none q low [] le up = refl
rising_none q low (r ∷ ranges) le up =
    or_from (overlap q r) (list_any (overlap q) ranges)
    (and_right (nat_lt q.start r.end) (nat_lt r.start q.end) (le-ltb r.start q.end (omega (arith, le, up.0))))
    (rising_none q r.end ranges (omega (arith, le, up.0, up.1)) up.2)

first_decides : (q : Range) (low : ℕ) (r : Range) (ranges : List Range) → AreRising low (r ∷ ranges) → q.start < r.end → nat_lt r.start q.end ≡ list_any (overlap q) (r ∷ ranges)
first_decides q low r ranges up reach =
    elim (cases_lt r.start q.end) [
      | inl below ↦
          lt-ltb r.start q.end below
          ∙ sym (ap (λ t. (nat_lt q.start r.end && t) || list_any (overlap q) ranges) (lt-ltb r.start q.end below) ∙ ap (λ t. (t && true) || list_any (overlap q) ranges) (lt-ltb q.start r.end reach))
      | inr past ↦
          le-ltb r.start q.end past
          ∙ sym (or_from (overlap q r) (list_any (overlap q) ranges) (and_right (nat_lt q.start r.end) (nat_lt r.start q.end) (le-ltb r.start q.end past)) (rising_none q r.end ranges (omega (arith, past, up.1)) up.2))
    ]

passed : (q : Range) (r : Range) (ranges : List Range) → r.end ≤ q.start → list_any (overlap q) (r ∷ ranges) ≡ list_any (overlap q) ranges
passed q r ranges le = ap (λ t. (t && nat_lt r.start q.end) || list_any (overlap q) ranges) (le-ltb q.start r.end le)

met_first : (q : Range) (low : ℕ) (ranges : List Range) (i : ℕ) (r : Range) → AreRising low ranges → ((k : ℕ) (d : Range) → k < i → (get_or ranges k d).end ≤ q.start) → i < length ranges → r ≡ get_or ranges i r → q.start < r.end → nat_lt r.start q.end ≡ list_any (overlap q) ranges
met_first q low [] i r up before inside is reach = absurd (omega (arith, inside))
met_first q low (x ∷ ranges) zero r up before inside is reach =
    ap (λ (y : Range). nat_lt y.start q.end) is ∙ first_decides q low x ranges up (subst (λ (y : Range). q.start < y.end) is reach)
met_first q low (x ∷ ranges) (suc i) r up before inside is reach =
    met_first q x.end ranges i r up.2 (λ k d less. before (suc k) d (omega (arith, less))) (omega (arith, inside)) is reach ∙ sym (passed q x ranges (before 0 x (omega arith)))

met_none : (q : Range) (ranges : List Range) (i : ℕ) → ((k : ℕ) (d : Range) → k < i → (get_or ranges k d).end ≤ q.start) → length ranges ≤ i → list_any (overlap q) ranges ≡ false
met_none q [] i before over = refl
met_none q (x ∷ ranges) zero before over = absurd (omega (arith, over))
met_none q (x ∷ ranges) (suc i) before over = passed q x ranges (before 0 x (omega arith)) ∙ met_none q ranges i (λ k d less. before (suc k) d (omega (arith, less))) (omega (arith, over))

ends_from : (low : ℕ) (ranges : List Range) → AreRising low ranges → (k : ℕ) (d : Range) → k < length ranges → low ≤ (get_or ranges k d).end
ends_from low [] up k d below = absurd (omega arith)
ends_from low (r ∷ ranges) up zero d below = omega (arith, up.0, up.1)
ends_from low (r ∷ ranges) up (suc k) d below = omega (arith, up.0, up.1, ends_from r.end ranges up.2 k d (omega (arith, below)))

ends_rise : (low : ℕ) (ranges : List Range) → AreRising low ranges → IsNonDecreasingBy (λ r. r.end) ranges
ends_rise low [] up i j d le below = absurd (omega arith)
ends_rise low (r ∷ ranges) up zero zero d le below = omega arith
ends_rise low (r ∷ ranges) up zero (suc j) d le below = ends_from r.end ranges up.2 j d (omega (arith, below))
ends_rise low (r ∷ ranges) up (suc i) zero d le below = absurd (omega arith)
ends_rise low (r ∷ ranges) up (suc i) (suc j) d le below = ends_rise r.end ranges up.2 i j d (omega (arith, le)) (omega (arith, below))

pub parted_by_end : (ranges : List Range) (a : ℕ) → AreRising 0 ranges → IsPartitionedBy (λ r. nat_le r.end a) ranges
parted_by_end ranges a up = IsPartitionedBy-leb (λ r. r.end) ranges a (ends_rise 0 ranges up)

pub rising_met : (q : Range) (ranges : List Range) (i : ℕ) (r : Range) → AreRising 0 ranges → IsPartitionPoint (λ r. nat_le r.end q.start ≡ true) (λ r. nat_le r.end q.start ≡ false) ranges i → i < length ranges → r ≡ get_or ranges i r → nat_lt r.start q.end ≡ any_overlap q ranges
unfolding any_overlap
rising_met q ranges i r up point inside is =
    met_first q 0 ranges i r up (λ k d less. leb-true (get_or ranges k d).end q.start (point.0 k d (omega arith) less)) inside is
    (leb-false r.end q.start (ap (λ (y : Range). nat_le y.end q.start) is ∙ point.1 i r (omega arith) inside))

pub rising_unmet : (q : Range) (ranges : List Range) (i : ℕ) → IsPartitionPoint (λ r. nat_le r.end q.start ≡ true) (λ r. nat_le r.end q.start ≡ false) ranges i → length ranges ≤ i → false ≡ any_overlap q ranges
unfolding any_overlap
rising_unmet q ranges i point over = sym (met_none q ranges i (λ k d less. leb-true (get_or ranges k d).end q.start (point.0 k d (omega arith) less)) over)
