-- Marks sorted by their keys, and in the order of their records.
use Rattle.std.proofs.Common.{◌≡◌, ℕ, zero, suc, ◌-◌, ◌<◌, ◌≤◌, nat_le, nat_lt, Bool, cond, true, false, List, [], ◌∷◌, length, get_or, drop, Option, Some, None, refl, sym, ◌∙◌, ap, subst, inl, inr, arith}
use Rattle.std.specs.List.Sorted.{IsNonDecreasingBy, IsPartitionPoint, IsStableByKey}
use Rattle.std.specs.Ordering.{nat_cmp}
use Rattle.std.proofs.lemmas.Bool.{cases_lt, le-leb, lt-leb, lt-ltb, le-ltb}
use Rattle.std.proofs.lemmas.Bool.Decides.{nat_tests}
use Rattle.std.proofs.lemmas.List.{get_or_default}
use Rattle.step_maps.proofs.NearestLemmas.{nearer, nearest, nearest_sorted, first_counts}
use Rattle.sym_records.specs.declared.line.SymLine.{SymLine}
use Rattle.sym_lookup.specs.declared.marks.Mark.{Mark}
use Rattle.sym_lookup.specs.declared.marks.Marked.{Marked}
use Rattle.sym_lookup.specs.internal.Marks.{marks_of}
use Rattle.sym_lookup.specs.NearestMarks.{nearer_mark, mark_at}

none_left : (kind : Marked) (lines : List SymLine) (n at : ℕ) → length lines ≤ at → marks_of kind n (drop at lines) ≡ []
none_left kind [] n zero l = refl
none_left kind [] n (suc at) l = refl
none_left kind (s ∷ lines) n zero l = absurd (omega arith)
none_left kind (s ∷ lines) n (suc at) l = none_left kind lines n at (omega arith)

-- There is no mark at or below the key.
pub no_mark : (marks : List Mark) (x : ℕ) → ((k : ℕ) (d : Mark) → k < length marks → x < (get_or marks k d).key) → mark_at marks x ≡ None
unfolding mark_at
no_mark [] x above = refl
no_mark (m ∷ marks) x above =
    ap (λ b. nearer_mark (cond b (Some m) None) (mark_at marks x)) (lt-leb m.key x (above 0 m (omega arith))) ∙ no_mark marks x (λ k d l. above (suc k) d (omega arith))

-- A mark that was found has a key at or below the one looked up.
abbrev pub IsUpTo : ℕ → Option Mark → Type 0
IsUpTo v None = Unit {0}
IsUpTo v (Some s) = s.key ≤ v

up_to_nearer : (v : ℕ) (x y : Option Mark) → IsUpTo v x → IsUpTo v y → IsUpTo v (nearer_mark x y)
up_to_nearer v None y one two = two
up_to_nearer v (Some s) None one two = one
up_to_nearer v (Some s) (Some t) one two = go (nat_lt s.key t.key)
  where
    go : (b : Bool) → IsUpTo v (cond b (Some t) (Some s))
    go true = two
    go false = one

up_to_test : (v : ℕ) (m : Mark) (b : Bool) → (b ≡ true → m.key ≤ v) → IsUpTo v (cond b (Some m) None)
up_to_test v m true h = h refl
up_to_test v m false h = tt

le_of : (a b : ℕ) → nat_le a b ≡ true → a ≤ b
le_of a b h = grind (arith, nat_tests)

pub bounded : (marks : List Mark) (x v : ℕ) → ((k : ℕ) (d : Mark) → k < length marks → (get_or marks k d).key ≤ x → (get_or marks k d).key ≤ v) → IsUpTo v (mark_at marks x)
unfolding mark_at
bounded [] x v below = tt
bounded (m ∷ marks) x v below =
    up_to_nearer v (cond (nat_le m.key x) (Some m) None) (mark_at marks x) (up_to_test v m (nat_le m.key x) (λ h. below 0 m (omega arith) (le_of m.key x h)))
    (bounded marks x v (λ k d l. below (suc k) d (omega arith)))

first_kept : (m : Mark) (other : Option Mark) → IsUpTo m.key other → nearer_mark (Some m) other ≡ Some m
first_kept m None h = refl
first_kept m (Some s) h = ap (λ b. cond b (Some s) (Some m)) (le-ltb m.key s.key h)

later_kept : (m t : Mark) (b : Bool) → m.key < t.key → nearer_mark (cond b (Some m) None) (Some t) ≡ Some t
later_kept m t true l = ap (λ b. cond b (Some t) (Some m)) (lt-ltb m.key t.key l)
later_kept m t false l = refl

-- The mark at an index is the nearest, and no earlier one has its key.
pub mark_is : (marks : List Mark) (x at : ℕ) (d : Mark) → at < length marks → (get_or marks at d).key ≤ x
    → ((k : ℕ) (e : Mark) → k < length marks → (get_or marks k e).key ≤ x → (get_or marks k e).key ≤ (get_or marks at d).key)
    → ((k : ℕ) (e : Mark) → k < at → (get_or marks k e).key < (get_or marks at d).key) → mark_at marks x ≡ Some (get_or marks at d)
unfolding mark_at
mark_is [] x at d l low greatest first = absurd (omega arith)
mark_is (m ∷ marks) x zero d l low greatest first =
    ap (λ b. nearer_mark (cond b (Some m) None) (mark_at marks x)) (le-leb m.key x low)
    ∙ first_kept m (mark_at marks x) (bounded marks x m.key (λ k e h. greatest (suc k) e (omega arith)))
mark_is (m ∷ marks) x (suc at) d l low greatest first =
    ap (nearer_mark (cond (nat_le m.key x) (Some m) None)) (mark_is marks x at d (omega arith) low (λ k e h. greatest (suc k) e (omega arith)) (λ k e h. first (suc k) e (omega arith)))
    ∙ later_kept m (get_or marks at d) (nat_le m.key x) (first 0 m (omega arith))

nearer_is : (x y : Option Mark) → nearer_mark x y ≡ nearer nat_lt (λ m. m.key) x y
nearer_is None y = refl
nearer_is (Some m) None = refl
nearer_is (Some m) (Some n) = refl

mark_nearest : (marks : List Mark) (a : ℕ) → mark_at marks a ≡ nearest nat_lt (λ m. m.key) marks a
unfolding mark_at
mark_nearest [] a = refl
mark_nearest (m ∷ marks) a = nearer_is (cond (nat_le m.key a) (Some m) None) (mark_at marks a) ∙ ap (nearer nat_lt (λ m. m.key) (cond (nat_le m.key a) (Some m) None)) (mark_nearest marks a)

-- A stable sort does not change the mark that counts.
pub mark_same : (xs ys : List Mark) → IsStableByKey (λ m. m.key) nat_cmp xs ys → (a : ℕ) → mark_at ys a ≡ mark_at xs a
mark_same xs ys stable a =
    mark_nearest ys a
    ∙ nearest_sorted nat_lt (λ m. m.key) first_counts (λ v. record { key = v; place = 0 }) (λ v. refl) xs ys stable a
    ∙ sym (mark_nearest xs a)

-- Binary search for the nearest key, and then for the first mark with this key.
above_of : (a b : ℕ) → nat_le a b ≡ false → b < a
above_of a b h = grind (arith, nat_tests)

below_of : (a b : ℕ) → nat_lt a b ≡ true → a < b
below_of a b h = grind (arith, nat_tests)

from_of : (a b : ℕ) → nat_lt a b ≡ false → b ≤ a
from_of a b h = grind (arith, nat_tests)

abbrev pub IsCount : List Mark → ℕ → ℕ → Type 0
IsCount marks x count = IsPartitionPoint (λ m. nat_le m.key x ≡ true) (λ m. nat_le m.key x ≡ false) marks count

abbrev pub IsFirst : List Mark → ℕ → ℕ → Type 0
IsFirst marks a first = IsPartitionPoint (λ m. nat_lt m.key a ≡ true) (λ m. nat_lt m.key a ≡ false) marks first

pub search_none : (marks : List Mark) (x count : ℕ) → IsCount marks x count → count ≡ 0 → None ≡ mark_at marks x
search_none marks x count point none = sym (no_mark marks x (λ k d l. above_of (get_or marks k d).key x (point.1 k d (omega arith) l)))

first_before : (marks : List Mark) (at first : ℕ) (d : Mark) → IsFirst marks (get_or marks at d).key first → first ≤ at
first_before marks at first d point = elim (cases_lt at first) [
  | inl l ↦ absurd (let less : (get_or marks at d).key < (get_or marks at d).key = below_of _ _ (point.0 at d (omega arith) l) in omega arith)
  | inr le ↦ le
]

pub search_within : (marks : List Mark) (count first : ℕ) (d : Mark) → 0 < count → count ≤ length marks → IsFirst marks (get_or marks (count - 1) d).key first → first < length marks
search_within marks count first d some within point = let before : first ≤ count - 1 = first_before marks (count - 1) first d point in omega arith

pub search_some : (marks : List Mark) (x count first : ℕ) (d : Mark) → IsNonDecreasingBy (λ m. m.key) marks → IsCount marks x count → 0 < count → count ≤ length marks → IsFirst marks (get_or marks (count - 1) d).key first → Some (get_or marks first d) ≡ mark_at marks x
search_some marks x count first d rises point some within start =
    let before : first ≤ count - 1 = first_before marks (count - 1) first d start in
    let up : (get_or marks first d).key ≤ (get_or marks (count - 1) d).key = rises first (count - 1) d before (omega arith) in
    let down : (get_or marks (count - 1) d).key ≤ (get_or marks first d).key = from_of _ _ (start.1 first d (omega arith) (omega arith)) in
    let low : (get_or marks (count - 1) d).key ≤ x = le_of _ _ (point.0 (count - 1) d (omega arith) (omega arith)) in
    sym (mark_is marks x first d (omega arith) (omega arith)
    (λ k e l at. elim (cases_lt k count) [
      | inl less ↦ (let last : (get_or marks k e).key ≤ (get_or marks (count - 1) e).key = rises k (count - 1) e (omega arith) (omega arith) in let same : get_or marks (count - 1) e ≡ get_or marks (count - 1) d = get_or_default marks (count - 1) e d (omega arith) in let le : (get_or marks k e).key ≤ (get_or marks (count - 1) d).key = subst (λ (m : Mark). (get_or marks k e).key ≤ m.key) same last in omega arith)
      | inr more ↦ absurd (let high : x < (get_or marks k e).key = above_of _ _ (point.1 k e more l) in omega arith)
    ])
    (λ k e l. (let less : (get_or marks k e).key < (get_or marks (count - 1) d).key = below_of _ _ (start.0 k e (omega arith) l) in omega arith)))
