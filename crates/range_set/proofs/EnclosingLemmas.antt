use Rattle.std.proofs.Common.{◌≡◌, ℕ, ◌<◌, ◌≤◌, Bool, true, false, nat_le, ◌||◌, ◌&&◌, List, [], ◌∷◌, ◌++◌, length, refl, sym, ap, ◌∙◌, arith}
use Rattle.std.proofs.Math.Bool.{or-false}
use Rattle.std.proofs.lemmas.Bool.{or_right}
use Rattle.std.specs.List.Sorted.{IsPermutation}
use Rattle.std.proofs.lemmas.List.Sorted.{list_any-IsPermutation}
use Rattle.std.proofs.lemmas.List.Folds.{list_any-append}
use Rattle.std.proofs.lemmas.Bool.Decides.{nat_tests}
use Rattle.sym_edges.specs.Addresses.{Range}
use Rattle.range_set.specs.Starts.{AllFrom}
use Rattle.range_set.specs.Building.{last_start, AreAscending, StartsBefore}
use Rattle.range_set.specs.Enclosing.{encloses}
use Rattle.range_set.specs.Building.{AllReach, AreRising}
use Rattle.range_set.proofs.JoinLemmas.{from_lower, from_zero}

-- The range starts at or below `start` and ends at or above `end`.
abbrev pub has_both : ℕ → ℕ → Range → Bool
has_both start end r = nat_le r.start start && nat_le end r.end

-- A permutation of a list encloses the same ranges.
pub permuted_encloses : (xs ys : List Range) (start end : ℕ) → IsPermutation xs ys → encloses ys start end ≡ encloses xs start end
unfolding encloses
permuted_encloses xs ys start end p = sym (list_any-IsPermutation (has_both start end) xs ys p)

more_encloses : (xs : List Range) (x : Range) (start end : ℕ) → encloses (xs ++ x ∷ []) start end ≡ (encloses xs start end || (has_both start end x || false))
unfolding encloses
more_encloses xs x start end = list_any-append (has_both start end) xs (x ∷ [])

first_encloses : (x : Range) (xs : List Range) (start end : ℕ) → encloses (x ∷ xs) start end ≡ (has_both start end x || encloses xs start end)
unfolding encloses
first_encloses x xs start end = refl

last_more : (xs : List Range) (x : Range) → last_start xs ≤ x.start → last_start (xs ++ x ∷ []) ≡ x.start
last_more [] x low = omega arith
last_more (y ∷ xs) x low = (let e : last_start (xs ++ x ∷ []) ≡ x.start = last_more xs x (omega arith) in omega arith)

-- Each range ends at or below the address.
abbrev pub EndBy : ℕ → List Range → Type 0
EndBy a [] = Unit {0}
EndBy a (range ∷ ranges) = (range.end ≤ a) × EndBy a ranges

from_more : (s : ℕ) (xs : List Range) (x : Range) → AllFrom s xs → s ≤ x.start → AllFrom s (xs ++ x ∷ [])
from_more s [] x all low = (low, tt)
from_more s (y ∷ xs) x all low = (all.0, from_more s xs x all.1 low)

reach_more : (e : ℕ) (xs : List Range) (x : Range) → AllReach e xs → e ≤ x.end → AllReach e (xs ++ x ∷ [])
reach_more e [] x all low = (low, tt)
reach_more e (y ∷ xs) x all low = (all.0, reach_more e xs x all.1 low)

rising_more : (xs : List Range) (x : Range) (reach : ℕ) → AreRising xs → last_start xs ≤ x.start → EndBy reach xs → reach ≤ x.end → AreRising (xs ++ x ∷ [])
rising_more [] x reach rising low ends far = (tt, tt, tt)
rising_more (y ∷ xs) x reach rising low ends far = (
  from_more y.start xs x rising.0 (omega arith),
  reach_more y.end xs x rising.1 (omega arith),
  rising_more xs x reach rising.2 (omega arith) ends.1 far,
)

end_more : (xs : List Range) (x : Range) (reach : ℕ) → EndBy reach xs → reach ≤ x.end → EndBy x.end (xs ++ x ∷ [])
end_more [] x reach ends far = (omega arith, tt)
end_more (y ∷ xs) x reach ends far = (omega arith, end_more xs x reach ends.1 far)

-- The invariant of `keep_outermost`: the ranges kept so far, the greatest end so far, and the
-- ranges that are left.
pub record Keeps (all kept rest : List Range) (reach : ℕ) : Type 0 where
  pub rising : AreRising kept
  pub ascending : AreAscending rest
  pub before : StartsBefore kept rest
  pub ends : EndBy reach kept
  pub held : (start end : ℕ) → last_start kept ≤ start → 0 < reach → end ≤ reach → encloses kept start end ≡ true
  pub same : (start end : ℕ) → (encloses kept start end || encloses rest start end) ≡ encloses all start end

none_encloses : (all : List Range) (start end : ℕ) → (encloses [] start end || encloses all start end) ≡ encloses all start end
unfolding encloses
none_encloses all start end = refl

-- At the beginning no range is kept.
pub keeps_none : (all kept : List Range) → kept ≡ [] → AreAscending all → Keeps all kept all 0
keeps_none all kept is ascending = record {
  rising = rw is tt;
  ascending = ascending;
  before = rw is (from_zero all);
  ends = rw is tt;
  held = λ start end low some far. absurd (omega arith);
  same = λ start end. rw is (none_encloses all start end);
}

both_true : (x : Range) (start end : ℕ) → x.start ≤ start → end ≤ x.end → has_both start end x ≡ true
both_true x start end low far = grind (arith, nat_tests)

both_low : (x : Range) (start end : ℕ) → has_both start end x ≡ true → x.start ≤ start
both_low x start end both = grind (arith, nat_tests)

both_far : (x : Range) (start end : ℕ) → has_both start end x ≡ true → end ≤ x.end
both_far x start end both = grind (arith, nat_tests)

or_end : (p q r : Bool) → ((p || (q || false)) || r) ≡ (p || (q || r))
or_end true q r = refl
or_end false true r = refl
or_end false false r = refl

or_within : (p q r : Bool) → (q ≡ true → p ≡ true) → (p || r) ≡ (p || (q || r))
or_within true q r within = refl
or_within false true r within = (let e : false ≡ true = within refl in cc)
or_within false false r within = refl

held_more : (kept later : List Range) (x : Range) (start end : ℕ) → later ≡ kept ++ x ∷ [] → last_start kept ≤ x.start → last_start later ≤ start → end ≤ x.end → encloses later start end ≡ true
held_more kept later x start end is low above near =
    let at : last_start later ≡ x.start = ap last_start is ∙ last_more kept x low in
    let both : has_both start end x ≡ true = both_true x start end (omega arith) near in
    ap (λ l. encloses l start end) is ∙ more_encloses kept x start end
    ∙ ap (λ b. encloses kept start end || (b || false)) both ∙ or_right (encloses kept start end) true refl

same_more : (all kept rest later : List Range) (x : Range) (start end : ℕ) → later ≡ kept ++ x ∷ [] → (encloses kept start end || encloses (x ∷ rest) start end) ≡ encloses all start end → (encloses later start end || encloses rest start end) ≡ encloses all start end
same_more all kept rest later x start end is same =
    ap (λ l. encloses l start end || encloses rest start end) is
    ∙ ap (λ b. b || encloses rest start end) (more_encloses kept x start end)
    ∙ or_end (encloses kept start end) (has_both start end x) (encloses rest start end)
    ∙ ap (λ b. encloses kept start end || b) (sym (first_encloses x rest start end))
    ∙ same

-- A range that ends above all ends so far is kept.
pub keeps_more : (all kept rest later : List Range) (x : Range) (reach : ℕ) → Keeps all kept (x ∷ rest) reach → reach < x.end → later ≡ kept ++ x ∷ [] → Keeps all later rest x.end
keeps_more all kept rest later x reach k far is =
    let low : last_start kept ≤ x.start = k.before.0 in
    let last : last_start (kept ++ x ∷ []) ≡ x.start = last_more kept x low in
    record {
      rising = rw is (rising_more kept x reach k.rising low k.ends (omega arith));
      ascending = k.ascending.1;
      before = rw is (from_lower (last_start (kept ++ x ∷ [])) x.start rest k.ascending.0 (omega arith));
      ends = rw is (end_more kept x reach k.ends (omega arith));
      held = λ start end above some near. held_more kept later x start end is low above near;
      same = λ start end. same_more all kept rest later x start end is (k.same start end);
    }

-- A range that does not end above all ends so far is enclosed by one that is kept.
pub keeps_same : (all kept rest : List Range) (x : Range) (reach : ℕ) → Keeps all kept (x ∷ rest) reach → x.start < x.end → x.end ≤ reach → Keeps all kept rest reach
keeps_same all kept rest x reach k some near =
    let low : last_start kept ≤ x.start = k.before.0 in
    record {
      rising = k.rising;
      ascending = k.ascending.1;
      before = k.before.1;
      ends = k.ends;
      held = k.held;
      same = λ start end.
          or_within (encloses kept start end) (has_both start end x) (encloses rest start end)
          (λ both. (let at : x.start ≤ start = both_low x start end both in let by : end ≤ x.end = both_far x start end both in k.held start end (omega arith) (omega arith) (omega arith)))
          ∙ ap (λ b. encloses kept start end || b) (sym (first_encloses x rest start end))
          ∙ k.same start end;
    }

-- At the end the kept ranges enclose what all ranges enclose.
pub keeps_all : (all kept rest : List Range) (reach : ℕ) → Keeps all kept rest reach → length rest ≡ 0 → (start end : ℕ) → encloses kept start end ≡ encloses all start end
unfolding encloses
keeps_all all kept [] reach k none start end = sym (or-false (encloses kept start end)) ∙ k.same start end
keeps_all all kept (x ∷ rest) reach k none start end = absurd (omega arith)
