-- Ranges of which no two overlap, in the order of their starts (for `last_before`, `meets`,
-- `take_met` and `put_range`).
use Rattle.std.proofs.Common.{◌≡◌, ℕ, ◌<◌, ◌≤◌, ◌==◌, ◌&&◌, ◌||◌, not, nat_lt, min, max, Bool, true, false, cond, List, [], ◌∷◌, ◌++◌, map, length, Option, None, Some, refl, ap, sym, ◌∙◌, ◌⊎◌, inl, inr, subst, arith, eq-eqb}
use Rattle.std.specs.List.{list_any, filter}
use Rattle.std.specs.Ordering.{nat_cmp, is_le, match_ordering}
use Rattle.std.specs.declared.cmp.Ordering.TheVariants.{Less, Equal, Greater}
use Rattle.std.specs.BTreeMap.{insert_entry, is_at}
use Rattle.std.specs.Map.{remove_entry}
use Rattle.std.specs.Cmp.{nat_cmp_is}
use Rattle.std.proofs.Math.Bool.{or_comm}
use Rattle.std.proofs.lemmas.Bool.{cases_lt, cases_order, lt-ltb, le-ltb, ltb-true, ltb-false, ne_eqb, or_parts, or_from, and_right, and_cases, and_parts}
use Rattle.std.proofs.lemmas.Bool.Decides.{nat_tests}
use Rattle.sym_edges.specs.Addresses.{Range}
use Rattle.range_union.specs.Ranges.{overlap, any_overlap, range_to}
use Rattle.range_union.specs.internal.Entries.{range_by, ranges_by, StartsFrom, AreApart, or_entry, last_below, IsTaken}

or_none : (o : Option (ℕ × ℕ)) → or_entry o None ≡ o
or_none None = refl
or_none (Some e) = refl

and_or : (t : Bool) → ((t && true) || false) ≡ t
and_or true = refl
and_or false = refl

one_or : (t u : Bool) → (t ≡ true → u ≡ true) → ((t && true) || u) ≡ u
one_or true u implies = sym (implies refl)
one_or false u implies = refl

some_same : (x y : ℕ × ℕ) → Some x ≡ Some y → x ≡ y
some_same x y is = cc

none_some : (x : ℕ × ℕ) → None ≡ Some x → ⊥
none_some x is = cc

-- The last of some entries.
last_of : List (ℕ × ℕ) → Option (ℕ × ℕ)
last_of [] = None
last_of (e ∷ entries) = or_entry (last_of entries) (Some e)

last_of-append : (entries : List (ℕ × ℕ)) (e : ℕ × ℕ) → last_of (entries ++ e ∷ []) ≡ Some e
unfolding last_of
last_of-append [] e = refl
last_of-append (d ∷ entries) e = ap (λ o. or_entry o (Some d)) (last_of-append entries e)

pub below_is : (below start : ℕ) → (true && not (is_le (nat_cmp below start))) ≡ nat_lt start below
below_is below start =
    elim (cases_order below start) [
      | inl same ↦ ap (λ t. not (is_le (cond t Less (cond (below == start) Equal Greater)))) (le-ltb below start (omega (arith, same))) ∙ ap (λ t. not (is_le (cond t Equal Greater))) (eq-eqb below start same) ∙ sym (le-ltb start below (omega (arith, same)))
      | inr (inl less) ↦ ap (λ t. not (is_le (cond t Less (cond (below == start) Equal Greater)))) (lt-ltb below start less) ∙ sym (le-ltb start below (omega (arith, less)))
      | inr (inr more) ↦ ap (λ t. not (is_le (cond t Less (cond (below == start) Equal Greater)))) (le-ltb below start (omega (arith, more))) ∙ ap (λ t. not (is_le (cond t Equal Greater))) (ne_eqb below start (λ same. absurd (omega (arith, more, same)))) ∙ sym (lt-ltb start below more)
    ]

last_by : (test : ℕ × ℕ → Bool) (below : ℕ) (e : ℕ × ℕ) (entries : List (ℕ × ℕ)) (t : Bool) → test e ≡ t → nat_lt e.0 below ≡ t → last_of (filter test entries) ≡ last_below below entries → last_of (filter test (e ∷ entries)) ≡ last_below below (e ∷ entries)
unfolding last_of last_below
last_by test below e entries true is lt more =
    ap (λ t. last_of (cond t (e ∷ filter test entries) (filter test entries))) is ∙ ap (λ o. or_entry o (Some e)) more ∙ sym (ap (λ t. or_entry (last_below below entries) (cond t (Some e) None)) lt)
last_by test below e entries false is lt more =
    ap (λ t. last_of (cond t (e ∷ filter test entries) (filter test entries))) is ∙ more ∙ sym (or_none (last_below below entries)) ∙ sym (ap (λ t. or_entry (last_below below entries) (cond t (Some e) None)) lt)

last_kept : (test : ℕ × ℕ → Bool) (below : ℕ) → ((e : ℕ × ℕ) → test e ≡ nat_lt e.0 below) → (entries : List (ℕ × ℕ)) → last_of (filter test entries) ≡ last_below below entries
unfolding last_of last_below
last_kept test below same [] = refl
last_kept test below same (e ∷ entries) = last_by test below e entries (nat_lt e.0 below) (same e) refl (last_kept test below same entries)

pub last_of_kept : (test : ℕ × ℕ → Bool) (below : ℕ) (entries kept rest : List (ℕ × ℕ)) (e : ℕ × ℕ) → ((d : ℕ × ℕ) → test d ≡ nat_lt d.0 below) → kept ≡ filter test entries → kept ≡ rest ++ e ∷ [] → Some e ≡ last_below below entries
last_of_kept test below entries kept rest e same all ends = sym (last_of-append rest e) ∙ ap last_of (sym ends ∙ all) ∙ last_kept test below same entries

pub none_kept : (test : ℕ × ℕ → Bool) (below : ℕ) (entries kept : List (ℕ × ℕ)) → ((d : ℕ × ℕ) → test d ≡ nat_lt d.0 below) → kept ≡ filter test entries → kept ≡ [] → None ≡ last_below below entries
unfolding last_of
none_kept test below entries kept same all none = ap last_of (sym none ∙ all) ∙ last_kept test below same entries

-- If all entries start at or above `below`, none of them starts below it.
none_below : (below a : ℕ) (entries : List (ℕ × ℕ)) → below ≤ a → StartsFrom a entries → AreApart entries → last_below below entries ≡ None
unfolding last_below
none_below below a [] le from apart = refl
none_below below a (e ∷ entries) le from apart =
    ap (λ o. or_entry o (cond (nat_lt e.0 below) (Some e) None)) (none_below below e.1 entries (omega (arith, le, from, apart.0)) apart.1 apart.2)
    ∙ ap (λ t. cond t (Some e) None) (le-ltb e.0 below (omega (arith, le, from)))

none_overlaps : (q : Range) (a : ℕ) (entries : List (ℕ × ℕ)) → q.end ≤ a → StartsFrom a entries → AreApart entries → list_any (overlap q) (ranges_by entries) ≡ false
unfolding ranges_by
none_overlaps q a [] le from apart = refl
none_overlaps q a (e ∷ entries) le from apart =
    or_from (overlap q (range_by e)) (list_any (overlap q) (map range_by entries))
    (and_right (nat_lt q.start e.1) (nat_lt e.0 q.end) (le-ltb e.0 q.end (omega (arith, le, from))))
    (none_overlaps q e.1 entries (omega (arith, le, from, apart.0)) apart.1 apart.2)

above_by : (a : ℕ) (e f : ℕ × ℕ) (o : Option (ℕ × ℕ)) (t : Bool) → a ≤ e.0 → e.0 < e.1 → ((l : ℕ × ℕ) → o ≡ Some l → (e.1 ≤ l.0) × (l.0 < l.1)) → or_entry o (cond t (Some e) None) ≡ Some f → (a ≤ f.0) × (f.0 < f.1)
above_by a e f (Some l) t from some more is =
    let same : l ≡ f = some_same l f is in
    let P : ℕ × ℕ → Type 0 = λ g. (a ≤ g.0) × (g.0 < g.1) in
    subst P same (let facts : (e.1 ≤ l.0) × (l.0 < l.1) = more l refl in (omega (arith, from, some, facts.0), facts.1))
above_by a e f None true from some more is =
    let P : ℕ × ℕ → Type 0 = λ g. (a ≤ g.0) × (g.0 < g.1) in
    subst P (some_same e f is) (from, some)
above_by a e f None false from some more is = absurd (none_some f is)

last_above : (below a : ℕ) (f : ℕ × ℕ) (entries : List (ℕ × ℕ)) → StartsFrom a entries → AreApart entries → last_below below entries ≡ Some f → (a ≤ f.0) × (f.0 < f.1)
unfolding last_below
last_above below a f [] from apart is = absurd (none_some f is)
last_above below a f (e ∷ entries) from apart is = above_by a e f (last_below below entries) (nat_lt e.0 below) from apart.0 (λ l there. last_above below e.1 l entries apart.1 apart.2 there) is

-- The last range that starts below the end of a range decides whether it overlaps any.
decides : ℕ → Option (ℕ × ℕ) → Bool
decides start None = false
decides start (Some e) = nat_lt start e.1

met_by : (q : Range) (e : ℕ × ℕ) (o : Option (ℕ × ℕ)) → e.0 < q.end → ((l : ℕ × ℕ) → o ≡ Some l → (e.1 ≤ l.0) × (l.0 < l.1)) → (overlap q (range_by e) || decides q.start o) ≡ decides q.start (or_entry o (Some e))
unfolding decides
met_by q e None below more = ap (λ t. (nat_lt q.start e.1 && t) || false) (lt-ltb e.0 q.end below) ∙ and_or (nat_lt q.start e.1)
met_by q e (Some l) below more =
    ap (λ t. (nat_lt q.start e.1 && t) || nat_lt q.start l.1) (lt-ltb e.0 q.end below)
    ∙ one_or (nat_lt q.start e.1) (nat_lt q.start l.1) (λ is. let facts : (e.1 ≤ l.0) × (l.0 < l.1) = more l refl in lt-ltb q.start l.1 (omega (arith, ltb-true q.start e.1 is, facts.0, facts.1)))

met : (q : Range) (entries : List (ℕ × ℕ)) → AreApart entries → list_any (overlap q) (ranges_by entries) ≡ decides q.start (last_below q.end entries)
unfolding ranges_by last_below decides
met q [] apart = refl
met q (e ∷ entries) apart =
    elim (cases_lt e.0 q.end) [
      | inl below ↦
          ap (λ t. overlap q (range_by e) || t) (met q entries apart.2) ∙ met_by q e (last_below q.end entries) below (λ l is. last_above q.end e.1 l entries apart.1 apart.2 is)
          ∙ sym (ap (λ t. decides q.start (or_entry (last_below q.end entries) (cond t (Some e) None))) (lt-ltb e.0 q.end below))
      | inr past ↦
          none_overlaps q e.0 (e ∷ entries) past (omega arith) apart
          ∙ sym (ap (decides q.start) (none_below q.end e.0 (e ∷ entries) past (omega arith) apart))
    ]

pub overlaps_none : (q : Range) (entries : List (ℕ × ℕ)) → AreApart entries → None ≡ last_below q.end entries → false ≡ any_overlap q (ranges_by entries)
unfolding any_overlap decides
overlaps_none q entries apart is = ap (decides q.start) is ∙ sym (met q entries apart)

pub overlaps_last : (q : Range) (low high : ℕ) (entries : List (ℕ × ℕ)) → AreApart entries → Some (low, high) ≡ last_below q.end entries → nat_lt q.start high ≡ any_overlap q (ranges_by entries)
unfolding any_overlap decides
overlaps_last q low high entries apart is = ap (decides q.start) is ∙ sym (met q entries apart)

at_same : (a : ℕ) → is_at (nat_cmp a) a ≡ true
at_same a = grind (arith, nat_tests)

at_less : (a b : ℕ) → b < a → is_at (nat_cmp a) b ≡ false
at_less a b less = grind (arith, nat_tests)

taken_away : ℕ → List (ℕ × ℕ) → List (ℕ × ℕ)
taken_away low entries = remove_entry (is_at (nat_cmp low)) entries

pub or_assoc_by : (a b c : Bool) → ((a || b) || c) ≡ (a || (b || c))
or_assoc_by true b c = refl
or_assoc_by false b c = refl

record Leaves (below : ℕ) (f : ℕ × ℕ) (entries rest : List (ℕ × ℕ)) : Type 0 where
  under : f.0 < below
  some : f.0 < f.1
  apart : AreApart rest
  from : (a : ℕ) → StartsFrom a entries → StartsFrom a rest
  same : (q : Range) → list_any (overlap q) (ranges_by entries) ≡ (list_any (overlap q) (ranges_by rest) || overlap q (range_by f))
  fewer : length rest < length entries

from_less : (a b : ℕ) (entries : List (ℕ × ℕ)) → a ≤ b → StartsFrom b entries → StartsFrom a entries
from_less a b [] le from = tt
from_less a b (e ∷ entries) le from = omega (arith, le, from)

leaves_first : (below : ℕ) (e : ℕ × ℕ) (entries : List (ℕ × ℕ)) → AreApart (e ∷ entries) → e.0 < below → Leaves below e (e ∷ entries) (taken_away e.0 (e ∷ entries))
unfolding taken_away ranges_by
leaves_first below e entries apart under =
    let P : List (ℕ × ℕ) → Type 0 = λ rest. Leaves below e (e ∷ entries) rest in
    subst P (sym (ap (λ t. cond t entries (e ∷ remove_entry (is_at (nat_cmp e.0)) entries)) (at_same e.0))) (record {
      under = under;
      some = apart.0;
      apart = apart.2;
      from = λ a first. from_less a e.1 entries (omega (arith, first, apart.0)) apart.1;
      same = λ q. or_comm (overlap q (range_by e)) (list_any (overlap q) (map range_by entries));
      fewer = omega arith;
    })

leaves_later : (below : ℕ) (e f : ℕ × ℕ) (entries : List (ℕ × ℕ)) → AreApart (e ∷ entries) → e.1 ≤ f.0 → Leaves below f entries (taken_away f.0 entries) → Leaves below f (e ∷ entries) (taken_away f.0 (e ∷ entries))
unfolding taken_away ranges_by
leaves_later below e f entries apart above left =
    let P : List (ℕ × ℕ) → Type 0 = λ rest. Leaves below f (e ∷ entries) rest in
    subst P (sym (ap (λ t. cond t entries (e ∷ remove_entry (is_at (nat_cmp f.0)) entries)) (at_less f.0 e.0 (omega (arith, above, apart.0))))) (record {
      under = left.under;
      some = left.some;
      apart = (apart.0, left.from e.1 apart.1, left.apart);
      from = λ a first. first;
      same = λ q.
          ap (λ t. overlap q (range_by e) || t) (left.same q)
          ∙ sym (or_assoc_by (overlap q (range_by e)) (list_any (overlap q) (map range_by (remove_entry (is_at (nat_cmp f.0)) entries))) (overlap q (range_by f)));
      fewer = let less = left.fewer in omega arith;
    })

leaves_by : (below : ℕ) (e f : ℕ × ℕ) (entries : List (ℕ × ℕ)) (o : Option (ℕ × ℕ)) (t : Bool) → AreApart (e ∷ entries) → last_below below entries ≡ o → nat_lt e.0 below ≡ t →
    or_entry o (cond t (Some e) None) ≡ Some f → (last_below below entries ≡ Some f → Leaves below f entries (taken_away f.0 entries)) → Leaves below f (e ∷ entries) (taken_away f.0 (e ∷ entries))
leaves_by below e f entries (Some l) t apart last under is later =
    let there : last_below below entries ≡ Some f = last ∙ is in
    leaves_later below e f entries apart (last_above below e.1 f entries apart.1 apart.2 there).0 (later there)
leaves_by below e f entries None true apart last under is later =
    let P : ℕ × ℕ → Type 0 = λ g. Leaves below g (e ∷ entries) (taken_away g.0 (e ∷ entries)) in
    subst P (some_same e f is) (leaves_first below e entries apart (ltb-true e.0 below under))
leaves_by below e f entries None false apart last under is later = absurd (none_some f is)

leaves : (below : ℕ) (f : ℕ × ℕ) (entries : List (ℕ × ℕ)) → AreApart entries → last_below below entries ≡ Some f → Leaves below f entries (taken_away f.0 entries)
unfolding last_below
leaves below f [] apart is = absurd (none_some f is)
leaves below f (e ∷ entries) apart is = leaves_by below e f entries (last_below below entries) (nat_lt e.0 below) apart refl refl is (λ there. leaves below f entries apart.2 there)

pub taken_apart : (end low high : ℕ) (entries new : List (ℕ × ℕ)) → AreApart entries → Some (low, high) ≡ last_below end entries → new ≡ remove_entry (is_at (nat_cmp low)) entries → AreApart new
unfolding taken_away
taken_apart end low high entries new apart is e =
    let P : List (ℕ × ℕ) → Type 0 = λ rest. AreApart rest in
    subst P (sym e) (leaves end (low, high) entries apart (sym is)).apart

both_less : (start end low high : ℕ) → start < high → low < end → (nat_lt start high && nat_lt low end) ≡ true
both_less start end low high first second = grind (arith, nat_tests)

pub taken : (start end low high : ℕ) (entries new : List (ℕ × ℕ)) → AreApart entries → Some (low, high) ≡ last_below end entries → start < high → new ≡ remove_entry (is_at (nat_cmp low)) entries → IsTaken start end low high entries new
unfolding taken_away any_overlap
taken start end low high entries new apart is above e =
    let P : List (ℕ × ℕ) → Type 0 = λ rest. IsTaken start end low high entries rest in
    let left : Leaves end (low, high) entries (remove_entry (is_at (nat_cmp low)) entries) = leaves end (low, high) entries apart (sym is) in
    subst P (sym e) (record {
      some = left.some;
      overlaps = both_less start end low high above left.under;
      rest = left.same;
      fewer = left.fewer;
    })

-- If the last range that starts below `end` ends at or below `start`, no range overlaps the one
-- between them.
pub past_none : (start end low high : ℕ) (entries : List (ℕ × ℕ)) → AreApart entries → Some (low, high) ≡ last_below end entries → high ≤ start → any_overlap (range_to start end) (ranges_by entries) ≡ false
past_none start end low high entries apart is le = sym (overlaps_last (range_to start end) low high entries apart is) ∙ le-ltb start high le

sides_by : (start end : ℕ) (e : ℕ × ℕ) → (nat_lt start e.1 ≡ false) ⊎ (nat_lt e.0 end ≡ false) → (e.1 ≤ start) ⊎ (end ≤ e.0)
sides_by start end e (inl no_first) = inl (ltb-false start e.1 no_first)
sides_by start end e (inr no_second) = inr (ltb-false e.0 end no_second)

sides : (start end : ℕ) (e : ℕ × ℕ) → overlap (range_to start end) (range_by e) ≡ false → (e.1 ≤ start) ⊎ (end ≤ e.0)
sides start end e apart = sides_by start end e (and_cases (nat_lt start e.1) (nat_lt e.0 end) apart)

goes_behind : (start end : ℕ) (e : ℕ × ℕ) (entries : List (ℕ × ℕ)) → e.0 < start → insert_entry nat_cmp (e ∷ entries) start end ≡ e ∷ insert_entry nat_cmp entries start end
goes_behind start end e entries above = ap (λ o. match_ordering o ((start, end) ∷ e ∷ entries) ((e.0, end) ∷ entries) (e ∷ insert_entry nat_cmp entries start end)) (sym (nat_cmp_is start e.0 Greater above))

goes_before : (start end : ℕ) (e : ℕ × ℕ) (entries : List (ℕ × ℕ)) → start < e.0 → insert_entry nat_cmp (e ∷ entries) start end ≡ (start, end) ∷ e ∷ entries
goes_before start end e entries below = ap (λ o. match_ordering o ((start, end) ∷ e ∷ entries) ((e.0, end) ∷ entries) (e ∷ insert_entry nat_cmp entries start end)) (sym (nat_cmp_is start e.0 Less below))

starts_with : (a start end : ℕ) (entries : List (ℕ × ℕ)) → AreApart entries → start < end → list_any (overlap (range_to start end)) (ranges_by entries) ≡ false → StartsFrom a entries → a ≤ start → StartsFrom a (insert_entry nat_cmp entries start end)
unfolding ranges_by
starts_with a start end [] apart some none from le = le
starts_with a start end (e ∷ entries) apart some none from le =
    let P : List (ℕ × ℕ) → Type 0 = λ xs. StartsFrom a xs in
    elim (sides start end e (or_parts (overlap (range_to start end) (range_by e)) (list_any (overlap (range_to start end)) (map range_by entries)) none).0) [
      | inl behind ↦ subst P (sym (goes_behind start end e entries (omega (arith, behind, apart.0)))) from
      | inr before ↦ subst P (sym (goes_before start end e entries (omega (arith, before, some)))) le
    ]

inserted_apart : (start end : ℕ) (entries : List (ℕ × ℕ)) → AreApart entries → start < end → list_any (overlap (range_to start end)) (ranges_by entries) ≡ false → AreApart (insert_entry nat_cmp entries start end)
unfolding ranges_by
inserted_apart start end [] apart some none = (some, tt, tt)
inserted_apart start end (e ∷ entries) apart some none =
    let parts : (overlap (range_to start end) (range_by e) ≡ false) × (list_any (overlap (range_to start end)) (map range_by entries) ≡ false) = or_parts (overlap (range_to start end) (range_by e)) (list_any (overlap (range_to start end)) (map range_by entries)) none in
    let P : List (ℕ × ℕ) → Type 0 = λ xs. AreApart xs in
    elim (sides start end e parts.0) [
      | inl behind ↦ subst P (sym (goes_behind start end e entries (omega (arith, behind, apart.0)))) (apart.0, starts_with e.1 start end entries apart.2 some parts.1 apart.1 behind, inserted_apart start end entries apart.2 some parts.1)
      | inr before ↦ subst P (sym (goes_before start end e entries (omega (arith, before, some)))) (some, before, apart)
    ]

inserted_overlaps : (q : Range) (start end : ℕ) (entries : List (ℕ × ℕ)) → AreApart entries → start < end → list_any (overlap (range_to start end)) (ranges_by entries) ≡ false →
    list_any (overlap q) (ranges_by (insert_entry nat_cmp entries start end)) ≡ (list_any (overlap q) (ranges_by entries) || overlap q (range_to start end))
unfolding ranges_by
inserted_overlaps q start end [] apart some none = or_comm (overlap q (range_to start end)) false
inserted_overlaps q start end (e ∷ entries) apart some none =
    let parts : (overlap (range_to start end) (range_by e) ≡ false) × (list_any (overlap (range_to start end)) (map range_by entries) ≡ false) = or_parts (overlap (range_to start end) (range_by e)) (list_any (overlap (range_to start end)) (map range_by entries)) none in
    let any : List (ℕ × ℕ) → Bool = λ xs. list_any (overlap q) (map range_by xs) in
    elim (sides start end e parts.0) [
      | inl behind ↦
          ap any (goes_behind start end e entries (omega (arith, behind, apart.0)))
          ∙ ap (λ t. overlap q (range_by e) || t) (inserted_overlaps q start end entries apart.2 some parts.1)
          ∙ sym (or_assoc_by (overlap q (range_by e)) (any entries) (overlap q (range_to start end)))
      | inr before ↦
          ap any (goes_before start end e entries (omega (arith, before, some)))
          ∙ or_comm (overlap q (range_to start end)) (any (e ∷ entries))
    ]

pub put_apart : (start end : ℕ) (entries more : List (ℕ × ℕ)) → AreApart entries → start < end → any_overlap (range_to start end) (ranges_by entries) ≡ false → more ≡ insert_entry nat_cmp entries start end → AreApart more
unfolding any_overlap
put_apart start end entries more apart some none e = let P : List (ℕ × ℕ) → Type 0 = λ xs. AreApart xs in subst P (sym e) (inserted_apart start end entries apart some none)

pub put_overlaps : (start end : ℕ) (entries more : List (ℕ × ℕ)) → AreApart entries → start < end → any_overlap (range_to start end) (ranges_by entries) ≡ false → more ≡ insert_entry nat_cmp entries start end →
    (q : Range) → any_overlap q (ranges_by more) ≡ (any_overlap q (ranges_by entries) || overlap q (range_to start end))
unfolding any_overlap
put_overlaps start end entries more apart some none e q = ap (λ xs. list_any (overlap q) (ranges_by xs)) e ∙ inserted_overlaps q start end entries apart some none

-- Two ranges that overlap, as one.
grown : (a b start end low high : ℕ) → a < b → start < end → low < high → start < high → low < end →
    ((nat_lt a high && nat_lt low b) || (nat_lt a end && nat_lt start b)) ≡ (nat_lt a (max end high) && nat_lt (min start low) b)
grown a b start end low high some first second over under = grind (arith, nat_tests)

-- The map and the widened range together overlap what the old ranges and the new one overlap.
pub record Grows (first last : ℕ) (ends : List (ℕ × ℕ)) (start end : ℕ) (old : List (ℕ × ℕ)) : Type 0 where
  pub some : first < last
  pub apart : AreApart ends
  pub same : (a b : ℕ) → a < b → (any_overlap (range_to a b) (ranges_by ends) || overlap (range_to a b) (range_to first last)) ≡ (any_overlap (range_to a b) (ranges_by old) || overlap (range_to a b) (range_to start end))

pub none_left : (start end : ℕ) (entries : List (ℕ × ℕ)) → AreApart entries → None ≡ last_below end entries → any_overlap (range_to start end) (ranges_by entries) ≡ false
none_left start end entries apart is = sym (overlaps_none (range_to start end) entries apart is)

grows_same : (a b first last low high start end : ℕ) (old ends rest : List (ℕ × ℕ)) → a < b → Grows first last ends start end old → IsTaken first last low high ends rest →
    (any_overlap (range_to a b) (ranges_by rest) || overlap (range_to a b) (range_to (min first low) (max last high))) ≡ (any_overlap (range_to a b) (ranges_by old) || overlap (range_to a b) (range_to start end))
grows_same a b first last low high start end old ends rest less grows is =
    let sides_met : (nat_lt first high ≡ true) × (nat_lt low last ≡ true) = and_parts (nat_lt first high) (nat_lt low last) is.overlaps in
    ap (λ t. any_overlap (range_to a b) (ranges_by rest) || t) (sym (grown a b first last low high less grows.some is.some (ltb-true first high sides_met.0) (ltb-true low last sides_met.1)))
    ∙ sym (or_assoc_by (any_overlap (range_to a b) (ranges_by rest)) (overlap (range_to a b) (range_to low high)) (overlap (range_to a b) (range_to first last)))
    ∙ ap (λ t. t || overlap (range_to a b) (range_to first last)) (sym (is.rest (range_to a b)))
    ∙ grows.same a b less

pub grows_more : (first last low high start end : ℕ) (old ends rest : List (ℕ × ℕ)) → Grows first last ends start end old → AreApart rest → IsTaken first last low high ends rest → Grows (min first low) (max last high) rest start end old
grows_more first last low high start end old ends rest grows apart is = record {
  some = let less = grows.some in omega arith;
  apart = apart;
  same = λ a b less. grows_same a b first last low high start end old ends rest less grows is;
}

pub grown_apart : (first last start end : ℕ) (old ends rest new : List (ℕ × ℕ)) → Grows first last ends start end old → rest ≡ ends → any_overlap (range_to first last) (ranges_by ends) ≡ false → new ≡ insert_entry nat_cmp rest first last → AreApart new
grown_apart first last start end old ends rest new grows same none e = put_apart first last ends new grows.apart grows.some none (e ∙ ap (λ xs. insert_entry nat_cmp xs first last) same)

pub grown_more : (first last start end : ℕ) (old ends rest new : List (ℕ × ℕ)) → Grows first last ends start end old → rest ≡ ends → any_overlap (range_to first last) (ranges_by ends) ≡ false → new ≡ insert_entry nat_cmp rest first last →
    (a b : ℕ) → a < b → any_overlap (range_to a b) (ranges_by new) ≡ (any_overlap (range_to a b) (ranges_by old) || overlap (range_to a b) (range_to start end))
grown_more first last start end old ends rest new grows same none e a b less = put_overlaps first last ends new grows.apart grows.some none (e ∙ ap (λ xs. insert_entry nat_cmp xs first last) same) (range_to a b) ∙ grows.same a b less
