-- Stretches that follow one another are their own covers; for `fill_covers`.
use Rattle.std.proofs.Common.{◌≡◌, ◌<◌, ◌+◌, ◌^◌, ◌&&◌, nat_le, nat_lt, ℕ, Bool, true, false, if◌then◌else◌, List, [], ◌∷◌, ◌++◌, length, map, Option, None, Some, ◌≤◌, refl, sym, ap, subst, ◌∙◌, arith}
use Rattle.std.specs.List.{AllByRecursion}
use Rattle.std.specs.List.Sorted.{IsPermutation}
use Rattle.std.proofs.ByRecursion.{all_shuffled}
use Rattle.std.proofs.lemmas.Bool.Decides.{nat_tests}
use Rattle.std.proofs.lemmas.List.Sorted.{IsPermutation-sym}
use Rattle.step_maps.specs.Runs.{Follows, AreRuns, IsRuns, value_in, between}
use Rattle.step_maps.specs.declared.stretch.Stretch.{Stretch}
use Rattle.step_maps.specs.declared.stretch.Cover.{Cover}
use Rattle.step_maps.specs.Covers.{AreCovers, reaches, cover_run, first_at, index_at}
use Rattle.step_maps.specs.SpanStretches.{AreFit}
use Rattle.inline_chain.specs.internal.Apart.{follows, apart_from, apart, own_cover}
use Rattle.inline_chain.specs.internal.Copies.{AddsCovers}
use Rattle.inline_chain.proofs.ChildLemmas.{index_first}
use Rattle.inline_chain.proofs.ClassLemmas.{fit_sorted}

both : (x y : Bool) → (x && y) ≡ true → (x ≡ true) × (y ≡ true)
both true y is = (refl, is)
both false y is = absurd (cc)

-- Their covers are runs that do not touch with the same index.
follow_runs : (s t : Stretch) (items : List Stretch) → follows s t ≡ true → Follows (cover_run (own_cover s)) (map cover_run (map own_cover (t ∷ items)))
follow_runs s t items is = (grind (arith, nat_tests, is), λ touch same. grind (arith, nat_tests, is, touch, same))

apart_by : (s : Stretch) (items : List Stretch) → AreFit (s ∷ items) → apart_from s items ≡ true → AreRuns (map cover_run (map own_cover (s ∷ items)))
apart_by s [] fit is = (omega (arith, fit.0), tt, tt)
apart_by s (t ∷ items) fit is =
    let parts = both (follows s t) (apart_from t items) is in
    (omega (arith, fit.0), follow_runs s t items parts.0, apart_by t items fit.2 parts.1)

apart_all : (items : List Stretch) → AreFit items → apart items ≡ true → AreRuns (map cover_run (map own_cover items))
apart_all [] fit is = tt
apart_all (s ∷ items) fit is = apart_by s items fit is

-- The covers have the index of the first stretch at each address.
one_run : (s : Stretch) (a : ℕ) (index later : Option ℕ) → s.last + 1 < 2 ^ 64
    → later ≡ (if nat_le 0 a && nat_lt a 18446744073709551616 then index else None)
    → (if nat_le s.first a && nat_lt a (s.last + 1) then Some s.index else later) ≡ (if nat_le 0 a && nat_lt a 18446744073709551616 then (if reaches s a then Some s.index else index) else None)
one_run s a index later small is = grind (arith, nat_tests, is, small)

values_all : (items : List Stretch) (a : ℕ) → AreFit items → value_in (map cover_run (map own_cover items)) a ≡ between 0 18446744073709551616 (index_at items) a
unfolding index_at first_at
values_all [] a fit = same (nat_le 0 a && nat_lt a 18446744073709551616) None
  where
    same : (b : Bool) (o : Option ℕ) → o ≡ (if b then o else o)
    same true o = refl
    same false o = refl
values_all (s ∷ items) a fit =
    one_run s a (index_at items a) (value_in (map cover_run (map own_cover items)) a) fit.1 (values_all items a fit.2)
    ∙ ap (λ (o : Option ℕ). if nat_le 0 a && nat_lt a 18446744073709551616 then o else None) (sym (index_first s items a))

pub apart_runs : (items : List Stretch) (covers : List Cover) → AreFit items → apart items ≡ true → covers ≡ map own_cover items → IsRuns (between 0 18446744073709551616 (index_at items)) (map cover_run covers)
apart_runs items covers fit is same = rw same (record { apart = apart_all items fit is; values = λ a. values_all items a fit })

pub covers_run : (items : List Stretch) (covers : List Cover) → AreCovers items covers → IsRuns (between 0 18446744073709551616 (index_at items)) (map cover_run covers)
covers_run items covers are = are.runs

-- Sorting does not change the first stretch at an address, if the sorted stretches follow one
-- another.
none_after : (s : Stretch) (items : List Stretch) (a : ℕ) → AreFit items → a ≤ s.last → apart_from s items ≡ true → AllByRecursion (λ (t : Stretch). reaches t a ≡ false) items
none_after s [] a fit below is = tt
none_after s (t ∷ items) a fit below is =
    let parts = both (follows s t) (apart_from t items) is in
    let above : s.last < t.first = grind (arith, nat_tests, parts.0) in
    (grind (arith, nat_tests, above, below), none_after t items a fit.2 (omega (arith, above, below, fit.0)) parts.1)

apart_rest : (s : Stretch) (items : List Stretch) → apart_from s items ≡ true → apart items ≡ true
apart_rest s [] is = refl
apart_rest s (t ∷ items) is = (both (follows s t) (apart_from t items) is).1

abbrev HasIndex : Option ℕ → ℕ → Stretch → Type 0
HasIndex o a t = reaches t a ≡ true → Some t.index ≡ o

none_have : (items : List Stretch) (a : ℕ) (o : Option ℕ) → AllByRecursion (λ (t : Stretch). reaches t a ≡ false) items → AllByRecursion (HasIndex o a) items
none_have [] a o none = tt
none_have (t ∷ items) a o none = ((λ is. absurd (cc)), none_have items a o none.1)

have_moved : (items : List Stretch) (a : ℕ) (o p : Option ℕ) → o ≡ p → AllByRecursion (HasIndex o a) items → AllByRecursion (HasIndex p a) items
have_moved items a o p same have = subst (λ (q : Option ℕ). AllByRecursion (HasIndex q a) items) same have

apart_have : (items : List Stretch) (a : ℕ) → AreFit items → apart items ≡ true → AllByRecursion (HasIndex (index_at items a) a) items
apart_have [] a fit is = tt
apart_have (s ∷ items) a fit is = go (reaches s a) refl (apart_have items a fit.2 (apart_rest s items is))
  where
    go : (b : Bool) → reaches s a ≡ b → AllByRecursion (HasIndex (index_at items a) a) items → AllByRecursion (HasIndex (index_at (s ∷ items) a) a) (s ∷ items)
    go true here later =
        let value : index_at (s ∷ items) a ≡ Some s.index = index_first s items a ∙ ap (λ c. if c then Some s.index else index_at items a) here in
        ((λ own. sym value), none_have items a (index_at (s ∷ items) a) (none_after s items a fit.2 (grind (arith, nat_tests, here)) is))
    go false here later =
        let value : index_at (s ∷ items) a ≡ index_at items a = index_first s items a ∙ ap (λ c. if c then Some s.index else index_at items a) here in
        ((λ own. absurd (cc)), have_moved items a (index_at items a) (index_at (s ∷ items) a) (sym value) later)

none_index : (items : List Stretch) (a : ℕ) → AllByRecursion (λ (t : Stretch). reaches t a ≡ false) items → index_at items a ≡ None
unfolding index_at first_at
none_index [] a none = refl
none_index (s ∷ items) a none = index_first s items a ∙ ap (λ c. if c then Some s.index else index_at items a) none.0 ∙ none_index items a none.1

index_by : (items : List Stretch) (a : ℕ) (o : Option ℕ) → AllByRecursion (HasIndex o a) items → (AllByRecursion (λ (t : Stretch). reaches t a ≡ false) items → None ≡ o) → index_at items a ≡ o
unfolding index_at first_at
index_by [] a o have none = none tt
index_by (s ∷ items) a o have none = index_first s items a ∙ go (reaches s a) refl (λ lost. index_by items a o have.1 lost)
  where
    go : (b : Bool) → reaches s a ≡ b → ((AllByRecursion (λ (t : Stretch). reaches t a ≡ false) items → None ≡ o) → index_at items a ≡ o) → (if b then Some s.index else index_at items a) ≡ o
    go true here later = have.0 here
    go false here later = later (λ rest. none (here, rest))

index_sorted : (items sorted : List Stretch) (a : ℕ) → AreFit sorted → IsPermutation items sorted → apart sorted ≡ true → index_at items a ≡ index_at sorted a
index_sorted items sorted a fit moved is =
    index_by items a (index_at sorted a) (all_shuffled (HasIndex (index_at sorted a) a) sorted items (IsPermutation-sym items sorted moved) (apart_have sorted a fit is))
    (λ none. sym (none_index sorted a (all_shuffled (λ (t : Stretch). reaches t a ≡ false) items sorted moved none)))

pub sorted_runs : (items sorted : List Stretch) (covers : List Cover) → AreFit items → IsPermutation items sorted → apart sorted ≡ true → covers ≡ map own_cover sorted → IsRuns (between 0 18446744073709551616 (index_at items)) (map cover_run covers)
sorted_runs items sorted covers fit moved is same =
    let both_fit : AreFit sorted = fit_sorted items sorted moved fit in
    let runs : IsRuns (between 0 18446744073709551616 (index_at sorted)) (map cover_run covers) = apart_runs sorted covers both_fit is same in
    record {
      apart = runs.apart;
      values = λ a. runs.values a ∙ ap (λ (o : Option ℕ). if nat_le 0 a && nat_lt a 18446744073709551616 then o else None) (sym (index_sorted items sorted a both_fit moved is));
    }

pub no_cover : (items : List Stretch) (old new : List (List Cover)) → length items ≡ 0 → new ≡ old ++ [] ∷ [] → AddsCovers items old new
unfolding index_at first_at
no_cover [] old new none added = record { covers = []; added = added; runs = record { apart = tt; values = λ a. values_all [] a tt } }
no_cover (s ∷ items) old new none added = absurd (omega (arith, none))
