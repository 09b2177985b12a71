-- The trees of units.
use Rattle.std.proofs.Common.{◌≡◌, ℕ, zero, suc, ◌+◌, ◌<◌, ◌≤◌, ◌==◌, ◌&&◌, ◌++◌, Bool, true, false, if◌then◌else◌, nat_le, nat_lt, List, [], ◌∷◌, length, get_or, map, Option, None, Some, unwrap_or, arith, refl, sym, ap, subst, ◌∙◌, ⊎_elim}
use Rattle.std.specs.List.{slice_get}
use Rattle.std.proofs.lemmas.Bool.{cond-false, ne_eqb, cases_lt}
use Rattle.std.proofs.lemmas.List.{length-append}
use Rattle.step_maps.specs.Runs.{Run, IsRuns, between}
use Rattle.step_maps.specs.declared.stretch.Stretch.{Stretch}
use Rattle.step_maps.specs.declared.stretch.Cover.{Cover}
use Rattle.step_maps.specs.Covers.{cover_run, first_at, index_at}
use Rattle.die_walk.specs.EntryTable.{DieFields}
use Rattle.debug_units.specs.declared.unit_read.UnitRead.{UnitRead}
use Rattle.debug_units.specs.UnitEntries.{places}
use Rattle.step_maps.specs.SpanStretches.{AreFit}
use Rattle.inline_chain.specs.internal.Copies.{of_class, HaveClasses, IsList, AreLists, ListsTo, HaveSets, TellChildren, TreeFor, AddsCovers}
use Rattle.inline_chain.specs.internal.Links.{AreLinked}
use Rattle.inline_chain.specs.Trees.{list_of, child_at, IsTree, AreTrees}
use Rattle.inline_chain.proofs.ApartLemmas.{no_cover}
use Rattle.inline_chain.proofs.ChildLemmas.{index_children}
use Rattle.inline_chain.proofs.CollectLemmas.{got_front, got_last}
use Rattle.inline_chain.proofs.LinkLemmas.{no_first}

same_runs : {V : Type 0} (f g : ℕ → Option V) (runs : List (Run V)) → ((a : ℕ) → f a ≡ g a) → IsRuns f runs → IsRuns g runs
same_runs f g runs same is = record { apart = is.apart; values = λ a. is.values a ∙ same a }

between_same : {V : Type 0} (start end : ℕ) (f g : ℕ → Option V) → ((a : ℕ) → f a ≡ g a) → (a : ℕ) → between start end f a ≡ between start end g a
between_same start end f g same a = ap (λ o. if nat_le start a && nat_lt a end then o else None) (same a)

no_runs : {V : Type 0} (start end : ℕ) (f : ℕ → Option V) → ((a : ℕ) → f a ≡ None) → IsRuns (between start end f) []
no_runs start end f none = record { apart = tt; values = λ a. sym (ap (λ o. if nat_le start a && nat_lt a end then o else None) (none a) ∙ same (nat_le start a && nat_lt a end) None) }
  where
    same : {A : Type 0} (b : Bool) (o : A) → (if b then o else o) ≡ o
    same true o = refl
    same false o = refl

got_past : {X : Type 0} (xs : List X) (k : ℕ) → length xs ≤ k → slice_get xs k ≡ None
got_past [] k outside = refl
got_past (x ∷ xs) zero outside = absurd (omega arith)
got_past (x ∷ xs) (suc k) outside = got_past xs k (omega arith)

pub fit_class : (x : ℕ) (items : List Stretch) → AreFit items → AreFit (of_class x items)
fit_class x [] fit = tt
fit_class x (s ∷ items) fit = go (s.class == x) (fit_class x items fit.2)
  where
    go : (b : Bool) → AreFit (of_class x items) → AreFit (if b then s ∷ of_class x items else of_class x items)
    go true rest = (fit.0, fit.1, rest)
    go false rest = rest

lists_grown : (items group : List Stretch) (lists : List (List Cover)) (count : ℕ) (covers : List Cover) → group ≡ of_class count items
    → IsRuns (between 0 18446744073709551616 (index_at group)) (map cover_run covers) → ListsTo items lists count → ListsTo items (lists ++ covers ∷ []) (count + 1)
unfolding list_of
lists_grown items group lists count covers is runs to = record {
  many = length-append lists (covers ∷ []) ∙ omega (arith, to.many);
  each = λ x below. ⊎_elim
      (λ less. subst (λ o. IsRuns (between 0 18446744073709551616 (index_at (of_class x items))) (map cover_run (unwrap_or o []))) (sym (got_front lists x covers (omega (arith, to.many)))) (to.each x less))
      (λ from.
      let here : length lists ≡ x = omega (arith, to.many) in
      let class_is : group ≡ of_class x items = is ∙ ap (λ n. of_class n items) (let e : count ≡ x = omega (arith, to.many) in e) in
      subst (λ o. IsRuns (between 0 18446744073709551616 (index_at (of_class x items))) (map cover_run (unwrap_or o [])))
      (sym (ap (slice_get (lists ++ covers ∷ [])) (sym here) ∙ got_last lists covers))
      (same_runs _ _ (map cover_run covers) (between_same 0 18446744073709551616 (index_at group) (index_at (of_class x items)) (λ a. ap (λ l. index_at l a) class_is)) runs))
      (cases_lt x count);
}

pub lists_more : (items group : List Stretch) (lists new : List (List Cover)) (count : ℕ) → group ≡ of_class count items → AddsCovers group lists new → ListsTo items lists count → ListsTo items new (count + 1)
lists_more items group lists new count is made to =
    subst (λ (ls : List (List Cover)). ListsTo items ls (count + 1)) (sym made.added) (lists_grown items group lists count made.covers is made.runs to)

-- A class without stretches.
pub lists_none : (items : List Stretch) (lists new : List (List Cover)) (firsts nexts : List ℕ) (count d : ℕ) → AreLinked items firsts nexts → count < length firsts → get_or firsts count d ≡ 0 → new ≡ lists ++ [] ∷ [] → ListsTo items lists count → ListsTo items new (count + 1)
lists_none items lists new firsts nexts count d linked inside none added to =
    let empty : of_class count items ≡ [] = no_first count items (sym none ∙ linked.firsts_are count d inside) in
    lists_more items (of_class count items) lists new count refl (no_cover (of_class count items) lists new (ap length empty) added) to

none_of : (x count : ℕ) (items : List Stretch) → HaveClasses count items → count ≤ x → of_class x items ≡ []
none_of x count [] below up = refl
none_of x count (s ∷ items) below up = cond-false _ _ _ (ne_eqb s.class x (λ (e : s.class ≡ x). absurd (omega (arith, below.0)))) ∙ none_of x count items below.1 up

empty_list : (items : List Stretch) (lists : List (List Cover)) (x : ℕ) → length lists ≤ x → of_class x items ≡ [] → IsList items lists x
unfolding list_of index_at first_at
empty_list items lists x past none =
    subst (λ o. IsRuns (between 0 18446744073709551616 (index_at (of_class x items))) (map cover_run (unwrap_or o []))) (sym (got_past lists x past))
    (no_runs 0 18446744073709551616 (index_at (of_class x items)) (λ a. ap (λ l. index_at l a) none))

pub lists_all : (items : List Stretch) (lists : List (List Cover)) (n count : ℕ) → n ≤ count → HaveClasses n items → ListsTo items lists count → AreLists items lists
lists_all items lists n count less below to x = ⊎_elim (λ less. to.each x less) (λ from. empty_list items lists x (omega (arith, to.many)) (none_of x n items below (omega arith))) (cases_lt x count)

-- The lists of a unit's copies are its tree.
pub tree_is : (part : UnitRead) (items : List Stretch) (lists : List (List Cover)) → TellChildren part.die.dies part.spans items → HaveSets part.die.dies part.spans → AreLists items lists → IsTree part lists
unfolding child_at
tree_is part items lists told sets are x =
    same_runs _ _ (map cover_run (list_of lists x))
    (between_same 0 18446744073709551616 (index_at (of_class x items)) (child_at part x)
    (λ a. told x a ∙ index_children part.die.dies x 0 part.die.dies part.spans a sets))
    (are x)

-- The trees of the units, in the order of the units.
pub trees_in_order : (units : List UnitRead) (trees : List (List (List Cover))) → length trees ≡ length units → ((k : ℕ) (d : List (List Cover)) → k < length trees → TreeFor (slice_get units k) (Some (get_or trees k d))) → AreTrees units trees
trees_in_order [] [] same each = tt
trees_in_order [] (t ∷ trees) same each = absurd (omega (arith, same))
trees_in_order (u ∷ units) [] same each = absurd (omega (arith, same))
trees_in_order (u ∷ units) (t ∷ trees) same each =
    (each zero t (omega arith), trees_in_order units trees (omega (arith, same)) (λ k d inside. each (suc k) d (omega (arith, inside))))

pub tree_at : (units : List UnitRead) (trees : List (List (List Cover))) (k : ℕ) → AreTrees units trees → TreeFor (slice_get units k) (slice_get trees k)
tree_at [] [] k are = tt
tree_at [] (t ∷ trees) k are = absurd are
tree_at (u ∷ units) [] k are = absurd are
tree_at (u ∷ units) (t ∷ trees) zero are = are.0
tree_at (u ∷ units) (t ∷ trees) (suc k) are = tree_at units trees k are.1

ats : (dies : List DieFields) → length (map (λ die. die.at) dies) ≡ length dies
ats [] = refl
ats (d ∷ dies) = omega (arith, ats dies)

-- A unit has no more entries than all units together.
pub unit_few : (units : List UnitRead) (k : ℕ) (part : UnitRead) → Some part ≡ slice_get units k → length part.die.dies ≤ length (places units)
unit_few [] k part is = absurd (cc)
unit_few (u ∷ units) zero part is =
    let same : part ≡ u = cc in
    omega (arith, length-append (map (λ die. die.at) u.die.dies) (places units), ats u.die.dies, ap (λ (p : UnitRead). length p.die.dies) same)
unit_few (u ∷ units) (suc k) part is =
    (let less : length part.die.dies ≤ length (places units) = unit_few units k part is in omega (arith, less, length-append (map (λ die. die.at) u.die.dies) (places units)))
