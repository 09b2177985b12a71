-- The records of all levels of a piece.
use Rattle.std.proofs.Common.{◌≡◌, ℕ, zero, suc, ◌+◌, ◌-◌, ◌<◌, ◌≤◌, ◌==◌, ◌≢◌, ◌&&◌, ◌++◌, Bool, true, false, nat_le, List, [], ◌∷◌, length, map, Option, None, Some, arith, refl, sym, ap, subst, ◌∙◌, ⊎_elim}
use Rattle.std.specs.List.{filter, list_all, slice_get}
use Rattle.std.specs.Option.{option_map_or}
use Rattle.std.proofs.lemmas.Bool.{cond-false, eq-eqb, cases_lt}
use Rattle.std.proofs.lemmas.Bool.Decides.{nat_tests}
use Rattle.std.proofs.lemmas.List.{append-nil}
use Rattle.sym_edges.specs.Addresses.{Range}
use Rattle.range_set.specs.Members.{holds_any}
use Rattle.range_set.specs.Canonical.{IsCanonical}
use Rattle.step_maps.specs.declared.stretch.Stretch.{Stretch}
use Rattle.step_maps.specs.declared.stretch.Cover.{Cover}
use Rattle.step_maps.specs.Covers.{reaches}
use Rattle.debug_units.specs.declared.unit_read.UnitRead.{UnitRead}
use Rattle.func_flatten.specs.declared.piece.Piece.{Piece}
use Rattle.func_flatten.specs.Publics.{is_inside}
use Rattle.debug_units.specs.Owners.{entry_chain}
use Rattle.inline_chain.specs.InlineRuns.{InlineParts, is_of, spans_of, joined, AreParts, is_before, IsOrdered, is_on_chain, AreInlineRuns}
use Rattle.inline_chain.specs.internal.Copies.{of_class, TreeFor}
use Rattle.inline_chain.specs.Trees.{is_number, IsTree}
use Rattle.inline_chain.specs.internal.Levels.{child_under, depth_at, IsLevel, AreClassParts, AreOfLevel, AreAbove, IsMade, AddsLevel, IsEntry, RunsTo, AllRuns, HaveRuns}
use Rattle.inline_chain.proofs.ChainLemmas.{on_chain, no_unit}
use Rattle.inline_chain.proofs.LevelLemmas.{depth_next}
use Rattle.inline_chain.proofs.GroupLemmas.{spans_joined, same_at}

-- The records of sorted stretches are those of the stretches.
pub made_of : (level : ℕ) (items sorted : List Stretch) (made after : List InlineParts) → ((x : ℕ) → of_class x sorted ≡ of_class x items) → ((x : ℕ) → spans_of level x after ≡ spans_of level x made) → AreOfLevel level after → IsMade level sorted made → IsMade level items after
made_of level items sorted made after same spans level_is is = record {
  level_is = level_is;
  copies = λ x. subst (AreClassParts items x) (sym (spans x)) (record {
    parts_are = (is.copies x).parts_are;
    canonical = (is.copies x).canonical;
    members = λ a. (is.copies x).members a ∙ same_at x sorted items (same x) a;
  });
}

none_other : (level k x : ℕ) (runs : List InlineParts) → AreOfLevel level runs → k ≢ level → spans_of k x runs ≡ []
none_other level k x [] are other = refl
none_other level k x (r ∷ runs) are other =
    ap (map (λ (s : InlineParts). s.spans)) (cond-false _ (r ∷ filter (is_of k x) runs) (filter (is_of k x) runs) (let apart : r.level ≡ level = are.0 in grind (arith, nat_tests, other))) ∙ none_other level k x runs are.1 other

none_above : (level k x : ℕ) (runs : List InlineParts) → AreAbove level runs → level ≤ k → spans_of k x runs ≡ []
none_above level k x [] are up = refl
none_above level k x (r ∷ runs) are up =
    ap (map (λ (s : InlineParts). s.spans)) (cond-false _ (r ∷ filter (is_of k x) runs) (filter (is_of k x) runs) (let below : r.level < level = are.0 in grind (arith, nat_tests))) ∙ none_above level k x runs are.1 up

above_more : (level : ℕ) (runs made : List InlineParts) → AreAbove level runs → AreOfLevel level made → AreAbove (level + 1) (runs ++ made)
above_more level [] [] p q = tt
above_more level [] (m ∷ made) p q = (omega (arith, q.0), above_more level [] made tt q.1)
above_more level (r ∷ runs) made p q = (omega (arith, p.0), above_more level runs made p.1 q)

before_all : (level : ℕ) (r : InlineParts) (made : List InlineParts) → r.level < level → AreOfLevel level made → list_all (is_before r) made ≡ true
before_all level r [] below are = refl
before_all level r (m ∷ made) below are = go (is_before r m) (let same : m.level ≡ level = are.0 in grind (arith, nat_tests)) (before_all level r made below are.1)
  where
    go : (b : Bool) → b ≡ true → list_all (is_before r) made ≡ true → (b && list_all (is_before r) made) ≡ true
    go true is later = later
    go false is later = absurd (cc)

all_joined : (r : InlineParts) (xs ys : List InlineParts) → list_all (is_before r) xs ≡ true → list_all (is_before r) ys ≡ true → list_all (is_before r) (xs ++ ys) ≡ true
all_joined r [] ys p q = q
all_joined r (x ∷ xs) ys p q = go (is_before r x) p (λ later. all_joined r xs ys later q)
  where
    go : (b : Bool) → (b && list_all (is_before r) xs) ≡ true → (list_all (is_before r) xs ≡ true → list_all (is_before r) (xs ++ ys) ≡ true) → (b && list_all (is_before r) (xs ++ ys)) ≡ true
    go true is later = later is
    go false is later = absurd (cc)

ordered_more : (level : ℕ) (runs made : List InlineParts) → IsOrdered runs → AreAbove level runs → IsOrdered made → AreOfLevel level made → IsOrdered (runs ++ made)
ordered_more level [] made p above q are = q
ordered_more level (r ∷ runs) made p above q are = (all_joined r runs made p.0 (before_all level r made above.0 are), ordered_more level runs made p.1 above.1 q are)

pub runs_begin : (part : UnitRead) (owner : Stretch) (runs : List InlineParts) → runs ≡ [] → RunsTo part owner 0 runs
runs_begin part owner runs none = subst (RunsTo part owner 0) (sym none) (record { ordered = tt; above = tt; entries = λ k x below. absurd (omega arith) })

-- The parts of an entry at a level have the addresses at which the entry is at that depth.
pub record Says (part : UnitRead) (owner : Stretch) (level entry : ℕ) (parts : List (List Range)) : Type 0 where
  pub parts_are : AreParts parts
  pub canonical : IsCanonical (joined parts)
  pub members : (a : ℕ) → holds_any (joined parts) a ≡ (reaches owner a && is_number entry (depth_at part owner.class (level + 1) a))

says_entry : (part : UnitRead) (owner : Stretch) (runs : List InlineParts) (level entry : ℕ) → Says part owner level entry (spans_of level entry runs) → IsEntry part owner runs level entry
says_entry part owner runs level entry says = record { parts = says.parts_are; canonical = says.canonical; members = says.members }

entry_says : (part : UnitRead) (owner : Stretch) (runs : List InlineParts) (level entry : ℕ) → IsEntry part owner runs level entry → Says part owner level entry (spans_of level entry runs)
entry_says part owner runs level entry is = record { parts_are = is.parts; canonical = is.canonical; members = is.members }

pub runs_more : (part : UnitRead) (owner : Stretch) (level : ℕ) (items : List Stretch) (runs new : List InlineParts) → IsLevel part owner (level + 1) items → AddsLevel level items runs new → RunsTo part owner level runs → RunsTo part owner (level + 1) new
runs_more part owner level items runs new is adds to = subst (RunsTo part owner (level + 1)) (sym adds.whole) (record {
  ordered = ordered_more level runs adds.made to.ordered to.above adds.ordered adds.is_made.level_is;
  above = above_more level runs adds.made to.above adds.is_made.level_is;
  entries = λ k x below. says_entry part owner (runs ++ adds.made) k x (⊎_elim
      (λ less. subst (Says part owner k x) (sym (spans_joined k x runs adds.made ∙ ap (λ l. spans_of k x runs ++ l) (none_other level k x adds.made adds.is_made.level_is (λ (e : k ≡ level). absurd (omega arith))) ∙ append-nil (spans_of k x runs))) (entry_says part owner runs k x (to.entries k x less)))
      (λ from.
      let here : level ≡ k = omega arith in
      subst (λ n. Says part owner n x (spans_of n x (runs ++ adds.made))) here (level_says x))
      (cases_lt k level));
})
  where
    level_says : (x : ℕ) → Says part owner level x (spans_of level x (runs ++ adds.made))
    level_says x =
        let copies : AreClassParts items x (spans_of level x adds.made) = adds.is_made.copies x in
        subst (Says part owner level x) (sym (spans_joined level x runs adds.made ∙ ap (λ l. l ++ spans_of level x adds.made) (none_above level level x runs to.above (omega arith))))
        (record { parts_are = copies.parts_are; canonical = copies.canonical; members = λ a. copies.members a ∙ is x a })

depth_none : (part : UnitRead) (owner depth more a : ℕ) → depth_at part owner depth a ≡ None → depth_at part owner (depth + more) a ≡ None
depth_none part owner depth zero a none = ap (λ n. depth_at part owner n a) (let e : depth + 0 ≡ depth = omega arith in e) ∙ none
depth_none part owner depth (suc more) a none =
    ap (λ n. depth_at part owner n a) (let e : depth + suc more ≡ (depth + more) + 1 = omega arith in e) ∙ depth_next part owner (depth + more) a
    ∙ ap (λ o. child_under part o a) (depth_none part owner depth more a none)

nothing : (r : Bool) (o : Option ℕ) → ((x : ℕ) → false ≡ (r && is_number x o)) → r ≡ true → o ≡ None
nothing true None none is = refl
nothing true (Some m) none is = (let away : false ≡ (m == m) = none m in let here : (m == m) ≡ true = eq-eqb m m refl in absurd (cc))
nothing false o none is = absurd (cc)

away : (part : UnitRead) (owner : Stretch) (level k x a : ℕ) (items : List Stretch) → length items ≡ 0 → IsLevel part owner (level + 1) items → level ≤ k → false ≡ (reaches owner a && is_number x (depth_at part owner.class (k + 1) a))
away part owner level k x a (s ∷ items) none is up = absurd (omega arith)
away part owner level k x a [] none is up = go (reaches owner a) refl
  where
    go : (b : Bool) → reaches owner a ≡ b → false ≡ (b && is_number x (depth_at part owner.class (k + 1) a))
    go true on =
        let empty : depth_at part owner.class (level + 1) a ≡ None = nothing (reaches owner a) _ (λ y. is y a) on in
        sym (ap (is_number x) (ap (λ n. depth_at part owner.class n a) (let e : k + 1 ≡ (level + 1) + (k - level) = omega arith in e) ∙ depth_none part owner.class (level + 1) (k - level) a empty))
    go false on = refl

pub runs_end : (part : UnitRead) (owner : Stretch) (level : ℕ) (items : List Stretch) (runs : List InlineParts) → length items ≡ 0 → IsLevel part owner (level + 1) items → RunsTo part owner level runs → AllRuns part owner runs
unfolding joined
runs_end part owner level items runs none is to = record {
  ordered = to.ordered;
  entries = λ k x. ⊎_elim
      (λ less. to.entries k x less)
      (λ from. says_entry part owner runs k x (subst (Says part owner k x) (sym (none_above level k x runs to.above from)) (record { parts_are = tt; canonical = tt; members = λ a. away part owner level k x a items none is from })))
      (cases_lt k level);
}

inside_same : (piece : Piece) (a : ℕ) → piece.start < piece.end → (nat_le piece.start a && nat_le a (piece.end - 1)) ≡ is_inside a piece
inside_same piece a some = grind (arith, nat_tests)

-- The records in the owner's stretch are those of the piece.
pub piece_runs : (units : List UnitRead) (piece : Piece) (part : UnitRead) (runs : List InlineParts) → slice_get units piece.unit ≡ Some part → piece.start < piece.end
    → AllRuns part (record { first = piece.start; last = piece.end - 1; index = piece.entry; class = piece.entry }) runs → AreInlineRuns units piece runs
piece_runs units piece part runs is some all = record {
  ordered = all.ordered;
  copies = λ level entry. record {
    parts = (all.entries level entry).parts;
    canonical = (all.entries level entry).canonical;
    members = λ a. (all.entries level entry).members a ∙ ap (λ b. b && is_number entry (depth_at part piece.entry (level + 1) a)) (inside_same piece a some) ∙ sym (on_chain units piece part level entry a is);
  };
}

no_runs : (units : List UnitRead) (piece : Piece) (runs : List InlineParts) → runs ≡ [] → ((level entry a : ℕ) → is_on_chain units piece level entry a ≡ false) → AreInlineRuns units piece runs
unfolding joined
no_runs units piece runs none away = subst (AreInlineRuns units piece) (sym none) (record {
  ordered = tt;
  copies = λ level entry. record { parts = tt; canonical = tt; members = λ a. sym (away level entry a) };
})

pub no_unit_runs : (units : List UnitRead) (piece : Piece) (runs : List InlineParts) → runs ≡ [] → slice_get units piece.unit ≡ None → AreInlineRuns units piece runs
no_unit_runs units piece runs none is = no_runs units piece runs none (λ level entry a. no_unit units piece level entry a is)

pub no_address_runs : (units : List UnitRead) (piece : Piece) (runs : List InlineParts) → runs ≡ [] → piece.end ≤ piece.start → AreInlineRuns units piece runs
unfolding is_on_chain
no_address_runs units piece runs none empty = no_runs units piece runs none (λ level entry a. outside level entry a)
  where
    not_there : (b c : Bool) → b ≡ false → (b && c) ≡ false
    not_there true c is = absurd (cc)
    not_there false c is = refl

    outside : (level entry a : ℕ) → is_on_chain units piece level entry a ≡ false
    outside level entry a = not_there (is_inside a piece) (option_map_or (λ c. c.entry == entry) (slice_get (entry_chain units piece.unit piece.entry a) level) false) (grind (arith, nat_tests))

pub tree_none : (units : List UnitRead) (unit : ℕ) → TreeFor (slice_get units unit) None → slice_get units unit ≡ None
tree_none units unit tree = go (slice_get units unit) refl tree
  where
    go : (o : Option UnitRead) → slice_get units unit ≡ o → TreeFor o None → slice_get units unit ≡ None
    go None is tree = is
    go (Some part) is tree = absurd tree

pub tree_runs : (o : Option UnitRead) (lists : List (List Cover)) → TreeFor o (Some lists) → HaveRuns lists
tree_runs None lists tree x = absurd tree
tree_runs (Some part) lists tree x = (tree x).apart

pub tree_piece : (units : List UnitRead) (piece : Piece) (lists : List (List Cover)) (runs : List InlineParts) → TreeFor (slice_get units piece.unit) (Some lists) → piece.start < piece.end
    → ((part : UnitRead) → IsTree part lists → AllRuns part (record { first = piece.start; last = piece.end - 1; index = piece.entry; class = piece.entry }) runs) → AreInlineRuns units piece runs
tree_piece units piece lists runs tree some all = go (slice_get units piece.unit) refl tree
  where
    go : (o : Option UnitRead) → slice_get units piece.unit ≡ o → TreeFor o (Some lists) → AreInlineRuns units piece runs
    go None is tree = absurd tree
    go (Some part) is tree = piece_runs units piece part runs is some (all part tree)
