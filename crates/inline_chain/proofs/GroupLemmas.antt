-- The records of a level, entry by entry.
use Rattle.std.proofs.Common.{◌≡◌, ℕ, suc, ◌+◌, ◌-◌, ◌<◌, ◌==◌, ◌≢◌, ◌&&◌, ◌||◌, ◌++◌, Bool, true, false, if◌then◌else◌, List, [], ◌∷◌, length, take, drop, map, arith, refl, sym, ap, subst, ◌∙◌, inl, inr}
use Rattle.std.specs.List.{filter, list_any}
use Rattle.std.proofs.lemmas.Bool.{cond-true, cond-false, eq-eqb, ne_eqb}
use Rattle.std.proofs.lemmas.Bool.Decides.{nat_tests, eqb_tells}
use Rattle.std.proofs.lemmas.List.{append-nil, length-drop}
use Rattle.std.proofs.lemmas.List.Elements.{filter-append}
use Rattle.sym_edges.specs.Addresses.{Range}
use Rattle.step_maps.specs.declared.stretch.Stretch.{Stretch}
use Rattle.step_maps.specs.Covers.{reaches}
use Rattle.inline_chain.specs.InlineRuns.{InlineParts, is_of, spans_of, joined}
use Rattle.inline_chain.specs.internal.Copies.{of_class, SortedFrom, front_count}
use Rattle.inline_chain.specs.internal.Levels.{has_at, has_class, AreClassParts, entry_runs, AddsGroup, AreOfLevel, Groups, IsMade}
use Rattle.inline_chain.proofs.ClassLemmas.{take_front, drop_front, sorted_behind}

map_joined : (xs ys : List InlineParts) → map (λ (r : InlineParts). r.spans) (xs ++ ys) ≡ map (λ (r : InlineParts). r.spans) xs ++ map (λ (r : InlineParts). r.spans) ys
map_joined [] ys = refl
map_joined (x ∷ xs) ys = ap (λ l. x.spans ∷ l) (map_joined xs ys)

pub spans_joined : (level x : ℕ) (xs ys : List InlineParts) → spans_of level x (xs ++ ys) ≡ spans_of level x xs ++ spans_of level x ys
spans_joined level x xs ys = ap (map (λ (r : InlineParts). r.spans)) (filter-append (is_of level x) xs ys) ∙ map_joined (filter (is_of level x) xs) (filter (is_of level x) ys)

own_spans : (level x : ℕ) (parts : List (List Range)) → spans_of level x (entry_runs level x parts) ≡ parts
own_spans level x [] = refl
own_spans level x (p ∷ parts) =
    ap (map (λ (r : InlineParts). r.spans)) (cond-true _ (record { level = level; entry = x; spans = p } ∷ filter (is_of level x) (entry_runs level x parts)) (filter (is_of level x) (entry_runs level x parts)) own)
    ∙ ap (λ l. p ∷ l) (own_spans level x parts)
  where
    own : ((level == level) && (x == x)) ≡ true
    own = grind (arith, nat_tests)

other_spans : (level x y : ℕ) (parts : List (List Range)) → x ≢ y → spans_of level y (entry_runs level x parts) ≡ []
other_spans level x y [] other = refl
other_spans level x y (p ∷ parts) other =
    ap (map (λ (r : InlineParts). r.spans)) (cond-false _ (record { level = level; entry = x; spans = p } ∷ filter (is_of level y) (entry_runs level x parts)) (filter (is_of level y) (entry_runs level x parts)) apart)
    ∙ other_spans level x y parts other
  where
    apart : ((level == level) && (x == y)) ≡ false
    apart = grind (arith, nat_tests, other)

level_joined : (level : ℕ) (xs ys : List InlineParts) → AreOfLevel level xs → AreOfLevel level ys → AreOfLevel level (xs ++ ys)
level_joined level [] ys p q = q
level_joined level (x ∷ xs) ys p q = (p.0, level_joined level xs ys p.1 q)

runs_level : (level x : ℕ) (parts : List (List Range)) → AreOfLevel level (entry_runs level x parts)
runs_level level x [] = tt
runs_level level x (p ∷ parts) = (refl, runs_level level x parts)

-- What a list has of a class is what the stretches of the class have.
class_any : (x : ℕ) (items : List Stretch) → list_any (λ (s : Stretch). s.class == x) (of_class x items) ≡ has_class x items
class_any x [] = refl
class_any x (s ∷ items) = go (s.class == x) refl (class_any x items)
  where
    go : (b : Bool) → (s.class == x) ≡ b → list_any (λ (s : Stretch). s.class == x) (of_class x items) ≡ has_class x items → list_any (λ (s : Stretch). s.class == x) (if b then s ∷ of_class x items else of_class x items) ≡ (b || has_class x items)
    go true is later = ap (λ t. t || list_any (λ (s : Stretch). s.class == x) (of_class x items)) is
    go false is later = later

class_at : (x : ℕ) (items : List Stretch) (a : ℕ) → list_any (λ (s : Stretch). reaches s a) (of_class x items) ≡ has_at items x a
class_at x [] a = refl
class_at x (s ∷ items) a = go (s.class == x) (class_at x items a)
  where
    go : (b : Bool) → list_any (λ (s : Stretch). reaches s a) (of_class x items) ≡ has_at items x a → list_any (λ (s : Stretch). reaches s a) (if b then s ∷ of_class x items else of_class x items) ≡ ((b && reaches s a) || has_at items x a)
    go true later = ap (λ t. reaches s a || t) later
    go false later = later

same_any : (x : ℕ) (xs ys : List Stretch) → of_class x xs ≡ of_class x ys → has_class x xs ≡ has_class x ys
same_any x xs ys same = sym (class_any x xs) ∙ ap (list_any (λ (s : Stretch). s.class == x)) same ∙ class_any x ys

pub same_at : (x : ℕ) (xs ys : List Stretch) → of_class x xs ≡ of_class x ys → (a : ℕ) → has_at xs x a ≡ has_at ys x a
same_at x xs ys same a = sym (class_at x xs a) ∙ ap (list_any (λ (s : Stretch). reaches s a)) same ∙ class_at x ys a

no_class_at : (x : ℕ) (items : List Stretch) (a : ℕ) → has_class x items ≡ false → has_at items x a ≡ false
no_class_at x [] a none = refl
no_class_at x (s ∷ items) a none = go (s.class == x) (has_class x items) none (λ later. no_class_at x items a later)
  where
    go : (b h : Bool) → (b || h) ≡ false → (h ≡ false → has_at items x a ≡ false) → ((b && reaches s a) || has_at items x a) ≡ false
    go true h none later = absurd (cc)
    go false h none later = later none

pub groups_begin : (level : ℕ) (items : List Stretch) (made : List InlineParts) → made ≡ [] → Groups level items items made
unfolding joined
groups_begin level items made none = record {
  level_is = subst (AreOfLevel level) (sym none) tt;
  ended = λ x out. subst (λ m. AreClassParts items x (spans_of level x m)) (sym none) (record { parts_are = tt; canonical = tt; members = λ a. sym (no_class_at x items a out) });
  ahead = λ x there. (ap (spans_of level x) none, λ a. refl);
}

at_least : (low x : ℕ) (items : List Stretch) → SortedFrom low items → x < low → has_class x items ≡ false
at_least low x [] sorted below = refl
at_least low x (s ∷ items) sorted below = go (s.class == x) (ne_eqb s.class x (λ (e : s.class ≡ x). absurd (omega (arith, sorted.0)))) (at_least s.class x items sorted.1 (omega (arith, sorted.0)))
  where
    go : (b : Bool) → b ≡ false → has_class x items ≡ false → (b || has_class x items) ≡ false
    go true is later = absurd (cc)
    go false is later = later

pub sorted_low : (low : ℕ) (items : List Stretch) → SortedFrom low items → SortedFrom 0 items
sorted_low low [] sorted = tt
sorted_low low (s ∷ items) sorted = (omega arith, sorted.1)

pub front_some : (items later : List Stretch) (s : Stretch) → items ≡ s ∷ later → 0 < front_count s.class items
unfolding front_count
front_some items later s is = (let one : front_count s.class items ≡ suc (front_count s.class later) = ap (front_count s.class) is ∙ cond-true _ _ _ (eq-eqb s.class s.class refl) in omega (arith, one))

pub drop_shorter : (items later : List Stretch) (s : Stretch) (rest : List Stretch) → items ≡ s ∷ later → rest ≡ drop (front_count s.class items) items → length rest < length items
drop_shorter items later s rest is back =
    (let one : 0 < front_count s.class items = front_some items later s is in
    let some : length items ≡ length (s ∷ later) = ap length is in
    let left : length rest ≡ length items - front_count s.class items = ap length back ∙ length-drop (front_count s.class items) items in omega (arith, one, some, left))

-- The class of the first stretch is the lowest.
pub sorted_own : (low : ℕ) (items later : List Stretch) (s : Stretch) → items ≡ s ∷ later → SortedFrom low items → SortedFrom s.class items
sorted_own low items later s is sorted = subst (SortedFrom s.class) (sym is) (let both : SortedFrom low (s ∷ later) = subst (SortedFrom low) is sorted in (omega arith, both.1))

pub has_first : (items later : List Stretch) (s : Stretch) → items ≡ s ∷ later → has_class s.class items ≡ true
has_first items later s is = ap (has_class s.class) is ∙ ap (λ b. b || has_class s.class later) (eq-eqb s.class s.class refl)

pub groups_more : (level x : ℕ) (all rest group later : List Stretch) (made new : List InlineParts) → SortedFrom x rest → has_class x rest ≡ true → group ≡ take (front_count x rest) rest → later ≡ drop (front_count x rest) rest
    → AddsGroup level x group made new → Groups level all rest made → Groups level all later new
groups_more level x all rest group later made new sorted there front back adds groups = record {
  level_is = subst (AreOfLevel level) (sym adds.whole) (level_joined level made (entry_runs level x adds.parts) groups.level_is (runs_level level x adds.parts));
  ended = λ y out. elim (eqb_tells x y) [
    | inl is ↦ subst (λ z. AreClassParts all z (spans_of level z new)) is.1 own
    | inr is ↦ subst (AreClassParts all y) (sym (kept y is.1)) (groups.ended y (sym (same_any y later rest (behind y is.1)) ∙ out))
  ];
  ahead = λ y in_later. elim (eqb_tells x y) [
    | inl is ↦ absurd (none_left y is.1 in_later)
    | inr is ↦
        let before : (spans_of level y made ≡ []) × ((a : ℕ) → has_at rest y a ≡ has_at all y a) = groups.ahead y (sym (same_any y later rest (behind y is.1)) ∙ in_later) in
        (kept y is.1 ∙ before.0, λ a. same_at y later rest (behind y is.1) a ∙ before.1 a)
  ];
}
  where
    behind : (y : ℕ) → x ≢ y → of_class y later ≡ of_class y rest
    behind y other = ap (of_class y) back ∙ drop_front x y rest other

    kept : (y : ℕ) → x ≢ y → spans_of level y new ≡ spans_of level y made
    kept y other = ap (spans_of level y) adds.whole ∙ spans_joined level y made (entry_runs level x adds.parts) ∙ ap (λ l. spans_of level y made ++ l) (other_spans level x y adds.parts other) ∙ append-nil (spans_of level y made)

    none_left : (y : ℕ) → x ≡ y → has_class y later ≡ true → ⊥
    none_left y is there_is =
        (let none : has_class x later ≡ false = ap (has_class x) back ∙ at_least (x + 1) x (drop (front_count x rest) rest) (sorted_behind x rest sorted) (omega arith) in
        let some : has_class x later ≡ true = ap (λ n. has_class n later) is ∙ there_is in cc)

    at_first : (spans_of level x made ≡ []) × ((a : ℕ) → has_at rest x a ≡ has_at all x a)
    at_first = groups.ahead x there

    spans_are : spans_of level x new ≡ adds.parts
    spans_are = ap (spans_of level x) adds.whole ∙ spans_joined level x made (entry_runs level x adds.parts) ∙ (λ i. (at_first.0) i ++ (own_spans level x adds.parts) i)

    own : AreClassParts all x (spans_of level x new)
    own = subst (AreClassParts all x) (sym spans_are) (record {
      parts_are = adds.parts_are;
      canonical = adds.canonical;
      members = λ a. adds.members a ∙ ap (list_any (λ (s : Stretch). reaches s a)) (front ∙ take_front x rest sorted) ∙ class_at x rest a ∙ at_first.1 a;
    })

pub groups_end : (level : ℕ) (all rest : List Stretch) (made : List InlineParts) → length rest ≡ 0 → Groups level all rest made → IsMade level all made
groups_end level all [] made none groups = record { level_is = groups.level_is; copies = λ x. groups.ended x refl }
groups_end level all (s ∷ rest) made none groups = absurd (omega arith)
