use Rattle.std.proofs.Common.{◌≡◌, ℕ, zero, suc, ◌+◌, ◌<◌, ◌≤◌, true, false, cond, nat_le, List, [], ◌∷◌, length, get_or, drop, Option, None, refl, sym, ap, ◌∙◌, subst, inl, inr, arith}
use Rattle.std.proofs.lemmas.Bool.{cases_lt, le-leb, lt-leb}
use Rattle.std.proofs.lemmas.List.{drop_more, drop_all}
use Rattle.sym_edges.specs.Rising.{RisesFrom}
use Rattle.sym_edges.proofs.RisingLemmas.{rises_lower}
use Rattle.step_maps.specs.Stepping.{Stepping, held_from, value_at, last_from, IsStepping}
use Rattle.step_maps.specs.Overlays.{over}
use Rattle.step_maps.specs.internal.Places.{IsNextFirst}
use Rattle.step_maps.specs.declared.stretch.FirstItem.{FirstItem}
use Rattle.step_maps.proofs.SteppingLemmas.{held_before}

-- The value of the first function laid over that of the second.
abbrev pub wanted : List ℕ → List (Option FirstItem) → List ℕ → List (Option FirstItem) → ℕ → Option FirstItem
wanted xs x_values ys y_values a = over (held_from None xs x_values a) (held_from None ys y_values a)

-- The invariant of the merge: below the last stop the result is right. From there on it has the
-- value wanted now, and the stops that are left give the rest.
pub record Left (want : ℕ → Option FirstItem) (both : Stepping (Option FirstItem)) (xs : List ℕ) (x_values : List (Option FirstItem)) (ys : List ℕ) (y_values : List (Option FirstItem)) (x y : Option FirstItem) : Type 0 where
  pub firsts : RisesFrom (last_from 0 both.stops) xs
  pub seconds : RisesFrom (last_from 0 both.stops) ys
  pub done : (a : ℕ) → a < last_from 0 both.stops → value_at None both a ≡ want a
  pub rest : (a : ℕ) → last_from 0 both.stops ≤ a → over (held_from x xs x_values a) (held_from y ys y_values a) ≡ want a
  pub now : (a : ℕ) → last_from 0 both.stops ≤ a → value_at None both a ≡ over x y

pub record Merges (xs : List ℕ) (x_values : List (Option FirstItem)) (ys : List ℕ) (y_values : List (Option FirstItem)) (both : Stepping (Option FirstItem)) (turn i j : ℕ) (x y : Option FirstItem) : Type 0 where
  pub count : i + j ≡ turn
  pub in_first : i ≤ length xs
  pub in_second : j ≤ length ys
  pub left : Left (wanted xs x_values ys y_values) both (drop i xs) (drop i x_values) (drop j ys) (drop j y_values) x y

rises_higher : (low more : ℕ) (xs : List ℕ) → RisesFrom low xs → (0 < length xs → more ≤ get_or xs 0 0) → RisesFrom more xs
rises_higher low more [] rises first = tt
rises_higher low more (x ∷ xs) rises first = (first (omega arith), rises.1)

held_now : {T : Type 0} (before v : T) (s : ℕ) (stops : List ℕ) (values : List T) (a : ℕ) → s ≤ a → held_from before (s ∷ stops) (v ∷ values) a ≡ held_from v stops values a
unfolding held_from
held_now before v s stops values a le = ap (λ b. held_from (cond b v before) stops values a) (le-leb s a le)

-- The step of the merge if the next stop is one of the first list.
first_step : (want : ℕ → Option FirstItem) (both more : Stepping (Option FirstItem)) (s : ℕ) (v : Option FirstItem) (xs : List ℕ) (x_values : List (Option FirstItem)) (ys : List ℕ) (y_values : List (Option FirstItem)) (x y : Option FirstItem)
    → Left want both (s ∷ xs) (v ∷ x_values) ys y_values x y → (0 < length ys → s ≤ get_or ys 0 0)
    → ((before : Option FirstItem) (a : ℕ) → value_at before more a ≡ cond (nat_le s a) (over v y) (value_at before both a)) → last_from 0 more.stops ≡ s
    → Left want more xs x_values ys y_values v y
first_step want both more s v xs x_values ys y_values x y l lower at last =
    let second : RisesFrom s ys = rises_higher (last_from 0 both.stops) s ys l.seconds lower in
    let below : (a : ℕ) → a < s → value_at None more a ≡ value_at None both a = λ a h. at None a ∙ ap (λ b. cond b (over v y) (value_at None both a)) (lt-leb s a h) in
    let early : (a : ℕ) → a < s → value_at None both a ≡ want a
    = λ a h. elim (cases_lt a (last_from 0 both.stops)) [
      | inl low ↦ l.done a low
      | inr high ↦ l.now a high ∙ sym (ap (λ o. over o y) (held_before x s (s ∷ xs) (v ∷ x_values) a (omega arith, l.firsts.1) h)) ∙ sym (ap (λ o. over (held_from x (s ∷ xs) (v ∷ x_values) a) o) (held_before y s ys y_values a second h)) ∙ l.rest a high
    ] in
    record {
      firsts = rw last (rises_lower (s + 1) s xs (omega arith) l.firsts.1);
      seconds = rw last second;
      done = λ a h. (let low : a < s = omega arith in below a low ∙ early a low);
      rest = λ a h. (let high : s ≤ a = omega arith in let high_too : last_from 0 both.stops ≤ a = omega (arith, l.firsts.0) in sym (ap (λ o. over o (held_from y ys y_values a)) (held_now x v s xs x_values a high)) ∙ l.rest a high_too);
      now = λ a h. (let high : s ≤ a = omega arith in at None a ∙ ap (λ b. cond b (over v y) (value_at None both a)) (le-leb s a high));
    }

-- The step of the merge if the next stop is one of the second list.
second_step : (want : ℕ → Option FirstItem) (both more : Stepping (Option FirstItem)) (s : ℕ) (v : Option FirstItem) (xs : List ℕ) (x_values : List (Option FirstItem)) (ys : List ℕ) (y_values : List (Option FirstItem)) (x y : Option FirstItem)
    → Left want both xs x_values (s ∷ ys) (v ∷ y_values) x y → (0 < length xs → s ≤ get_or xs 0 0)
    → ((before : Option FirstItem) (a : ℕ) → value_at before more a ≡ cond (nat_le s a) (over x v) (value_at before both a)) → last_from 0 more.stops ≡ s
    → Left want more xs x_values ys y_values x v
second_step want both more s v xs x_values ys y_values x y l lower at last =
    let first : RisesFrom s xs = rises_higher (last_from 0 both.stops) s xs l.firsts lower in
    let below : (a : ℕ) → a < s → value_at None more a ≡ value_at None both a = λ a h. at None a ∙ ap (λ b. cond b (over x v) (value_at None both a)) (lt-leb s a h) in
    let early : (a : ℕ) → a < s → value_at None both a ≡ want a
    = λ a h. elim (cases_lt a (last_from 0 both.stops)) [
      | inl low ↦ l.done a low
      | inr high ↦ l.now a high ∙ sym (ap (λ o. over o y) (held_before x s xs x_values a first h)) ∙ sym (ap (λ o. over (held_from x xs x_values a) o) (held_before y s (s ∷ ys) (v ∷ y_values) a (omega arith, l.seconds.1) h)) ∙ l.rest a high
    ] in
    record {
      firsts = rw last first;
      seconds = rw last (rises_lower (s + 1) s ys (omega arith) l.seconds.1);
      done = λ a h. (let low : a < s = omega arith in below a low ∙ early a low);
      rest = λ a h. (let high : s ≤ a = omega arith in let high_too : last_from 0 both.stops ≤ a = omega (arith, l.seconds.0) in sym (ap (λ o. over (held_from x xs x_values a) o) (held_now y v s ys y_values a high)) ∙ l.rest a high_too);
      now = λ a h. (let high : s ≤ a = omega arith in at None a ∙ ap (λ b. cond b (over x v) (value_at None both a)) (le-leb s a high));
    }

opened_first : (want : ℕ → Option FirstItem) (both : Stepping (Option FirstItem)) (xs : List ℕ) (x_values : List (Option FirstItem)) (i : ℕ) (v d : Option FirstItem) (ys : List ℕ) (y_values : List (Option FirstItem)) (x y : Option FirstItem)
    → i < length xs → i < length x_values → v ≡ get_or x_values i d → Left want both (drop i xs) (drop i x_values) ys y_values x y → Left want both (get_or xs i 0 ∷ drop (i + 1) xs) (v ∷ drop (i + 1) x_values) ys y_values x y
opened_first want both xs x_values i v d ys y_values x y in_stops in_values read l =
    subst (λ (us : List ℕ). Left want both us (v ∷ drop (i + 1) x_values) ys y_values x y) (drop_more xs i 0 in_stops)
    (subst (λ (us : List (Option FirstItem)). Left want both (drop i xs) us ys y_values x y) (drop_more x_values i d in_values ∙ ap (λ u. u ∷ drop (i + 1) x_values) (sym read)) l)

opened_second : (want : ℕ → Option FirstItem) (both : Stepping (Option FirstItem)) (ys : List ℕ) (y_values : List (Option FirstItem)) (j : ℕ) (v d : Option FirstItem) (xs : List ℕ) (x_values : List (Option FirstItem)) (x y : Option FirstItem)
    → j < length ys → j < length y_values → v ≡ get_or y_values j d → Left want both xs x_values (drop j ys) (drop j y_values) x y → Left want both xs x_values (get_or ys j 0 ∷ drop (j + 1) ys) (v ∷ drop (j + 1) y_values) x y
opened_second want both ys y_values j v d xs x_values x y in_stops in_values read l =
    subst (λ (us : List ℕ). Left want both xs x_values us (v ∷ drop (j + 1) y_values) x y) (drop_more ys j 0 in_stops)
    (subst (λ (us : List (Option FirstItem)). Left want both xs x_values (drop j ys) us x y) (drop_more y_values j d in_values ∙ ap (λ u. u ∷ drop (j + 1) y_values) (sym read)) l)

head_of_drop : (xs : List ℕ) (i s : ℕ) → (i < length xs → s ≤ get_or xs i 0) → 0 < length (drop i xs) → s ≤ get_or (drop i xs) 0 0
head_of_drop xs zero s lower some = lower some
head_of_drop [] (suc i) s lower some = absurd (omega arith)
head_of_drop (x ∷ xs) (suc i) s lower some = head_of_drop xs i s (λ h. lower (omega arith)) some

pub merges_none : (xs : List ℕ) (x_values : List (Option FirstItem)) (ys : List ℕ) (y_values : List (Option FirstItem)) (both : Stepping (Option FirstItem)) → IsStepping xs x_values → IsStepping ys y_values → both ≡ record { stops = []; values = [] } → Merges xs x_values ys y_values both 0 0 0 None None
unfolding held_from
merges_none xs x_values ys y_values both first second is = record {
  count = refl;
  in_first = omega arith;
  in_second = omega arith;
  left = rw is (record {
    firsts = first.rising;
    seconds = second.rising;
    done = λ a h. absurd (omega arith);
    rest = λ a h. refl;
    now = λ a h. refl;
  });
}

pub merges_first : (xs : List ℕ) (x_values : List (Option FirstItem)) (ys : List ℕ) (y_values : List (Option FirstItem)) (both more : Stepping (Option FirstItem)) (turn i j s : ℕ) (x y v h d : Option FirstItem)
    → IsStepping xs x_values → Merges xs x_values ys y_values both turn i j x y → IsNextFirst true xs i ys j → s ≡ get_or xs i 0 → v ≡ get_or x_values i d
    → ((before : Option FirstItem) (a : ℕ) → value_at before more a ≡ cond (nat_le s a) h (value_at before both a)) → last_from 0 more.stops ≡ s → h ≡ over v y
    → Merges xs x_values ys y_values more (turn + 1) (i + 1) j v y
merges_first xs x_values ys y_values both more turn i j s x y v h d first m next at_s read at last is =
    let inside : i < length xs = next.0 in
    record {
      count = omega (arith, m.count);
      in_first = omega arith;
      in_second = m.in_second;
      left =
          first_step (wanted xs x_values ys y_values) both more (get_or xs i 0) v (drop (i + 1) xs) (drop (i + 1) x_values) (drop j ys) (drop j y_values) x y
          (opened_first (wanted xs x_values ys y_values) both xs x_values i v d (drop j ys) (drop j y_values) x y inside (omega (arith, first.paired)) read m.left)
          (head_of_drop ys j (get_or xs i 0) next.1) (rw (at_s, is) at at) (last ∙ at_s);
    }

pub merges_second : (xs : List ℕ) (x_values : List (Option FirstItem)) (ys : List ℕ) (y_values : List (Option FirstItem)) (both more : Stepping (Option FirstItem)) (turn i j s : ℕ) (x y v h d : Option FirstItem)
    → IsStepping ys y_values → Merges xs x_values ys y_values both turn i j x y → IsNextFirst false xs i ys j → s ≡ get_or ys j 0 → v ≡ get_or y_values j d
    → ((before : Option FirstItem) (a : ℕ) → value_at before more a ≡ cond (nat_le s a) h (value_at before both a)) → last_from 0 more.stops ≡ s → h ≡ over x v
    → Merges xs x_values ys y_values more (turn + 1) i (j + 1) x v
merges_second xs x_values ys y_values both more turn i j s x y v h d second m next at_s read at last is =
    let inside : j < length ys = next.0 in
    record {
      count = omega (arith, m.count);
      in_first = m.in_first;
      in_second = omega arith;
      left =
          second_step (wanted xs x_values ys y_values) both more (get_or ys j 0) v (drop i xs) (drop i x_values) (drop (j + 1) ys) (drop (j + 1) y_values) x y
          (opened_second (wanted xs x_values ys y_values) both ys y_values j v d (drop i xs) (drop i x_values) x y inside (omega (arith, second.paired)) read m.left)
          (head_of_drop xs i (get_or ys j 0) next.1) (rw (at_s, is) at at) (last ∙ at_s);
    }

pub merges_all : (xs : List ℕ) (x_values : List (Option FirstItem)) (ys : List ℕ) (y_values : List (Option FirstItem)) (both : Stepping (Option FirstItem)) (turn i j : ℕ) (x y : Option FirstItem)
    → Merges xs x_values ys y_values both turn i j x y → length xs + length ys ≤ turn → (a : ℕ) → value_at None both a ≡ wanted xs x_values ys y_values a
unfolding held_from
merges_all xs x_values ys y_values both turn i j x y m all a =
    let none_x : drop i xs ≡ [] = drop_all i xs (omega (arith, m.count, m.in_first, m.in_second)) in
    let none_y : drop j ys ≡ [] = drop_all j ys (omega (arith, m.count, m.in_first, m.in_second)) in
    elim (cases_lt a (last_from 0 both.stops)) [
      | inl low ↦ m.left.done a low
      | inr high ↦ m.left.now a high
          ∙ sym (ap (λ (us : List ℕ). over (held_from x us (drop i x_values) a) (held_from y [] (drop j y_values) a)) none_x)
          ∙ sym (ap (λ (us : List ℕ). over (held_from x (drop i xs) (drop i x_values) a) (held_from y us (drop j y_values) a)) none_y)
          ∙ m.left.rest a high
    ]
