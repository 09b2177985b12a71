use Rattle.std.proofs.Common.{◌≡◌, ◌≢◌, ℕ, zero, suc, ◌+◌, ◌-◌, ◌<◌, ◌≤◌, Bool, true, false, cond, nat_le, List, [], ◌∷◌, ◌++◌, length, get_or, set, refl, sym, ap, ◌∙◌, arith}
use Rattle.std.proofs.lemmas.Bool.{le-leb, lt-leb}
use Rattle.std.proofs.lemmas.Bool.Decides.{nat_tests}
use Rattle.std.specs.List.Sorted.{IsNonDecreasingBy, IsPartitionedBy, IsPartitionPoint}
use Rattle.std.proofs.lemmas.List.Sorted.{IsPartitionedBy-leb}
use Rattle.std.proofs.lemmas.List.{get_or_default}
use Rattle.sym_edges.specs.Rising.{RisesFrom}
use Rattle.sym_edges.proofs.RisingLemmas.{rises_sorted}
use Rattle.step_maps.specs.Stepping.{held_from, last_from, IsStepping}

-- The values with one more stop at the end.
pub held_push : {V : Type 0} (before v : V) (stops : List ℕ) (values : List V) (s a : ℕ) → length stops ≡ length values → held_from before (stops ++ s ∷ []) (values ++ v ∷ []) a ≡ cond (nat_le s a) v (held_from before stops values a)
unfolding held_from
held_push before v [] [] s a same = refl
held_push before v [] (w ∷ values) s a same = absurd (omega arith)
held_push before v (t ∷ stops) [] s a same = absurd (omega arith)
held_push before v (t ∷ stops) (w ∷ values) s a same = held_push (cond (nat_le t a) w before) v stops values s a (omega arith)

cond_twice : {V : Type 0} (b : Bool) (x y z : V) → cond b x z ≡ cond b x (cond b y z)
cond_twice true x y z = refl
cond_twice false x y z = refl

-- The values with another value for the last stop.
pub held_over : {V : Type 0} (before v : V) (stops : List ℕ) (values : List V) (i low a : ℕ) → length stops ≡ length values → length stops ≡ i + 1 → held_from before stops (set values i v) a ≡ cond (nat_le (last_from low stops) a) v (held_from before stops values a)
unfolding held_from
held_over before v [] values i low a same last = absurd (omega arith)
held_over before v (t ∷ stops) [] i low a same last = absurd (omega arith)
held_over before v (t ∷ []) (w ∷ []) zero low a same last = cond_twice (nat_le t a) v w before
held_over before v (t ∷ []) (w ∷ []) (suc i) low a same last = absurd (omega arith)
held_over before v (t ∷ []) (w ∷ x ∷ values) i low a same last = absurd (omega arith)
held_over before v (t ∷ u ∷ stops) (w ∷ values) zero low a same last = absurd (omega arith)
held_over before v (t ∷ u ∷ stops) (w ∷ values) (suc i) low a same last = held_over (cond (nat_le t a) w before) v (u ∷ stops) values i t a (omega arith) (omega arith)

pub last_push : (low : ℕ) (stops : List ℕ) (s : ℕ) → last_from low (stops ++ s ∷ []) ≡ s
last_push low [] s = refl
last_push low (t ∷ stops) s = last_push t stops s

pub last_index : (low : ℕ) (stops : List ℕ) (i d : ℕ) → length stops ≡ i + 1 → get_or stops i d ≡ last_from low stops
last_index low [] i d last = absurd (omega arith)
last_index low (t ∷ []) zero d last = refl
last_index low (t ∷ []) (suc i) d last = absurd (omega arith)
last_index low (t ∷ u ∷ stops) zero d last = absurd (omega arith)
last_index low (t ∷ u ∷ stops) (suc i) d last = last_index t (u ∷ stops) i d (omega arith)

rises_more : (low d : ℕ) (stops : List ℕ) (s : ℕ) → RisesFrom low stops → (length stops ≡ 0 → low ≤ s) → (0 < length stops → last_from d stops < s) → RisesFrom low (stops ++ s ∷ [])
rises_more low d [] s rises first later = (first refl, tt)
rises_more low d (t ∷ []) s rises first later = (let up : t < s = later (omega arith) in (rises.0, (omega arith, tt)))
rises_more low d (t ∷ u ∷ stops) s rises first later =
    (rises.0, rises_more (t + 1) t (u ∷ stops) s rises.1 (λ none. absurd (omega arith)) (λ some. later (omega arith)))

pub rises_push : (stops : List ℕ) (s : ℕ) → RisesFrom 0 stops → (0 < length stops → last_from 0 stops < s) → RisesFrom 0 (stops ++ s ∷ [])
rises_push stops s rises later = rises_more 0 0 stops s rises (λ none. omega arith) later

pub held_before : {V : Type 0} (before : V) (low : ℕ) (stops : List ℕ) (values : List V) (a : ℕ) → RisesFrom low stops → a < low → held_from before stops values a ≡ before
unfolding held_from
held_before before low [] values a rises below = refl
held_before before low (s ∷ stops) [] a rises below = refl
held_before before low (s ∷ stops) (v ∷ values) a rises below =
    ap (λ b. held_from (cond b v before) stops values a) (lt-leb s a (omega arith)) ∙ held_before before (s + 1) stops values a rises.1 (omega arith)

-- The value at an address is that of the last stop at or below it.
pub held_found : {V : Type 0} (before d : V) (low : ℕ) (stops : List ℕ) (values : List V) (i a : ℕ) → RisesFrom low stops → length stops ≡ length values → i < length stops → ((k e : ℕ) → k ≤ i → get_or stops k e ≤ a) → ((k e : ℕ) → i < k → k < length stops → a < get_or stops k e) → held_from before stops values a ≡ get_or values i d
unfolding held_from
held_found before d low [] values i a rises same inside at_most above = absurd (omega arith)
held_found before d low (s ∷ stops) [] i a rises same inside at_most above = absurd (omega arith)
held_found before d low (s ∷ []) (v ∷ values) zero a rises same inside at_most above =
    ap (λ b. cond b v before) (le-leb s a (at_most 0 0 (omega arith)))
held_found before d low (s ∷ t ∷ stops) (v ∷ values) zero a rises same inside at_most above =
    ap (λ b. held_from (cond b v before) (t ∷ stops) values a) (le-leb s a (at_most 0 0 (omega arith)))
    ∙ held_before v t (t ∷ stops) values a (omega arith, rises.1.1) (above 1 0 (omega arith) (omega arith))
held_found before d low (s ∷ stops) (v ∷ values) (suc i) a rises same inside at_most above =
    held_found (cond (nat_le s a) v before) d (s + 1) stops values i a rises.1 (omega arith) (omega arith) (λ k e h. at_most (suc k) e (omega arith)) (λ k e h g. above (suc k) e (omega arith) (omega arith))

pub held_none : {V : Type 0} (before : V) (stops : List ℕ) (values : List V) (a : ℕ) → ((k e : ℕ) → k < length stops → a < get_or stops k e) → held_from before stops values a ≡ before
unfolding held_from
held_none before [] values a above = refl
held_none before (s ∷ stops) [] a above = refl
held_none before (s ∷ stops) (v ∷ values) a above =
    ap (λ b. held_from (cond b v before) stops values a) (lt-leb s a (above 0 0 (omega arith))) ∙ held_none before stops values a (λ k e h. above (suc k) e (omega arith))

pub parted : (stops : List ℕ) (a : ℕ) → RisesFrom 0 stops → IsPartitionedBy (λ s. nat_le s a) stops
parted stops a rises = IsPartitionedBy-leb (λ s. s) stops a (rises_sorted 0 stops rises)

abbrev pub Point : List ℕ → ℕ → ℕ → Type 0
Point stops a i = IsPartitionPoint (λ s. nat_le s a ≡ true) (λ s. nat_le s a ≡ false) stops i

-- The value if no stop is at or below the address.
pub point_none : {V : Type 0} (before : V) (stops : List ℕ) (values : List V) (a i : ℕ) → Point stops a i → i ≡ 0 → before ≡ held_from before stops values a
point_none before stops values a i point none =
    sym (held_none before stops values a (λ k e h. (let is : nat_le (get_or stops k e) a ≡ false = point.1 k e (omega arith) h in grind (arith, nat_tests))))

-- The value if a stop is at or below the address.
pub point_some : {V : Type 0} (before v : V) (stops : List ℕ) (values : List V) (a i : ℕ) → IsStepping stops values → Point stops a i → i ≢ 0 → i ≤ length stops → v ≡ get_or values (i - 1) v → v ≡ held_from before stops values a
point_some before v stops values a i stepping point some inside read =
    read ∙ sym (held_found before v 0 stops values (i - 1) a stepping.rising stepping.paired (omega arith)
    (λ k e h. (let is : nat_le (get_or stops k e) a ≡ true = point.0 k e (omega arith) (omega arith) in grind (arith, nat_tests)))
    (λ k e h g. (let is : nat_le (get_or stops k e) a ≡ false = point.1 k e (omega arith) g in grind (arith, nat_tests))))

-- Below the first stop the value is `before`.
pub held_below_first : {V : Type 0} (before : V) (stops : List ℕ) (values : List V) (a : ℕ) → IsStepping stops values → (0 < length stops → a < get_or stops 0 0) → held_from before stops values a ≡ before
held_below_first before [] values a stepping below = held_none before [] values a (λ k e h. absurd (omega arith))
held_below_first before (s ∷ stops) values a stepping below = held_before before s (s ∷ stops) values a (omega arith, stepping.rising.1) (below (omega arith))

-- From a stop on, up to the next one, the value is that of this stop.
pub held_at_index : {V : Type 0} (before d : V) (stops : List ℕ) (values : List V) (i a : ℕ) → IsStepping stops values → i < length stops → get_or stops i 0 ≤ a → (i + 1 < length stops → a < get_or stops (i + 1) 0) → held_from before stops values a ≡ get_or values i d
held_at_index before d stops values i a stepping inside low high =
    let rises : IsNonDecreasingBy (λ s. s) stops = rises_sorted 0 stops stepping.rising in
    held_found before d 0 stops values i a stepping.rising stepping.paired inside
    (λ k e h. (let up : get_or stops k e ≤ get_or stops i e = rises k i e h inside in let same : get_or stops i e ≡ get_or stops i 0 = get_or_default stops i e 0 inside in omega arith))
    (λ k e h g. (let up : get_or stops (i + 1) e ≤ get_or stops k e = rises (i + 1) k e (omega arith) g in let same : get_or stops (i + 1) e ≡ get_or stops (i + 1) 0 = get_or_default stops (i + 1) e 0 (omega arith) in let less : a < get_or stops (i + 1) 0 = high (omega arith) in omega arith))

pub rises_next : (stops : List ℕ) (i : ℕ) → RisesFrom 0 stops → i + 1 < length stops → get_or stops i 0 ≤ get_or stops (i + 1) 0
rises_next stops i rises inside = rises_sorted 0 stops rises i (i + 1) 0 (omega arith) inside
