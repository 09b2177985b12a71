-- Bytes of memory: in the last run that contains an address, and by binary search if the runs
-- ascend.
use Rattle.std.proofs.Common.{◌≡◌, ◌+◌, ◌-◌, ◌<◌, ◌≤◌, ℕ, zero, suc, leb, true, false, List, [], ◌∷◌, ◌++◌, length, get_or, take, drop, Option, None, Some, refl, sym, ap, ◌∙◌, arith}
use Rattle.std.proofs.lemmas.Bool.{and_parts, and_from, and_left, and_right, leb-true, le-leb, lt-leb, le-ltb}
use Rattle.std.proofs.lemmas.List.{drop_more, take_more, take_all, at_drop_all}
use Rattle.std.specs.Option.{option_or, option_and_then, is_some}
use Rattle.std.specs.List.{slice_get}
use Rattle.std.proofs.lemmas.Option.{slice_get-get_or}
use Rattle.std.specs.List.Sorted.{IsNonDecreasingBy}
use Rattle.cfi_eval.specs.declared.memory.MemRun.{MemRun}
use Rattle.cfi_eval.specs.Bytes.{byte_at, holds}
use Rattle.cfi_eval.specs.internal.Rising.{rise_from, byte_in, end_of, byte_behind}
use Rattle.cfi_eval.proofs.OptionLemmas.{or_none, or_assoc}

pub byte_push : (xs : List MemRun) (run : MemRun) (a : ℕ) → byte_at (xs ++ run ∷ []) a ≡ option_or (byte_in a run) (byte_at xs a)
unfolding byte_at
byte_push [] run a = sym (or_none (byte_in a run))
byte_push (x ∷ xs) run a = ap (λ o. option_or o (byte_in a x)) (byte_push xs run a) ∙ or_assoc (byte_in a run) (byte_at xs a) (byte_in a x)

-- A run that begins above an address, or ends at or before it, does not contain it.
pub above_byte : (a : ℕ) (run : MemRun) → a < run.start → byte_in a run ≡ None
above_byte a run h = let e : holds a run ≡ false = and_left _ _ (lt-leb run.start a h) in rw e

pub below_byte : (a : ℕ) (run : MemRun) → end_of run ≤ a → byte_in a run ≡ None
below_byte a run h = let e : holds a run ≡ false = and_right _ _ (le-ltb a (end_of run) h) in rw e

-- Runs that ascend from above an address on do not contain it.
pub rise_above : (low a : ℕ) (runs : List MemRun) → rise_from low runs ≡ true → a < low → byte_at runs a ≡ None
unfolding byte_at rise_from
rise_above low a [] h l = refl
rise_above low a (run ∷ runs) h l =
    let parts = and_parts (leb low run.start) (rise_from (end_of run) runs) h in
    let start : low ≤ run.start = leb-true _ _ parts.0 in
    let behind : byte_at runs a ≡ None = rise_above (end_of run) a runs parts.1 (omega arith) in
    let here : byte_in a run ≡ None = above_byte a run (omega arith) in
    rw (behind, here)

pub rise_lower : (low lower : ℕ) (runs : List MemRun) → rise_from low runs ≡ true → lower ≤ low → rise_from lower runs ≡ true
unfolding rise_from
rise_lower low lower [] h l = refl
rise_lower low lower (run ∷ runs) h l =
    let parts = and_parts (leb low run.start) (rise_from (end_of run) runs) h in
    let start : low ≤ run.start = leb-true _ _ parts.0 in
    and_from _ _ (le-leb lower run.start (omega arith)) parts.1

pub rise_start : (low : ℕ) (runs : List MemRun) (j : ℕ) (d : MemRun) → rise_from low runs ≡ true → j < length runs → low ≤ (get_or runs j d).start
unfolding rise_from
rise_start low [] j d h l = absurd (omega arith)
rise_start low (run ∷ runs) zero d h l = leb-true _ _ (and_parts (leb low run.start) (rise_from (end_of run) runs) h).0
rise_start low (run ∷ runs) (suc j) d h l =
    let parts = and_parts (leb low run.start) (rise_from (end_of run) runs) h in
    let start : low ≤ run.start = leb-true _ _ parts.0 in
    let later = rise_start (end_of run) runs j d parts.1 (omega arith) in
    omega arith

-- The starts of runs that ascend do not descend.
pub rise_ordered : (low : ℕ) (runs : List MemRun) → rise_from low runs ≡ true → IsNonDecreasingBy (λ run. run.start) runs
unfolding rise_from
rise_ordered low [] h i j d le l = absurd (omega arith)
rise_ordered low (run ∷ runs) h zero zero d le l = omega arith
rise_ordered low (run ∷ runs) h zero (suc j) d le l =
    let later = rise_start (end_of run) runs j d (and_parts (leb low run.start) (rise_from (end_of run) runs) h).1 (omega arith) in
    omega arith
rise_ordered low (run ∷ runs) h (suc i) zero d le l = absurd (omega arith)
rise_ordered low (run ∷ runs) h (suc i) (suc j) d le l =
    rise_ordered (end_of run) runs (and_parts (leb low run.start) (rise_from (end_of run) runs) h).1 i j d (omega arith) (omega arith)

-- If runs ascend, the last of those that begin at or before an address decides.
pub byte_by_halves : (low a : ℕ) (runs : List MemRun) (n : ℕ) → rise_from low runs ≡ true → n ≤ length runs
    → ((k : ℕ) (d : MemRun) → k < n → (get_or runs k d).start ≤ a) → ((k : ℕ) (d : MemRun) → n ≤ k → k < length runs → a < (get_or runs k d).start)
    → byte_at runs a ≡ byte_behind n a runs
unfolding byte_at rise_from
byte_by_halves low a [] zero h l before behind = refl
byte_by_halves low a [] (suc n) h l before behind = absurd (omega arith)
byte_by_halves low a (run ∷ runs) zero h l before behind =
    let first : a < run.start = behind 0 run (omega arith) (omega arith) in
    rise_above run.start a (run ∷ runs) (and_from _ _ (le-leb run.start run.start (omega arith)) (and_parts (leb low run.start) (rise_from (end_of run) runs) h).1) first
byte_by_halves low a (run ∷ runs) (suc zero) h l before behind =
    let parts = and_parts (leb low run.start) (rise_from (end_of run) runs) h in
    let later : byte_at runs a ≡ None = byte_by_halves (end_of run) a runs zero parts.1 (omega arith) (λ k d lt. absurd (omega arith)) (λ k d le lt. behind (suc k) d (omega arith) (omega arith)) in
    rw later
byte_by_halves low a (run ∷ runs) (suc (suc n)) h l before behind =
    let parts = and_parts (leb low run.start) (rise_from (end_of run) runs) h in
    let next : (get_or runs 0 run).start ≤ a = before 1 run (omega arith) in
    let above : end_of run ≤ (get_or runs 0 run).start = rise_start (end_of run) runs 0 run parts.1 (omega arith) in
    let here : byte_in a run ≡ None = below_byte a run (omega arith) in
    let later : byte_at runs a ≡ byte_behind (suc n) a runs = byte_by_halves (end_of run) a runs (suc n) parts.1 (omega arith) (λ k d lt. before (suc k) d (omega arith)) (λ k d le lt. behind (suc k) d (omega arith) (omega arith)) in
    rw (later, here) (or_none (byte_behind (suc n) a runs))

-- The test of the runs one after another.
pub rise_not : (runs : List MemRun) (i low : ℕ) (run : MemRun) (start : ℕ) → i < length runs → run ≡ get_or runs i run → start ≡ run.start → start < low → false ≡ rise_from low (drop i runs)
unfolding rise_from
rise_not runs i low run start l e s h =
    let now : drop i runs ≡ run ∷ drop (i + 1) runs = drop_more runs i run l ∙ ap (λ r. r ∷ drop (i + 1) runs) (sym e) in
    rw now (sym (and_left (leb low run.start) (rise_from (end_of run) (drop (i + 1) runs)) (lt-leb low run.start (omega arith))))

pub rise_more : (runs : List MemRun) (i low : ℕ) (run : MemRun) (start again len : ℕ) → i < length runs → run ≡ get_or runs i run → start ≡ run.start → low ≤ start → again ≡ run.start → len ≡ length run.bytes
    → rise_from (again + len) (drop (i + 1) runs) ≡ rise_from low (drop i runs)
unfolding rise_from
rise_more runs i low run start again len l e s h s' n =
    let now : drop i runs ≡ run ∷ drop (i + 1) runs = drop_more runs i run l ∙ ap (λ r. r ∷ drop (i + 1) runs) (sym e) in
    let test : leb low run.start ≡ true = le-leb low run.start (omega arith) in
    rw (now, test, s', n) refl

pub rise_all : (runs : List MemRun) (i low : ℕ) → length runs ≤ i → true ≡ rise_from low (drop i runs)
unfolding rise_from
rise_all runs i low h = sym (at_drop_all (rise_from low) runs i h)

-- The search from the last run on.
pub last_start : (runs : List MemRun) (a : ℕ) → byte_at runs a ≡ byte_at (take (length runs) runs) a
last_start runs a = ap (λ r. byte_at r a) (sym (take_all (length runs) runs (omega arith)))

pub last_found : (runs : List MemRun) (a place : ℕ) (run : MemRun) → 0 < place → place ≤ length runs → run ≡ get_or runs (place - 1) run
    → byte_at (take place runs) a ≡ option_or (byte_in a run) (byte_at (take (place - 1) runs) a)
last_found runs a place run h l e =
    let one : place - 1 + 1 ≡ place = omega arith in
    let more : take place runs ≡ take (place - 1) runs ++ run ∷ [] = ap (λ n. take n runs) (sym one) ∙ take_more runs (place - 1) run (omega arith) ∙ ap (λ r. take (place - 1) runs ++ r ∷ []) (sym e) in
    rw more (byte_push (take (place - 1) runs) run a)

pub last_some : (runs : List MemRun) (a place : ℕ) (run : MemRun) (byte : Option ℕ) → 0 < place → place ≤ length runs → run ≡ get_or runs (place - 1) run → byte ≡ byte_in a run → true ≡ is_some byte
    → byte ≡ byte_at (take place runs) a
last_some runs a place run None h l e b s = cc
last_some runs a place run (Some v) h l e b s = rw (last_found runs a place run h l e, sym b) refl

pub last_more : (runs : List MemRun) (a place : ℕ) (run : MemRun) (byte : Option ℕ) → 0 < place → place ≤ length runs → run ≡ get_or runs (place - 1) run → byte ≡ byte_in a run → false ≡ is_some byte
    → byte_at (take place runs) a ≡ byte_at (take (place - 1) runs) a
last_more runs a place run None h l e b s = rw (last_found runs a place run h l e, sym b) refl
last_more runs a place run (Some v) h l e b s = cc

pub last_none : (runs : List MemRun) (a place : ℕ) → place ≤ 0 → byte_at (take place runs) a ≡ None
unfolding byte_at
last_none runs a zero h = refl
last_none runs a (suc place) h = absurd (omega arith)

-- The run that decides, as the code finds it.
pub behind_none : (runs : List MemRun) (a n : ℕ) → n ≡ 0 → byte_at runs a ≡ byte_behind n a runs → None ≡ byte_at runs a
behind_none runs a zero e h = sym h
behind_none runs a (suc n) e h = absurd (omega arith)

pub behind_some : (runs : List MemRun) (a n : ℕ) (run : MemRun) → 0 < n → n ≤ length runs → run ≡ get_or runs (n - 1) run → byte_at runs a ≡ byte_behind n a runs → byte_in a run ≡ byte_at runs a
behind_some runs a zero run l m e h = absurd (omega arith)
behind_some runs a (suc n) run l m e h =
    let one : suc n - 1 ≡ n = omega arith in
    let there : slice_get runs n ≡ Some run = slice_get-get_or runs n run (omega arith) ∙ ap Some (ap (λ i. get_or runs i run) (sym one) ∙ sym e) in
    sym (h ∙ ap (option_and_then (byte_in a)) there)
