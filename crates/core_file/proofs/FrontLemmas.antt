-- Runs of memory: how many consecutive addresses have a byte.
use Rattle.std.proofs.Common.{◌≡◌, ℕ, zero, suc, ◌+◌, ◌-◌, ◌<◌, ◌≤◌, ◌^◌, true, List, ◌∷◌, Option, Some, None, length, get_or, refl, sym, ◌∙◌, ap, arith, ◌⊎◌, inl, inr, ⊎_elim}
use Rattle.std.specs.Prelude.{is_some}
use Rattle.std.proofs.lemmas.Bool.{le-ltb, cases_lt}
use Rattle.core_file.specs.CoreNumbers.{address_end}
use Rattle.core_file.specs.Memory.{Memory, byte_at, front_by, front_at}

pub front_none : (memory : Memory) (a : ℕ) → length (front_at memory a 0) ≡ 0
unfolding front_at
front_none memory a = refl

-- No address at or above 2^64 has a byte.
pub byte_past : (memory : Memory) (a : ℕ) → 2 ^ 64 ≤ a → byte_at memory a ≡ None
unfolding byte_at
byte_past memory a past = rw (le-ltb a address_end past) refl

some_is : {X : Type 0} (o : Option X) (P : Type 0) → is_some o ≡ true → ((x : X) → o ≡ Some x → P) → P
some_is None P is next = cc
some_is (Some x) P is next = next x refl

-- If all addresses of a run have a byte, the run has as many bytes as addresses.
all_front : (memory : Memory) (n a : ℕ) → ((j : ℕ) → j < n → is_some (byte_at memory (a + j)) ≡ true) → length (front_at memory a n) ≡ n
unfolding front_at
all_front memory zero a all = refl
all_front memory (suc n) a all =
    let z : a + 0 ≡ a = omega arith in
    some_is (byte_at memory a) (length (front_by (byte_at memory a) (front_at memory (a + 1) n)) ≡ suc n) (ap (λ b. is_some (byte_at memory b)) (sym z) ∙ all 0 (omega arith))
    (λ b is. rw is (let e : length (front_at memory (a + 1) n) ≡ n =
    all_front memory n (a + 1) (λ j h. let s : a + 1 + j ≡ a + (j + 1) = omega arith in rw s (all (j + 1) (omega arith))) in omega arith))

front_cases : (memory : Memory) (n a : ℕ) (o : Option ℕ) → byte_at memory a ≡ o → length (front_by o (front_at memory (a + 1) n)) ≡ suc n → (j : ℕ) → j < suc n → (length (front_at memory (a + 1) n) ≡ n → (k : ℕ) → k < n → byte_at memory (a + 1 + k) ≡ Some (get_or (front_at memory (a + 1) n) k 0)) → byte_at memory (a + j) ≡ Some (get_or (front_by o (front_at memory (a + 1) n)) j 0)
front_cases memory n a None is long j inside later = absurd (omega arith)
front_cases memory n a (Some b) is long zero inside later = let z : a + 0 ≡ a = omega arith in rw z is
front_cases memory n a (Some b) is long (suc j) inside later =
    let e : a + suc j ≡ a + 1 + j = omega arith in
    rw e (later (omega arith) j (omega arith))

-- If a run has as many bytes as addresses, these are the bytes of the addresses.
front_all : (memory : Memory) (n a : ℕ) → length (front_at memory a n) ≡ n → (j : ℕ) → j < n → byte_at memory (a + j) ≡ Some (get_or (front_at memory a n) j 0)
unfolding front_at
front_all memory zero a long j inside = absurd (omega arith)
front_all memory (suc n) a long j inside = front_cases memory n a (byte_at memory a) refl long j inside (front_all memory n (a + 1))

pub front_byte : (memory : Memory) (a n j : ℕ) → length (front_at memory a n) ≡ n → j < n → byte_at memory (a + j) ≡ Some (get_or (front_at memory a n) j 0)
front_byte memory a n j long inside = front_all memory n a long j inside

none_some : (o : Option ℕ) (x : ℕ) → o ≡ None → o ≡ Some x → ⊥
none_some o x none some = let e : ◌≡◌ {A = Option ℕ} None (Some x) = sym none ∙ some in cc

pub front_below : (memory : Memory) (a n j : ℕ) → length (front_at memory a n) ≡ n → j < n → a + j < 2 ^ 64
front_below memory a n j long inside =
    ⊎_elim (λ below. below) (λ past. absurd (none_some (byte_at memory (a + j)) _ (byte_past memory (a + j) past) (front_all memory n a long j inside))) (cases_lt (a + j) (2 ^ 64))

-- A run is followed by more addresses that have a byte.
more_some : (memory : Memory) (a n at k all j : ℕ) → at ≡ a + n → length (front_at memory a n) ≡ n → ((i : ℕ) → i < all → is_some (byte_at memory (at + i)) ≡ true) → k ≤ all → j < n + k → (j < n) ⊎ (n ≤ j) → is_some (byte_at memory (a + j)) ≡ true
more_some memory a n at k all j is long some within inside (inl before) = ap is_some (front_all memory n a long j before)
more_some memory a n at k all j is long some within inside (inr behind) =
    let e : at + (j - n) ≡ a + j = omega arith in
    ap (λ b. is_some (byte_at memory b)) (sym e) ∙ some (j - n) (omega arith)

pub front_more : (memory : Memory) (a n at k all : ℕ) → at ≡ a + n → length (front_at memory a n) ≡ n → ((i : ℕ) → i < all → is_some (byte_at memory (at + i)) ≡ true) → k ≤ all → length (front_at memory a (n + k)) ≡ n + k
front_more memory a n at k all is long some within =
    all_front memory (n + k) a (λ j inside. more_some memory a n at k all j is long some within inside (cases_lt j n))

stop_cases : (o : Option ℕ) (n : ℕ) (xs ys : List ℕ) → length (front_by o ys) ≡ suc n → (length ys ≡ n → xs ≡ ys) → front_by o xs ≡ front_by o ys
stop_cases None n xs ys long same = refl
stop_cases (Some b) n xs ys long same = ap (λ l. b ∷ l) (same (omega arith))

-- An address without a byte ends a run.
pub front_stop : (memory : Memory) (n want a : ℕ) → length (front_at memory a n) ≡ n → n ≤ want → byte_at memory (a + n) ≡ None → front_at memory a want ≡ front_at memory a n
unfolding front_at
front_stop memory zero zero a long within none = refl
front_stop memory zero (suc want) a long within none = let z : a + 0 ≡ a = omega arith in rw (ap (byte_at memory) (sym z) ∙ none) refl
front_stop memory (suc n) zero a long within none = absurd (omega arith)
front_stop memory (suc n) (suc want) a long within none =
    let e : a + 1 + n ≡ a + suc n = omega arith in
    stop_cases (byte_at memory a) n (front_at memory (a + 1) want) (front_at memory (a + 1) n) long
    (λ inner. front_stop memory n want (a + 1) inner (omega arith) (ap (byte_at memory) e ∙ none))

pub front_past : (memory : Memory) (n want a : ℕ) → length (front_at memory a n) ≡ n → n ≤ want → 2 ^ 64 ≤ a + n → front_at memory a want ≡ front_at memory a n
front_past memory n want a long within past = front_stop memory n want a long within (byte_past memory (a + n) past)
