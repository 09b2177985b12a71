-- Blocks that are added one after the other.
use Rattle.std.proofs.Common.{◌≡◌, ℕ, zero, suc, ◌+◌, ◌*◌, ◌/◌, ◌^◌, ◌<◌, ◌≤◌, true, false, cond, List, [], ◌∷◌, ◌++◌, length, take, drop, refl, sym, ◌∙◌, ap, arith, add-one, length-append, append_assoc}
use Rattle.std.proofs.lemmas.Bool.{eqb-true, lt-ltb, le-ltb}
use Rattle.std.specs.Prelude.{replicate, ◌==◌, not}
use Rattle.std.specs.List.{list_all}
use Rattle.std.proofs.lemmas.List.{nil_from_length, append-nil, take-append-le, drop-append-le, length-drop, take_all}
use Rattle.std.proofs.Math.Seq.{drop-append_seam}
use Rattle.std.proofs.Math.Nat.{mul-le-mul_right}
use Rattle.core_file.specs.declared.blocks.Blocks.{Blocks}
use Rattle.std.specs.Prelude.{Err}
use Rattle.sym_edges.specs.declared.fault.Stop.{Stop}
use Rattle.sym_edges.specs.declared.fault.Stop.TheVariants.{Fault, NoMemory}
use Rattle.sym_edges.specs.Outside.{MatchStop}
use Rattle.core_file.specs.HeldBlocks.{has_some, first_blocks, held_blocks, is_past, is_too_long}
use Rattle.core_file.specs.internal.Joined.{block_of, joined, AreInside, all_bytes, IsKept, IsHeld, IsStream, SameSizes}
use Rattle.core_file.proofs.BoolLemmas.{and_left, and_right}
use Rattle.core_file.proofs.JoinedLemmas.{length_joined}
use Rattle.core_file.proofs.BlockLemmas.{held_full, held_short, past_more, past_room}

-- One block more.
joined_push : (size : ℕ) (held places : List ℕ) (p : ℕ) → joined size held (places ++ p ∷ []) ≡ joined size held places ++ block_of size held p
unfolding joined
joined_push size held [] p = append-nil (block_of size held p)
joined_push size held (q ∷ places) p =
    ap (λ l. block_of size held q ++ l) (joined_push size held places p)
    ∙ sym (append_assoc (block_of size held q) (joined size held places) (block_of size held p))

-- A block does not change if held bytes are added.
block_same : (size : ℕ) (held more : List ℕ) (p : ℕ) → size * p ≤ length held → block_of size (held ++ more) p ≡ block_of size held p
unfolding block_of
block_same size held more zero inside = refl
block_same size held more (suc k) inside =
    ap (take size) (drop-append-le (size * k) held more (omega arith))
    ∙ take-append-le size (drop (size * k) held) more (omega (arith, length-drop (size * k) held))

joined_same : (size : ℕ) (held more places : List ℕ) → AreInside size (length held) places → joined size (held ++ more) places ≡ joined size held places
unfolding joined
joined_same size held more [] inside = refl
joined_same size held more (p ∷ places) inside =
    ap (λ l. l ++ joined size (held ++ more) places) (block_same size held more p inside.0)
    ∙ ap (λ l. block_of size held p ++ l) (joined_same size held more places inside.1)

inside_push : (size n m : ℕ) (places : List ℕ) (p : ℕ) → AreInside size n places → n ≤ m → size * p ≤ m → AreInside size m (places ++ p ∷ [])
inside_push size n m [] p inside more last = (last, tt)
inside_push size n m (q ∷ places) p inside more last = (omega (arith, inside.0), inside_push size n m places p inside.1 more last)

-- Bytes that are all zeros are a block of zeros.
zeros_are : (n : ℕ) (bytes : List ℕ) → length bytes ≡ n → list_all (λ b. b == 0) bytes ≡ true → bytes ≡ replicate n 0
zeros_are zero [] long zeros = refl
zeros_are zero (b ∷ bytes) long zeros = absurd (omega arith)
zeros_are (suc n) [] long zeros = absurd (omega arith)
zeros_are (suc n) (b ∷ bytes) long zeros =
    let h : b ≡ 0 = eqb-true b 0 (and_left (b == 0) (list_all (λ c. c == 0) bytes) zeros) in
    let t : list_all (λ c. c == 0) bytes ≡ true = and_right (b == 0) (list_all (λ c. c == 0) bytes) zeros in
    ap (λ c. c ∷ bytes) h ∙ ap (λ l. 0 ∷ l) (zeros_are n bytes (omega arith) t)

-- Only the bytes after the blocks changed.
pub kept_same : (a b : Blocks) → SameSizes a b → b.count ≡ a.count → b.places.items ≡ a.places.items → b.held.items ≡ a.held.items → IsKept a → IsKept b
kept_same a b sizes count places held kept = record {
  some = rw sizes.size kept.some;
  large = rw sizes.size kept.large;
  small = rw sizes.size kept.small;
  inside = rw (sizes.size, places, held) kept.inside;
  counted = rw (sizes.size, count, held) kept.counted;
  held = rw (sizes.size, count, places, held) kept.held;
  within = rw (sizes.room, held) kept.within;
  few = rw sizes.room kept.few;
  fits = rw sizes.limit kept.fits;
}

pub joined_kept : (a b : Blocks) → SameSizes a b → b.places.items ≡ a.places.items → b.held.items ≡ a.held.items → joined b.size b.held.items b.places.items ≡ joined a.size a.held.items a.places.items
joined_kept a b sizes places held = rw (sizes.size, places, held) refl

-- A block of zeros is added.
pub joined_zeros : (a b : Blocks) → IsKept a → length a.tail.items ≡ a.size → list_all (λ c. c == 0) a.tail.items ≡ true → SameSizes a b → b.places.items ≡ a.places.items ++ 0 ∷ [] → b.held.items ≡ a.held.items → joined b.size b.held.items b.places.items ≡ joined a.size a.held.items a.places.items ++ a.tail.items
unfolding block_of
joined_zeros a b kept full zeros sizes places held =
    rw (sizes.size, places, held) (joined_push a.size a.held.items a.places.items 0
    ∙ ap (λ l. joined a.size a.held.items a.places.items ++ l) (sym (zeros_are a.size a.tail.items full zeros)))

pub kept_zeros : (a b : Blocks) → IsKept a → length a.tail.items ≡ a.size → list_all (λ c. c == 0) a.tail.items ≡ true → SameSizes a b → b.count ≡ a.count → b.places.items ≡ a.places.items ++ 0 ∷ [] → b.held.items ≡ a.held.items → IsKept b
kept_zeros a b kept full zeros sizes count places held =
    let none : has_some a.tail.items ≡ false = ap not zeros in
    let more : held_blocks a.size (joined a.size a.held.items a.places.items ++ a.tail.items) ≡ held_blocks a.size (joined a.size a.held.items a.places.items) + cond (has_some a.tail.items) 1 0 =
    held_full a.size (length a.places.items) (joined a.size a.held.items a.places.items) a.tail.items kept.some (length_joined a.size a.held.items a.places.items kept.inside) full in
    record {
      some = rw sizes.size kept.some;
      large = rw sizes.size kept.large;
      small = rw sizes.size kept.small;
      inside = rw (sizes.size, places, held) (inside_push a.size (length a.held.items) (length a.held.items) a.places.items 0 kept.inside (omega arith) (omega arith));
      counted = rw (sizes.size, count, held) kept.counted;
      held = rw (joined_zeros a b kept full zeros sizes places held, sizes.size, count) (kept.held ∙ sym (more ∙ rw none (omega arith)));
      within = rw (sizes.room, held) kept.within;
      few = rw sizes.room kept.few;
      fits = rw sizes.limit kept.fits;
    }

-- A held block is added.
pub joined_block : (a b : Blocks) → IsKept a → length a.tail.items ≡ a.size → SameSizes a b → b.places.items ≡ a.places.items ++ (a.count + 1) ∷ [] → b.held.items ≡ a.held.items ++ a.tail.items → joined b.size b.held.items b.places.items ≡ joined a.size a.held.items a.places.items ++ a.tail.items
unfolding block_of
joined_block a b kept full sizes places held =
    let e : take a.size (drop (a.size * a.count) (a.held.items ++ a.tail.items)) ≡ a.tail.items =
    ap (λ k. take a.size (drop k (a.held.items ++ a.tail.items))) (sym kept.counted)
    ∙ ap (take a.size) (drop-append_seam a.held.items a.tail.items) ∙ take_all a.size a.tail.items (omega arith) in
    rw (sizes.size, places, held) (joined_push a.size (a.held.items ++ a.tail.items) a.places.items (a.count + 1)
    ∙ ap (λ l. l ++ block_of a.size (a.held.items ++ a.tail.items) (a.count + 1)) (joined_same a.size a.held.items a.tail.items a.places.items kept.inside)
    ∙ ap (λ l. joined a.size a.held.items a.places.items ++ l) (ap (block_of a.size (a.held.items ++ a.tail.items)) (add-one a.count) ∙ e))

count_by_one : (a : Blocks) → IsKept a → length a.tail.items ≡ a.size → list_all (λ c. c == 0) a.tail.items ≡ false → held_blocks a.size (joined a.size a.held.items a.places.items ++ a.tail.items) ≡ a.count + 1
count_by_one a kept full some =
    let is : has_some a.tail.items ≡ true = ap not some in
    held_full a.size (length a.places.items) (joined a.size a.held.items a.places.items) a.tail.items kept.some (length_joined a.size a.held.items a.places.items kept.inside) full
    ∙ rw is (ap (λ k. k + 1) (sym kept.held))

pub kept_block : (a b : Blocks) → IsKept a → length a.tail.items ≡ a.size → list_all (λ c. c == 0) a.tail.items ≡ false → SameSizes a b → a.size + length a.held.items ≤ a.room → b.count ≡ a.count + 1 → b.places.items ≡ a.places.items ++ (a.count + 1) ∷ [] → b.held.items ≡ a.held.items ++ a.tail.items → IsKept b
kept_block a b kept full some sizes room count places held =
    let l : length (a.held.items ++ a.tail.items) ≡ length a.held.items + length a.tail.items = length-append a.held.items a.tail.items in
    record {
      some = rw sizes.size kept.some;
      large = rw sizes.size kept.large;
      small = rw sizes.size kept.small;
      inside = rw (sizes.size, places, held) (inside_push a.size (length a.held.items) (length (a.held.items ++ a.tail.items)) a.places.items (a.count + 1) kept.inside (omega arith) (omega (arith, kept.counted)));
      counted = rw (sizes.size, count, held) (omega (arith, kept.counted));
      held = rw (joined_block a b kept full sizes places held, sizes.size, count) (sym (count_by_one a kept full some));
      within = rw (sizes.room, held) (omega arith);
      few = rw sizes.room kept.few;
      fits = rw sizes.limit kept.fits;
    }

-- There is no room for a held block.
pub no_room : (a : Blocks) → IsKept a → length a.tail.items ≡ a.size → list_all (λ c. c == 0) a.tail.items ≡ false → a.room < a.size + length a.held.items → a.room < a.size * held_blocks a.size (all_bytes a)
no_room a kept full some past = rw (count_by_one a kept full some) (omega (arith, kept.counted))

-- There are less than 2^31 held blocks.
pub few_blocks : (a : Blocks) → IsKept a → a.size + length a.held.items ≤ a.room → a.count < 2 ^ 31
few_blocks a kept room =
    let e : 4 * (a.count + 1) ≤ a.size * (a.count + 1) = mul-le-mul_right (a.count + 1) kept.large in
    omega (arith, kept.counted, kept.few)

-- The bytes after the blocks become a block.
pub bytes_ended : (a b c : Blocks) → SameSizes a b → joined b.size b.held.items b.places.items ≡ joined a.size a.held.items a.places.items ++ a.tail.items → c.size ≡ b.size → c.held ≡ b.held → c.places ≡ b.places → c.tail.items ≡ [] → all_bytes c ≡ all_bytes a
bytes_ended a b c sizes joins size held places empty =
    rw (empty, size, held, places) (append-nil (joined b.size b.held.items b.places.items) ∙ joins)

pub bytes_dropped : (a b c : Blocks) → joined b.size b.held.items b.places.items ≡ joined a.size a.held.items a.places.items → c.size ≡ b.size → c.held ≡ b.held → c.places ≡ b.places → c.tail.items ≡ [] → length (all_bytes c) ≤ length (all_bytes a)
bytes_dropped a b c joins size held places empty =
    let e : all_bytes c ≡ joined a.size a.held.items a.places.items = rw (empty, size, held, places) (append-nil (joined b.size b.held.items b.places.items) ∙ joins) in
    rw e (omega (arith, length-append (joined a.size a.held.items a.places.items) a.tail.items))

-- If a prefix of the added bytes is already too much, all of them are.
pub past_front : (a b : Blocks) (front rest bytes : List ℕ) → 0 < a.size → joined b.size b.held.items b.places.items ≡ joined a.size a.held.items a.places.items → b.tail.items ≡ a.tail.items ++ front → front ++ rest ≡ bytes → a.room < a.size * held_blocks a.size (all_bytes b) → is_past a.size a.limit a.room (all_bytes a ++ bytes) ≡ true
past_front a b front rest bytes some joins tail whole past =
    let e : all_bytes a ++ bytes ≡ all_bytes b ++ rest =
    ap (λ l. all_bytes a ++ l) (sym whole) ∙ rw (joins, tail) (simp append_assoc) in
    rw e (past_more a.size a.limit a.room (all_bytes b) rest some (past_room a.size a.limit a.room (all_bytes b) past))

-- A fault is returned, and what it means still holds.
pub handed_on : {A B F : Type 0} → (stop : Stop F) (P : A → Type 0) (S : B → Type 0) (Q R : Type 0) → MatchStop (Err stop) P (λ _. Q) (Unit {0}) → (Q → R) → MatchStop (Err stop) S (λ _. R) (Unit {0})
handed_on (Fault f) P S Q R is leads = leads is
handed_on NoMemory P S Q R is leads = tt

-- How many bytes there are.
pub length_all : (b : Blocks) → IsKept b → length (all_bytes b) ≡ b.size * length b.places.items + length b.tail.items
length_all b kept =
    length-append (joined b.size b.held.items b.places.items) b.tail.items
    ∙ ap (λ n. n + length b.tail.items) (length_joined b.size b.held.items b.places.items kept.inside)

-- More bytes than the limit are too many; the held bytes never are.
pub past_limit : (size limit room : ℕ) (xs : List ℕ) → limit < length xs → is_past size limit room xs ≡ true
unfolding is_past
past_limit size limit room xs more = rw (lt-ltb limit (length xs) more) refl

pub held_is_short : (b : Blocks) → IsHeld b → length b.tail.items < b.size → is_past b.size b.limit b.room (all_bytes b) ≡ false
unfolding is_past
held_is_short b held short =
    let e : held_blocks b.size (all_bytes b) ≡ b.count =
    held_short b.size (length b.places.items) (joined b.size b.held.items b.places.items) b.tail.items
    (length_joined b.size b.held.items b.places.items held.kept.inside) short ∙ sym held.kept.held in
    let r : b.size * held_blocks b.size (all_bytes b) ≤ b.room = rw e (omega (arith, held.kept.counted, held.kept.within)) in
    rw (le-ltb b.limit (length (all_bytes b)) held.long, le-ltb b.room (b.size * held_blocks b.size (all_bytes b)) r) refl

pub few_places : (b : Blocks) → IsHeld b → b.size * length b.places.items < 2 ^ 63
few_places b held = omega (arith, length_all b held.kept, held.long, held.kept.fits)

-- No block is held.
pub none_held : (size : ℕ) → 0 < size → held_blocks size [] ≡ 0
unfolding held_blocks first_blocks
none_held size some = let e : 0 / size ≡ 0 = omega arith in rw e refl

-- All bytes are added, and they are not too many.
pub all_added : (a b : Blocks) (rest bytes : List ℕ) → IsHeld b → length b.tail.items < b.size → SameSizes a b → all_bytes b ++ rest ≡ all_bytes a ++ bytes → length rest ≡ 0 → (all_bytes b ≡ all_bytes a ++ bytes) × (is_past a.size a.limit a.room (all_bytes a ++ bytes) ≡ false)
all_added a b rest bytes held short sizes added none =
    let r : rest ≡ [] = nil_from_length rest none in
    let e : all_bytes b ≡ all_bytes a ++ bytes = sym (append-nil (all_bytes b)) ∙ ap (λ l. all_bytes b ++ l) (sym r) ∙ added in
    (e, rw (← e, ← sizes.size, ← sizes.limit, ← sizes.room) (held_is_short b held short))

-- The sizes of a stream are the limits of a core file.
pub stream_past : (b : Blocks) → IsStream b → (bytes : List ℕ) → is_past b.size b.limit b.room bytes ≡ is_too_long bytes
unfolding is_too_long
stream_past b stream bytes = rw (stream.size, stream.limit, stream.room) refl

-- An empty stream.
pub new_stream : (b : Blocks) → b.size ≡ 4096 → b.limit ≡ 2 ^ 40 → b.room ≡ 2 ^ 32 → b.count ≡ 0 → b.places.items ≡ [] → b.held.items ≡ [] → b.tail.items ≡ [] → IsStream b
unfolding joined
new_stream b size limit room count places held tail =
    let none : joined b.size b.held.items b.places.items ≡ [] = rw places refl in
    let all : all_bytes b ≡ [] = rw (places, tail) refl in
    let l : length b.held.items ≡ 0 = ap length held in
    let t : length b.tail.items ≡ 0 = ap length tail in
    let n : length (all_bytes b) ≡ 0 = ap length all in
    record {
      held = record {
        kept = record {
          some = omega arith;
          large = omega arith;
          small = omega arith;
          inside = rw places tt;
          counted = rw count (omega arith);
          held = rw (none, count) (sym (none_held b.size (omega arith)));
          within = omega arith;
          few = omega arith;
          fits = omega arith;
        };
        short = omega arith;
        long = omega arith;
      };
      short = omega arith;
      size = size;
      limit = limit;
      room = room;
    }

pub new_bytes : (b : Blocks) → b.places.items ≡ [] → b.tail.items ≡ [] → all_bytes b ≡ []
unfolding joined
new_bytes b places tail = rw (places, tail) refl
