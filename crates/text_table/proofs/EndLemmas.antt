-- Where spaces end in a section.
use Rattle.std.proofs.Common.{◌≡◌, ℕ, ◌+◌, ◌-◌, ◌*◌, ◌/◌, ◌%◌, ◌<◌, ◌≤◌, ◌==◌, Bool, true, false, not, List, [], ◌∷◌, ◌++◌, Some, None, length, take, drop, get_or, nat_lt, nat_le, subst, refl, sym, ◌∙◌, ap, arith, length-drop, inl, inr, ◌⊎◌}
use Rattle.std.proofs.lemmas.Grind.{common_steps}
use Rattle.std.proofs.lemmas.Bool.{cases_lt, false_from_ne_true, lt-ltb, le-ltb, le-leb, lt-leb}
use Rattle.std.proofs.lemmas.Bool.Decides.{nat_tests}
use Rattle.std.proofs.lemmas.List.{get_or_append_left, get_or_default, get_or-take, get_or-drop, length-take}
use Rattle.std.proofs.lemmas.List.Sums.{position_or_len_is, fails_before_first, passes_at_first, prefix_len-le-length}
use Rattle.std.proofs.Math.Seq.{get_or-append_seam}
use Rattle.std.proofs.Math.Nat.{mul-le-mul_right, le-div_iff_mul-le}
use Rattle.std.specs.List.{position_or_len}
use Rattle.std.specs.Option.{is_none}
use Rattle.memchr.specs.Find.{IsLastByte, is_byte}
use Rattle.clean_names.specs.Names.{is_space, skip}
use Rattle.leb_cursor.specs.Texts.{front_text}
use Rattle.text_table.specs.Ends.{spaces_end, AreEnds}

-- The first byte for which p is true, or the length.
abbrev is_shown : ℕ → Bool
is_shown b = not (is_space b)

abbrev span : (ℕ → Bool) → List ℕ → ℕ
span p xs = position_or_len p xs

-- The first byte that is no space.
passed_by : (x : ℕ) (xs : List ℕ) (space : Bool) → (x == 32) ≡ space → length xs - length (skip is_space xs) ≡ span is_shown xs → length (skip is_space xs) ≤ length xs → length (x ∷ xs) - length (skip is_space (x ∷ xs)) ≡ span is_shown (x ∷ xs)
unfolding skip
passed_by x xs true is later less = grind (arith, is, later, less)
passed_by x xs false is later less = grind (arith, is, later, less)

skip_by : (x : ℕ) (xs : List ℕ) (space : Bool) → (x == 32) ≡ space → length (skip is_space xs) ≤ length xs → length (skip is_space (x ∷ xs)) ≤ length (x ∷ xs)
unfolding skip
skip_by x xs true is less = grind (arith, is, less)
skip_by x xs false is less = grind (arith, is, less)

pub skip_less : (xs : List ℕ) → length (skip is_space xs) ≤ length xs
unfolding skip
skip_less [] = omega arith
skip_less (x ∷ xs) = skip_by x xs (x == 32) refl (skip_less xs)

pub spaces_passed : (xs : List ℕ) → length xs - length (skip is_space xs) ≡ position_or_len is_shown xs
unfolding skip
spaces_passed [] = refl
spaces_passed (x ∷ xs) = passed_by x xs (x == 32) refl (spaces_passed xs) (skip_less xs)

pub span_within : (p : ℕ → Bool) (xs : List ℕ) → span p xs ≤ length xs
span_within p xs = prefix_len-le-length (λ b. not (p b)) xs

pub span_before : (p : ℕ → Bool) (xs : List ℕ) (k : ℕ) → p (get_or xs k 0) ≡ true → span p xs ≤ k
span_before p xs k zero = elim (cases_lt k (span p xs)) [
  | inl below ↦ (let fails = fails_before_first p xs k 0 below in cc)
  | inr past ↦ past
]

pub span_drop : (p : ℕ → Bool) (xs : List ℕ) (n : ℕ) → n ≤ span p xs → n + span p (drop n xs) ≡ span p xs
span_drop p xs n le =
    let within = span_within p xs in
    let size : length (drop n xs) ≡ length xs - n = length-drop n xs in
    let is : span p (drop n xs) ≡ span p xs - n =
    position_or_len_is p (drop n xs) (span p xs - n) 0 (omega arith)
    (λ k lt. ap p (get_or-drop n xs k 0) ∙ fails_before_first p xs (n + k) 0 (omega arith))
    (λ lt. ap p (get_or-drop n xs (span p xs - n) 0 ∙ (let e : n + (span p xs - n) ≡ span p xs = omega arith in ap (λ i. get_or xs i 0) e))
    ∙ passes_at_first p xs 0 (omega arith)) in
    omega (arith, is)

pub span_front : (p : ℕ → Bool) (xs : List ℕ) (n : ℕ) → span p (take n xs) < length (take n xs) → span p xs ≡ span p (take n xs)
span_front p xs n less =
    let size = length-take n xs in
    position_or_len_is p xs (span p (take n xs)) 0 (omega arith)
    (λ k lt. ap p (sym (get_or-take n xs k 0 (omega arith))) ∙ fails_before_first p (take n xs) k 0 lt)
    (λ lt. ap p (sym (get_or-take n xs (span p (take n xs)) 0 (omega arith))) ∙ passes_at_first p (take n xs) 0 less)

pub span_past : (p : ℕ → Bool) (xs : List ℕ) (n : ℕ) → span p (take n xs) ≡ length (take n xs) → n ≤ length xs → n ≤ span p xs
span_past p xs n same le =
    let size = length-take n xs in
    elim (cases_lt (span p xs) n) [
      | inl below ↦
          (let passes = passes_at_first p xs 0 (omega arith) in
          let fails = fails_before_first p (take n xs) (span p xs) 0 (omega arith) in
          let both = ap p (get_or-take n xs (span p xs) 0 below) in
          cc)
      | inr past ↦ past
    ]

-- All places up to the end of spaces have the same end.
pub end_again : (bytes : List ℕ) (p q : ℕ) → p ≤ q → q ≤ spaces_end bytes p → spaces_end bytes q ≡ spaces_end bytes p
unfolding spaces_end
end_again bytes p q le inside =
    let same : drop (q - p) (drop p bytes) ≡ drop q bytes = grind (arith, common_steps) in
    let moved = span_drop is_shown (drop p bytes) (q - p) (omega arith) in
    omega (arith, moved, ap (span is_shown) same)

pub end_order : (bytes : List ℕ) (at : ℕ) → at ≤ spaces_end bytes at
unfolding spaces_end
end_order bytes at = omega arith

pub end_within : (bytes : List ℕ) (at : ℕ) → at ≤ length bytes → spaces_end bytes at ≤ length bytes
unfolding spaces_end
end_within bytes at inside = omega (arith, span_within is_shown (drop at bytes), length-drop at bytes)

-- The end if the rest of the block has it, and if not.
pub end_in_block : (bytes : List ℕ) (at n first : ℕ) → first ≡ position_or_len is_shown (take n (drop at bytes)) → first < length (take n (drop at bytes)) → spaces_end bytes at ≡ at + first
unfolding spaces_end
end_in_block bytes at n first is less =
    omega (arith, is, span_front is_shown (drop at bytes) n (omega (arith, is, less)))

behind : (bytes : List ℕ) (at n next : ℕ) → span is_shown (take n (drop at bytes)) ≡ length (take n (drop at bytes)) → at + n ≡ next → next ≤ length bytes → next ≤ spaces_end bytes at
unfolding spaces_end
behind bytes at n next same is inside = omega (arith, span_past is_shown (drop at bytes) n same (omega (arith, length-drop at bytes)))

end_behind_block : (bytes : List ℕ) (at n next : ℕ) → span is_shown (take n (drop at bytes)) ≡ length (take n (drop at bytes)) → at + n ≡ next → next ≤ length bytes → spaces_end bytes next ≡ spaces_end bytes at
end_behind_block bytes at n next none is inside =
    end_again bytes at next (omega arith) (behind bytes at n next none is inside)

ends_by : (bytes ends : List ℕ) (block k end : ℕ) → length ends ≡ k → ((j : ℕ) → j < k → get_or ends j 0 ≡ spaces_end bytes (j * block)) → end ≡ spaces_end bytes (k * block) → (j : ℕ) → j < k + 1 → (b : Bool) → nat_lt j k ≡ b → get_or (ends ++ end ∷ []) j 0 ≡ spaces_end bytes (j * block)
ends_by bytes ends block k end size each is j lt true test =
    let below : j < k = grind (arith, nat_tests) in get_or_append_left ends (end ∷ []) 0 j (omega arith) ∙ each j below
ends_by bytes ends block k end size each is j lt false test =
    let same : j ≡ length ends = (let ge : k ≤ j = grind (arith, nat_tests) in omega arith) in
    ap (λ i. get_or (ends ++ end ∷ []) i 0) same ∙ get_or-append_seam ends end [] 0 ∙ is ∙ (let e : k ≡ j = omega arith in ap (λ i. spaces_end bytes (i * block)) e)

pub ends_more : (bytes ends : List ℕ) (block k end : ℕ) → length ends ≡ k → ((j : ℕ) → j < k → get_or ends j 0 ≡ spaces_end bytes (j * block)) → end ≡ spaces_end bytes (k * block) → (j : ℕ) → j < k + 1 → get_or (ends ++ end ∷ []) j 0 ≡ spaces_end bytes (j * block)
ends_more bytes ends block k end size each is j lt = ends_by bytes ends block k end size each is j lt (nat_lt j k) refl

pub start_inside : (len block k : ℕ) → 0 < block → k < len / block + 1 → k * block ≤ len
start_inside len block k some below =
    let le : k ≤ len / block = omega arith in
    let whole : block * (len / block) + len % block ≡ len = omega (arith, some) in
    grind (arith, mul-le-mul_right block le)

order_by : (at block : ℕ) → 0 < block → (b : Bool) → nat_le ((at / block + 1) * block) at ≡ b → at ≤ (at / block + 1) * block
order_by at block some true test =
    let past : (at / block + 1) * block ≤ at = grind (arith, nat_tests) in
    absurd (let more : at / block + 1 ≤ at / block = (le-div_iff_mul-le some).1 past in omega arith)
order_by at block some false test = let less : at < (at / block + 1) * block = grind (arith, nat_tests) in omega arith

pub block_order : (at block : ℕ) → 0 < block → at ≤ (at / block + 1) * block
block_order at block some = order_by at block some (nat_le ((at / block + 1) * block) at) refl

-- If the rest of a block has no such byte, the end is that from the start of the next block.
next_is : (bytes ends : List ℕ) (block at : ℕ) → AreEnds bytes block ends → at / block + 1 < length ends → span is_shown (take ((at / block + 1) * block - at) (drop at bytes)) ≡ length (take ((at / block + 1) * block - at) (drop at bytes)) → get_or ends (at / block + 1) 0 ≡ spaces_end bytes at
next_is bytes ends block at are inside none =
    let i = at / block + 1 in
    let next = i * block in
    let order : at ≤ next = block_order at block are.some in
    let within : next ≤ length bytes = start_inside (length bytes) block i are.some (omega (arith, are.count)) in
    are.each i inside ∙ end_behind_block bytes at (next - at) next none (omega arith) within

pub end_by_next : (bytes ends front : List ℕ) (block at value first : ℕ) → AreEnds bytes block ends → at / block + 1 < length ends → value ≡ get_or ends (at / block + 1) value → front ≡ take ((at / block + 1) * block - at) (drop at bytes) → first ≡ position_or_len is_shown front → length front ≤ first → value ≡ spaces_end bytes at
end_by_next bytes ends front block at value first are inside is cut found past =
    let all : span is_shown front ≡ length front = omega (arith, found, past, span_within is_shown front) in
    is ∙ get_or_default ends (at / block + 1) value 0 inside
    ∙ next_is bytes ends block at are inside (ap (span is_shown) (sym cut) ∙ all ∙ ap length cut)

below_by_next : (n block : ℕ) → 0 < block → (b : Bool) → nat_le ((n / block + 1) * block) n ≡ b → n < (n / block + 1) * block
below_by_next n block some true test =
    let past : (n / block + 1) * block ≤ n = grind (arith, nat_tests) in
    absurd (let more : n / block + 1 ≤ n / block = (le-div_iff_mul-le some).1 past in omega arith)
below_by_next n block some false test = grind (arith, nat_tests)

near_by_one : (ends : List ℕ) (k block : ℕ) → 0 < block → get_or ends k 0 / block ≤ k → get_or ends k 0 ≤ (k + 1) * block
near_by_one ends k block some le =
    let below = below_by_next (get_or ends k 0) block some (nat_le ((get_or ends k 0 / block + 1) * block) (get_or ends k 0)) refl in
    let up : get_or ends k 0 / block + 1 ≤ k + 1 = omega (arith, le) in
    let most = mul-le-mul_right block up in
    grind (arith, below, most)

near_by_two : (ends : List ℕ) (k block : ℕ) → get_or ends k 0 ≤ (k + 1) * block → ((j : ℕ) → j < k → get_or ends j 0 ≤ (j + 1) * block) → (j : ℕ) → (j < k) ⊎ (k ≤ j) → j < k + 1 → get_or ends j 0 ≤ (j + 1) * block
near_by_two ends k block here each j (inl below) lt = each j below
near_by_two ends k block here each j (inr past) lt =
    let e : k ≡ j = omega (arith, past, lt) in
    subst (λ (i : ℕ). get_or ends i 0 ≤ (i + 1) * block) e here

pub near_so_far : (ends : List ℕ) (k block : ℕ) → 0 < block → get_or ends k 0 / block ≤ k → ((j : ℕ) → j < k → get_or ends j 0 ≤ (j + 1) * block) → (j : ℕ) → j < k + 1 → get_or ends j 0 ≤ (j + 1) * block
near_so_far ends k block some le each j lt = near_by_two ends k block (near_by_one ends k block some le) each j (cases_lt j k) lt

past_last : (len count block at : ℕ) → 0 < block → count ≡ len / block + 1 → count ≤ at / block + 1 → len < (at / block + 1) * block
past_last len count block at some is none =
    let below : len < (len / block + 1) * block = below_by_next len block some (nat_le ((len / block + 1) * block) len) refl in
    let le : len / block + 1 ≤ at / block + 1 = omega (arith, is, none) in
    let most : (len / block + 1) * block ≤ (at / block + 1) * block = mul-le-mul_right block le in
    grind (arith, below, most)

-- If no end is behind the start of the next block, no end is far.
near_behind : (bytes ends : List ℕ) (block at : ℕ) → AreEnds bytes block ends → ((k : ℕ) → k < length ends → get_or ends k 0 ≤ (k + 1) * block) → at / block + 1 < length ends → (at / block + 1) * block ≤ spaces_end bytes at → spaces_end bytes at ≤ (at / block + 2) * block
near_behind bytes ends block at are near inside past =
    let i = at / block + 1 in
    let next = i * block in
    let same : spaces_end bytes next ≡ spaces_end bytes at = end_again bytes at next (block_order at block are.some) past in
    let le : get_or ends i 0 ≤ (i + 1) * block = near i inside in
    let e : i + 1 ≡ at / block + 2 = omega arith in
    grind (arith, le, same, are.each i inside, ap (λ n. n * block) e)

pub all_near : (bytes ends : List ℕ) (block : ℕ) → AreEnds bytes block ends → ((k : ℕ) → k < length ends → get_or ends k 0 ≤ (k + 1) * block) → (at : ℕ) → at ≤ length bytes → spaces_end bytes at ≤ at + 65536
all_near bytes ends block are near at within = near_by (cases_lt (spaces_end bytes at) ((at / block + 1) * block)) (cases_lt (at / block + 1) (length ends))
  where
    floor : at / block * block ≤ at
    floor = (le-div_iff_mul-le are.some).0 (omega arith)

    one : (at / block + 1) * block ≡ at / block * block + block
    one = grind arith

    two : (at / block + 2) * block ≡ at / block * block + 2 * block
    two = grind arith

    near_by : (spaces_end bytes at < (at / block + 1) * block) ⊎ ((at / block + 1) * block ≤ spaces_end bytes at) → (at / block + 1 < length ends) ⊎ (length ends ≤ at / block + 1) → spaces_end bytes at ≤ at + 65536
    near_by (inl below) any = omega (arith, below, floor, one, are.small)
    near_by (inr past) (inl inside) = omega (arith, near_behind bytes ends block at are near inside past, floor, two, are.small)
    near_by (inr past) (inr none) =
        let less : length bytes < (at / block + 1) * block = past_last (length bytes) (length ends) block at are.some are.count none in
        omega (arith, end_within bytes at within, less, floor, one, are.small)

-- The texts of a section.
pub front_found : (xs : List ℕ) → span (λ b. b == 0) xs < length xs → front_text xs ≡ Some (take (span (λ b. b == 0) xs) xs)
unfolding front_text
front_found xs less = rw (lt-ltb (span (λ b. b == 0) xs) (length xs) less) refl

pub front_missing : (xs : List ℕ) → length xs ≤ span (λ b. b == 0) xs → front_text xs ≡ None
unfolding front_text
front_missing xs past = rw (le-ltb (span (λ b. b == 0) xs) (length xs) past) refl

below_by : (bytes : List ℕ) (last at : ℕ) → IsLastByte (is_byte 0) bytes (Some last) → (at < last + 1) ⊎ (last + 1 ≤ at) → is_none (front_text (drop at bytes)) ≡ nat_le (last + 1) at
below_by bytes last at found (inl below) =
    let high = found.0.high in
    let here : get_or (drop at bytes) (last - at) 0 ≡ get_or bytes last 0 =
    get_or-drop at bytes (last - at) 0 ∙ (let e : at + (last - at) ≡ last = omega arith in ap (λ i. get_or bytes i 0) e) in
    let le = span_before (λ b. b == 0) (drop at bytes) (last - at) (ap (λ b. b == 0) here ∙ found.1) in
    ap is_none (front_found (drop at bytes) (omega (arith, length-drop at bytes))) ∙ sym (lt-leb (last + 1) at below)
below_by bytes last at found (inr past) =
    let all : span (λ b. b == 0) (drop at bytes) ≡ length (drop at bytes) =
    position_or_len_is (λ b. b == 0) (drop at bytes) (length (drop at bytes)) 0 (omega arith)
    (λ i lt. ap (λ b. b == 0) (get_or-drop at bytes i 0) ∙ false_from_ne_true _ (found.0.after (at + i) (omega arith) (omega (arith, length-drop at bytes))))
    (λ outside. absurd (omega arith)) in
    ap is_none (front_missing (drop at bytes) (omega (arith, all))) ∙ sym (le-leb (last + 1) at past)

-- At each place at or below the last zero byte a text begins, and at no other.
pub texts_below : (bytes : List ℕ) (last : ℕ) → IsLastByte (is_byte 0) bytes (Some last) → (at : ℕ) → is_none (front_text (drop at bytes)) ≡ nat_le (last + 1) at
texts_below bytes last found at = below_by bytes last at found (cases_lt at (last + 1))

-- Without a zero byte there is no text.
pub no_text : (bytes : List ℕ) → IsLastByte (is_byte 0) bytes None → (at : ℕ) → is_none (front_text (drop at bytes)) ≡ nat_le 0 at
no_text bytes none at =
    let all : span (λ b. b == 0) (drop at bytes) ≡ length (drop at bytes) =
    position_or_len_is (λ b. b == 0) (drop at bytes) (length (drop at bytes)) 0 (omega arith)
    (λ i lt. ap (λ b. b == 0) (get_or-drop at bytes i 0) ∙ false_from_ne_true _ (none (at + i) (omega arith) (omega (arith, length-drop at bytes))))
    (λ outside. absurd (omega arith)) in
    ap is_none (front_missing (drop at bytes) (omega (arith, all))) ∙ sym (le-leb 0 at (omega arith))
