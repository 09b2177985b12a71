-- What is held of a text is shown as the whole text is. A space before at least `n` others is not seen in the first `n` bytes shown,
-- and behind at most `n` spaces only the first `n + n` bytes can be seen there.
use Rattle.std.proofs.Common.{◌≡◌, ℕ, ◌+◌, ◌-◌, ◌<◌, ◌≤◌, ◌==◌, cond, Bool, true, false, List, [], ◌∷◌, ◌++◌, map, take, drop, zero, suc, refl, sym, ◌∙◌, ap, arith, inl, inr, ◌⊎◌}
use Rattle.std.proofs.lemmas.Bool.{eqb-true, cases_lt}
use Rattle.std.proofs.lemmas.List.{take-map}
use Rattle.std.specs.List.{prefix_len}
use Rattle.clean_names.specs.Names.{is_space, skip}
use Rattle.clean_names.specs.Cleaning.{cleaned, cleaned_upto, or_omitted, shown_byte}
use Rattle.clean_names.proofs.CleaningLemmas.{skip_shown}
use Rattle.text_table.specs.Spaces.{fewer_spaces, held_text}

-- The number of leading spaces.
abbrev spaces : List ℕ → ℕ
spaces bytes = prefix_len is_space bytes

more_by : (m n : ℕ) (space : Bool) → m ≤ n → cond space (1 + m) 0 ≤ cond space (1 + n) 0
more_by m n true le = omega (arith, le)
more_by m n false le = omega arith

spaces_more : (bytes back : List ℕ) → spaces bytes ≤ spaces (bytes ++ back)
spaces_more [] back = omega arith
spaces_more (b ∷ bytes) back = more_by (spaces bytes) (spaces (bytes ++ back)) (b == 32) (spaces_more bytes back)

-- One more space before `n` others, alone and behind other bytes.
take_by : (n b : ℕ) (bytes : List ℕ) (space : Bool) → (b == 32) ≡ space → suc n ≤ cond space (1 + spaces bytes) 0 → (n ≤ spaces bytes → take n (32 ∷ bytes) ≡ take n bytes) → 32 ∷ take n (b ∷ bytes) ≡ b ∷ take n bytes
take_by n b bytes true is le later =
    let same : b ≡ 32 = eqb-true b 32 is in
    ap (λ c. 32 ∷ take n (c ∷ bytes)) same ∙ ap (λ l. 32 ∷ l) (later (omega (arith, le))) ∙ ap (λ c. c ∷ take n bytes) (sym same)
take_by n b bytes false is le later = absurd (omega (arith, le))

take_space : (n : ℕ) (bytes : List ℕ) → n ≤ spaces bytes → take n (32 ∷ bytes) ≡ take n bytes
take_space zero bytes le = refl
take_space (suc n) [] le = absurd (omega (arith, le))
take_space (suc n) (b ∷ bytes) le = take_by n b bytes (b == 32) refl le (take_space n bytes)

take_behind : (n : ℕ) (front bytes : List ℕ) → n ≤ spaces bytes → take n (front ++ 32 ∷ bytes) ≡ take n (front ++ bytes)
take_behind n [] bytes le = take_space n bytes le
take_behind zero (b ∷ front) bytes le = refl
take_behind (suc n) (b ∷ front) bytes le = ap (λ l. b ∷ l) (take_behind n front bytes (omega (arith, le)))

skip_by : (n b : ℕ) (xs ys : List ℕ) (space : Bool) → take n (skip is_space xs) ≡ take n (skip is_space ys) → take n (b ∷ xs) ≡ take n (b ∷ ys) → take n (cond space (skip is_space xs) (b ∷ xs)) ≡ take n (cond space (skip is_space ys) (b ∷ ys))
skip_by n b xs ys true later same = later
skip_by n b xs ys false later same = same

skip_behind : (n : ℕ) (front bytes : List ℕ) → n ≤ spaces bytes → take n (skip is_space (front ++ 32 ∷ bytes)) ≡ take n (skip is_space (front ++ bytes))
unfolding skip
skip_behind n [] bytes le = refl
skip_behind n (b ∷ front) bytes le = skip_by n b (front ++ 32 ∷ bytes) (front ++ bytes) (b == 32) (skip_behind n front bytes le) (take_behind n (b ∷ front) bytes le)

shown_front : (n : ℕ) (bytes : List ℕ) → take n (skip is_space (map shown_byte bytes)) ≡ map shown_byte (take n (skip is_space bytes))
shown_front n bytes = ap (take n) (skip_shown bytes) ∙ take-map shown_byte n (skip is_space bytes)

shown_by : (n : ℕ) (xs ys : List ℕ) → take n (skip is_space xs) ≡ take n (skip is_space ys) → cleaned_upto n xs ≡ cleaned_upto n ys
unfolding cleaned_upto
shown_by n xs ys same = ap or_omitted (shown_front n xs ∙ ap (map shown_byte) same ∙ sym (shown_front n ys))

shown_space : (n : ℕ) (front bytes : List ℕ) → n ≤ spaces bytes → cleaned_upto n (front ++ 32 ∷ bytes) ≡ cleaned_upto n (front ++ bytes)
shown_space n front bytes le = shown_by n (front ++ 32 ∷ bytes) (front ++ bytes) (skip_behind n front bytes le)

-- All but `n` of the leading spaces, dropped one after the other.
abbrev shown_from : ℕ → List ℕ → List ℕ → List ℕ → ℕ → List ℕ
shown_from n front bytes back k = cleaned_upto n (front ++ (drop k bytes ++ back))

alike_by : (n b : ℕ) (front bytes back : List ℕ) (space : Bool) → (b == 32) ≡ space → (spaces bytes < n) ⊎ (n ≤ spaces bytes) → shown_from n front bytes back (spaces bytes - n) ≡ shown_from n front bytes back 0 → shown_from n front (b ∷ bytes) back (cond space (1 + spaces bytes) 0 - n) ≡ shown_from n front (b ∷ bytes) back 0
alike_by n b front bytes back true is (inl below) later =
    let none : 1 + spaces bytes - n ≡ 0 = omega (arith, below) in ap (shown_from n front (b ∷ bytes) back) none
alike_by n b front bytes back true is (inr past) later =
    let next : 1 + spaces bytes - n ≡ suc (spaces bytes - n) = omega (arith, past) in
    let space = shown_space n front (bytes ++ back) (omega (arith, past, spaces_more bytes back)) in
    ap (shown_from n front (b ∷ bytes) back) next ∙ later ∙ sym space ∙ ap (λ c. cleaned_upto n (front ++ c ∷ (bytes ++ back))) (sym (eqb-true b 32 is))
alike_by n b front bytes back false is any later =
    let none : 0 - n ≡ 0 = omega arith in ap (shown_from n front (b ∷ bytes) back) none

alike : (n : ℕ) (front bytes back : List ℕ) → shown_from n front bytes back (spaces bytes - n) ≡ shown_from n front bytes back 0
alike n front [] back = let none : 0 - n ≡ 0 = omega arith in ap (shown_from n front [] back) none
alike n front (b ∷ bytes) back = alike_by n b front bytes back (b == 32) refl (cases_lt (spaces bytes) n) (alike n front bytes back)

fewer_alike : (front bytes back : List ℕ) → cleaned (front ++ (fewer_spaces bytes ++ back)) ≡ cleaned (front ++ (bytes ++ back))
unfolding cleaned fewer_spaces
fewer_alike front bytes back = alike 65536 front bytes back

-- At most `n` spaces are left.
left_by : (n k : ℕ) (bytes : List ℕ) (space : Bool) → suc k ≤ cond space (1 + spaces bytes) 0 → cond space (1 + spaces bytes) 0 ≤ suc k + n → (k ≤ spaces bytes → spaces bytes ≤ k + n → spaces (drop k bytes) ≤ n) → spaces (drop k bytes) ≤ n
left_by n k bytes true within le later = later (omega (arith, within)) (omega (arith, le))
left_by n k bytes false within le later = absurd (omega (arith, within))

left_from : (n k : ℕ) (bytes : List ℕ) → k ≤ spaces bytes → spaces bytes ≤ k + n → spaces (drop k bytes) ≤ n
left_from n zero bytes within le = omega (arith, le)
left_from n (suc k) [] within le = absurd (omega (arith, within))
left_from n (suc k) (b ∷ bytes) within le = left_by n k bytes (b == 32) within le (left_from n k bytes)

spaces_left : (n : ℕ) (bytes : List ℕ) → spaces (drop (spaces bytes - n) bytes) ≤ n
spaces_left n bytes = left_from n (spaces bytes - n) bytes (omega arith) (omega arith)

-- The first `m` bytes, behind others and before others.
take_cut : (n m : ℕ) (front bytes back : List ℕ) → n ≤ m → take n (front ++ (take m bytes ++ back)) ≡ take n (front ++ (bytes ++ back))
take_cut zero m front bytes back le = refl
take_cut (suc n) m (b ∷ front) bytes back le = ap (λ l. b ∷ l) (take_cut n m front bytes back (omega (arith, le)))
take_cut (suc n) zero [] bytes back le = absurd (omega (arith, le))
take_cut (suc n) (suc m) [] [] back le = refl
take_cut (suc n) (suc m) [] (b ∷ bytes) back le = ap (λ l. b ∷ l) (take_cut n m [] bytes back (omega (arith, le)))

cut_by : (n m b : ℕ) (bytes back : List ℕ) (space : Bool) → cond space (1 + spaces bytes) 0 + n ≤ suc m → (spaces bytes + n ≤ m → take n (skip is_space (take m bytes ++ back)) ≡ take n (skip is_space (bytes ++ back))) → take n (cond space (skip is_space (take m bytes ++ back)) (b ∷ (take m bytes ++ back))) ≡ take n (cond space (skip is_space (bytes ++ back)) (b ∷ (bytes ++ back)))
cut_by n m b bytes back true le later = later (omega (arith, le))
cut_by n m b bytes back false le later = take_cut n (suc m) [] (b ∷ bytes) back (omega (arith, le))

skip_cut : (n m : ℕ) (front bytes back : List ℕ) → spaces bytes + n ≤ m → take n (skip is_space (front ++ (take m bytes ++ back))) ≡ take n (skip is_space (front ++ (bytes ++ back)))
unfolding skip
skip_cut n m (b ∷ front) bytes back le =
    skip_by n b (front ++ (take m bytes ++ back)) (front ++ (bytes ++ back)) (b == 32) (skip_cut n m front bytes back le) (take_cut n m (b ∷ front) bytes back (omega (arith, le)))
skip_cut zero m [] bytes back le = refl
skip_cut (suc n) zero [] bytes back le = absurd (omega (arith, le))
skip_cut n (suc m) [] [] back le = refl
skip_cut n (suc m) [] (b ∷ bytes) back le = cut_by n m b bytes back (b == 32) le (skip_cut n m [] bytes back)

cut_alike : (n : ℕ) (front bytes back : List ℕ) → spaces bytes ≤ n → cleaned_upto n (front ++ (take (n + n) bytes ++ back)) ≡ cleaned_upto n (front ++ (bytes ++ back))
cut_alike n front bytes back le = shown_by n (front ++ (take (n + n) bytes ++ back)) (front ++ (bytes ++ back)) (skip_cut n (n + n) front bytes back (omega (arith, le)))

held_alike : (front bytes back : List ℕ) → cleaned (front ++ (held_text bytes ++ back)) ≡ cleaned (front ++ (fewer_spaces bytes ++ back))
unfolding cleaned held_text fewer_spaces
held_alike front bytes back = cut_alike 65536 front (fewer_spaces bytes) back (spaces_left 65536 bytes)

pub shown_alike : (front bytes back : List ℕ) → cleaned (front ++ (held_text bytes ++ back)) ≡ cleaned (front ++ (bytes ++ back))
shown_alike front bytes back = held_alike front bytes back ∙ fewer_alike front bytes back
