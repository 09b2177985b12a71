-- Texts with fewer leading spaces.
use Rattle.std.proofs.Common.{◌≡◌, ℕ, ◌+◌, ◌-◌, ◌<◌, ◌≤◌, ◌==◌, Bool, true, false, not, nat_le, List, [], ◌∷◌, Option, Some, None, unwrap_or, length, take, drop, suc, refl, sym, ◌∙◌, ap, arith, length-drop, ◌⊎◌, inl, inr, min, subst, get_or, ◌≢◌}
use Rattle.std.proofs.lemmas.Grind.{common_steps}
use Rattle.std.proofs.lemmas.Bool.{cases_lt, false_from_ne_true}
use Rattle.std.proofs.lemmas.Bool.Decides.{nat_tests}
use Rattle.std.proofs.lemmas.List.{at_drop_more, drop-take, length-take, take_all, take-take, take_min}
use Rattle.std.proofs.lemmas.List.Sums.{position_or_len_is}
use Rattle.memchr.specs.Find.{IsFirstByte, is_byte}
use Rattle.std.specs.List.{position_or_len, prefix_len}
use Rattle.std.specs.Option.{option_map, is_none, is_some}
use Rattle.clean_names.specs.Names.{is_space}
use Rattle.leb_cursor.specs.Texts.{front_text}
use Rattle.text_table.specs.Spaces.{fewer_spaces, held_text, held_front}
use Rattle.text_table.specs.Ends.{spaces_end, later_start}
use Rattle.text_table.proofs.EndLemmas.{end_within, span_drop, span_front, span_past, front_found, front_missing}

-- Zero bytes are no spaces, so the leading spaces of a text are those of the bytes from its place on.
abbrev zeros : List ℕ → ℕ
zeros xs = position_or_len (λ b. b == 0) xs

abbrev spaces : List ℕ → ℕ
spaces xs = position_or_len (λ b. not (is_space b)) xs

space_more : (n x : ℕ) (xs : List ℕ) → (x == 32) ≡ true → prefix_len is_space (take (suc n) (x ∷ xs)) ≡ 1 + prefix_len is_space (take n xs)
space_more n x xs is = rw is refl

space_none : (n x : ℕ) (xs : List ℕ) → (x == 32) ≡ false → prefix_len is_space (take (suc n) (x ∷ xs)) ≡ 0
space_none n x xs is = rw is refl

spaces_by : (x : ℕ) (xs : List ℕ) (space null : Bool) → (x == 32) ≡ space → (x == 0) ≡ null → prefix_len is_space (take (zeros xs) xs) ≡ spaces xs → prefix_len is_space (take (zeros (x ∷ xs)) (x ∷ xs)) ≡ spaces (x ∷ xs)
spaces_by x xs true true is null later = absurd (grind (arith, nat_tests, is, null))
spaces_by x xs true false is null later =
    let next : 1 + zeros xs ≡ suc (zeros xs) = omega arith in
    rw null (ap (λ n. prefix_len is_space (take n (x ∷ xs))) next ∙ space_more (zeros xs) x xs is ∙ rw is (ap (λ n. 1 + n) later))
spaces_by x xs false true is null later = rw null (rw is refl)
spaces_by x xs false false is null later =
    let next : 1 + zeros xs ≡ suc (zeros xs) = omega arith in
    rw null (ap (λ n. prefix_len is_space (take n (x ∷ xs))) next ∙ space_none (zeros xs) x xs is ∙ rw is refl)

spaces_are : (xs : List ℕ) → prefix_len is_space (take (zeros xs) xs) ≡ spaces xs
spaces_are [] = refl
spaces_are (x ∷ xs) = spaces_by x xs (x == 32) (x == 0) refl refl (spaces_are xs)

before_by : (x : ℕ) (xs : List ℕ) (space null : Bool) → (x == 32) ≡ space → (x == 0) ≡ null → spaces xs ≤ zeros xs → spaces (x ∷ xs) ≤ zeros (x ∷ xs)
before_by x xs true true is zero later = absurd (grind (arith, nat_tests, is, zero))
before_by x xs true false is zero later = rw zero (rw is (omega (arith, later)))
before_by x xs false null is zero later = rw is (omega arith)

spaces_before : (xs : List ℕ) → spaces xs ≤ zeros xs
spaces_before [] = omega arith
spaces_before (x ∷ xs) = before_by x xs (x == 32) (x == 0) refl refl (spaces_before xs)

there_by : (xs : List ℕ) → (zeros xs < length xs) ⊎ (length xs ≤ zeros xs) → is_none (front_text xs) ≡ false → zeros xs < length xs
there_by xs (inl less) found = less
there_by xs (inr past) found = absurd (grind (arith, found, ap is_none (front_missing xs past)))

-- A text without its first bytes.
cut : (xs : List ℕ) (k : ℕ) → k ≤ zeros xs → zeros xs < length xs → front_text (drop k xs) ≡ Some (drop k (take (zeros xs) xs))
cut xs k le less =
    let moved = span_drop (λ b. b == 0) xs k le in
    let size = length-drop k xs in
    let rest : zeros (drop k xs) ≡ zeros xs - k = omega (arith, moved) in
    let whole : k + (zeros xs - k) ≡ zeros xs = omega (arith, le) in
    front_found (drop k xs) (omega (arith, moved, size))
    ∙ ap Some (ap (λ n. take n (drop k xs)) rest ∙ sym (drop-take k (zeros xs - k) xs) ∙ ap (λ n. drop k (take n xs)) whole)

fewer_text : (xs : List ℕ) → zeros xs < length xs → option_map fewer_spaces (front_text xs) ≡ front_text (drop (spaces xs - 65536) xs)
unfolding fewer_spaces
fewer_text xs less =
    ap (option_map fewer_spaces) (front_found xs less)
    ∙ ap (λ n. Some (drop (n - 65536) (take (zeros xs) xs))) (spaces_are xs)
    ∙ sym (cut xs (spaces xs - 65536) (omega (arith, spaces_before xs)) less)

there : (bytes : List ℕ) (place end : ℕ) → is_none (front_text (drop place bytes)) ≡ nat_le end place → place < end → is_none (front_text (drop place bytes)) ≡ false
there bytes place end are below = grind (arith, nat_tests, are, below)

pub inside : (bytes : List ℕ) (place end : ℕ) → is_none (front_text (drop place bytes)) ≡ nat_le end place → place < end → place < length bytes
inside bytes place end are below =
    omega (arith, there_by (drop place bytes) (cases_lt (zeros (drop place bytes)) (length (drop place bytes))) (there bytes place end are below), length-drop place bytes)

-- The first zero byte.
zero_found : (xs : List ℕ) (k : ℕ) → IsFirstByte (is_byte 0) xs (Some k) → zeros xs ≡ k
zero_found xs k first =
    let high : k < length xs = first.0.high in
    position_or_len_is (λ b. b == 0) xs k 0 (omega arith)
    (λ i lt. false_from_ne_true _ (first.0.before i (omega arith) lt)) (λ _. first.1)

zero_missing : (xs : List ℕ) → IsFirstByte (is_byte 0) xs None → zeros xs ≡ length xs
zero_missing xs none =
    position_or_len_is (λ b. b == 0) xs (length xs) 0 (omega arith)
    (λ i lt. false_from_ne_true _ (none i (omega arith) lt)) (λ past. absurd (omega arith))

-- What is held of the bytes before a zero byte, if there is one among the first m, and if not.
front_is : (xs : List ℕ) → unwrap_or (front_text xs) xs ≡ take (zeros xs) xs
front_is xs = front_by xs (cases_lt (zeros xs) (length xs))
  where
    front_by : (xs : List ℕ) → (zeros xs < length xs) ⊎ (length xs ≤ zeros xs) → unwrap_or (front_text xs) xs ≡ take (zeros xs) xs
    front_by xs (inl less) = ap (λ t. unwrap_or t xs) (front_found xs less)
    front_by xs (inr past) = ap (λ t. unwrap_or t xs) (front_missing xs past) ∙ sym (take_all (zeros xs) xs past)

held_some : (m k : ℕ) (xs : List ℕ) → zeros (take m xs) ≡ k → k < length (take m xs) → take k (take m xs) ≡ take m (unwrap_or (front_text xs) xs)
held_some m k xs is less =
    let size = length-take m xs in
    let found = span_front (λ b. b == 0) xs m (omega (arith, is, less)) in
    let end : zeros xs ≡ k = omega (arith, found, is) in
    take-take k m xs (omega (arith, size, less)) ∙ sym (take_all m (take k xs) (omega (arith, size, less, length-take k xs)))
    ∙ ap (λ n. take m (take n xs)) (sym end) ∙ ap (take m) (sym (front_is xs))

held_none_by : (m : ℕ) (xs : List ℕ) → (length xs < m) ⊎ (m ≤ length xs) → zeros (take m xs) ≡ length (take m xs) → take m xs ≡ take m (take (zeros xs) xs)
held_none_by m xs (inl less) is =
    let whole = take_all m xs (omega (arith, less)) in
    let end : length xs ≤ zeros xs = omega (arith, ap zeros whole, ap length whole, is) in
    ap (take m) (sym (take_all (zeros xs) xs end))
held_none_by m xs (inr le) is = sym (take-take m (zeros xs) xs (span_past (λ b. b == 0) xs m is le))

held_none : (m : ℕ) (xs : List ℕ) → zeros (take m xs) ≡ length (take m xs) → take m xs ≡ take m (unwrap_or (front_text xs) xs)
held_none m xs is = held_none_by m xs (cases_lt (length xs) m) is ∙ ap (take m) (sym (front_is xs))

pub front_held : (xs front : List ℕ) (k : ℕ) → front ≡ take (min 131072 (length xs)) xs → IsFirstByte (is_byte 0) front (Some k) → take k front ≡ held_front xs
unfolding held_front
front_held xs front k cut first =
    let whole = cut ∙ take_min 131072 xs in
    let high : k < length front = first.0.high in
    ap (take k) whole ∙ held_some 131072 k xs (ap zeros (sym whole) ∙ zero_found front k first) (subst (λ (l : List ℕ). k < length l) whole high)

pub front_whole : (xs front : List ℕ) → front ≡ take (min 131072 (length xs)) xs → IsFirstByte (is_byte 0) front None → front ≡ held_front xs
unfolding held_front
front_whole xs front cut none =
    let whole = cut ∙ take_min 131072 xs in
    whole ∙ held_none 131072 xs (ap zeros (sym whole) ∙ zero_missing front none ∙ ap length whole)

-- What is held of a text.
passed_by : (x : ℕ) (xs : List ℕ) (space : Bool) → (x == 32) ≡ space → prefix_len is_space xs ≡ spaces xs → prefix_len is_space (x ∷ xs) ≡ spaces (x ∷ xs)
passed_by x xs true is later = rw is (ap (λ n. 1 + n) later)
passed_by x xs false is later = rw is refl

passed : (xs : List ℕ) → prefix_len is_space xs ≡ spaces xs
passed [] = refl
passed (x ∷ xs) = passed_by x xs (x == 32) refl (passed xs)

pub held_is : (text rest front : List ℕ) (n : ℕ) → n ≡ position_or_len (λ b. not (is_space b)) text → rest ≡ drop (n - 65536) text → front ≡ take (min 131072 (length rest)) rest → front ≡ held_text text
unfolding held_text fewer_spaces
held_is text rest front n is later cut =
    cut ∙ take_min 131072 rest ∙ ap (take 131072) (later ∙ ap (λ k. drop (k - 65536) text) (is ∙ sym (passed text)))

pub text_held : (text : Option (List ℕ)) (rest : List ℕ) → option_map fewer_spaces text ≡ front_text rest → is_some (front_text rest) ≡ true → Some (held_front rest) ≡ option_map held_text text
unfolding held_front held_text
text_held None rest is found = absurd (grind (arith, is, found))
text_held (Some y) rest is found = ap (λ t. Some (take 131072 (unwrap_or t rest))) (sym is)

-- Where a text is held from.
none_of : (text : Option (List ℕ)) → is_none text ≡ true → text ≡ None
none_of (Some y) said = absurd (grind (arith, said))
none_of None said = refl

some_of : (y : List ℕ) (text : Option (List ℕ)) → is_none text ≡ false → option_map (λ (t : List ℕ). y) text ≡ Some y
some_of y (Some t) said = refl
some_of y None said = absurd (grind (arith, said))

some_after : (text after : Option (List ℕ)) → option_map fewer_spaces text ≡ after → is_none text ≡ false → is_some after ≡ true
some_after (Some t) after is said = ap is_some (sym is)
some_after None after is said = absurd (grind (arith, said))

held_by : (xs : List ℕ) (none : Bool) → is_none (front_text xs) ≡ none → option_map held_text (front_text xs) ≡ option_map (λ (t : List ℕ). held_front (drop (spaces xs - 65536) xs)) (front_text xs)
held_by xs true is = ap (option_map held_text) (none_of (front_text xs) is) ∙ sym (ap (option_map (λ (t : List ℕ). held_front (drop (spaces xs - 65536) xs))) (none_of (front_text xs) is))
held_by xs false is =
    let less = there_by xs (cases_lt (zeros xs) (length xs)) is in
    let rest = drop (spaces xs - 65536) xs in
    let same = fewer_text xs less in
    sym (text_held (front_text xs) rest same (some_after (front_text xs) (front_text rest) same is)) ∙ sym (some_of (held_front rest) (front_text xs) is)

pub held_from : (bytes : List ℕ) (place : ℕ) → option_map held_text (front_text (drop place bytes)) ≡ option_map (λ (t : List ℕ). held_front (drop (later_start bytes place) bytes)) (front_text (drop place bytes))
unfolding spaces_end
held_from bytes place =
    let same : drop (spaces (drop place bytes) - 65536) (drop place bytes) ≡ drop (later_start bytes place) bytes = grind (arith, common_steps) in
    held_by (drop place bytes) (is_none (front_text (drop place bytes))) refl
    ∙ ap (λ (rest : List ℕ). option_map (λ (t : List ℕ). held_front rest) (front_text (drop place bytes))) same

held_near : (bytes : List ℕ) (place : ℕ) → spaces_end bytes place ≤ place + 65536 → option_map held_text (front_text (drop place bytes)) ≡ option_map (λ (t : List ℕ). held_front (drop place bytes)) (front_text (drop place bytes))
held_near bytes place near =
    held_from bytes place ∙ (let e : later_start bytes place ≡ place = omega (arith, near) in ap (λ n. option_map (λ (t : List ℕ). held_front (drop n bytes)) (front_text (drop place bytes))) e)

none_spaced : (x : ℕ) (xs : List ℕ) → x ≢ 32 → spaces (x ∷ xs) ≡ 0
none_spaced x xs other = grind (arith, nat_tests, other)

pub held_unspaced : (bytes : List ℕ) (place : ℕ) → place < length bytes → get_or bytes place 0 ≢ 32 → option_map held_text (front_text (drop place bytes)) ≡ option_map (λ (t : List ℕ). held_front (drop place bytes)) (front_text (drop place bytes))
unfolding spaces_end
held_unspaced bytes place below other =
    let none : spaces (drop place bytes) ≡ 0 = at_drop_more spaces bytes place 0 below ∙ none_spaced (get_or bytes place 0) (drop (place + 1) bytes) other in
    held_near bytes place (omega (arith, none))

pub later_inside : (bytes : List ℕ) (place : ℕ) → place < length bytes → later_start bytes place < length bytes
later_inside bytes place below = omega (arith, end_within bytes place (omega (arith, below)), below)

pub start_behind : (bytes : List ℕ) (place end : ℕ) → is_none (front_text (drop place bytes)) ≡ nat_le end place → place < end → option_map held_text (front_text (drop place bytes)) ≡ Some (held_front (drop (later_start bytes place) bytes))
start_behind bytes place end are below =
    held_from bytes place ∙ some_of (held_front (drop (later_start bytes place) bytes)) (front_text (drop place bytes)) (there bytes place end are below)

pub start_here : (bytes : List ℕ) (place end : ℕ) → is_none (front_text (drop place bytes)) ≡ nat_le end place → place < end → spaces_end bytes place ≤ place + 65536 → option_map held_text (front_text (drop place bytes)) ≡ Some (held_front (drop place bytes))
start_here bytes place end are below near =
    held_near bytes place near ∙ some_of (held_front (drop place bytes)) (front_text (drop place bytes)) (there bytes place end are below)

pub no_start : (bytes : List ℕ) (place end : ℕ) → is_none (front_text (drop place bytes)) ≡ nat_le end place → end ≤ place → option_map held_text (front_text (drop place bytes)) ≡ None
no_start bytes place end are past =
    ap (option_map held_text) (none_of (front_text (drop place bytes)) (grind (arith, nat_tests, are, past)))
