-- The steps of cleaning a name, and what `unspaced`, `shown`, `add_shown`, `add_cleaned` and
-- `clean` do.
use Rattle.std.proofs.Common.{◌≡◌, ◌≢◌, ℕ, ◌+◌, ◌-◌, ◌<◌, ◌≤◌, ◌==◌, cond, Bool, true, false, not, List, [], ◌∷◌, ◌++◌, length, map, take, drop, set, get_or, min, codes, refl, sym, ◌∙◌, ap, arith, zero, suc, nat_le, length-take}
use Rattle.std.specs.List.{list_all}
use Rattle.std.proofs.lemmas.Grind.{common_steps, get_or_default_zero}
use Rattle.std.proofs.lemmas.Bool.{eqb-true}
use Rattle.std.proofs.lemmas.Bool.Decides.{nat_tests}
use Rattle.std.proofs.lemmas.List.Recursion.{and_at}
use Rattle.std.proofs.lemmas.List.Edits.{map_over_more}
use Rattle.std.proofs.lemmas.List.{take-map, take_min, take_all}
use Rattle.clean_names.proofs.BoolLemmas.{and_true, both, some_bytes, not_false, if_both}
use Rattle.clean_names.proofs.SkipLemmas.{Begins, begins_skip}
use Rattle.clean_names.specs.Names.{is_space, is_within_line, skip, is_name}
use Rattle.clean_names.specs.Cleaning.{shown_byte, or_omitted, cleaned_upto}

longer : (f : ℕ → ℕ) (name bytes : List ℕ) (i : ℕ) → i < length bytes → name ≡ map f (take i bytes) ++ drop i bytes → i < length name
longer f name bytes i within is = grind (arith, common_steps)

read : (xs : List ℕ) (i : ℕ) → i < length xs → get_or xs i 0 ≡ get_or xs i (get_or xs i 0)
read xs i within = sym (get_or_default_zero xs i (get_or xs i 0) within)

step_by : (f : ℕ → ℕ) (name bytes : List ℕ) (i y : ℕ) → i < length bytes → name ≡ map f (take i bytes) ++ drop i bytes → y ≡ f (get_or name i 0) → set name i y ≡ map f (take (i + 1) bytes) ++ drop (i + 1) bytes
step_by f name bytes i y within is at = ap (set name i) at ∙ map_over_more f bytes name i (get_or name i 0) within is (read name i (longer f name bytes i within is))

pub shown_step : (name bytes : List ℕ) (i y : ℕ) → i < length bytes → name ≡ map shown_byte (take i bytes) ++ drop i bytes → y ≡ shown_byte (get_or name i 0) → set name i y ≡ map shown_byte (take (i + 1) bytes) ++ drop (i + 1) bytes
shown_step name bytes i y within is at = step_by shown_byte name bytes i y within is at

shown_space : (b : ℕ) → (shown_byte b == 32) ≡ (b == 32)
shown_space b = grind (arith, nat_tests)

shown_cond : (t : Bool) (b : ℕ) (bytes : List ℕ) → skip is_space (map shown_byte bytes) ≡ map shown_byte (skip is_space bytes) → cond t (skip is_space (map shown_byte bytes)) (shown_byte b ∷ map shown_byte bytes) ≡ map shown_byte (cond t (skip is_space bytes) (b ∷ bytes))
shown_cond true b bytes is = is
shown_cond false b bytes is = refl

-- Dropping leading spaces and replacing control bytes may change places.
pub skip_shown : (bytes : List ℕ) → skip is_space (map shown_byte bytes) ≡ map shown_byte (skip is_space bytes)
unfolding skip
skip_shown [] = refl
skip_shown (b ∷ bytes) = ap (λ t. cond t (skip is_space (map shown_byte bytes)) (shown_byte b ∷ map shown_byte bytes)) (shown_space b) ∙ shown_cond (b == 32) b bytes (skip_shown bytes)

take_map : (f : ℕ → ℕ) (n : ℕ) (xs : List ℕ) → take n (map f xs) ≡ map f (take (min n (length xs)) xs)
take_map f n xs = take-map f n xs ∙ ap (map f) (sym (take_min n xs))

whole : (limit : ℕ) (bytes front : List ℕ) → front ≡ take (min limit (length (skip is_space bytes))) (skip is_space bytes) → cleaned_upto limit bytes ≡ or_omitted (map shown_byte front)
unfolding cleaned_upto
whole limit bytes front is = ap or_omitted (ap (take limit) (skip_shown bytes) ∙ take_map shown_byte limit (skip is_space bytes) ∙ ap (map shown_byte) (sym is))

omitted_none : (xs : List ℕ) → length xs ≡ 0 → or_omitted (map shown_byte xs) ≡ codes "<name omitted>"
omitted_none [] is = refl
omitted_none (x ∷ xs) is = absurd (omega arith)

omitted_some : (xs : List ℕ) → length xs ≢ 0 → or_omitted (map shown_byte xs) ≡ map shown_byte xs
omitted_some [] some = absurd (some refl)
omitted_some (x ∷ xs) some = refl

-- The cleaned name if nothing is left after the spaces.
pub cleaned_none : (limit : ℕ) (bytes front : List ℕ) → front ≡ take (min limit (length (skip is_space bytes))) (skip is_space bytes) → length front ≡ 0 → cleaned_upto limit bytes ≡ codes "<name omitted>"
cleaned_none limit bytes front is none = whole limit bytes front is ∙ omitted_none front none

-- The cleaned name if something is left after the spaces.
pub cleaned_some : (limit : ℕ) (bytes front : List ℕ) → front ≡ take (min limit (length (skip is_space bytes))) (skip is_space bytes) → length front ≢ 0 → cleaned_upto limit bytes ≡ map shown_byte front
cleaned_some limit bytes front is some = whole limit bytes front is ∙ omitted_some front some

abbrev pub is_shown : ℕ → Bool
is_shown b = nat_le 32 b

shown_is : (b : ℕ) → is_shown (shown_byte b) ≡ true
shown_is b = grind (arith, nat_tests)

all_shown : (bytes : List ℕ) → list_all is_shown (map shown_byte bytes) ≡ true
all_shown [] = refl
all_shown (b ∷ bytes) = both (shown_is b) (all_shown bytes)

all_skipped : (p : ℕ → Bool) (xs : List ℕ) → list_all is_shown xs ≡ true → list_all is_shown (skip p xs) ≡ true
unfolding skip
all_skipped p [] all = refl
all_skipped p (x ∷ xs) all = if_both (λ l. list_all is_shown l ≡ true) (p x) (skip p xs) (x ∷ xs) (all_skipped p xs (and_true all).1) all

all_taken : (n : ℕ) (xs : List ℕ) → list_all is_shown xs ≡ true → list_all is_shown (take n xs) ≡ true
all_taken zero xs all = refl
all_taken (suc n) [] all = refl
all_taken (suc n) (x ∷ xs) all = both (and_true all).0 (all_taken n xs (and_true all).1)

pub begins_take : (n : ℕ) (xs : List ℕ) → Begins xs → Begins (take n xs)
begins_take zero xs begins = tt
begins_take (suc n) [] begins = tt
begins_take (suc n) (x ∷ xs) begins = begins

shown_within : (x : ℕ) → nat_le 32 x ≡ true → not (x == 10) ≡ true
shown_within x is = grind (arith, nat_tests)

shown_no_cr : (x : ℕ) → is_shown x ≡ true → (x == 13) ≡ false
shown_no_cr x is = grind (arith, nat_tests)

all_at : (xs : List ℕ) (i : ℕ) → i < length xs → list_all is_shown xs ≡ true → is_shown (get_or xs i 0) ≡ true
all_at xs i within all = and_at (list_all is_shown) is_shown refl (λ _ _. refl) xs i 0 within all

within_line : (xs : List ℕ) → list_all is_shown xs ≡ true → list_all is_within_line xs ≡ true
within_line [] all = refl
within_line (x ∷ xs) all = both (shown_within x (and_true all).0) (within_line xs (and_true all).1)

last_shown : (xs : List ℕ) (i : ℕ) → i < length xs → list_all is_shown xs ≡ true → (get_or xs i 0 == 13) ≡ false
last_shown xs i within all = shown_no_cr (get_or xs i 0) (all_at xs i within all)

-- Shown bytes without a space in front are a name; no bytes become `<name omitted>`.
pub named : (xs : List ℕ) → list_all is_shown xs ≡ true → Begins xs → is_name (or_omitted xs) ≡ true
unfolding is_name
named [] all begins = refl
named (x ∷ xs) all begins = both (both (both (some_bytes x xs) (not_false begins)) (not_false (last_shown (x ∷ xs) (length (x ∷ xs) - 1) (omega arith) all))) (within_line (x ∷ xs) all)

-- A cleaned name is a name.
pub cleaned_named : (limit : ℕ) (bytes : List ℕ) → is_name (cleaned_upto limit bytes) ≡ true
unfolding cleaned_upto
cleaned_named limit bytes =
    named (take limit (skip is_space (map shown_byte bytes)))
    (all_taken limit (skip is_space (map shown_byte bytes)) (all_skipped is_space (map shown_byte bytes) (all_shown bytes)))
    (begins_take limit (skip is_space (map shown_byte bytes)) (begins_skip (map shown_byte bytes)))

omitted_short : (xs : List ℕ) (limit : ℕ) → 14 ≤ limit → length xs ≤ limit → length (or_omitted xs) ≤ limit
omitted_short [] limit room short = room
omitted_short (x ∷ xs) limit room short = short

-- A cleaned name has at most `limit` bytes.
pub cleaned_short : (limit : ℕ) (bytes : List ℕ) → 14 ≤ limit → length (cleaned_upto limit bytes) ≤ limit
unfolding cleaned_upto
cleaned_short limit bytes room = omitted_short (take limit (skip is_space (map shown_byte bytes))) limit room (omega (arith, length-take limit (skip is_space (map shown_byte bytes))))

-- Bytes that all stay as they are.
all_same_by : (f : ℕ → ℕ) (bytes : List ℕ) → list_all (λ b. f b == b) bytes ≡ true → map f bytes ≡ bytes
all_same_by f [] all = refl
all_same_by f (b ∷ bytes) all = let same : f b ≡ b = eqb-true (f b) b (and_true all).0 in ap (λ l. f b ∷ l) (all_same_by f bytes (and_true all).1) ∙ ap (λ c. c ∷ bytes) same

pub all_same : (bytes old new : List ℕ) → list_all (λ b. shown_byte b == b) bytes ≡ true → new ≡ old ++ bytes → new ≡ old ++ map shown_byte bytes
all_same bytes old new all is = is ∙ ap (λ l. old ++ l) (sym (all_same_by shown_byte bytes all))

adds_one : (f : ℕ → ℕ) (bytes : List ℕ) (i b y : ℕ) (old text : List ℕ) → i < length bytes → b ≡ get_or bytes i 0 → y ≡ f b → text ≡ old ++ map f (take i bytes) → text ++ y ∷ [] ≡ old ++ map f (take (i + 1) bytes)
adds_one f bytes i b y old text within at is so = grind (arith, common_steps)

pub adds_byte : (bytes : List ℕ) (i b y : ℕ) (old text new : List ℕ) → i < length bytes → b ≡ get_or bytes i 0 → y ≡ shown_byte b → text ≡ old ++ map shown_byte (take i bytes) → new ≡ text ++ y ∷ [] → new ≡ old ++ map shown_byte (take (i + 1) bytes)
adds_byte bytes i b y old text new within at is so more = more ∙ adds_one shown_byte bytes i b y old text within at is so

pub adds_bytes : (bytes : List ℕ) (i : ℕ) (old text : List ℕ) → length bytes ≤ i → text ≡ old ++ map shown_byte (take i bytes) → text ≡ old ++ map shown_byte bytes
adds_bytes bytes i old text past is = is ∙ ap (λ l. old ++ map shown_byte l) (take_all i bytes past)
