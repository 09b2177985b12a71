-- Names that cleaning does not change (for `is_clean`, and for the texts of `func_records`).
use Rattle.std.proofs.Common.{◌≡◌, ◌≢◌, ℕ, zero, suc, ◌<◌, ◌≤◌, ◌==◌, Bool, true, false, nat_lt, nat_eq, ◌||◌, cond, min, get_or, List, [], ◌∷◌, map, take, length, codes, refl, sym, ap, subst, ◌∙◌, arith}
use Rattle.std.specs.List.{list_all}
use Rattle.std.specs.Str.{bytes_eq}
use Rattle.std.specs.Bool.{Decides}
use Rattle.std.proofs.lemmas.Bool.Decides.{nat_tests}
use Rattle.std.proofs.lemmas.Slice.Eq.{bytes_eq-Decides}
use Rattle.std.proofs.lemmas.List.{length-take, take_all}
use Rattle.clean_names.specs.Names.{is_space, skip}
use Rattle.clean_names.specs.Cleaning.{shown_byte, or_omitted, cleaned_upto, cleaned}
use Rattle.clean_names.proofs.SkipLemmas.{skip_here, Begins, begins_skip}
use Rattle.clean_names.proofs.BoolLemmas.{both}
use Rattle.clean_names.proofs.CleaningLemmas.{begins_take, cleaned_some, cleaned_short, all_same}

-- `shown_byte` does not change its own result.
shown_by : (b : ℕ) (control : Bool) → (nat_lt b 32 || nat_eq b 127) ≡ control → shown_byte (cond control 63 b) ≡ cond control 63 b
shown_by b true is = refl
shown_by b false is = ap (λ c. cond c 63 b) is

shown_again : (b : ℕ) → shown_byte (shown_byte b) ≡ shown_byte b
shown_again b = shown_by b (nat_lt b 32 || nat_eq b 127) refl

abbrev AreShown : List ℕ → Type 0
AreShown [] = Prim.Unit {0}
AreShown (b ∷ bytes) = (shown_byte b ≡ b) × AreShown bytes

shown_map : (bytes : List ℕ) → AreShown (map shown_byte bytes)
shown_map [] = tt
shown_map (b ∷ bytes) = (shown_again b, shown_map bytes)

shown_fixed : (bytes : List ℕ) → AreShown bytes → map shown_byte bytes ≡ bytes
shown_fixed [] shown = refl
shown_fixed (b ∷ bytes) shown = ap (λ c. c ∷ map shown_byte bytes) shown.0 ∙ ap (λ rest. b ∷ rest) (shown_fixed bytes shown.1)

skip_by : (b : ℕ) (bytes : List ℕ) (space : Bool) → AreShown (b ∷ bytes) → AreShown (skip is_space bytes) → AreShown (cond space (skip is_space bytes) (b ∷ bytes))
skip_by b bytes true shown later = later
skip_by b bytes false shown later = shown

shown_skip : (bytes : List ℕ) → AreShown bytes → AreShown (skip is_space bytes)
unfolding skip
shown_skip [] shown = tt
shown_skip (b ∷ bytes) shown = skip_by b bytes (is_space b) shown (shown_skip bytes shown.1)

shown_take : (n : ℕ) (bytes : List ℕ) → AreShown bytes → AreShown (take n bytes)
shown_take zero bytes shown = tt
shown_take (suc n) [] shown = tt
shown_take (suc n) (b ∷ bytes) shown = (shown.0, shown_take n bytes shown.1)

nothing_skipped : (bytes : List ℕ) → Begins bytes → skip is_space bytes ≡ bytes
unfolding skip
nothing_skipped [] begins = refl
nothing_skipped (b ∷ bytes) begins = ap (λ space. cond space (skip is_space bytes) (b ∷ bytes)) begins

-- Bytes of a clean name are the same after each step of cleaning.
front_fixed : (limit : ℕ) (bytes : List ℕ) → AreShown bytes → Begins bytes → length bytes ≤ limit → take limit (skip is_space (map shown_byte bytes)) ≡ bytes
front_fixed limit bytes shown begins short =
    ap (λ xs. take limit (skip is_space xs)) (shown_fixed bytes shown)
    ∙ ap (take limit) (nothing_skipped bytes begins)
    ∙ take_all limit bytes short

pub omitted_again : (limit : ℕ) → 14 ≤ limit → cleaned_upto limit (codes "<name omitted>") ≡ codes "<name omitted>"
unfolding cleaned_upto skip
omitted_again limit room = ap or_omitted (take_all limit (codes "<name omitted>") (omega arith))

again_by : (limit : ℕ) (front : List ℕ) → 14 ≤ limit → AreShown front → Begins front → length front ≤ limit → cleaned_upto limit (or_omitted front) ≡ or_omitted front
unfolding cleaned_upto
again_by limit [] room shown begins short = omitted_again limit room
again_by limit (b ∷ front) room shown begins short = ap or_omitted (front_fixed limit (b ∷ front) shown begins short)

upto_again : (limit : ℕ) (bytes : List ℕ) → 14 ≤ limit → cleaned_upto limit (cleaned_upto limit bytes) ≡ cleaned_upto limit bytes
unfolding cleaned_upto
upto_again limit bytes room =
    again_by limit (take limit (skip is_space (map shown_byte bytes))) room
    (shown_take limit (skip is_space (map shown_byte bytes)) (shown_skip (map shown_byte bytes) (shown_map bytes)))
    (begins_take limit (skip is_space (map shown_byte bytes)) (begins_skip (map shown_byte bytes)))
    (omega (arith, length-take limit (skip is_space (map shown_byte bytes))))

pub cleaned_again : (bytes : List ℕ) → cleaned (cleaned bytes) ≡ cleaned bytes
unfolding cleaned
cleaned_again bytes = upto_again 65536 bytes (omega arith)

-- The name is clean if the tests of `is_clean` succeed.
clean_upto : (limit : ℕ) (bytes : List ℕ) → length bytes ≢ 0 → length bytes ≤ limit → get_or bytes 0 0 ≢ 32 → list_all (λ b. shown_byte b == b) bytes ≡ true → cleaned_upto limit bytes ≡ bytes
clean_upto limit [] some short first all = absurd (some refl)
clean_upto limit (b ∷ bytes) some short first all =
    cleaned_some limit (b ∷ bytes) (b ∷ bytes) (sym (ap (λ l. take (min limit (length l)) l) (skip_here b bytes first) ∙ take_all (min limit (length (b ∷ bytes))) (b ∷ bytes) (omega arith))) some
    ∙ sym (all_same (b ∷ bytes) [] (b ∷ bytes) all refl)

pub clean_already : (bytes : List ℕ) → length bytes ≢ 0 → length bytes ≤ 65536 → get_or bytes 0 0 ≢ 32 → list_all (λ b. shown_byte b == b) bytes ≡ true → cleaned bytes ≡ bytes
unfolding cleaned
clean_already bytes some short first all = clean_upto 65536 bytes some short first all

-- If a test of `is_clean` fails, cleaning changes the bytes.
same_test : {P : Type 0} (t b : Bool) → Decides t P → (b ≡ true → P) → (P → b ≡ true) → b ≡ t
same_test true b is there back = back (is.0 refl)
same_test false true is there back = sym (is.1 (there refl))
same_test false false is there back = refl

changes : (bytes : List ℕ) → (cleaned bytes ≡ bytes → ⊥) → false ≡ bytes_eq (cleaned bytes) bytes
changes bytes other = same_test (bytes_eq (cleaned bytes) bytes) false (bytes_eq-Decides (cleaned bytes) bytes) (λ is. cc) (λ is. absurd (other is))

all_fixed : (bytes : List ℕ) → AreShown bytes → list_all (λ b. shown_byte b == b) bytes ≡ true
all_fixed [] shown = refl
all_fixed (b ∷ bytes) shown = both (let here : (shown_byte b == b) ≡ true = grind (arith, nat_tests, shown.0) in here) (all_fixed bytes shown.1)

omitted_fixed : (front : List ℕ) → AreShown front → list_all (λ b. shown_byte b == b) (or_omitted front) ≡ true
omitted_fixed [] shown = refl
omitted_fixed (b ∷ front) shown = all_fixed (b ∷ front) shown

upto_fixed : (limit : ℕ) (bytes : List ℕ) → list_all (λ b. shown_byte b == b) (cleaned_upto limit bytes) ≡ true
unfolding cleaned_upto
upto_fixed limit bytes =
    omitted_fixed (take limit (skip is_space (map shown_byte bytes))) (shown_take limit (skip is_space (map shown_byte bytes)) (shown_skip (map shown_byte bytes) (shown_map bytes)))

omitted_begins : (front : List ℕ) → Begins front → Begins (or_omitted front)
omitted_begins [] begins = refl
omitted_begins (b ∷ front) begins = begins

upto_begins : (limit : ℕ) (bytes : List ℕ) → Begins (cleaned_upto limit bytes)
unfolding cleaned_upto
upto_begins limit bytes = omitted_begins (take limit (skip is_space (map shown_byte bytes))) (begins_take limit (skip is_space (map shown_byte bytes)) (begins_skip (map shown_byte bytes)))

omitted_some : (front : List ℕ) → length (or_omitted front) ≢ 0
omitted_some [] = omega arith
omitted_some (b ∷ front) = omega arith

upto_some : (limit : ℕ) (bytes : List ℕ) → length (cleaned_upto limit bytes) ≢ 0
unfolding cleaned_upto
upto_some limit bytes = omitted_some (take limit (skip is_space (map shown_byte bytes)))

is_not : true ≡ false → ⊥
is_not is = cc

begins_not : (bytes : List ℕ) → length bytes ≢ 0 → get_or bytes 0 0 ≡ 32 → Begins bytes → ⊥
begins_not [] some space begins = some refl
begins_not (b ∷ bytes) some space begins = let here : (b == 32) ≡ true = grind (arith, nat_tests) in is_not (sym here ∙ begins)

pub none_changes : (bytes : List ℕ) → length bytes ≡ 0 → false ≡ bytes_eq (cleaned bytes) bytes
unfolding cleaned
none_changes bytes none = changes bytes (λ is. upto_some 65536 bytes (ap length is ∙ none))

pub long_changes : (bytes : List ℕ) → 65536 < length bytes → false ≡ bytes_eq (cleaned bytes) bytes
unfolding cleaned
long_changes bytes long = changes bytes (λ is. let short : length (cleaned_upto 65536 bytes) ≤ 65536 = cleaned_short 65536 bytes (omega arith) in omega (arith, short, ap length is, long))

pub spaced_changes : (bytes : List ℕ) → length bytes ≢ 0 → get_or bytes 0 0 ≡ 32 → false ≡ bytes_eq (cleaned bytes) bytes
unfolding cleaned
spaced_changes bytes some space = changes bytes (λ is. begins_not bytes some space (subst Begins is (upto_begins 65536 bytes)))

pub is_left : (bytes : List ℕ) (all : Bool) → length bytes ≢ 0 → length bytes ≤ 65536 → get_or bytes 0 0 ≢ 32 → all ≡ list_all (λ b. shown_byte b == b) bytes → all ≡ bytes_eq (cleaned bytes) bytes
unfolding cleaned
is_left bytes all some short first are =
    same_test (bytes_eq (cleaned bytes) bytes) all (bytes_eq-Decides (cleaned bytes) bytes) (λ is. clean_already bytes some short first (sym are ∙ is))
    (λ is. are ∙ ap (list_all (λ b. shown_byte b == b)) (sym is) ∙ upto_fixed 65536 bytes)
