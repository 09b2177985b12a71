-- Leading spaces of a name (for `unspaced` and `clean`).
use Rattle.std.proofs.Common.{◌≡◌, ◌≢◌, ℕ, ◌+◌, ◌<◌, ◌≤◌, ◌==◌, cond, Bool, true, false, List, [], ◌∷◌, ◌++◌, length, take, drop, get_or, refl, sym, ◌∙◌, ap, arith}
use Rattle.std.proofs.lemmas.Grind.{common_steps}
use Rattle.std.proofs.lemmas.List.{at_drop_more, take-append-drop}
use Rattle.std.specs.List.{list_all}
use Rattle.std.proofs.lemmas.Bool.{eqb-true}
use Rattle.std.proofs.lemmas.Bool.Decides.{nat_tests}
use Rattle.clean_names.specs.Names.{is_space, skip}
use Rattle.clean_names.proofs.BoolLemmas.{and_true}

pub skip_here : (x : ℕ) (xs : List ℕ) → x ≢ 32 → skip is_space (x ∷ xs) ≡ x ∷ xs
unfolding skip
skip_here x xs other = grind (arith, nat_tests)

skip_space : (x : ℕ) (xs : List ℕ) → x ≡ 32 → skip is_space (x ∷ xs) ≡ skip is_space xs
unfolding skip
skip_space x xs is = grind (arith, nat_tests)

-- The spaces end at a byte that is not a space.
pub skip_stop : (bytes : List ℕ) (i : ℕ) → i < length bytes → get_or bytes i 0 ≢ 32 → skip is_space (drop i bytes) ≡ drop i bytes
skip_stop bytes i within other =
    at_drop_more (skip is_space) bytes i 0 within ∙ skip_here (get_or bytes i 0) (drop (i + 1) bytes) other ∙ sym (at_drop_more (λ xs. xs) bytes i 0 within)

pub skip_more : (bytes : List ℕ) (i : ℕ) → i < length bytes → get_or bytes i 0 ≡ 32 → skip is_space (drop (i + 1) bytes) ≡ skip is_space (drop i bytes)
skip_more bytes i within is = sym (at_drop_more (skip is_space) bytes i 0 within ∙ skip_space (get_or bytes i 0) (drop (i + 1) bytes) is)

skip_none : skip is_space [] ≡ []
unfolding skip
skip_none = refl

pub skip_end : (bytes : List ℕ) (i : ℕ) → length bytes ≤ i → skip is_space (drop i bytes) ≡ []
skip_end bytes i past = ap (skip is_space) (grind (arith, common_steps)) ∙ skip_none

-- A block of spaces in front.
spaces_before : (spaces bytes : List ℕ) → list_all is_space spaces ≡ true → skip is_space (spaces ++ bytes) ≡ skip is_space bytes
spaces_before [] bytes all = refl
spaces_before (b ∷ spaces) bytes all =
    skip_space b (spaces ++ bytes) (eqb-true b 32 (and_true all).0) ∙ spaces_before spaces bytes (and_true all).1

pub skip_front : (bytes block after : List ℕ) (n : ℕ) → block ≡ take n bytes → after ≡ drop n bytes → list_all is_space block ≡ true → skip is_space after ≡ skip is_space bytes
skip_front bytes block after n front back all =
    ap (skip is_space) back ∙ sym (spaces_before (take n bytes) (drop n bytes) (ap (list_all is_space) (sym front) ∙ all)) ∙ ap (skip is_space) (take-append-drop n bytes)

-- The first byte, if there is one, is not a space.
abbrev pub Begins : List ℕ → Type 0
Begins [] = Unit {0}
Begins (x ∷ xs) = (x == 32) ≡ false

begins_by : (x : ℕ) (xs : List ℕ) (space : Bool) → (x == 32) ≡ space → Begins (skip is_space xs) → Begins (cond space (skip is_space xs) (x ∷ xs))
begins_by x xs true is later = later
begins_by x xs false is later = is

pub begins_skip : (xs : List ℕ) → Begins (skip is_space xs)
unfolding skip
begins_skip [] = tt
begins_skip (x ∷ xs) = begins_by x xs (x == 32) refl (begins_skip xs)
