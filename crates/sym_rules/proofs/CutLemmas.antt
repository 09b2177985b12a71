-- Lines that are cut at spaces and at their ends (for `cut_word`, `trim_crs` and `trim_margin`).
use Rattle.std.proofs.Common.{◌≡◌, ◌≢◌, ℕ, ◌+◌, ◌-◌, ◌<◌, ◌≤◌, ◌&&◌, cond, suc, Bool, true, false, List, [], ◌∷◌, ◌++◌, length, take, drop, get_or, refl, sym, ◌∙◌, ap, arith, append_assoc, append-nil}
use Rattle.std.specs.List.{list_all}
use Rattle.std.proofs.Math.Seq.{take-suc}
use Rattle.std.proofs.lemmas.Grind.{common_steps}
use Rattle.std.proofs.lemmas.List.{at_drop_more}
use Rattle.std.proofs.lemmas.Bool.Decides.{nat_tests}
use Rattle.sym_rules.proofs.BoolLemmas.{both}
use Rattle.sym_rules.proofs.EndLemmas.{end_behind, last_one, trim_kept}
use Rattle.sym_rules.specs.Cuts.{is_cr, is_margin, before, from, trim_end}

pub before_go : (x : ℕ) (xs : List ℕ) → x ≢ 32 → before 32 (x ∷ xs) ≡ x ∷ before 32 xs
unfolding before
before_go x xs other = grind (arith, nat_tests)

pub before_halt : (x : ℕ) (xs : List ℕ) → x ≡ 32 → before 32 (x ∷ xs) ≡ []
unfolding before
before_halt x xs is = grind (arith, nat_tests)

pub from_go : (x : ℕ) (xs : List ℕ) → x ≢ 32 → from 32 (x ∷ xs) ≡ from 32 xs
unfolding from
from_go x xs other = grind (arith, nat_tests)

pub from_halt : (x : ℕ) (xs : List ℕ) → x ≡ 32 → from 32 (x ∷ xs) ≡ x ∷ xs
unfolding from
from_halt x xs is = grind (arith, nat_tests)

pub before_nothing : before 32 [] ≡ []
unfolding before
before_nothing = refl

pub from_nothing : from 32 [] ≡ []
unfolding from
from_nothing = refl

pub take_next : (xs : List ℕ) (i : ℕ) → i < length xs → take (i + 1) xs ≡ take i xs ++ get_or xs i 0 ∷ []
take_next xs i within = let e : i + 1 ≡ suc i = omega arith in ap (λ k. take k xs) e ∙ take-suc xs i 0 within

drop_past : (xs : List ℕ) (i : ℕ) → length xs ≤ i → drop i xs ≡ []
drop_past xs i past = grind (arith, common_steps)

take_past : (xs : List ℕ) (i : ℕ) → length xs ≤ i → take i xs ≡ xs
take_past xs i past = grind (arith, common_steps)

-- The search for a space ends at a space.
pub word_stop : (bytes : List ℕ) (i : ℕ) → i < length bytes → get_or bytes i 0 ≡ 32 → before 32 bytes ≡ take i bytes ++ before 32 (drop i bytes) → take i bytes ≡ before 32 bytes
word_stop bytes i within is front =
    sym (front ∙ ap (λ l. take i bytes ++ l) (at_drop_more (before 32) bytes i 0 within ∙ before_halt (get_or bytes i 0) (drop (i + 1) bytes) is) ∙ append-nil (take i bytes))

pub rest_stop : (bytes : List ℕ) (i : ℕ) → i < length bytes → get_or bytes i 0 ≡ 32 → from 32 bytes ≡ from 32 (drop i bytes) → drop i bytes ≡ from 32 bytes
rest_stop bytes i within is rest =
    sym (rest ∙ at_drop_more (from 32) bytes i 0 within ∙ from_halt (get_or bytes i 0) (drop (i + 1) bytes) is ∙ sym (at_drop_more (λ l. l) bytes i 0 within))

-- The search for a space goes on at another byte.
pub word_more : (bytes : List ℕ) (i : ℕ) → i < length bytes → get_or bytes i 0 ≢ 32 → before 32 bytes ≡ take i bytes ++ before 32 (drop i bytes) → before 32 bytes ≡ take (i + 1) bytes ++ before 32 (drop (i + 1) bytes)
word_more bytes i within other front =
    front ∙ ap (λ l. take i bytes ++ l) (at_drop_more (before 32) bytes i 0 within ∙ before_go (get_or bytes i 0) (drop (i + 1) bytes) other)
    ∙ sym (append_assoc (take i bytes) (get_or bytes i 0 ∷ []) (before 32 (drop (i + 1) bytes)))
    ∙ ap (λ l. l ++ before 32 (drop (i + 1) bytes)) (sym (take_next bytes i within))

pub rest_more : (bytes : List ℕ) (i : ℕ) → i < length bytes → get_or bytes i 0 ≢ 32 → from 32 bytes ≡ from 32 (drop i bytes) → from 32 bytes ≡ from 32 (drop (i + 1) bytes)
rest_more bytes i within other rest = rest ∙ at_drop_more (from 32) bytes i 0 within ∙ from_go (get_or bytes i 0) (drop (i + 1) bytes) other

pub word_end : (bytes : List ℕ) (i : ℕ) → length bytes ≤ i → before 32 bytes ≡ take i bytes ++ before 32 (drop i bytes) → bytes ≡ before 32 bytes
word_end bytes i past front =
    sym (front ∙ ap (λ l. take i bytes ++ l) (ap (before 32) (drop_past bytes i past) ∙ before_nothing) ∙ append-nil (take i bytes) ∙ take_past bytes i past)

pub rest_end : (bytes : List ℕ) (i : ℕ) → length bytes ≤ i → from 32 bytes ≡ from 32 (drop i bytes) → [] ≡ from 32 bytes
rest_end bytes i past rest = sym (rest ∙ ap (from 32) (drop_past bytes i past) ∙ from_nothing)

all_but : (p : ℕ → Bool) (xs : List ℕ) (b : ℕ) → p b ≡ true → list_all p (xs ++ b ∷ []) ≡ list_all p xs
all_but p [] b is = both {b = true} is refl
all_but p (x ∷ xs) b is = ap (λ t. p x && t) (all_but p xs b is)

trim_dropped : (p : ℕ → Bool) (xs : List ℕ) (b : ℕ) → p b ≡ true → trim_end p (xs ++ b ∷ []) ≡ trim_end p xs
unfolding trim_end
trim_dropped p [] b is = ap (λ t. cond t [] (b ∷ [])) (both {b = true} is refl)
trim_dropped p (x ∷ xs) b is =
    let same : list_all p (xs ++ b ∷ []) ≡ list_all p xs = all_but p xs b is in
    ap (λ t. cond (p x && t) [] (x ∷ trim_end p (xs ++ b ∷ []))) same ∙ ap (λ l. cond (p x && list_all p xs) [] (x ∷ l)) (trim_dropped p xs b is)

trim_halt : (p : ℕ → Bool) (xs : List ℕ) (b : ℕ) → p b ≡ false → trim_end p (xs ++ b ∷ []) ≡ xs ++ b ∷ []
trim_halt p xs b is = trim_kept p (xs ++ b ∷ []) (end_behind p xs b [] ∙ last_one p b ∙ is)

last_taken : (bytes : List ℕ) (e : ℕ) → 0 < e → e ≤ length bytes → take e bytes ≡ take (e - 1) bytes ++ get_or bytes (e - 1) 0 ∷ []
last_taken bytes e some within = let same : e ≡ (e - 1) + 1 = omega arith in ap (λ k. take k bytes) same ∙ take_next bytes (e - 1) (omega arith)

-- Trimming ends at a byte that is not to be trimmed.
pub trim_stop : (p : ℕ → Bool) (bytes : List ℕ) (e : ℕ) → 0 < e → e ≤ length bytes → p (get_or bytes (e - 1) 0) ≡ false → trim_end p bytes ≡ trim_end p (take e bytes) → take e bytes ≡ trim_end p bytes
trim_stop p bytes e some within other front =
    sym (front ∙ ap (trim_end p) (last_taken bytes e some within) ∙ trim_halt p (take (e - 1) bytes) (get_or bytes (e - 1) 0) other ∙ sym (last_taken bytes e some within))

-- Trimming goes on at a byte that is to be trimmed.
pub trim_more : (p : ℕ → Bool) (bytes : List ℕ) (e : ℕ) → 0 < e → e ≤ length bytes → p (get_or bytes (e - 1) 0) ≡ true → trim_end p bytes ≡ trim_end p (take e bytes) → trim_end p bytes ≡ trim_end p (take (e - 1) bytes)
trim_more p bytes e some within is front =
    front ∙ ap (trim_end p) (last_taken bytes e some within) ∙ trim_dropped p (take (e - 1) bytes) (get_or bytes (e - 1) 0) is

trim_nothing : (p : ℕ → Bool) → trim_end p [] ≡ []
unfolding trim_end
trim_nothing p = refl

take_none : (bytes : List ℕ) (e : ℕ) → e ≡ 0 → take e bytes ≡ []
take_none bytes e none = ap (λ k. take k bytes) none

pub trim_done : (p : ℕ → Bool) (bytes : List ℕ) (e : ℕ) → e ≡ 0 → trim_end p bytes ≡ trim_end p (take e bytes) → [] ≡ trim_end p bytes
trim_done p bytes e none front = sym (front ∙ ap (trim_end p) (take_none bytes e none) ∙ trim_nothing p)

not_cr : (x : ℕ) → x ≢ 13 → is_cr x ≡ false
not_cr x other = grind (arith, nat_tests)

yes_cr : (x : ℕ) → x ≡ 13 → is_cr x ≡ true
yes_cr x is = grind (arith, nat_tests)

pub cr_stop : (bytes : List ℕ) (e : ℕ) → 0 < e → e ≤ length bytes → get_or bytes (e - 1) 0 ≢ 13 → trim_end is_cr bytes ≡ trim_end is_cr (take e bytes) → take e bytes ≡ trim_end is_cr bytes
cr_stop bytes e some within other front = trim_stop is_cr bytes e some within (not_cr (get_or bytes (e - 1) 0) other) front

pub cr_more : (bytes : List ℕ) (e : ℕ) → 0 < e → e ≤ length bytes → get_or bytes (e - 1) 0 ≡ 13 → trim_end is_cr bytes ≡ trim_end is_cr (take e bytes) → trim_end is_cr bytes ≡ trim_end is_cr (take (e - 1) bytes)
cr_more bytes e some within is front = trim_more is_cr bytes e some within (yes_cr (get_or bytes (e - 1) 0) is) front

pub cr_end : (bytes : List ℕ) (e : ℕ) → e ≡ 0 → trim_end is_cr bytes ≡ trim_end is_cr (take e bytes) → [] ≡ trim_end is_cr bytes
cr_end bytes e none front = trim_done is_cr bytes e none front

pub margin_stop : (bytes : List ℕ) (e : ℕ) → 0 < e → e ≤ length bytes → is_margin (get_or bytes (e - 1) 0) ≡ false → trim_end is_margin bytes ≡ trim_end is_margin (take e bytes) → take e bytes ≡ trim_end is_margin bytes
margin_stop bytes e some within other front = trim_stop is_margin bytes e some within other front

pub margin_more : (bytes : List ℕ) (e : ℕ) → 0 < e → e ≤ length bytes → is_margin (get_or bytes (e - 1) 0) ≡ true → trim_end is_margin bytes ≡ trim_end is_margin (take e bytes) → trim_end is_margin bytes ≡ trim_end is_margin (take (e - 1) bytes)
margin_more bytes e some within is front = trim_more is_margin bytes e some within is front

pub margin_end : (bytes : List ℕ) (e : ℕ) → e ≡ 0 → trim_end is_margin bytes ≡ trim_end is_margin (take e bytes) → [] ≡ trim_end is_margin bytes
margin_end bytes e none front = trim_done is_margin bytes e none front
