-- The first line of a text (for `cut_line`).
use Rattle.std.proofs.Common.{◌≡◌, ℕ, ◌+◌, ◌<◌, ◌==◌, suc, Bool, true, List, [], ◌∷◌, ◌++◌, length, take, drop, get_or, Some, None, refl, sym, ◌∙◌, ap, arith}
use Rattle.std.specs.List.{list_all}
use Rattle.std.proofs.lemmas.Grind.{common_steps}
use Rattle.std.proofs.lemmas.List.{at_drop_more, take-append-drop}
use Rattle.std.proofs.lemmas.Bool.Decides.{nat_tests}
use Rattle.std.proofs.lemmas.Bool.{false_from_ne_true}
use Rattle.memchr.specs.Find.{IsFirstByte, is_byte}
use Rattle.sym_rules.proofs.BoolLemmas.{both, not_false}
use Rattle.sym_rules.specs.Cuts.{is_within_line}

all_by_place : (p : ℕ → Bool) (xs : List ℕ) → ((i : ℕ) → i < length xs → p (get_or xs i 0) ≡ true) → list_all p xs ≡ true
all_by_place p [] each = refl
all_by_place p (x ∷ xs) each = both (each 0 (omega arith)) (all_by_place p xs (λ i lt. each (suc i) (omega arith)))

not_end : (x : ℕ) → ((x == 10) ≡ true → ⊥) → is_within_line x ≡ true
not_end x other = not_false (false_from_ne_true (x == 10) other)

pub no_line_end : (bytes : List ℕ) → IsFirstByte (is_byte 10) bytes None → list_all is_within_line bytes ≡ true
no_line_end bytes none = all_by_place is_within_line bytes (λ i lt. not_end (get_or bytes i 0) (none i (omega arith) lt))

taken_at : (bytes : List ℕ) (k i : ℕ) → i < length (take k bytes) → k < length bytes → (i < k) × (get_or (take k bytes) i 0 ≡ get_or bytes i 0)
taken_at bytes k i lt within = let less : i < k = grind (arith, common_steps) in (less, grind (arith, common_steps))

pub line_before : (bytes : List ℕ) (k : ℕ) → IsFirstByte (is_byte 10) bytes (Some k) → list_all is_within_line (take k bytes) ≡ true
line_before bytes k first =
    let high : k < length bytes = first.0.high in
    all_by_place is_within_line (take k bytes) (λ i lt. (let at = taken_at bytes k i lt high in ap is_within_line at.1 ∙ not_end (get_or bytes i 0) (first.0.before i (omega arith) at.0)))

ten_is : (x : ℕ) → (x == 10) ≡ true → x ≡ 10
ten_is x is = grind (arith, nat_tests)

pub line_parts : (bytes : List ℕ) (k : ℕ) → IsFirstByte (is_byte 10) bytes (Some k) → bytes ≡ take k bytes ++ 10 ∷ drop (k + 1) bytes
line_parts bytes k first =
    let high : k < length bytes = first.0.high in
    sym (take-append-drop k bytes) ∙ ap (λ l. take k bytes ++ l) (at_drop_more (λ l. l) bytes k 0 high ∙ ap (λ b. b ∷ drop (k + 1) bytes) (ten_is (get_or bytes k 0) first.1))

pub line_cut : (bytes front later : List ℕ) (k : ℕ) → IsFirstByte (is_byte 10) bytes (Some k) → front ≡ take k bytes → later ≡ drop (k + 1) bytes → (list_all is_within_line front ≡ true) × (bytes ≡ front ++ 10 ∷ later)
line_cut bytes front later k first is next =
    (ap (list_all is_within_line) is ∙ line_before bytes k first, line_parts bytes k first ∙ ap (λ l. l ++ 10 ∷ drop (k + 1) bytes) (sym is) ∙ ap (λ l. front ++ 10 ∷ l) (sym next))
