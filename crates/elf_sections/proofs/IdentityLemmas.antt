use Rattle.std.proofs.Common.{◌≡◌, ◌≢◌, ℕ, zero, suc, ◌+◌, ◌-◌, ◌%◌, ◌<◌, ◌≤◌, ◌==◌, Bool, true, false, cond, List, [], ◌∷◌, ◌++◌, length, map, take, drop, replicate, min, get_or, set, refl, sym, ◌∙◌, ap, arith, eq-eqb, nat_le}
use Rattle.std.proofs.lemmas.Bool.Decides.{nat_tests}
use Rattle.std.proofs.lemmas.Grind.{get_or-set_at}
use Rattle.std.proofs.lemmas.List.{drop-replicate, take_all, get_or-set_other}
use Rattle.std.proofs.lemmas.List.Sums.{fold-append}
use Rattle.std.proofs.lemmas.List.FromFn.{map-range_with_len_more}
use Rattle.std.specs.List.{fold, range_with_len}
use Rattle.std.specs.Int.Bits.{bit_xor, xor_zero_r}
use Rattle.elf_sections.specs.Identity.{folded, front16, folded_byte}

-- The fold of no bytes.
pub folded_none : (text : List ℕ) (j : ℕ) → folded_byte 0 text j ≡ 0
unfolding folded_byte
folded_none text j = refl

folded_more : (text : List ℕ) (n j : ℕ) (b : Bool) → (n % 16 == j) ≡ b → folded_byte (n + 1) text j ≡ bit_xor (folded_byte n text j) (cond b (get_or text n 0) 0)
unfolding folded_byte
folded_more text n j b is =
    let f : ℕ → ℕ = λ k. cond (k % 16 == j) (get_or text k 0) 0 in
    ap (fold bit_xor 0) (map-range_with_len_more f 0 n n (omega arith))
    ∙ fold-append bit_xor 0 (map f (range_with_len 0 n)) (f n ∷ [])
    ∙ ap (λ t. bit_xor (fold bit_xor 0 (map f (range_with_len 0 n))) (cond t (get_or text n 0) 0)) is

-- One more byte changes the folded byte at its place modulo 16.
pub folded_here : (text : List ℕ) (n j : ℕ) → n % 16 ≡ j → folded_byte (n + 1) text j ≡ bit_xor (folded_byte n text j) (get_or text n 0)
folded_here text n j is = folded_more text n j true (eq-eqb (n % 16) j is)

-- It leaves the other folded bytes.
pub folded_other : (text : List ℕ) (n j : ℕ) → n % 16 ≢ j → folded_byte (n + 1) text j ≡ folded_byte n text j
folded_other text n j is =
    let other : (n % 16 == j) ≡ false = grind (arith, nat_tests) in
    folded_more text n j false other ∙ xor_zero_r (folded_byte n text j)

values : (xs : List ℕ) (f : ℕ → ℕ) (a m : ℕ) → length xs ≡ m → ((j : ℕ) → j < m → get_or xs j 0 ≡ f (a + j)) → xs ≡ map f (range_with_len a m)
values [] f a zero len each = refl
values [] f a (suc m) len each = cc
values (x ∷ xs) f a zero len each = cc
values (x ∷ xs) f a (suc m) len each =
    let first : x ≡ f a = each 0 (omega arith) ∙ (let e : a + 0 ≡ a = omega arith in ap f e) in
    let later = values xs f (a + 1) m (omega arith) (λ j lt. each (suc j) (omega arith) ∙ (let e : a + suc j ≡ (a + 1) + j = omega arith in ap f e)) in
    ap (λ y. y ∷ xs) first ∙ ap (λ ys. f a ∷ ys) later

-- Sixteen bytes with the folded values are the folded text.
pub folded_is : (identity text : List ℕ) (limit n : ℕ) → n ≡ min limit (length text) → length identity ≡ 16 → ((j : ℕ) → j < 16 → get_or identity j 0 ≡ folded_byte n text j) → identity ≡ folded limit text
unfolding folded
folded_is identity text limit n is len each =
    values identity (folded_byte (min limit (length text)) text) 0 16 len
    (λ j lt. each j lt ∙ ap (λ k. folded_byte k text j) is ∙ (let e : j ≡ 0 + j = omega arith in ap (folded_byte (min limit (length text)) text) e))

pub zero_at : (n j : ℕ) → ◌≡◌ {A = ℕ} (get_or (replicate n 0) j 0) 0
zero_at zero j = refl
zero_at (suc n) zero = refl
zero_at (suc n) (suc j) = zero_at n j

front_by : (id : List ℕ) (m count : ℕ) (b : Bool) → nat_le (length id) m ≡ b → count ≡ min (length id) m → take count id ≡ take m id
front_by id m count true test is = let few : length id ≤ m = grind (arith, nat_tests) in take_all count id (omega arith) ∙ sym (take_all m id few)
front_by id m count false test is = let many : m < length id = grind (arith, nat_tests) in let e : count ≡ m = omega arith in ap (λ k. take k id) e

front : (id : List ℕ) (m count : ℕ) → count ≡ min (length id) m → take count id ≡ take m id
front id m count is = front_by id m count (nat_le (length id) m) refl is

padded_to : (id : List ℕ) (m count : ℕ) → count ≡ min (length id) m → take count id ++ drop count (replicate m 0) ≡ take m id ++ replicate (m - length id) 0
padded_to id m count is =
    let rest : drop count (replicate m 0) ≡ replicate (m - length id) 0 =
    drop-replicate count m 0 ∙ (let e : m - count ≡ m - length id = omega arith in ap (λ k. replicate k 0) e) in
    ap (λ r. take count id ++ r) rest ∙ ap (λ f. f ++ replicate (m - length id) 0) (front id m count is)

-- An id, padded with zeros.
pub front16_is : (id : List ℕ) (count : ℕ) → count ≡ min (length id) 16 → take count id ++ drop count (replicate 16 0) ≡ front16 id
unfolding front16
front16_is id count is = padded_to id 16 count is

folded_set_by : (text identity : List ℕ) (n j : ℕ) (b : Bool) → (n % 16 == j) ≡ b → n % 16 < length identity → get_or identity j 0 ≡ folded_byte n text j → get_or (set identity (n % 16) (bit_xor (get_or identity (n % 16) 0) (get_or text n 0))) j 0 ≡ folded_byte (n + 1) text j
folded_set_by text identity n j true test inside is =
    let same : n % 16 ≡ j = grind (arith, nat_tests) in
    get_or-set_at identity (n % 16) j (bit_xor (get_or identity (n % 16) 0) (get_or text n 0)) 0 (sym same) inside
    ∙ ap (λ k. bit_xor (get_or identity k 0) (get_or text n 0)) same ∙ ap (λ v. bit_xor v (get_or text n 0)) is ∙ sym (folded_here text n j same)
folded_set_by text identity n j false test inside is =
    let other : j ≢ n % 16 = λ e. absurd (grind (arith, nat_tests, e)) in
    get_or-set_other identity (n % 16) j (bit_xor (get_or identity (n % 16) 0) (get_or text n 0)) 0 other
    ∙ is ∙ sym (folded_other text n j (λ e. other (sym e)))

-- One more byte folded into the identity.
pub folded_set : (text identity : List ℕ) (n j : ℕ) → n % 16 < length identity → get_or identity j 0 ≡ folded_byte n text j → get_or (set identity (n % 16) (bit_xor (get_or identity (n % 16) 0) (get_or text n 0))) j 0 ≡ folded_byte (n + 1) text j
folded_set text identity n j inside is = folded_set_by text identity n j (n % 16 == j) refl inside is
