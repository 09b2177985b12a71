-- Words of memory, read from the lowest byte on.
use Rattle.std.proofs.Common.{◌≡◌, ◌+◌, ◌-◌, ◌*◌, ◌^◌, ◌%◌, ◌<◌, ◌≤◌, ℕ, suc, ltb, cond, Bool, true, false, List, Option, None, Some, refl, sym, ap, ◌∙◌, arith, add-zero, add_assoc, lit<, inl, inr, Fits, w64}
use Rattle.std.proofs.Math.Nat.{mul-le-mul_right, pow-le-pow_right}
use Rattle.std.proofs.lemmas.Nat.{pow-add, shl_whole}
use Rattle.std.proofs.lemmas.Bool.{lt-ltb, le-ltb, cases_lt}
use Rattle.std.specs.Option.{option_map, option_and_then}
use Rattle.cfi_eval.specs.declared.memory.MemRun.{MemRun}
use Rattle.cfi_eval.specs.Bytes.{byte_at, number_at, word_at}
use Rattle.cfi_eval.proofs.OptionLemmas.{map_map, map_same, map_alike, map_none}

-- A number by its lowest byte.
pub number_known : (runs : List MemRun) (n a byte : ℕ) → a < 2 ^ 64 → Some byte ≡ byte_at runs a → number_at runs (suc n) a ≡ option_map (λ high. byte + 256 * high) (number_at runs n (a + 1))
unfolding number_at
number_known runs n a byte l h = rw (lt-ltb a (2 ^ 64) l, sym h) refl

unknown : (b : Bool) (o : Option ℕ) (f : ℕ → Option ℕ) → o ≡ None → cond b (option_and_then f o) None ≡ None
unknown true o f e = ap (option_and_then f) e
unknown false o f e = refl

pub number_unknown : (runs : List MemRun) (n a : ℕ) → None ≡ byte_at runs a → number_at runs (suc n) a ≡ None
unfolding number_at
number_unknown runs n a h = unknown (ltb a (2 ^ 64)) (byte_at runs a) (λ low. option_map (λ high. low + 256 * high) (number_at runs n (a + 1))) (sym h)

pub number_past : (runs : List MemRun) (n a : ℕ) → 2 ^ 64 ≤ a → number_at runs (suc n) a ≡ None
unfolding number_at
number_past runs n a l = rw (le-ltb a (2 ^ 64) l) refl

-- The word that the bytes read so far give.
pub record Partly (runs : List MemRun) (a word place : ℕ) : Type 0 where
  pub small : word < 2 ^ (8 * place)
  pub value : word_at runs a ≡ option_map (λ high. word + 2 ^ (8 * place) * high) (number_at runs (8 - place) (a + place))

pub partly_none : (runs : List MemRun) (a : ℕ) → Partly runs a 0 0
unfolding word_at
partly_none runs a = record {
  small = lit< tt;
  value = sym (map_same (λ high. 0 + 1 * high) (number_at runs 8 (a + 0)) (λ h. omega arith) ∙ ap (number_at runs 8) (add-zero a));
}

-- The next byte is known.
times_256 : (place : ℕ) → 2 ^ (8 * (place + 1)) ≡ 2 ^ (8 * place) * 256
times_256 place = let e : 8 * (place + 1) ≡ 8 * place + 8 = omega arith in ap (λ n. 2 ^ n) e ∙ pow-add 2 (8 * place) 8

below_next : (word byte p : ℕ) → word < p → byte < 256 → word + byte * p < p * 256
below_next word byte p w b = let most : byte * p ≤ 255 * p = mul-le-mul_right p (omega arith) in omega arith

shifted : (byte place : ℕ) → byte < 256 → place < 8 → byte * 2 ^ (8 * place) % 2 ^ 64 ≡ byte * 2 ^ (8 * place)
shifted byte place b p = shl_whole byte 8 (8 * place) 64 b (omega arith)

pub more_small : (word byte place : ℕ) → word < 2 ^ (8 * place) → byte < 256 → place < 8 → word + byte * 2 ^ (8 * place) % 2 ^ 64 < 2 ^ (8 * (place + 1))
more_small word byte place w b p = rw (shifted byte place b p, times_256 place) (below_next word byte (2 ^ (8 * place)) w b)

more_values : (word byte p high : ℕ) → word + p * (byte + 256 * high) ≡ (word + byte * p) + p * 256 * high
more_values word byte p high = omega arith

pub partly_more : (runs : List MemRun) (a word place byte : ℕ) → Partly runs a word place → place < 8 → a + place < 2 ^ 64 → byte < 256 → Some byte ≡ byte_at runs (a + place)
    → Partly runs a (word + byte * 2 ^ (8 * place) % 2 ^ 64) (place + 1)
partly_more runs a word place byte h p l b e = record {
  small = more_small word byte place h.small b p;
  value =
      let left : 8 - place ≡ suc (8 - (place + 1)) = omega arith in
      let next : number_at runs (8 - place) (a + place) ≡ option_map (λ high. byte + 256 * high) (number_at runs (8 - (place + 1)) (a + (place + 1))) =
      ap (λ n. number_at runs n (a + place)) left ∙ number_known runs (8 - (place + 1)) (a + place) byte l e
      ∙ ap (λ n. option_map (λ high. byte + 256 * high) (number_at runs (8 - (place + 1)) n)) (add_assoc a place 1) in
      h.value ∙ ap (option_map (λ high. word + 2 ^ (8 * place) * high)) next
      ∙ map_map (λ high. word + 2 ^ (8 * place) * high) (λ high. byte + 256 * high) (number_at runs (8 - (place + 1)) (a + (place + 1)))
      ∙ map_alike _ _ (number_at runs (8 - (place + 1)) (a + (place + 1))) (λ high. more_values word byte (2 ^ (8 * place)) high
      ∙ ap (λ v. (word + v) + 2 ^ (8 * place) * 256 * high) (sym (shifted byte place b p))
      ∙ ap (λ v. (word + byte * 2 ^ (8 * place) % 2 ^ 64) + v * high) (sym (times_256 place)));
}

-- The next byte is not known, or its address is not below 2^64.
pub partly_unknown : (runs : List MemRun) (a word place : ℕ) → Partly runs a word place → place < 8 → None ≡ byte_at runs (a + place) → None ≡ word_at runs a
partly_unknown runs a word place h p e =
    let left : 8 - place ≡ suc (8 - (place + 1)) = omega arith in
    sym (h.value ∙ map_none _ _ (ap (λ n. number_at runs n (a + place)) left ∙ number_unknown runs (8 - (place + 1)) (a + place) e))

pub partly_past : (runs : List MemRun) (a word place : ℕ) → Partly runs a word place → place < 8 → 2 ^ 64 ≤ a + place → None ≡ word_at runs a
partly_past runs a word place h p l =
    let left : 8 - place ≡ suc (8 - (place + 1)) = omega arith in
    sym (h.value ∙ map_none _ _ (ap (λ n. number_at runs n (a + place)) left ∙ number_past runs (8 - (place + 1)) (a + place) l))

times_0 : (word p : ℕ) → word + p * 0 ≡ word
times_0 word p = omega arith

-- All eight bytes were read.
pub partly_all : (runs : List MemRun) (a word place : ℕ) → Partly runs a word place → place ≡ 8 → Some word ≡ word_at runs a
unfolding number_at
partly_all runs a word place h e =
    let none : 8 - place ≡ 0 = omega arith in
    sym (h.value ∙ ap (λ n. option_map (λ high. word + 2 ^ (8 * place) * high) (number_at runs n (a + place))) none ∙ ap Some (times_0 word (2 ^ (8 * place))))

pub above_from : (a place from : ℕ) → from ≡ place → (a + from < 2 ^ 64 → ⊥) → 2 ^ 64 ≤ a + place
above_from a place from e h = elim (cases_lt (a + place) (2 ^ 64)) [ inl l ↦ absurd (h (omega arith)) | inr le ↦ le ]

pub more_fits : (word wide byte place : ℕ) → word < 2 ^ (8 * place) → wide ≡ byte → byte < 256 → place < 8 → Fits w64 (word + wide * 2 ^ (8 * place) % 2 ^ 64)
more_fits word wide byte place w e b p =
    let small : word + wide * 2 ^ (8 * place) % 2 ^ 64 < 2 ^ (8 * (place + 1)) = more_small word wide place w (omega arith) p in
    let most : 2 ^ (8 * (place + 1)) ≤ 2 ^ 64 = pow-le-pow_right {n = 2} (omega arith) {i = 8 * (place + 1)} {j = 64} (omega arith) in
    omega arith
