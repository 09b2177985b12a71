-- Lemmas about numbers and bytes, given their hexadecimal digits.
use Rattle.std.proofs.Common.{◌≡◌, ℕ, ◌+◌, ◌*◌, ◌%◌, ◌^◌, ◌<◌, ◌≤◌, cond, ◌⊎◌, inl, inr, List, [], ◌∷◌, length, drop, get_or, Option, Some, None, Result, Ok, Err, refl, sym, ◌∙◌, ap, arith}
use Rattle.std.specs.Option.{option_map, option_and_then}
use Rattle.std.specs.Result.{result_ok}
use Rattle.std.proofs.Math.Nat.{pow-le-pow_right}
use Rattle.std.proofs.lemmas.List.{at_drop_more, at_drop_all}
use Rattle.std.proofs.lemmas.Bool.{lt-ltb, le-ltb, cases_eq}
use Rattle.std.proofs.lemmas.Bool.Decides.{nat_tests}
use Rattle.std.proofs.lemmas.Grind.{common_steps}
use Rattle.hex.specs.Hex.{hex_digit_value, decode_of, decode_pairs, digit_or_error, ◌>>=◌}
use Rattle.hex.specs.declared.error.FromHexError.{FromHexError}
use Rattle.hex.specs.declared.error.FromHexError.TheVariants.{OutOfMemory}
use Rattle.hex.proofs.HexLemmas.{decode_of-even, decode_of-odd}
use Rattle.sym_records.specs.FieldReading.{hex_digit, hex_onto, hex_value}
use Rattle.state_file.specs.StateText.{byte_of, bytes_of}

pub hex_long : (ds : List ℕ) → 16 < length ds → hex_value ds ≡ None
unfolding hex_value
hex_long ds long = ap (λ t. cond t None (hex_onto 0 ds)) (lt-ltb 16 (length ds) long)

hex_short : (ds : List ℕ) → length ds ≤ 16 → hex_value ds ≡ hex_onto 0 ds
unfolding hex_value
hex_short ds short = ap (λ t. cond t None (hex_onto 0 ds)) (le-ltb 16 (length ds) short)

onto_at : (ds : List ℕ) (i n : ℕ) → i < length ds → hex_onto n (drop i ds) ≡ option_and_then (λ v. hex_onto (n * 16 + v) (drop (i + 1) ds)) (hex_digit (get_or ds i 0))
unfolding hex_onto
onto_at ds i n within = at_drop_more (hex_onto n) ds i 0 within

pub hex_more : (ds : List ℕ) (i n v : ℕ) → i < length ds → Some v ≡ hex_digit (get_or ds i 0) → hex_onto 0 ds ≡ hex_onto n (drop i ds) → hex_onto 0 ds ≡ hex_onto (n * 16 + v) (drop (i + 1) ds)
hex_more ds i n v within is so_far = so_far ∙ onto_at ds i n within ∙ ap (option_and_then (λ x. hex_onto (n * 16 + x) (drop (i + 1) ds))) (sym is)

pub hex_bad : (ds : List ℕ) (i n : ℕ) → length ds ≤ 16 → i < length ds → None ≡ hex_digit (get_or ds i 0) → hex_onto 0 ds ≡ hex_onto n (drop i ds) → hex_value ds ≡ None
hex_bad ds i n short within is so_far =
    hex_short ds short ∙ so_far ∙ onto_at ds i n within ∙ ap (option_and_then (λ x. hex_onto (n * 16 + x) (drop (i + 1) ds))) (sym is)

pub hex_end : (ds : List ℕ) (i n : ℕ) → length ds ≤ 16 → length ds ≤ i → hex_onto 0 ds ≡ hex_onto n (drop i ds) → hex_value ds ≡ Some n
unfolding hex_onto
hex_end ds i n short past so_far = hex_short ds short ∙ so_far ∙ at_drop_all (hex_onto n) ds i past

-- A number with this many digits.
pub hex_grows : (n v i : ℕ) → n < 16 ^ i → v < 16 → n * 16 + v < 16 ^ (i + 1)
hex_grows n v i less small = grind (arith, common_steps)

pub hex_room : (n i : ℕ) → n < 16 ^ i → i < 16 → n < 2 ^ 60
hex_room n i less few = let most : 16 ^ i ≤ 16 ^ 15 = pow-le-pow_right {n = 16} (omega arith) {i = i} {j = 15} (omega arith) in omega arith

-- The digits of the crate `hex` are those of a state file.
same_digit : (d : ℕ) → hex_digit_value d ≡ hex_digit d
unfolding hex_digit
same_digit d = grind (arith, nat_tests)

-- Two digits, and those after them.
pair_by : (a b i : ℕ) (high low : Option ℕ) (later : Result (List ℕ) FromHexError)
    → result_ok (digit_or_error a i high >>= (λ h. digit_or_error b (i + 1) low >>= (λ l. Ok (h * 16 + l))) >>= (λ byte. later >>= (λ bytes. Ok (byte ∷ bytes))))
    ≡ option_and_then (λ byte. option_map (λ bytes. byte ∷ bytes) (result_ok later)) (option_and_then (λ h. option_map (λ l. h * 16 + l) low) high)
pair_by a b i None low later = refl
pair_by a b i (Some h) None later = refl
pair_by a b i (Some h) (Some l) (Ok bytes) = refl
pair_by a b i (Some h) (Some l) (Err e) = refl

pairs_are : (i : ℕ) (ds : List ℕ) → result_ok (decode_pairs i ds) ≡ bytes_of ds
unfolding decode_pairs bytes_of
pairs_are i [] = refl
pairs_are i (a ∷ []) = refl
pairs_are i (a ∷ b ∷ ds) = rw (← pairs_are (i + 2) ds, ← same_digit a, ← same_digit b) (pair_by a b i (hex_digit_value a) (hex_digit_value b) (decode_pairs (i + 2) ds))

-- An odd number of digits is no run of bytes.
no_bytes : (byte : Option ℕ) → option_and_then (λ b. option_map (λ bytes. b ∷ bytes) None) byte ≡ None
no_bytes None = refl
no_bytes (Some b) = refl

odd_run : (ds : List ℕ) → length ds % 2 ≡ 1 → bytes_of ds ≡ None
unfolding bytes_of
odd_run [] odd = absurd (omega arith)
odd_run (a ∷ []) odd = refl
odd_run (a ∷ b ∷ ds) odd = rw (odd_run ds (omega arith)) (no_bytes (byte_of a b))

decoded : (ds : List ℕ) → result_ok (decode_of ds) ≡ bytes_of ds
decoded ds =
    elim (cases_eq (length ds % 2) 1) [
      | inl odd ↦ ap result_ok (decode_of-odd ds odd) ∙ sym (odd_run ds odd)
      | inr even ↦ ap result_ok (decode_of-even ds (omega arith)) ∙ pairs_are 0 ds
    ]

-- If the crate `hex` decodes digits, these are the bytes of the definition.
pub bytes_are : (ds bytes : List ℕ) → decode_of ds ≡ Ok bytes → bytes_of ds ≡ Some bytes
bytes_are ds bytes is = sym (decoded ds) ∙ ap result_ok is

pub no_run : (ds : List ℕ) (e : FromHexError) → (e ≡ OutOfMemory) ⊎ (decode_of ds ≡ Err e) → (e ≡ OutOfMemory → ⊥) → bytes_of ds ≡ None
no_run ds e (inl short) other = absurd (other short)
no_run ds e (inr is) other = sym (decoded ds) ∙ ap result_ok is
