-- The two results of reading a text, given the result of `memchr`.
use Rattle.std.proofs.Common.{◌≡◌, ◌<◌, ◌+◌, ℕ, List, length, drop, take, eqb, Option, None, Some, Ok, Err, sym, ap, subst, ◌∙◌, arith}
use Rattle.std.proofs.lemmas.Bool.{false_from_ne_true}
use Rattle.std.specs.List.{position}
use Rattle.memchr.specs.Find.{IsFirstByte, is_byte}
use Rattle.leb_cursor.specs.declared.fault.CursorFault.TheVariants.{NoZero}
use Rattle.leb_cursor.specs.Ahead.{Ahead, passed}
use Rattle.std.specs.Option.{option_map}
use Rattle.std.proofs.lemmas.List.{length-take}
use Rattle.leb_cursor.specs.Texts.{front_text}
use Rattle.leb_cursor.specs.Readings.{text_at, text_by}
use Rattle.leb_cursor.proofs.AheadLemmas.{moved}
use Rattle.leb_cursor.proofs.PlaceLemmas.{position_some, position_none}

position_found : (hay : List ℕ) (found : Option ℕ) → IsFirstByte (is_byte 0) hay found → position (λ byte. eqb byte 0) hay ≡ found
position_found hay None h =
    position_none (λ byte. eqb byte 0) hay (λ k below. false_from_ne_true _ (h k (omega arith) below))
position_found hay (Some k) h =
    position_some (λ byte. eqb byte 0) hay k h.0.high (λ j below. false_from_ne_true _ (h.0.before j (omega arith) below)) h.1

text_found : (hay : List ℕ) (found : Option ℕ) → IsFirstByte (is_byte 0) hay found → front_text hay ≡ option_map (λ n. take n hay) found
unfolding front_text
text_found hay found h = ap (option_map (λ (n : ℕ). take n hay)) (position_found hay found h)

text_is : (c : Ahead) (rest : List ℕ) (found : Option ℕ) → rest ≡ c.bytes → IsFirstByte (is_byte 0) rest found → text_at c ≡ text_by c (option_map (λ n. take n c.bytes) found)
unfolding text_at
text_is c rest found same h =
    ap (text_by c) (text_found c.bytes found (subst (λ (r : List ℕ). IsFirstByte (is_byte 0) r found) same h))

pub text_open : (c : Ahead) (rest : List ℕ) → rest ≡ c.bytes → IsFirstByte (is_byte 0) rest None → text_at c ≡ Err (NoZero c.at)
text_open c rest same h = text_is c rest None same h

-- The text is read, and the cursor's place moves past its zero byte.
pub text_moved : (n place : ℕ) (bytes rest : List ℕ) (c : Ahead) → record { bytes = drop place bytes; at = place } ≡ c → rest ≡ c.bytes → IsFirstByte (is_byte 0) rest (Some n) → text_at c ≡ Ok (take n rest, record { bytes = drop (place + (n + 1)) bytes; at = place + (n + 1) })
text_moved n place bytes rest c is same h =
    let there : n < length rest = h.0.high in
    let long : length (take n rest) ≡ n = omega (arith, length-take n rest) in
    text_is c rest (Some n) same h
    ∙ ap (λ (r : List ℕ). Ok (take n r, passed (length (take n r) + 1) c)) (sym same)
    ∙ ap (λ (k : ℕ). Ok (take n rest, passed (k + 1) c)) long
    ∙ ap (λ (d : Ahead). Ok (take n rest, d)) (moved (n + 1) place bytes c is)
