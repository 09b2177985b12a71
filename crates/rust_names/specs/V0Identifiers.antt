-- The identifiers of v0 names (RFC 2603): a length in decimal, an optional `_`, and as many letters, digits and `_` as the length says. An identifier
-- that is marked with `u` is Punycode (RFC 3492): its digits come after the last `_`, which stands for the hyphen. If it has no `_`, it is digits
-- only.
use Rattle.std.specs.Prelude.{ℕ, ◌^◌, ◌==◌, ◌&&◌, ◌||◌, nat_le, nat_lt, Bool, true, false, if◌then◌else◌, List, ◌∷◌, ◌++◌, length, take, drop, encode_utf8_all, Option, Some, None}
use Rattle.std.specs.List.{list_all, before_last, after_last}
use Rattle.std.specs.Option.{option_map, option_and_then}
use Rattle.std.specs.Str.{is_utf8}
use Rattle.idna.specs.Punycode.{decode}
use Rattle.rust_names.specs.V0Numbers.{eat}
use Rattle.rust_names.specs.Digits.{digits_in_front, number_upto}

-- a letter, a digit or `_`
abbrev pub is_identifier_byte : ℕ → Bool
is_identifier_byte b = nat_le 48 b && nat_le b 57 || nat_le 65 b && nat_le b 90 || b == 95 || nat_le 97 b && nat_le b 122

-- a digit of Punycode
abbrev pub is_punycode_digit : ℕ → Bool
is_punycode_digit b = nat_le 48 b && nat_le b 57 || nat_le 97 b && nat_le b 122

-- the bytes after an optional `_`
abbrev pub or_all : List ℕ → Option (List ℕ) → List ℕ
or_all bytes None = bytes
or_all bytes (Some after) = after

unfoldable pub after_separator : List ℕ → List ℕ
after_separator bytes = or_all bytes (eat 95 bytes)

-- a length, and the bytes after it; the length is a single 0, or digits without a leading zero
abbrev pub length_by : List ℕ → Option (List ℕ) → Option (ℕ × List ℕ)
length_by bytes (Some after) = Some (0, after)
length_by bytes None = option_map (λ n. (n, drop (length (digits_in_front bytes)) bytes)) (number_upto (length bytes) (digits_in_front bytes))

unfoldable pub length_in_front : List ℕ → Option (ℕ × List ℕ)
length_in_front bytes = length_by bytes (eat 48 bytes)

-- the digits of Punycode after the last `_`, and the bytes before that `_`
abbrev pub punycode_digits : List ℕ → List ℕ
punycode_digits bytes = after_last (λ b. b == 95) bytes

abbrev pub punycode_plain : List ℕ → List ℕ
punycode_plain bytes = before_last (λ b. b == 95) bytes

-- an identifier that is marked must have one or more digits of Punycode, and nothing else after the
-- last `_`
abbrev pub is_well_marked : Bool → List ℕ → Bool
is_well_marked false bytes = true
is_well_marked true bytes = nat_lt 0 (length (punycode_digits bytes)) && list_all is_punycode_digit (punycode_digits bytes)

-- whether bytes may be an identifier
unfoldable pub is_identifier : Bool → List ℕ → Bool
is_identifier marked bytes = list_all is_identifier_byte bytes && is_well_marked marked bytes

-- the first `n` bytes as an identifier: whether it is marked, its bytes, and the bytes after it
abbrev pub identifier_cut : Bool → ℕ → List ℕ → Option (Bool × List ℕ × List ℕ)
identifier_cut marked n bytes = if nat_le n (length bytes) && is_identifier marked (take n bytes) then Some (marked, take n bytes, drop n bytes) else None

abbrev pub identifier_from : Bool → Option (ℕ × List ℕ) → Option (Bool × List ℕ × List ℕ)
identifier_from marked found = option_and_then (λ x. identifier_cut marked x.0 (after_separator x.1)) found

-- <identifier>
abbrev pub identifier_by : List ℕ → Option (List ℕ) → Option (Bool × List ℕ × List ℕ)
identifier_by bytes (Some after) = identifier_from true (length_in_front after)
identifier_by bytes None = identifier_from false (length_in_front bytes)

unfoldable pub identifier : List ℕ → Option (Bool × List ℕ × List ℕ)
identifier bytes = identifier_by bytes (eat 117 bytes)

-- Punycode with its hyphen, if anything stands before the last `_`
abbrev pub hyphened : List ℕ → List ℕ
hyphened bytes = if length (punycode_plain bytes) == 0 then punycode_digits bytes else punycode_plain bytes ++ 45 ∷ punycode_digits bytes

-- The characters that Punycode stands for, in UTF-8. Punycode of 2^32 bytes or more stands for none
-- here; its characters would not fit into a text.
abbrev pub decoded : List ℕ → Option (List ℕ)
decoded input = if nat_lt (length input) (2 ^ 32) then option_map encode_utf8_all (decode input) else None

-- what an identifier shows: its bytes, or the characters of its Punycode; Punycode that is not
-- UTF-8 shows nothing
unfoldable pub identifier_text : Bool → List ℕ → Option (List ℕ)
identifier_text false bytes = Some bytes
identifier_text true bytes = if is_utf8 (hyphened bytes) then decoded (hyphened bytes) else None

-- a byte of the name of a calling convention: `-` in place of `_`
abbrev pub dashed : ℕ → ℕ
dashed b = if b == 95 then 45 else b
