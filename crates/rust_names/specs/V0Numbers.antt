-- The numbers of v0 names (RFC 2603) in base 62 and in hexadecimal. Numbers in base 62 are below 2^64, as in the Rust project's demangler.
use Rattle.std.specs.Prelude.{ℕ, ◌+◌, ◌-◌, ◌*◌, ◌^◌, ◌==◌, nat_lt, nat_le, ◌&&◌, true, false, if◌then◌else◌, List, [], ◌∷◌, Option, Some, None}
use Rattle.std.specs.Option.{option_map, option_and_then}

-- the first byte, and those after it
unfoldable pub front : List ℕ → Option (ℕ × List ℕ)
front [] = None
front (b ∷ bytes) = Some (b, bytes)

-- the bytes after the first one, if that is `wanted`
abbrev pub if_first : ℕ → Option (ℕ × List ℕ) → Option (List ℕ)
if_first wanted None = None
if_first wanted (Some x) = if x.0 == wanted then Some x.1 else None

unfoldable pub eat : ℕ → List ℕ → Option (List ℕ)
eat wanted bytes = if_first wanted (front bytes)

-- the value of a digit: 0 to 9, then a to z, then A to Z
abbrev pub base_62_digit : ℕ → Option ℕ
base_62_digit b =
    if nat_le 48 b && nat_le b 57 then Some (b - 48)
    else if nat_le 97 b && nat_le b 122 then Some (b - 87)
    else if nat_le 65 b && nat_le b 90 then Some (b - 29)
    else None

-- a number, if it is below 2^64
abbrev pub below_64 : ℕ → Option ℕ
below_64 n = if nat_lt n (2 ^ 64) then Some n else None

abbrev pub next_62 : ℕ → Option ℕ → Option ℕ
next_62 value None = None
next_62 value (Some digit) = below_64 (value * 62 + digit)

-- the digits up to `_`, where the digits before them have the value `value`: one more than the
-- value of all these digits, and the bytes after the `_`
unfoldable pub base_62_from : ℕ → List ℕ → Option (ℕ × List ℕ)
base_62_from value [] = None
base_62_from value (b ∷ bytes) = elim (b == 95) [
  | true ↦ option_map (λ n. (n, bytes)) (below_64 (value + 1))
  | false ↦ option_and_then (λ more. base_62_from more bytes) (next_62 value (base_62_digit b))
]

-- <base-62-number>: `_` alone is 0; digits and `_` are one more than the value of the digits
abbrev pub base_62_by : List ℕ → Option (List ℕ) → Option (ℕ × List ℕ)
base_62_by bytes (Some after) = Some (0, after)
base_62_by bytes None = base_62_from 0 bytes

unfoldable pub base_62 : List ℕ → Option (ℕ × List ℕ)
base_62 bytes = base_62_by bytes (eat 95 bytes)

-- one more than a number
abbrev pub raised : Option (ℕ × List ℕ) → Option (ℕ × List ℕ)
raised None = None
raised (Some (n, bytes)) = option_map (λ more. (more, bytes)) (below_64 (n + 1))

-- <disambiguator> (`s`) and <binder> (`G`): one more than the number after the letter, or 0 if the letter is missing
abbrev pub after_letter_by : List ℕ → Option (List ℕ) → Option (ℕ × List ℕ)
after_letter_by bytes (Some after) = raised (base_62 after)
after_letter_by bytes None = Some (0, bytes)

unfoldable pub after_letter : ℕ → List ℕ → Option (ℕ × List ℕ)
after_letter letter bytes = after_letter_by bytes (eat letter bytes)

-- the value of a hexadecimal digit in lower case
abbrev pub hex_digit : ℕ → Option ℕ
hex_digit b =
    if nat_le 48 b && nat_le b 57 then Some (b - 48)
    else if nat_le 97 b && nat_le b 102 then Some (b - 87)
    else None

abbrev pub with_digit : ℕ → Option ℕ → Option (List ℕ × List ℕ) → Option (List ℕ × List ℕ)
with_digit b None later = None
with_digit b (Some digit) later = option_map (λ x. (b ∷ x.0, x.1)) later

-- <const-data>: the hexadecimal digits up to `_`, and the bytes after the `_`
unfoldable pub hex_digits : List ℕ → Option (List ℕ × List ℕ)
hex_digits [] = None
hex_digits (b ∷ bytes) = elim (b == 95) [
  | true ↦ Some ([], bytes)
  | false ↦ with_digit b (hex_digit b) (hex_digits bytes)
]

abbrev pub next_hex : ℕ → Option ℕ → Option ℕ
next_hex value None = None
next_hex value (Some digit) = below_64 (value * 16 + digit)

-- the value of hexadecimal digits, if it is below 2^64
unfoldable pub hex_from : ℕ → List ℕ → Option ℕ
hex_from value [] = Some value
hex_from value (b ∷ digits) = option_and_then (λ more. hex_from more digits) (next_hex value (hex_digit b))
