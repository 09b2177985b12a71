-- What the leaves of v0 names show: lifetimes by their depth, and the values of constants.
use Rattle.std.specs.Prelude.{ℕ, zero, suc, ◌+◌, ◌-◌, ◌*◌, ◌==◌, ◌&&◌, ◌||◌, nat_lt, nat_le, Bool, false, if◌then◌else◌, List, [], ◌∷◌, ◌++◌, length, codes, chars, decimal, Option, Some, None}
use Rattle.std.specs.List.{flat_map}
use Rattle.std.specs.Fmt.{digits}
use Rattle.std.specs.Str.{is_utf8}
use Rattle.rust_names.specs.V0Numbers.{hex_digit, hex_from}

-- a text with `more` added, if that has at most 65,536 bytes
abbrev pub say : List ℕ → List ℕ → Option (List ℕ)
say text more = if nat_le (length (text ++ more)) 65536 then Some (text ++ more) else None

-- the lifetime that is bound at a depth; the outermost has depth 0
abbrev pub lifetime_name : ℕ → List ℕ
lifetime_name depth = if nat_lt depth 26 then 39 ∷ (97 + depth) ∷ [] else codes "'_" ++ decimal depth

-- the text of a <lifetime>: number 0 is `'_`, and number 1 is the innermost bound lifetime
abbrev pub lifetime_text : ℕ → ℕ → Option (List ℕ)
lifetime_text bound n =
    if n == 0 then Some (codes "'_")
    else if nat_le n bound then Some (lifetime_name (bound - n))
    else None

-- `n` lifetimes from a depth on, each after a comma
abbrev pub next_lifetime : ℕ → List ℕ
next_lifetime depth = codes ", " ++ lifetime_name depth

abbrev pub lifetimes_from : ℕ → ℕ → List ℕ
lifetimes_from zero depth = []
lifetimes_from (suc n) depth = next_lifetime depth ++ lifetimes_from n (depth + 1)

-- the `for<..>` of the lifetimes that were bound last, given how many they are
abbrev pub for_all_text : ℕ → ℕ → List ℕ
for_all_text bound zero = []
for_all_text bound (suc n) = codes "for<" ++ lifetime_name (bound - (n + 1)) ++ lifetimes_from n (bound - n) ++ codes "> "

-- an integer: in decimal if it is below 2^64, otherwise `0x` and its digits
abbrev pub integer_by : List ℕ → Option ℕ → List ℕ
integer_by digits None = codes "0x" ++ digits
integer_by digits (Some n) = decimal n

unfoldable pub integer_text : List ℕ → List ℕ
integer_text digits = integer_by digits (hex_from 0 digits)

-- a `bool`: 0 or 1
abbrev pub boolean_by : Option ℕ → Option (List ℕ)
boolean_by None = None
boolean_by (Some n) = if n == 0 then Some (codes "false") else if n == 1 then Some (codes "true") else None

-- a character by its code
abbrev pub code_text : ℕ → List ℕ
code_text c = codes "\\u{" ++ digits 16 false c ++ codes "}"

-- a character between quotes of the kind `quote`
unfoldable pub escaped : ℕ → ℕ → List ℕ
escaped quote c =
    if c == 0 then codes "\\0"
    else if c == 9 then codes "\\t"
    else if c == 10 then codes "\\n"
    else if c == 13 then codes "\\r"
    else if c == 92 then codes "\\\\"
    else if c == quote then 92 ∷ quote ∷ []
    else if nat_le 32 c && nat_le c 126 then c ∷ []
    else code_text c

abbrev pub quoted : ℕ → List ℕ → List ℕ
quoted quote characters = quote ∷ flat_map (escaped quote) characters ++ quote ∷ []

-- the code of a character: no surrogate, and at most 10ffff
abbrev pub is_scalar : ℕ → Bool
is_scalar c = nat_lt c 0xd800 || nat_le 0xe000 c && nat_lt c 0x110000

abbrev pub character_by : Option ℕ → Option (List ℕ)
character_by None = None
character_by (Some c) = if is_scalar c then Some (quoted 39 (c ∷ [])) else None

-- the bytes that hexadecimal digits write, two digits for each byte
abbrev pub byte_by : Option ℕ → Option ℕ → Option (List ℕ) → Option (List ℕ)
byte_by (Some high) (Some low) (Some later) = Some ((high * 16 + low) ∷ later)
byte_by high low later = None

unfoldable pub bytes_of : List ℕ → Option (List ℕ)
bytes_of [] = Some []
bytes_of (a ∷ []) = None
bytes_of (a ∷ b ∷ digits) = byte_by (hex_digit a) (hex_digit b) (bytes_of digits)

-- a text in quotes, if it is UTF-8
abbrev pub string_by : Option (List ℕ) → Option (List ℕ)
string_by None = None
string_by (Some bytes) = if is_utf8 bytes then Some (quoted 34 (chars bytes)) else None
