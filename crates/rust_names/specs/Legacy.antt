-- The readable form of a name in Rust's legacy mangling (rustc, `compiler/rustc_symbol_mangling/src/legacy.rs`). The name is `_ZN`, the parts of a
-- path, each after its length, a hash as the last part, and `E`. The parts are shown with `::` between them, and the hash is not shown.
use Rattle.std.specs.Prelude.{◌≡◌, ℕ, ◌+◌, ◌/◌, ◌%◌, ◌<◌, ◌==◌, ◌&&◌, ◌||◌, nat_le, nat_lt, nat_eq, Bool, true, false, not, if◌then◌else◌, List, [], ◌∷◌, ◌++◌, length, drop, codes}
use Rattle.std.specs.List.{flat_map, list_all, starts_with}
use Rattle.std.specs.Str.Parse.{digits_value}
use Rattle.rust_names.specs.declared.piece.Piece.{Piece}
use Rattle.rust_names.specs.declared.piece.Piece.TheVariants.{At, Star, And, Less, Greater, Opening, Closing, Comma, Code, Scope, Plain}

-- the lower-case hexadecimal digit of a value
abbrev pub low_hex : ℕ → ℕ
low_hex d = if nat_lt d 10 then 48 + d else 87 + d

-- the bytes of a piece in the name: an escape, `..`, or one byte
abbrev pub written : Piece → List ℕ
written At = codes "$SP$"
written Star = codes "$BP$"
written And = codes "$RF$"
written Less = codes "$LT$"
written Greater = codes "$GT$"
written Opening = codes "$LP$"
written Closing = codes "$RP$"
written Comma = codes "$C$"
written (Code b) = 36 ∷ 117 ∷ low_hex (b / 16) ∷ low_hex (b % 16) ∷ 36 ∷ []
written Scope = codes ".."
written (Plain b) = b ∷ []

-- what a piece shows
abbrev pub shown : Piece → List ℕ
shown At = codes "@"
shown Star = codes "*"
shown And = codes "&"
shown Less = codes "<"
shown Greater = codes ">"
shown Opening = codes "("
shown Closing = codes ")"
shown Comma = codes ","
shown (Code b) = b ∷ []
shown Scope = codes "::"
shown (Plain b) = b ∷ []

-- whether there is a first byte and it is a dot
abbrev pub begins_with_dot : List ℕ → Bool
begins_with_dot [] = false
begins_with_dot (b ∷ bytes) = b == 46

-- A code is one of `$u20$` to `$u7e$`. A byte that stands for itself is a visible ASCII character,
-- but neither `$` nor a dot before another dot.
abbrev pub is_piece : Piece → List ℕ → Bool
is_piece (Code b) after = nat_le 32 b && nat_le b 126
is_piece (Plain b) after = nat_le 33 b && nat_le b 126 && not (b == 36) && not (b == 46 && begins_with_dot after)
is_piece _ after = true

-- each piece may stand before the pieces that follow it
abbrev pub ArePieces : List Piece → Type 0
ArePieces [] = Unit {0}
ArePieces (p ∷ pieces) = (is_piece p (flat_map written pieces) ≡ true) × ArePieces pieces

-- a part: the digits of its length, its bytes, and the pieces that its bytes are read as
pub record Part : Type 0 where
  pub number : List ℕ
  pub bytes : List ℕ
  pub pieces : List Piece

abbrev pub is_digit : ℕ → Bool
is_digit b = nat_le 48 b && nat_le b 57

-- one or more decimal digits, the first of them not 0
abbrev pub is_number : List ℕ → Bool
is_number [] = false
is_number (d ∷ digits) = not (d == 48) && list_all is_digit (d ∷ digits)

abbrev pub begins_with_digit : List ℕ → Bool
begins_with_digit [] = false
begins_with_digit (b ∷ bytes) = is_digit b

-- the bytes of a part without their first `_`, if a `$` follows it
abbrev pub undashed : List ℕ → List ℕ
undashed bytes = if starts_with nat_eq bytes (codes "_$") then drop 1 bytes else bytes

pub record IsPart (p : Part) : Type 0 where
  pub number : is_number p.number ≡ true
  pub length : digits_value 10 p.number ≡ length p.bytes
  pub begins : begins_with_digit p.bytes ≡ false
  pub read : undashed p.bytes ≡ flat_map written p.pieces
  pub pieces : ArePieces p.pieces

abbrev pub AreParts : List Part → Type 0
AreParts [] = Unit {0}
AreParts (p ∷ parts) = IsPart p × AreParts parts

abbrev pub part_written : Part → List ℕ
part_written p = p.number ++ p.bytes

-- what the parts show, with `::` between them
abbrev pub joined : List Part → List ℕ
joined [] = []
joined (p ∷ parts) = flat_map shown p.pieces ++ flat_map (λ (q : Part). codes "::" ++ flat_map shown q.pieces) parts

abbrev pub is_low_hex : ℕ → Bool
is_low_hex b = is_digit b || nat_le 97 b && nat_le b 102

-- a text that a record may have as a name: not empty, no space at its start, and at most 65,536 bytes
abbrev pub is_shown_text : List ℕ → Bool
is_shown_text [] = false
is_shown_text (b ∷ bytes) = not (b == 32) && nat_le (length (b ∷ bytes)) 65536

-- The text is what the name shows. The name has one or more parts, and then the hash, which is `h` and 16 digits, so its length is 17.
pub record IsLegacy (name text : List ℕ) : Type 0 where
  pub parts : List Part
  pub hash : List ℕ
  pub whole : name ≡ codes "_ZN" ++ flat_map part_written parts ++ codes "17h" ++ hash ++ codes "E"
  pub some : 0 < length parts
  pub read : AreParts parts
  pub digits : length hash ≡ 16
  pub hexadecimal : list_all is_low_hex hash ≡ true
  pub shows : text ≡ joined parts
  pub fits : is_shown_text text ≡ true
