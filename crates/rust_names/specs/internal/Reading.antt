-- The reading of a legacy name from left to right, as the functions do it: first the piece or the
-- part at the start of the bytes, then all pieces or parts. In `pieces_from` and `parts_from`, the
-- first `k` bytes belong to the piece or the part before.
use Rattle.std.specs.Prelude.{ℕ, zero, suc, ◌+◌, ◌-◌, ◌*◌, ◌==◌, ◌&&◌, nat_le, nat_lt, nat_eq, Bool, true, false, if◌then◌else◌, List, [], ◌∷◌, ◌++◌, length, take, drop, codes, slice_index, Option, None, Some, not}
use Rattle.std.specs.List.{flat_map, list_all, starts_with}
use Rattle.std.specs.Option.{option_map, option_and_then}
use Rattle.rust_names.specs.declared.piece.Piece.{Piece}
use Rattle.rust_names.specs.declared.piece.Piece.TheVariants.{At, Star, And, Less, Greater, Opening, Closing, Comma, Code, Scope, Plain}
unfoldable pub use Rattle.rust_names.specs.Digits.{digits_in_front, number_upto}
use Rattle.rust_names.specs.V0Numbers.{hex_digit}
use Rattle.rust_names.specs.Legacy.{written, shown, is_low_hex, undashed, joined, is_shown_text, begins_with_dot, Part}

-- the sign that an escape stands for
unfoldable pub sign_of : List ℕ → Option Piece
sign_of bytes =
    if starts_with nat_eq bytes (codes "$SP$") then Some At
    else if starts_with nat_eq bytes (codes "$BP$") then Some Star
    else if starts_with nat_eq bytes (codes "$RF$") then Some And
    else if starts_with nat_eq bytes (codes "$LT$") then Some Less
    else if starts_with nat_eq bytes (codes "$GT$") then Some Greater
    else if starts_with nat_eq bytes (codes "$LP$") then Some Opening
    else if starts_with nat_eq bytes (codes "$RP$") then Some Closing
    else if starts_with nat_eq bytes (codes "$C$") then Some Comma
    else None

-- the byte that two digits write, if it is from 32 to 126
abbrev pub byte_of : Option ℕ → Option ℕ → Option Piece
byte_of None low = None
byte_of (Some high) None = None
byte_of (Some high) (Some low) = if nat_le 32 (high * 16 + low) && nat_le (high * 16 + low) 126 then Some (Code (high * 16 + low)) else None

-- the byte that an escape `$uHH$` stands for
unfoldable pub code_of : List ℕ → Option Piece
code_of bytes =
    if nat_lt (length bytes) 5 then None
    else if slice_index bytes 1 == 117 && slice_index bytes 4 == 36 then byte_of (hex_digit (slice_index bytes 2)) (hex_digit (slice_index bytes 3))
    else None

abbrev pub or_code : Option Piece → List ℕ → Option Piece
or_code (Some p) bytes = Some p
or_code None bytes = code_of bytes

-- a byte that stands for itself
abbrev pub plain_piece : ℕ → Option Piece
plain_piece b = if nat_le 33 b && nat_le b 126 then Some (Plain b) else None

-- the piece at the start of the bytes
abbrev pub front_piece : ℕ → List ℕ → Option Piece
front_piece b bytes =
    if b == 36 then or_code (sign_of bytes) bytes
    else if b == 46 && begins_with_dot (drop 1 bytes) then Some Scope
    else plain_piece b

unfoldable pub piece_of : List ℕ → Option Piece
piece_of [] = None
piece_of (b ∷ bytes) = front_piece b (b ∷ bytes)

-- a byte that stands for itself whatever follows
abbrev pub is_plain : ℕ → Bool
is_plain b = nat_le 33 b && nat_le b 126 && not (b == 36) && not (b == 46)

-- the pieces that bytes are made of
unfoldable pub pieces_from : ℕ → List ℕ → Option (List Piece)
pieces_from zero [] = Some []
pieces_from (suc k) [] = None
pieces_from zero (b ∷ bytes) = option_and_then (λ p. option_map (λ ps. p ∷ ps) (pieces_from (length (written p) - 1) bytes)) (piece_of (b ∷ bytes))
pieces_from (suc k) (b ∷ bytes) = pieces_from k bytes

unfoldable pub pieces_of : List ℕ → Option (List Piece)
pieces_of bytes = pieces_from 0 bytes

-- the bytes of a part whose length is known, and the bytes after them
abbrev pub cut_by : List ℕ → Option ℕ → Option (List ℕ × List ℕ)
cut_by after None = None
cut_by after (Some n) = Some (take n after, drop n after)

-- the bytes of the first part, and the bytes after them
unfoldable pub cut_of : List ℕ → Option (List ℕ × List ℕ)
cut_of bytes = cut_by (drop (length (digits_in_front bytes)) bytes) (number_upto (length (drop (length (digits_in_front bytes)) bytes)) (digits_in_front bytes))

-- the part at the start of the bytes
abbrev pub part_by : List ℕ → Option (List ℕ × List ℕ) → Option Part
part_by number None = None
part_by number (Some cut) = option_map (λ ps. record { number = number; bytes = cut.0; pieces = ps }) (pieces_of (undashed cut.0))

unfoldable pub part_of : List ℕ → Option Part
part_of bytes = part_by (digits_in_front bytes) (cut_of bytes)

-- how many bytes a part takes
abbrev pub part_length : Part → ℕ
part_length p = length p.number + length p.bytes

-- the parts that bytes are made of
unfoldable pub parts_from : ℕ → List ℕ → Option (List Part)
parts_from zero [] = Some []
parts_from (suc k) [] = None
parts_from zero (b ∷ bytes) = option_and_then (λ (p : Part). option_map (λ ps. p ∷ ps) (parts_from (part_length p - 1) bytes)) (part_of (b ∷ bytes))
parts_from (suc k) (b ∷ bytes) = parts_from k bytes

unfoldable pub parts_of : List ℕ → Option (List Part)
parts_of bytes = parts_from 0 bytes

-- the last 20 bytes of a name: the hash with its length, and `E`
unfoldable pub is_tail : List ℕ → Bool
is_tail bytes = starts_with nat_eq bytes (codes "17h") && (slice_index bytes 19 == 69) && list_all is_low_hex (take 16 (drop 3 bytes))

-- the bytes between `_ZN` and the hash
unfoldable pub middle_of : List ℕ → Option (List ℕ)
middle_of name =
    if starts_with nat_eq name (codes "_ZN") && nat_le 23 (length name) && is_tail (drop (length name - 20) name)
    then Some (drop 3 (take (length name - 20) name))
    else None

-- what one or more parts show; and a text, if a record may have it as a name
abbrev pub some_joined : List Part → Option (List ℕ)
some_joined [] = None
some_joined (p ∷ parts) = Some (joined (p ∷ parts))

abbrev pub text_if : List ℕ → Option (List ℕ)
text_if text = if is_shown_text text then Some text else None

-- what a legacy name shows
unfoldable pub legacy_of : List ℕ → Option (List ℕ)
legacy_of name = option_and_then text_if (option_and_then some_joined (option_and_then parts_of (middle_of name)))

-- what bytes show as pieces, as one or more parts, and as parts that follow others
unfoldable pub pieces_text : List ℕ → Option (List ℕ)
pieces_text bytes = option_map (flat_map shown) (pieces_of bytes)

unfoldable pub parts_text : List ℕ → Option (List ℕ)
parts_text bytes = option_and_then some_joined (parts_of bytes)

unfoldable pub later_text : List ℕ → Option (List ℕ)
later_text bytes = option_map (flat_map (λ (q : Part). codes "::" ++ flat_map shown q.pieces)) (parts_of bytes)

-- a text, if all of it was added
abbrev pub kept : Bool → List ℕ → Option (List ℕ)
kept true text = Some text
kept false text = None
