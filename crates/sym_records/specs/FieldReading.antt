-- The fields of a line, read from left to right (Breakpad's symbol_files.md). One or more spaces
-- come before each field. The last field may be a name, which is the rest of the line. If a line
-- has no name, the spaces and CRs after its last field are ignored. The first wrong field decides
-- the kind of fault.
use Rattle.std.specs.Prelude.{ℕ, ◌+◌, ◌*◌, ◌^◌, ◌&&◌, Bool, true, false, nat_lt, if◌then◌else◌, List, [], ◌∷◌, length, codes, Option, Some, None, ok_or, option_and_then, Result, Ok, Err}
use Rattle.std.specs.Char.{digit_value}
use Rattle.std.specs.Str.{bytes_eq}
use Rattle.std.specs.Str.Parse.{digits_value}
use Rattle.sym_edges.specs.Results.{◌>>=◌}
use Rattle.sym_rules.specs.Cuts.{is_space, is_cr, is_margin, before, from, skip, trim_end}
use Rattle.sym_rules.specs.RuleReading.{words, are_digits, rules_at}
use Rattle.sym_rules.specs.declared.text_fault.TextKind.{TextKind}
use Rattle.sym_rules.specs.declared.text_fault.TextKind.TheVariants as fault
use Rattle.sym_records.specs.declared.line.Extent.{Extent}
use Rattle.sym_records.specs.Fields.{Middle, Word, Hex, Marked, Decimal, Shape, Name, Rules, Ranges, Last, Then, Held, Values}

-- the field at the start of the bytes, and the bytes after it
abbrev pub field_of : List ℕ → Result (List ℕ × List ℕ) TextKind
field_of [] = Err fault.Fields
field_of (b ∷ bytes) = Ok (before 32 (b ∷ bytes), from 32 (b ∷ bytes))

-- the next field, after the leading spaces, and the bytes after it
unfoldable pub word_at : List ℕ → Result (List ℕ × List ℕ) TextKind
word_at bytes = field_of (skip is_space bytes)

-- all remaining bytes as a name
abbrev pub name_of : List ℕ → Result (List ℕ) TextKind
name_of [] = Err fault.Fields
name_of (b ∷ bytes) = Ok (b ∷ bytes)

-- a name: the rest of the line, after the leading spaces
unfoldable pub name_at : List ℕ → Result (List ℕ) TextKind
name_at bytes = name_of (skip is_space bytes)

-- the value of a hexadecimal digit, in upper or lower case
unfoldable pub hex_digit : ℕ → Option ℕ
hex_digit d = if nat_lt (digit_value d) 16 then Some (digit_value d) else None

-- n followed by these hexadecimal digits, as one number
unfoldable pub hex_onto : ℕ → List ℕ → Option ℕ
hex_onto n [] = Some n
hex_onto n (d ∷ ds) = option_and_then (λ v. hex_onto (n * 16 + v) ds) (hex_digit d)

-- the value of at most 16 hexadecimal digits
unfoldable pub hex_value : List ℕ → Option ℕ
hex_value ds = if nat_lt 16 (length ds) then None else hex_onto 0 ds

-- the next field as a hexadecimal number
unfoldable pub hex_at : List ℕ → Result (ℕ × List ℕ) TextKind
hex_at bytes = do
  word ← word_at bytes
  n ← ok_or (hex_value word.0) fault.Hex
  Ok (n, word.1)

-- whether the next field is `m`, and the bytes after it; if it is not, all bytes
unfoldable pub mark_at : List ℕ → Bool × List ℕ
mark_at bytes = if bytes_eq (before 32 (skip is_space bytes)) (codes "m") then (true, from 32 (skip is_space bytes)) else (false, bytes)

-- the value of one to 20 decimal digits, if it is below 2^32
unfoldable pub decimal_value : List ℕ → Option ℕ
decimal_value ds = if are_digits ds && nat_lt (digits_value 10 ds) (2 ^ 32) then Some (digits_value 10 ds) else None

-- the next field as a decimal number
unfoldable pub decimal_at : List ℕ → Result (ℕ × List ℕ) TextKind
decimal_at bytes = do
  word ← word_at bytes
  n ← ok_or (decimal_value word.0) fault.Decimal
  Ok (n, word.1)

-- an optional `m`, then a hexadecimal number
unfoldable pub marked_at : List ℕ → Result ((Bool × ℕ) × List ℕ) TextKind
marked_at bytes = do
  n ← hex_at (mark_at bytes).1
  Ok (((mark_at bytes).0, n.0), n.1)

-- the next field, given its kind
abbrev pub middle_at : (m : Middle) → List ℕ → Result (Held m × List ℕ) TextKind
middle_at Word bytes = word_at bytes
middle_at Hex bytes = hex_at bytes
middle_at Marked bytes = marked_at bytes
middle_at Decimal bytes = decimal_at bytes

-- a word as a hexadecimal number
abbrev pub hex_of : List ℕ → Result ℕ TextKind
hex_of word = ok_or (hex_value word) fault.Hex

-- pairs of words as ranges; the words are read in order, so a bad number may be found before a
-- missing one
unfoldable pub pairs_of : List (List ℕ) → Result (List Extent) TextKind
pairs_of [] = Ok []
pairs_of (a ∷ []) = hex_of a >>= λ x. Err fault.Fields
pairs_of (a ∷ b ∷ later) = do
  address ← hex_of a
  size ← hex_of b
  ranges ← pairs_of later
  Ok (record { address = address; size = size } ∷ ranges)

-- the ranges, or a fault if there is none
abbrev pub some_ranges : List Extent → Result (List Extent) TextKind
some_ranges [] = Err fault.Fields
some_ranges (r ∷ ranges) = Ok (r ∷ ranges)

-- all remaining words as ranges
unfoldable pub ranges_at : List ℕ → Result (List Extent) TextKind
ranges_at bytes = pairs_of (words bytes) >>= some_ranges

-- a value, if no byte is left after it; otherwise a fault
abbrev pub at_end : {A : Type 0} → A → List ℕ → Result A TextKind
at_end x [] = Ok x
at_end x (b ∷ bytes) = Err fault.Fields

-- the last field of a line, as a decimal number
unfoldable pub last_at : List ℕ → Result ℕ TextKind
last_at bytes = do
  n ← decimal_at bytes
  at_end n.0 (skip is_space n.1)

-- the fields of a line, from left to right
abbrev pub values_at : (shape : Shape) → List ℕ → Result (Values shape) TextKind
values_at Name bytes = name_at bytes
values_at Rules bytes = rules_at bytes
values_at Ranges bytes = ranges_at bytes
values_at Last bytes = last_at bytes
values_at (Then m rest) bytes = do
  x ← middle_at m bytes
  later ← values_at rest x.1
  Ok (x.0, later)

-- whether the line's last field is a name
abbrev pub is_named : Shape → Bool
is_named Name = true
is_named Rules = false
is_named Ranges = false
is_named Last = false
is_named (Then m rest) = is_named rest

-- the bytes that are ignored at the end of a line: CRs, and spaces too if the last field is not a
-- name
abbrev pub is_end : Shape → ℕ → Bool
is_end shape b = if is_named shape then is_cr b else is_margin b

-- the fields of a line, without the bytes that are ignored at its end
unfoldable pub fields_at : (shape : Shape) → List ℕ → Result (Values shape) TextKind
fields_at shape bytes = values_at shape (trim_end (is_end shape) bytes)
