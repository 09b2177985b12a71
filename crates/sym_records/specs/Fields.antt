-- The fields after the keyword of a line (Breakpad's symbol_files.md): middle fields, then one last
-- field, with one space before each.
use Rattle.std.specs.Prelude.{ℕ, ◌^◌, ◌&&◌, Bool, true, false, nat_lt, List, [], ◌∷◌, ◌++◌, length, codes}
use Rattle.std.specs.List.{list_all, flat_map}
use Rattle.std.specs.Fmt.{decimal, digits}
unfoldable pub use Rattle.clean_names.specs.Names.{is_name}
use Rattle.sym_rules.specs.Cuts.{is_within_field}
use Rattle.sym_rules.specs.Rules.{spelled_rules}
use Rattle.sym_rules.specs.RuleValidity.{are_rules}
use Rattle.sym_rules.specs.declared.rules.RuleText.{RuleText}
use Rattle.sym_records.specs.declared.line.Extent.{Extent}

-- a middle field: a word, a hexadecimal number, a hexadecimal number with an optional `m` before it, or a decimal number
pub data Middle : Type 0 where
  Word : Middle
  Hex : Middle
  Marked : Middle
  Decimal : Middle

-- the kinds of the fields of a line: the last is a name, frame rules, ranges, or a decimal number
pub data Shape : Type 0 where
  Name : Shape
  Rules : Shape
  Ranges : Shape
  Last : Shape
  Then : Middle → Shape → Shape

-- the value of a middle field
abbrev pub Held : Middle → Type 0
Held Word = List ℕ
Held Hex = ℕ
Held Marked = Bool × ℕ
Held Decimal = ℕ

-- the values of the fields of a line
abbrev pub Values : Shape → Type 0
Values Name = List ℕ
Values Rules = List RuleText
Values Ranges = List Extent
Values Last = ℕ
Values (Then m rest) = Held m × Values rest

-- Spelling.

-- a number in lower-case hexadecimal without leading zeros
abbrev pub hex : ℕ → List ℕ
hex n = digits 16 false n

-- `m`, if symbols with different names have this address
abbrev pub mark : Bool → List ℕ
mark true = codes " m"
mark false = []

-- a middle field
abbrev pub spelled_middle : (m : Middle) → Held m → List ℕ
spelled_middle Word w = 32 ∷ w
spelled_middle Hex n = 32 ∷ hex n
spelled_middle Marked x = mark x.0 ++ 32 ∷ hex x.1
spelled_middle Decimal n = 32 ∷ decimal n

-- a range: its address and its size
abbrev pub range_words : Extent → List (List ℕ)
range_words range = hex range.address ∷ hex range.size ∷ []

-- a range, with one space before each word
unfoldable pub spelled_range : Extent → List ℕ
spelled_range range = (32 ∷ hex range.address) ++ 32 ∷ hex range.size

-- the fields of a line
abbrev pub spelled : (shape : Shape) → Values shape → List ℕ
spelled Name name = 32 ∷ name
spelled Rules rules = spelled_rules rules
spelled Ranges ranges = flat_map spelled_range ranges
spelled Last n = 32 ∷ decimal n
spelled (Then m rest) v = spelled_middle m v.0 ++ spelled rest v.1

-- Which fields a line can carry.

-- a field that is not empty and has neither a space nor LF
unfoldable pub is_field : List ℕ → Bool
is_field bytes = nat_lt 0 (length bytes) && list_all is_within_field bytes

-- a middle field that a line can carry: a hexadecimal number is below 2^64, a decimal number below 2^32
abbrev pub fits_middle : (m : Middle) → Held m → Bool
fits_middle Word w = is_field w
fits_middle Hex n = nat_lt n (2 ^ 64)
fits_middle Marked x = nat_lt x.1 (2 ^ 64)
fits_middle Decimal n = nat_lt n (2 ^ 32)

-- a range whose two numbers are below 2^64
abbrev pub is_range : Extent → Bool
is_range range = nat_lt range.address (2 ^ 64) && nat_lt range.size (2 ^ 64)

-- the ranges of a line: at least one
unfoldable pub are_ranges : List Extent → Bool
are_ranges ranges = nat_lt 0 (length ranges) && list_all is_range ranges

-- the fields that a line can carry
abbrev pub fit : (shape : Shape) → Values shape → Bool
fit Name name = is_name name
fit Rules rules = are_rules rules
fit Ranges ranges = are_ranges ranges
fit Last n = nat_lt n (2 ^ 32)
fit (Then m rest) v = fits_middle m v.0 && fit rest v.1
