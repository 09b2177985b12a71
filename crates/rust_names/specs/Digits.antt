-- Decimal numbers without a leading zero, as both manglings write a length.
use Rattle.std.specs.Prelude.{ℕ, ◌&&◌, nat_le, if◌then◌else◌, List, [], ◌∷◌, Option, None, Some}
use Rattle.std.specs.Str.Parse.{digits_value}
use Rattle.rust_names.specs.Legacy.{is_digit, is_number}

-- the decimal digits at the start of the bytes
unfoldable pub digits_in_front : List ℕ → List ℕ
digits_in_front [] = []
digits_in_front (b ∷ bytes) = if is_digit b then b ∷ digits_in_front bytes else []

-- the number with these digits, if it is at most `most`
unfoldable pub number_upto : ℕ → List ℕ → Option ℕ
number_upto most digits = if is_number digits && nat_le (digits_value 10 digits) most then Some (digits_value 10 digits) else None
