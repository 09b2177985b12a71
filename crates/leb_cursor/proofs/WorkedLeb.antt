-- Worked examples of LEB128 numbers: those of the tables of DWARF 5, 7.6, and the ends of the
-- ranges.
use Rattle.std.proofs.Common.{◌≡◌, ℕ, pos, negsuc, codes, Ok, Err, refl}
use Prim.Native.String.{String}
use Rattle.leb_cursor.specs.declared.fault.CursorFault.TheVariants.{Ends, LebLong}
use Rattle.leb_cursor.specs.Ahead.{Ahead}
use Rattle.leb_cursor.specs.Readings.{uleb_at, sleb_at}
use Rattle.sym_edges.proofs.Hex.{bytes}
use Rattle.leb_cursor.proofs.Computing.{leb_cursor_computes}

-- These bytes are ahead, and the first of them has the place `at`.
unfoldable ahead : String → ℕ → Ahead
ahead text at = record { bytes = bytes (codes text); at = at }

unsigned_2 : uleb_at (ahead "02" 0) ≡ Ok (2, ahead "" 1)
unfolding ahead leb_cursor_computes
unsigned_2 = refl

unsigned_127 : uleb_at (ahead "7f" 0) ≡ Ok (127, ahead "" 1)
unfolding ahead leb_cursor_computes
unsigned_127 = refl

unsigned_128 : uleb_at (ahead "8001" 0) ≡ Ok (128, ahead "" 2)
unfolding ahead leb_cursor_computes
unsigned_128 = refl

unsigned_129 : uleb_at (ahead "8101" 0) ≡ Ok (129, ahead "" 2)
unfolding ahead leb_cursor_computes
unsigned_129 = refl

unsigned_12857 : uleb_at (ahead "b964" 0) ≡ Ok (12857, ahead "" 2)
unfolding ahead leb_cursor_computes
unsigned_12857 = refl

-- The greatest number of two bytes.
unsigned_16383 : uleb_at (ahead "ff7f" 0) ≡ Ok (16383, ahead "" 2)
unfolding ahead leb_cursor_computes
unsigned_16383 = refl

unsigned_624485 : uleb_at (ahead "e58e26" 0) ≡ Ok (624485, ahead "" 3)
unfolding ahead leb_cursor_computes
unsigned_624485 = refl

-- Groups of zeros at the end do not change the value.
padded_0 : uleb_at (ahead "8000" 0) ≡ Ok (0, ahead "" 2)
unfolding ahead leb_cursor_computes
padded_0 = refl

padded_5 : uleb_at (ahead "85808080808080808000" 0) ≡ Ok (5, ahead "" 10)
unfolding ahead leb_cursor_computes
padded_5 = refl

highest : uleb_at (ahead "ffffffffffffffffff01" 0) ≡ Ok (18446744073709551615, ahead "" 10)
unfolding ahead leb_cursor_computes
highest = refl

highest_bit : uleb_at (ahead "80808080808080808001" 0) ≡ Ok (9223372036854775808, ahead "" 10)
unfolding ahead leb_cursor_computes
highest_bit = refl

-- The bytes after the number are left.
behind : uleb_at (ahead "b964 07" 16) ≡ Ok (12857, ahead "07" 18)
unfolding ahead leb_cursor_computes
behind = refl

signed_2 : sleb_at (ahead "02" 0) ≡ Ok (pos 2, ahead "" 1)
unfolding ahead leb_cursor_computes
signed_2 = refl

signed_minus_2 : sleb_at (ahead "7e" 0) ≡ Ok (negsuc 1, ahead "" 1)
unfolding ahead leb_cursor_computes
signed_minus_2 = refl

signed_127 : sleb_at (ahead "ff00" 0) ≡ Ok (pos 127, ahead "" 2)
unfolding ahead leb_cursor_computes
signed_127 = refl

signed_minus_127 : sleb_at (ahead "817f" 0) ≡ Ok (negsuc 126, ahead "" 2)
unfolding ahead leb_cursor_computes
signed_minus_127 = refl

signed_128 : sleb_at (ahead "8001" 0) ≡ Ok (pos 128, ahead "" 2)
unfolding ahead leb_cursor_computes
signed_128 = refl

signed_minus_128 : sleb_at (ahead "807f" 0) ≡ Ok (negsuc 127, ahead "" 2)
unfolding ahead leb_cursor_computes
signed_minus_128 = refl

signed_129 : sleb_at (ahead "8101" 0) ≡ Ok (pos 129, ahead "" 2)
unfolding ahead leb_cursor_computes
signed_129 = refl

signed_minus_129 : sleb_at (ahead "ff7e" 0) ≡ Ok (negsuc 128, ahead "" 2)
unfolding ahead leb_cursor_computes
signed_minus_129 = refl

-- Bit 6 of the last byte is the sign.
signed_63 : sleb_at (ahead "3f" 0) ≡ Ok (pos 63, ahead "" 1)
unfolding ahead leb_cursor_computes
signed_63 = refl

signed_minus_64 : sleb_at (ahead "40" 0) ≡ Ok (negsuc 63, ahead "" 1)
unfolding ahead leb_cursor_computes
signed_minus_64 = refl

signed_highest : sleb_at (ahead "ffffffffffffffffff00" 0) ≡ Ok (pos 9223372036854775807, ahead "" 10)
unfolding ahead leb_cursor_computes
signed_highest = refl

signed_lowest : sleb_at (ahead "8080808080808080807f" 0) ≡ Ok (negsuc 9223372036854775807, ahead "" 10)
unfolding ahead leb_cursor_computes
signed_lowest = refl

-- Numbers that do not fit into their type.
past_u64 : uleb_at (ahead "80808080808080808002" 3) ≡ Err (LebLong 3)
unfolding ahead leb_cursor_computes
past_u64 = refl

past_i64 : sleb_at (ahead "80808080808080808001" 3) ≡ Err (LebLong 3)
unfolding ahead leb_cursor_computes
past_i64 = refl

below_i64 : sleb_at (ahead "8080808080808080807e" 3) ≡ Err (LebLong 3)
unfolding ahead leb_cursor_computes
below_i64 = refl

-- A number of more than ten bytes is refused, whatever its value is.
eleven_bytes : uleb_at (ahead "8080808080808080808000" 3) ≡ Err (LebLong 3)
unfolding ahead leb_cursor_computes
eleven_bytes = refl

eleven_bytes_signed : sleb_at (ahead "8080808080808080808000" 3) ≡ Err (LebLong 3)
unfolding ahead leb_cursor_computes
eleven_bytes_signed = refl

ten_bytes_open : uleb_at (ahead "80808080808080808080" 3) ≡ Err (LebLong 3)
unfolding ahead leb_cursor_computes
ten_bytes_open = refl

-- The bytes end before the number does.
cut : uleb_at (ahead "808080808080808080" 3) ≡ Err (Ends 3)
unfolding ahead leb_cursor_computes
cut = refl

cut_signed : sleb_at (ahead "808080808080808080" 3) ≡ Err (Ends 3)
unfolding ahead leb_cursor_computes
cut_signed = refl

cut_at_once : uleb_at (ahead "" 3) ≡ Err (Ends 3)
unfolding ahead leb_cursor_computes
cut_at_once = refl

cut_at_once_signed : sleb_at (ahead "" 3) ≡ Err (Ends 3)
unfolding ahead leb_cursor_computes
cut_at_once_signed = refl
