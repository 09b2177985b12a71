-- Pointers of frame entries. The low four bits of a pointer's encoding are the format of a number, the other bits say what is added to it (LSB Core,
-- ".eh_frame", "DWARF Exception Header Encoding").
use Rattle.std.specs.Prelude.{ℕ, ◌+◌, ◌%◌, ◌^◌, ◌==◌, ◌&&◌, ◌||◌, nat_lt, nat_le, Bool, if◌then◌else◌, Result, Ok}
use Rattle.std.specs.Int.{w16, w32, w64, cast_signed, cast_unsigned}
use Rattle.leb_cursor.specs.declared.fault.CursorFault.{CursorFault}
use Rattle.sym_edges.specs.Results.{◌>>=◌}
use Rattle.leb_cursor.specs.Ahead.{Ahead}
use Rattle.leb_cursor.specs.Readings.{fixed_at, uleb_at, sleb_at}
use Rattle.frame_entries.specs.declared.pointer.Format.{Format}
use Rattle.frame_entries.specs.declared.pointer.Format.TheVariants.{U64, Uleb, U16, U32, Sleb, I16, I32}

-- the known formats are 0 to 4 and 9 to c
unfoldable pub is_format : ℕ → Bool
is_format encoding = nat_le (encoding % 16) 4 || (nat_le 9 (encoding % 16) && nat_le (encoding % 16) 12)

-- the format of an encoding. The formats 0 and 4 are unsigned numbers of eight bytes; c is a signed
-- one, which is the same modulo 2^64
unfoldable pub format_of : ℕ → Format
format_of encoding =
    if encoding % 16 == 1 then Uleb else
    if encoding % 16 == 2 then U16 else
    if encoding % 16 == 3 then U32 else
    if encoding % 16 == 9 then Sleb else
    if encoding % 16 == 10 then I16 else
    if encoding % 16 == 11 then I32 else U64

-- an encoding that is read: its format is known, nothing or the address of the field (10) is added,
-- and it is not indirect (80)
unfoldable pub is_encoding : ℕ → Bool
is_encoding encoding = nat_lt encoding 0x20 && is_format encoding

-- a number in a format, modulo 2^64
unfoldable pub number_at : Format → Ahead → Result (ℕ × Ahead) CursorFault
number_at U64 c = fixed_at 8 c
number_at Uleb c = uleb_at c
number_at U16 c = fixed_at 2 c
number_at U32 c = fixed_at 4 c
number_at Sleb c = sleb_at c >>= λ n. Ok (cast_unsigned w64 n.0, n.1)
number_at I16 c = fixed_at 2 c >>= λ n. Ok (cast_unsigned w64 (cast_signed w16 n.0), n.1)
number_at I32 c = fixed_at 4 c >>= λ n. Ok (cast_unsigned w64 (cast_signed w32 n.0), n.1)

-- the value of a pointer, given the address of its field and the number in the field
unfoldable pub applied : ℕ → ℕ → ℕ → ℕ
applied encoding address number = if nat_lt encoding 0x10 then number else (number + address) % 2 ^ 64

-- a pointer, given its encoding and the address of its field
unfoldable pub pointer_at : ℕ → ℕ → Ahead → Result (ℕ × Ahead) CursorFault
pointer_at encoding address c =
    number_at (format_of encoding) c >>= λ n. Ok (applied encoding address n.0, n.1)
