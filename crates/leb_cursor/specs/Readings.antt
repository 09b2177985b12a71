-- The readings of numbers, texts and runs of bytes (DWARF 5, section 7.6; all numbers
-- little-endian). Each gives a value and what is ahead after it, or the fault with the place where
-- the reading began.
use Rattle.std.specs.Prelude.{ℕ, ◌+◌, ◌-◌, ◌*◌, ◌%◌, ◌^◌, nat_lt, if◌then◌else◌, List, length, take, map, sum, position, slice_index, Option, None, Some, Result, Ok, Err, ℤ, pos, ◌-ℤ◌}
use Rattle.std.specs.Option.{option_map}
use Rattle.std.specs.List.{range_with_len}
use Rattle.sym_edges.specs.Integers.{fits_i64}
use Rattle.leb_cursor.specs.declared.fault.CursorFault.{CursorFault}
use Rattle.leb_cursor.specs.declared.fault.CursorFault.TheVariants.{Ends, LebLong, NoZero}
use Rattle.leb_cursor.specs.Ahead.{Ahead, passed}
use Rattle.leb_cursor.specs.Texts.{front_text}

-- the number in the first `width` bytes, the lowest byte first: the sum of byte i times 256^i
unfoldable pub fixed_sum : ℕ → List ℕ → ℕ
fixed_sum width bytes = sum (map (λ i. slice_index bytes i * 256 ^ i) (range_with_len 0 width))

-- a number of fixed width; a fault if not all of its bytes are there
unfoldable pub fixed_at : ℕ → Ahead → Result (ℕ × Ahead) CursorFault
fixed_at width c =
    if nat_lt (length c.bytes) width then Err (Ends c.at) else Ok (fixed_sum width c.bytes, passed width c)

-- the length of a LEB128 in bytes (DWARF 5, 7.6): up to the first byte without bit 7, which must be one of the first ten
unfoldable pub leb_length : List ℕ → Option ℕ
leb_length bytes = option_map (λ k. k + 1) (position (λ byte. nat_lt byte 128) (take 10 bytes))

-- the low seven bits of each of the first `count` bytes as one number: the sum of group i times 128^i
unfoldable pub leb_sum : ℕ → List ℕ → ℕ
leb_sum count bytes = sum (map (λ i. slice_index bytes i % 128 * 128 ^ i) (range_with_len 0 count))

-- the fault if none of the first ten bytes lacks bit 7: with fewer than ten bytes the bytes end too
-- early, otherwise the number is too long
unfoldable pub leb_open : Ahead → CursorFault
leb_open c = if nat_lt (length c.bytes) 10 then Ends c.at else LebLong c.at

-- an unsigned LEB128, given its length: the sum of its groups, which must be below 2^64
abbrev pub uleb_by : Ahead → Option ℕ → Result (ℕ × Ahead) CursorFault
uleb_by c None = Err (leb_open c)
uleb_by c (Some count) =
    if nat_lt (leb_sum count c.bytes) (2 ^ 64) then Ok (leb_sum count c.bytes, passed count c) else Err (LebLong c.at)

-- an unsigned LEB128 (DWARF 5, 7.6)
unfoldable pub uleb_at : Ahead → Result (ℕ × Ahead) CursorFault
uleb_at c = uleb_by c (leb_length c.bytes)

-- the groups as a signed number: their sum, minus 128^count if bit 6 of the last byte is set
unfoldable pub sleb_sum : ℕ → List ℕ → ℤ
sleb_sum count bytes =
    pos (leb_sum count bytes) -ℤ pos (if nat_lt (slice_index bytes (count - 1)) 64 then 0 else 128 ^ count)

-- a signed LEB128, given its length; it must fit into an i64
abbrev pub sleb_by : Ahead → Option ℕ → Result (ℤ × Ahead) CursorFault
sleb_by c None = Err (leb_open c)
sleb_by c (Some count) =
    if fits_i64 (sleb_sum count c.bytes) then Ok (sleb_sum count c.bytes, passed count c) else Err (LebLong c.at)

-- a signed LEB128 (DWARF 5, 7.6)
unfoldable pub sleb_at : Ahead → Result (ℤ × Ahead) CursorFault
sleb_at c = sleb_by c (leb_length c.bytes)

abbrev pub text_by : Ahead → Option (List ℕ) → Result (List ℕ × Ahead) CursorFault
text_by c None = Err (NoZero c.at)
text_by c (Some text) = Ok (text, passed (length text + 1) c)

-- a text: the bytes before the next zero byte, which is passed too (DWARF 5, 7.5.5, DW_FORM_string)
unfoldable pub text_at : Ahead → Result (List ℕ × Ahead) CursorFault
text_at c = text_by c (front_text c.bytes)

-- the next n bytes; a fault if there are fewer
unfoldable pub take_at : ℕ → Ahead → Result (List ℕ × Ahead) CursorFault
take_at n c = if nat_lt (length c.bytes) n then Err (Ends c.at) else Ok (take n c.bytes, passed n c)

-- the next n bytes as a separate run; the places of its bytes do not change
unfoldable pub part_at : ℕ → Ahead → Result (Ahead × Ahead) CursorFault
part_at n c =
    if nat_lt (length c.bytes) n then Err (Ends c.at) else Ok (record { bytes = take n c.bytes; at = c.at }, passed n c)
