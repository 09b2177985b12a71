-- The entries of a section of frame entries, one after the other (DWARF 5, 6.4.1; LSB Core, ".eh_frame").
use Rattle.std.specs.Prelude.{ℕ, zero, suc, ◌+◌, ◌==◌, nat_lt, nat_le, Bool, true, false, if◌then◌else◌, List, [], ◌∷◌, length, drop, Result, Ok, Err}
use Rattle.sym_edges.specs.declared.part.Sect.{Sect}
use Rattle.sym_edges.specs.declared.part.Sect.TheVariants.{EhFrame}
use Rattle.leb_cursor.specs.declared.fault.CursorFault.{CursorFault}
use Rattle.sym_edges.specs.Results.{◌>>=◌}
use Rattle.leb_cursor.specs.Ahead.{Ahead}
use Rattle.leb_cursor.specs.Readings.{fixed_sum, fixed_at, take_at}
use Rattle.frame_entries.specs.declared.fault.FrameKind.TheVariants.{Length, Format64}
use Rattle.sym_edges.specs.declared.located.Located.{Located}
use Rattle.frame_entries.specs.declared.fault.FrameKind.{FrameKind}
use Rattle.frame_entries.specs.declared.raw_entries.Mark.{Mark}
use Rattle.frame_entries.specs.declared.raw_entries.Mark.TheVariants.{Terminator, Padding, Listed}
use Rattle.frame_entries.specs.Raw.{id_width, Raw}

-- whether the section is `.eh_frame`, and not `.debug_frame`
unfoldable pub is_eh : Sect → Bool
is_eh EhFrame = true
is_eh _ = false

-- a cursor that has all bytes ahead
abbrev pub from_start : List ℕ → Ahead
from_start bytes = record { bytes = bytes; at = 0 }

-- if a number or bytes cannot be read, the fault is `length`, at the place of the entry
abbrev pub or_length : {A : Type 0} → Sect → ℕ → Result A CursorFault → Result A (Located FrameKind)
or_length which at (Ok x) = Ok x
or_length which at (Err fault) = Err (record { kind = Length; section = which; at = at })

-- the entry whose length, in either format, is `count`: its id and its body have `count` bytes
-- together
unfoldable pub entry_at : Sect → ℕ → Bool → ℕ → Ahead → Result (Mark × Ahead) (Located FrameKind)
entry_at which at wide count c =
    if nat_lt count (id_width wide) then Err (record { kind = Length; section = which; at = at }) else
    (or_length which at (take_at count c) >>= λ bytes.
    Ok (
      Listed (record {
        at = at;
        wide = wide;
        id_at = c.at;
        id = fixed_sum (id_width wide) bytes.0;
        body_at = c.at + id_width wide;
        body = drop (id_width wide) bytes.0;
      }),
      bytes.1,
    ))

-- the entry whose length begins with ffffffff: in `.debug_frame` the length is in the next eight
-- bytes; `.eh_frame` has no 64-bit format
unfoldable pub wide_behind : Sect → ℕ → Ahead → Result (Mark × Ahead) (Located FrameKind)
wide_behind which at c =
    if is_eh which then Err (record { kind = Format64; section = which; at = at }) else
    (or_length which at (fixed_at 8 c) >>= λ count. entry_at which at true count.0 count.1)

-- what follows a length of four bytes: an entry, unless the length is 0; a length of 0 ends
-- `.eh_frame`, and is skipped in `.debug_frame`
unfoldable pub mark_behind : Sect → ℕ → ℕ → Ahead → Result (Mark × Ahead) (Located FrameKind)
mark_behind which at count c =
    if count == 0 then Ok (if is_eh which then Terminator else Padding, c) else
    if count == 0xffffffff then wide_behind which at c else
    if nat_le 0xfffffff0 count then Err (record { kind = Length; section = which; at = at }) else
    entry_at which at false count c

-- the next mark, which is an entry or a length of 0; it begins with the length
unfoldable pub mark_at : Sect → Ahead → Result (Mark × Ahead) (Located FrameKind)
mark_at which c = or_length which c.at (fixed_at 4 c) >>= λ count. mark_behind which c.at count.0 count.1

-- the entries from a mark on, given the entries after the mark
abbrev pub listed_from : Mark → Result (List Raw) (Located FrameKind) → Result (List Raw) (Located FrameKind)
listed_from Terminator later = Ok []
listed_from Padding later = later
listed_from (Listed raw) later = later >>= λ raws. Ok (raw ∷ raws)

-- the entries ahead, from at most n marks, or the first fault
unfoldable pub listed_in : ℕ → Sect → Ahead → Result (List Raw) (Located FrameKind)
listed_in zero which c = Ok []
listed_in (suc n) which c =
    if length c.bytes == 0 then Ok [] else (mark_at which c >>= λ m. listed_from m.0 (listed_in n which m.1))

-- the entries ahead; each mark has at least four bytes, so there are no more marks than bytes
unfoldable pub listed_at : Sect → Ahead → Result (List Raw) (Located FrameKind)
listed_at which c = listed_in (length c.bytes) which c

-- the entries ahead, given `later`, which gives the entries after the first mark
unfoldable pub listed_by : (Sect → Ahead → Result (List Raw) (Located FrameKind)) → Sect → Ahead → Result (List Raw) (Located FrameKind)
listed_by later which c =
    if length c.bytes == 0 then Ok [] else (mark_at which c >>= λ m. listed_from m.0 (later which m.1))
