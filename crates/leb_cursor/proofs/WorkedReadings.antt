-- Worked examples of numbers of fixed width, texts and runs of bytes.
use Rattle.std.proofs.Common.{◌≡◌, ℕ, [], codes, Ok, Err, refl}
use Prim.Native.String.{String}
use Rattle.leb_cursor.specs.declared.fault.CursorFault.TheVariants.{Ends, NoZero}
use Rattle.leb_cursor.specs.Ahead.{Ahead}
use Rattle.leb_cursor.specs.Readings.{fixed_at, text_at, take_at, part_at}
use Rattle.sym_edges.proofs.Hex.{bytes}
use Rattle.leb_cursor.proofs.Computing.{leb_cursor_computes}

-- These bytes are ahead, and the first of them has the place `at`.
unfoldable ahead : String → ℕ → Ahead
ahead text at = record { bytes = bytes (codes text); at = at }

-- The lowest byte comes first.
width_1 : fixed_at 1 (ahead "0102030405060788" 1) ≡ Ok (0x1, ahead "02030405060788" 2)
unfolding ahead leb_cursor_computes
width_1 = refl

width_2 : fixed_at 2 (ahead "0102030405060788" 1) ≡ Ok (0x201, ahead "030405060788" 3)
unfolding ahead leb_cursor_computes
width_2 = refl

width_3 : fixed_at 3 (ahead "0102030405060788" 1) ≡ Ok (0x30201, ahead "0405060788" 4)
unfolding ahead leb_cursor_computes
width_3 = refl

width_4 : fixed_at 4 (ahead "0102030405060788" 1) ≡ Ok (0x4030201, ahead "05060788" 5)
unfolding ahead leb_cursor_computes
width_4 = refl

width_8 : fixed_at 8 (ahead "0102030405060788" 1) ≡ Ok (0x8807060504030201, ahead "" 9)
unfolding ahead leb_cursor_computes
width_8 = refl

-- There is one byte too few.
width_1_cut : fixed_at 1 (ahead "" 1) ≡ Err (Ends 1)
unfolding ahead leb_cursor_computes
width_1_cut = refl

width_2_cut : fixed_at 2 (ahead "11" 1) ≡ Err (Ends 1)
unfolding ahead leb_cursor_computes
width_2_cut = refl

width_3_cut : fixed_at 3 (ahead "1111" 1) ≡ Err (Ends 1)
unfolding ahead leb_cursor_computes
width_3_cut = refl

width_4_cut : fixed_at 4 (ahead "111111" 1) ≡ Err (Ends 1)
unfolding ahead leb_cursor_computes
width_4_cut = refl

width_8_cut : fixed_at 8 (ahead "11111111111111" 1) ≡ Err (Ends 1)
unfolding ahead leb_cursor_computes
width_8_cut = refl

-- A text ends before its zero byte, which is passed.
text : text_at (ahead "6162 00 00 6364" 0) ≡ Ok (codes "ab", ahead "00 6364" 3)
unfolding ahead leb_cursor_computes
text = refl

empty_text : text_at (ahead "00 6364" 3) ≡ Ok ([], ahead "6364" 4)
unfolding ahead leb_cursor_computes
empty_text = refl

open_text : text_at (ahead "6364" 4) ≡ Err (NoZero 4)
unfolding ahead leb_cursor_computes
open_text = refl

no_text : text_at (ahead "" 2) ≡ Err (NoZero 2)
unfolding ahead leb_cursor_computes
no_text = refl

-- Runs of a given number of bytes.
run : take_at 3 (ahead "6263 64 65" 1) ≡ Ok (codes "bcd", ahead "65" 4)
unfolding ahead leb_cursor_computes
run = refl

no_run : take_at 0 (ahead "62" 1) ≡ Ok ([], ahead "62" 1)
unfolding ahead leb_cursor_computes
no_run = refl

run_cut : take_at 4 (ahead "626364" 1) ≡ Err (Ends 1)
unfolding ahead leb_cursor_computes
run_cut = refl

run_of_all : take_at 18446744073709551615 (ahead "626364" 1) ≡ Err (Ends 1)
unfolding ahead leb_cursor_computes
run_of_all = refl

-- The bytes of a separate run keep their places.
a_part : part_at 2 (ahead "626364" 7) ≡ Ok (ahead "6263" 7, ahead "64" 9)
unfolding ahead leb_cursor_computes
a_part = refl

no_part : part_at 0 (ahead "" 7) ≡ Ok (ahead "" 7, ahead "" 7)
unfolding ahead leb_cursor_computes
no_part = refl

part_cut : part_at 4 (ahead "626364" 7) ≡ Err (Ends 7)
unfolding ahead leb_cursor_computes
part_cut = refl
