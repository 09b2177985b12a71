-- Worked examples: pointers by their encoding, in a field at address ff0.
use Rattle.std.proofs.Common.{◌≡◌, ℕ, true, false, [], ◌∷◌, map, replicate, Result, Ok, Err, refl}
use Rattle.sym_edges.specs.Results.{◌>>=◌}
use Rattle.leb_cursor.specs.declared.fault.CursorFault.{CursorFault}
use Rattle.leb_cursor.specs.declared.fault.CursorFault.TheVariants.{Ends}
use Rattle.frame_entries.specs.Pointers.{is_encoding, pointer_at}
use Rattle.sym_edges.proofs.Hex.{hex}
use Rattle.frame_entries.proofs.Computing.{frame_entries_computes}

-- The pointer that these ten bytes give in an encoding, and the place after it.
unfoldable pointer : ℕ → Result (ℕ × ℕ) CursorFault
unfolding hex
pointer encoding =
    pointer_at encoding 0xff0 (record { bytes = hex "f0ffffff ffffff7f ffff"; at = 0 }) >>= λ read. Ok (read.0, read.1.at)

encoding_00 : pointer 0x00 ≡ Ok (0x7ffffffffffffff0, 8)
unfolding frame_entries_computes pointer
encoding_00 = refl

encoding_01 : pointer 0x01 ≡ Ok (0x00fffffffffffff0, 8)
unfolding frame_entries_computes pointer
encoding_01 = refl

encoding_02 : pointer 0x02 ≡ Ok (0xfff0, 2)
unfolding frame_entries_computes pointer
encoding_02 = refl

encoding_03 : pointer 0x03 ≡ Ok (0xfffffff0, 4)
unfolding frame_entries_computes pointer
encoding_03 = refl

encoding_04 : pointer 0x04 ≡ Ok (0x7ffffffffffffff0, 8)
unfolding frame_entries_computes pointer
encoding_04 = refl

encoding_09 : pointer 0x09 ≡ Ok (0xfffffffffffffff0, 8)
unfolding frame_entries_computes pointer
encoding_09 = refl

encoding_0a : pointer 0x0a ≡ Ok (0xfffffffffffffff0, 2)
unfolding frame_entries_computes pointer
encoding_0a = refl

encoding_0b : pointer 0x0b ≡ Ok (0xfffffffffffffff0, 4)
unfolding frame_entries_computes pointer
encoding_0b = refl

encoding_0c : pointer 0x0c ≡ Ok (0x7ffffffffffffff0, 8)
unfolding frame_entries_computes pointer
encoding_0c = refl

encoding_11 : pointer 0x11 ≡ Ok (0x0100000000000fe0, 8)
unfolding frame_entries_computes pointer
encoding_11 = refl

encoding_12 : pointer 0x12 ≡ Ok (0x10fe0, 2)
unfolding frame_entries_computes pointer
encoding_12 = refl

encoding_13 : pointer 0x13 ≡ Ok (0x100000fe0, 4)
unfolding frame_entries_computes pointer
encoding_13 = refl

encoding_1a : pointer 0x1a ≡ Ok (0xfe0, 2)
unfolding frame_entries_computes pointer
encoding_1a = refl

encoding_1b : pointer 0x1b ≡ Ok (0xfe0, 4)
unfolding frame_entries_computes pointer
encoding_1b = refl

encoding_1c : pointer 0x1c ≡ Ok (0x8000000000000fe0, 8)
unfolding frame_entries_computes pointer
encoding_1c = refl

a_cut_pointer : pointer_at 0x1b 0xff0 (record { bytes = hex "ffff"; at = 8 }) ≡ Err (Ends 8)
unfolding frame_entries_computes
a_cut_pointer = refl

-- The encodings that are read.
encodings_that_are_read : map is_encoding (0x00 ∷ 0x01 ∷ 0x02 ∷ 0x03 ∷ 0x04 ∷ 0x09 ∷ 0x0a ∷ 0x0b ∷ 0x0c ∷ 0x10 ∷ 0x1b ∷ 0x1c ∷ []) ≡ replicate 12 true
unfolding frame_entries_computes
encodings_that_are_read = refl

encodings_that_are_not : map is_encoding (0x05 ∷ 0x08 ∷ 0x0d ∷ 0x0f ∷ 0x15 ∷ 0x20 ∷ 0x30 ∷ 0x50 ∷ 0x80 ∷ 0x9b ∷ 0xff ∷ []) ≡ replicate 11 false
unfolding frame_entries_computes
encodings_that_are_not = refl
