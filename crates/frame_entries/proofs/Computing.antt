-- The definitions of frame_entries and leb_cursor that a proof unfolds to compute a result from
-- given bytes.
use Rattle.std.specs.Prelude.{⊤}
use Rattle.leb_cursor.proofs.Computing.{leb_cursor_computes}
use Rattle.frame_entries.specs.Cies.{is_version, is_letter, is_understood, is_augmented, sizes_at, column_at, numbers_at, augmentation_at, is_personality, personality_at, encoding_at, letter_at, letters_at, encodings_of, cie_fields, cie_behind, cie_of}
use Rattle.frame_entries.specs.FrameEntries.{cie_id, is_cie, cies_of, cie_place, cie_from, cie_named, address_at, fde_of, entry_of, entries_of, frame_entries}
use Rattle.frame_entries.specs.Listing.{is_eh, entry_at, wide_behind, mark_behind, mark_at, listed_in, listed_at, listed_by}
use Rattle.frame_entries.specs.Pointers.{is_format, format_of, is_encoding, number_at, applied, pointer_at}

unfoldable pub frame_entries_computes : ⊤
unfolding leb_cursor_computes is_version is_letter is_understood is_augmented sizes_at column_at numbers_at augmentation_at is_personality personality_at encoding_at letter_at letters_at encodings_of cie_fields cie_behind cie_of cie_id is_cie cies_of cie_place cie_from cie_named address_at fde_of entry_of entries_of frame_entries is_eh entry_at wide_behind mark_behind mark_at listed_in listed_at listed_by is_format format_of is_encoding number_at applied pointer_at
frame_entries_computes = tt
