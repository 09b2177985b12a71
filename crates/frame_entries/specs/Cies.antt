-- A common information entry (CIE), from the bytes of its body (DWARF 5, 6.4.1; LSB Core, ".eh_frame"). Its fields are read in their order. The first
-- field that cannot be read gives the reason for which the FDEs of the CIE are left out.
use Rattle.std.specs.Prelude.{ℕ, ◌/◌, ◌%◌, ◌==◌, ◌&&◌, ◌||◌, not, Bool, true, if◌then◌else◌, List, [], ◌∷◌, length, drop, Result, Ok, Err}
use Rattle.std.specs.List.{list_all}
use Rattle.sym_edges.specs.declared.reason.Reason.{Reason}
use Rattle.sym_edges.specs.declared.reason.Reason.TheVariants as reason
use Rattle.leb_cursor.specs.declared.fault.CursorFault.{CursorFault}
use Rattle.sym_edges.specs.Results.{◌>>=◌}
use Rattle.sym_edges.specs.Abi.{return_address}
use Rattle.leb_cursor.specs.Ahead.{Ahead}
use Rattle.leb_cursor.specs.Readings.{fixed_at, uleb_at, sleb_at, text_at, take_at}
use Rattle.frame_entries.specs.declared.numbers.Numbers.{Numbers}
use Rattle.frame_entries.specs.declared.augmentation.Encodings.{Encodings}
use Rattle.frame_entries.specs.Listing.{from_start}
use Rattle.frame_entries.specs.Pointers.{is_format, format_of, is_encoding, number_at}
use Rattle.frame_entries.specs.CieFields.{CieFields}

-- if a field of the CIE cannot be read, the reason is `cie`
abbrev pub or_cie : {A : Type 0} → Result A CursorFault → Result A Reason
or_cie (Ok x) = Ok x
or_cie (Err fault) = Err reason.Cie

-- the versions that are read: 1 (`.eh_frame` and DWARF 2), 3, and 4 (DWARF 4 and 5)
unfoldable pub is_version : ℕ → Bool
is_version version = version == 1 || version == 3 || version == 4

-- the letters L, P, R and S
unfoldable pub is_letter : ℕ → Bool
is_letter letter = letter == 76 || letter == 80 || letter == 82 || letter == 83

-- an augmentation string that is understood: empty, or z followed by any of the letters L, P, R and
-- S
unfoldable pub is_understood : List ℕ → Bool
is_understood [] = true
is_understood (first ∷ letters) = first == 122 && list_all is_letter letters

-- there is augmentation data if the augmentation string is not empty
unfoldable pub is_augmented : List ℕ → Bool
is_augmented text = not (length text == 0)

-- whether address_size and segment_selector_size, which only version 4 has, are 8 and 0, as they must be
unfoldable pub sizes_at : ℕ → Ahead → Result (Bool × Ahead) CursorFault
sizes_at version c =
    if version == 4
    then (fixed_at 1 c >>= λ address. fixed_at 1 address.1 >>= λ segment. Ok (address.0 == 8 && segment.0 == 0, segment.1))
    else Ok (true, c)

-- the return address column: one byte in version 1, otherwise an unsigned LEB128
unfoldable pub column_at : ℕ → Ahead → Result (ℕ × Ahead) CursorFault
column_at version c = if version == 1 then fixed_at 1 c else uleb_at c

-- the numbers after the augmentation string
unfoldable pub numbers_at : ℕ → Ahead → Result (Numbers × Ahead) CursorFault
numbers_at version c =
    sizes_at version c >>= λ sizes.
    uleb_at sizes.1 >>= λ code.
    sleb_at code.1 >>= λ factor.
    column_at version factor.1 >>= λ column.
    Ok (record { sizes = sizes.0; code_align = code.0; data_align = factor.0; column = column.0 }, column.1)

-- the bytes of the augmentation data, which follow their count; no bytes if there is no
-- augmentation data
unfoldable pub augmentation_at : Bool → Ahead → Result (List ℕ × Ahead) CursorFault
augmentation_at augmented c = if augmented then (uleb_at c >>= λ count. take_at count.0 count.1) else Ok ([], c)

-- a personality pointer is read if its encoding has a known format and is not aligned (50
-- hexadecimal)
unfoldable pub is_personality : ℕ → Bool
is_personality encoding = is_format encoding && not (encoding / 16 % 8 == 5)

-- the encoding of a personality pointer and the pointer, which is skipped; after ff there is no pointer
unfoldable pub personality_at : Encodings → Ahead → Result (Encodings × Ahead) Reason
personality_at before c =
    or_cie (fixed_at 1 c) >>= λ encoding.
    if encoding.0 == 0xff then Ok (before, encoding.1) else
    if is_personality encoding.0
    then (or_cie (number_at (format_of encoding.0) encoding.1) >>= λ n. Ok (before, n.1))
    else Err reason.Encoding

-- the encoding of pointers, given by R; `known` says whether each R so far gave an encoding that is
-- read
unfoldable pub encoding_at : Encodings → Ahead → Result (Encodings × Ahead) Reason
encoding_at before c =
    or_cie (fixed_at 1 c) >>= λ encoding.
    Ok (record { pointer = encoding.0; known = before.known && is_encoding encoding.0 }, encoding.1)

-- the part of the augmentation data for a letter: R, P, L (one byte, which is skipped), or S (none)
unfoldable pub letter_at : ℕ → Encodings → Ahead → Result (Encodings × Ahead) Reason
letter_at letter before c =
    if letter == 82 then encoding_at before c else
    if letter == 80 then personality_at before c else
    if letter == 76 then (or_cie (fixed_at 1 c) >>= λ encoding. Ok (before, encoding.1)) else Ok (before, c)

-- the parts for the letters, one after the other; of two R the last counts
unfoldable pub letters_at : List ℕ → Encodings → Ahead → Result Encodings Reason
letters_at [] before c = Ok before
letters_at (letter ∷ letters) before c = letter_at letter before c >>= λ after. letters_at letters after.0 after.1

-- the encoding of pointers, which R gives; without R pointers have eight bytes
unfoldable pub encodings_of : List ℕ → List ℕ → Result Encodings Reason
encodings_of text augmentation =
    letters_at (drop 1 text) (record { pointer = 0; known = true }) (from_start augmentation)

-- the fields of the CIE after all were read: first the encoding must be known, then the return address column must be that of x86-64
unfoldable pub cie_fields : Bool → Numbers → Encodings → List ℕ → Result CieFields Reason
cie_fields augmented numbers encodings initial_instructions =
    if not encodings.known then Err reason.Encoding else
    if not (numbers.column == return_address) then Err reason.Column else
    Ok (record {
      code_align = numbers.code_align;
      data_align = numbers.data_align;
      encoding = encodings.pointer;
      augmented = augmented;
      initial_instructions = initial_instructions;
    })

-- the fields of a CIE whose augmentation string is understood; the instructions are the rest of the
-- body
unfoldable pub cie_behind : ℕ → List ℕ → List ℕ → Ahead → Result CieFields Reason
cie_behind version text body c =
    or_cie (numbers_at version c) >>= λ numbers.
    or_cie (augmentation_at (is_augmented text) numbers.1) >>= λ augmentation.
    if numbers.0.sizes
    then (encodings_of text augmentation.0 >>= λ encodings. cie_fields (is_augmented text) numbers.0 encodings (drop augmentation.1.at body))
    else Err reason.Cie

-- a CIE, or the first reason for which its FDEs are left out
unfoldable pub cie_of : List ℕ → Result CieFields Reason
cie_of body =
    or_cie (fixed_at 1 (from_start body)) >>= λ version.
    or_cie (text_at version.1) >>= λ text.
    if is_version version.0
    then (if is_understood text.0 then cie_behind version.0 text.0 body text.1 else Err reason.Augmentation)
    else Err reason.Cie
