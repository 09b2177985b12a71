-- Worked examples: the build id, and the identity of the module.
use Rattle.std.proofs.Common.{◌≡◌, ℕ, List, [], ◌∷◌, ◌++◌, replicate, refl}
use Prim.Native.String.{String}
use Rattle.std.specs.List.{range_with_len}
use Rattle.elf_sections.specs.Identity.{folded}
use Rattle.worked.proofs.Elf.{in_section, changed, plain, of_kind, code, loaded, null, file_of, id_note, hex}
use Rattle.worked.proofs.Small.{Told, dump, text, texts, files}

-- The texts of a file without a build id, whose code is `text`, and of one with the build id
-- aabbccdd.
abbrev by_code : String
by_code = "MODULE Linux x86_64 FA1E0FF3C03190C3C3909090909090900 a.out\n"

abbrev by_id : String
by_id = "MODULE Linux x86_64 DDCCBBAA0000000000000000000000000 a.out\nINFO CODE_ID AABBCCDD\n"

-- Notes: with this build id and with another one, an ABI note, one of three bytes with padding, and
-- one with the name `GNUs` and no descriptor.
abbrev an_id : List ℕ
an_id = hex "04000000 04000000 03000000 474e5500 aabbccdd"

abbrev later_id : List ℕ
later_id = hex "04000000 04000000 03000000 474e5500 11121314"

abbrev abi : List ℕ
abi = hex "04000000 04000000 01000000 474e5500 11121314"

abbrev three : List ℕ
three = hex "04000000 03000000 05000000 474e5500 11121300"

abbrev other : List ℕ
other = hex "05000000 00000000 03000000 474e5573 00000000"

-- A file with two sections of a type after section 0, and with code.
unfoldable noted : ℕ → List ℕ → List ℕ → List ℕ
noted kind first second = file_of (loaded 0 ∷ []) (null ∷ plain "one" kind first ∷ plain "two" kind second ∷ code 0x1000 text ∷ [])

unfoldable with_notes : ℕ → List ℕ → List ℕ → Told
with_notes kind first second = dump (noted kind first second)

-- A file without a build id, with two sections of code.
unfoldable by_text : List ℕ → Told
by_text bytes = dump (file_of (loaded 0 ∷ []) (null ∷ code 0x1000 bytes ∷ code 0x9000 text ∷ []))

-- A build id has 1 to 64 bytes. Here they are those from 10 on.
length_0 : with_notes 7 (id_note (range_with_len 16 0)) [] ≡ texts by_code
unfolding files noted with_notes by_text
length_0 = refl

length_1 : with_notes 7 (id_note (range_with_len 16 1)) []
    ≡ texts "MODULE Linux x86_64 000000100000000000000000000000000 a.out\nINFO CODE_ID 10\n"
unfolding files noted with_notes by_text
length_1 = refl

length_8 : with_notes 7 (id_note (range_with_len 16 8)) []
    ≡ texts "MODULE Linux x86_64 131211101514171600000000000000000 a.out\nINFO CODE_ID 1011121314151617\n"
unfolding files noted with_notes by_text
length_8 = refl

length_16 : with_notes 7 (id_note (range_with_len 16 16)) []
    ≡ texts "MODULE Linux x86_64 131211101514171618191A1B1C1D1E1F0 a.out\nINFO CODE_ID 101112131415161718191A1B1C1D1E1F\n"
unfolding files noted with_notes by_text
length_16 = refl

length_20 : with_notes 7 (id_note (range_with_len 16 20)) []
    ≡ texts "MODULE Linux x86_64 131211101514171618191A1B1C1D1E1F0 a.out\nINFO CODE_ID 101112131415161718191A1B1C1D1E1F20212223\n"
unfolding files noted with_notes by_text
length_20 = refl

length_64 : with_notes 7 (id_note (range_with_len 16 64)) []
    ≡ texts "MODULE Linux x86_64 131211101514171618191A1B1C1D1E1F0 a.out\nINFO CODE_ID 101112131415161718191A1B1C1D1E1F202122232425262728292A2B2C2D2E2F303132333435363738393A3B3C3D3E3F404142434445464748494A4B4C4D4E4F\n"
unfolding files noted with_notes by_text
length_64 = refl

length_65 : with_notes 7 (id_note (range_with_len 16 65)) [] ≡ texts by_code
unfolding files noted with_notes by_text
length_65 = refl

-- The first note of a build id counts.
alone : with_notes 7 (an_id) [] ≡ texts by_id
unfolding files noted with_notes by_text
alone = refl

behind_other_notes : with_notes 7 (abi ++ three ++ other ++ an_id) [] ≡ texts by_id
unfolding files noted with_notes by_text
behind_other_notes = refl

in_the_second_section : with_notes 7 (abi) an_id ≡ texts by_id
unfolding files noted with_notes by_text
in_the_second_section = refl

in_front_of_another : with_notes 7 (an_id ++ later_id) [] ≡ texts by_id
unfolding files noted with_notes by_text
in_front_of_another = refl

in_front_of_another_section : with_notes 7 (abi ++ an_id) later_id ≡ texts by_id
unfolding files noted with_notes by_text
in_front_of_another_section = refl

behind_an_empty_section : with_notes 7 ([]) an_id ≡ texts by_id
unfolding files noted with_notes by_text
behind_an_empty_section = refl

in_front_of_a_note_that_does_not_fit : with_notes 7 (an_id ++ hex "04000000 ff") [] ≡ texts by_id
unfolding files noted with_notes by_text
in_front_of_a_note_that_does_not_fit = refl

behind_eleven_bytes_of_a_section : with_notes 7 (hex "04000000 04000000 030000") an_id ≡ texts by_id
unfolding files noted with_notes by_text
behind_eleven_bytes_of_a_section = refl

none : with_notes 7 (abi ++ three ++ other) [] ≡ texts by_code
unfolding files noted with_notes by_text
none = refl

-- A note of a build id is known by its name, its type and its length.
type_1 : with_notes 7 (abi) [] ≡ texts by_code
unfolding files noted with_notes by_text
type_1 = refl

type_259 : with_notes 7 (hex "04000000 04000000 03010000 474e5500 aabbccdd") [] ≡ texts by_code
unfolding files noted with_notes by_text
type_259 = refl

another_name : with_notes 7 (hex "04000000 04000000 03000000 474e5600 aabbccdd") [] ≡ texts by_code
unfolding files noted with_notes by_text
another_name = refl

small_letters : with_notes 7 (hex "04000000 04000000 03000000 676e7500 aabbccdd") [] ≡ texts by_code
unfolding files noted with_notes by_text
small_letters = refl

a_name_without_its_zero : with_notes 7 (hex "03000000 04000000 03000000 474e5500 aabbccdd") [] ≡ texts by_code
unfolding files noted with_notes by_text
a_name_without_its_zero = refl

a_name_of_five_bytes : with_notes 7 (hex "05000000 04000000 03000000 474e5500 00000000 aabbccdd") [] ≡ texts by_code
unfolding files noted with_notes by_text
a_name_of_five_bytes = refl

no_name : with_notes 7 (hex "00000000 04000000 03000000 aabbccdd") [] ≡ texts by_code
unfolding files noted with_notes by_text
no_name = refl

a_descriptor_that_is_cut : with_notes 7 (hex "04000000 05000000 03000000 474e5500 aabbccdd") [] ≡ texts by_code
unfolding files noted with_notes by_text
a_descriptor_that_is_cut = refl

a_length_of_32_bits : with_notes 7 (hex "04000000 ffffffff 03000000 474e5500 aabbccdd") [] ≡ texts by_code
unfolding files noted with_notes by_text
a_length_of_32_bits = refl

the_last_padding_is_missing : with_notes 7 (hex "04000000 04000000 01000000 474e5500 11121314 04000000 01000000 03000000 474e5500 aa") []
    ≡ texts "MODULE Linux x86_64 000000AA0000000000000000000000000 a.out\nINFO CODE_ID AA\n"
unfolding files noted with_notes by_text
the_last_padding_is_missing = refl

-- A note that does not fit ends only the reading of its section.
too_long_in_one_section : with_notes 7 (hex "04000000 80000000 01000000 474e5500" ++ an_id) [] ≡ texts by_code
unfolding files noted with_notes by_text
too_long_in_one_section = refl

too_long_in_two_sections : with_notes 7 (hex "04000000 80000000 01000000 474e5500" ++ an_id) an_id ≡ texts by_id
unfolding files noted with_notes by_text
too_long_in_two_sections = refl

-- Notes are in sections of type SHT_NOTE, padded to a multiple of four, whatever their alignment.
another_type : with_notes 1 an_id an_id ≡ texts by_code
unfolding files noted with_notes by_text
another_type = refl

aligned_by_eight : dump (changed (in_section 1 48 "08" ∷ []) (noted 7 (abi ++ an_id) [])) ≡ texts by_id
unfolding files noted with_notes by_text
aligned_by_eight = refl

-- The first section of code gives the identity. Here one byte is ff.
code_of_1_with_0 : by_text (255 ∷ []) ≡ texts "MODULE Linux x86_64 000000FF0000000000000000000000000 a.out\n"
unfolding files noted with_notes by_text
code_of_1_with_0 = refl

code_of_15_with_0 : by_text (255 ∷ replicate 14 0)
    ≡ texts "MODULE Linux x86_64 000000FF0000000000000000000000000 a.out\n"
unfolding files noted with_notes by_text
code_of_15_with_0 = refl

code_of_16_with_15 : by_text (replicate 15 0 ++ 255 ∷ [])
    ≡ texts "MODULE Linux x86_64 000000000000000000000000000000FF0 a.out\n"
unfolding files noted with_notes by_text
code_of_16_with_15 = refl

code_of_17_with_16 : by_text (replicate 16 0 ++ 255 ∷ [])
    ≡ texts "MODULE Linux x86_64 000000FF0000000000000000000000000 a.out\n"
unfolding files noted with_notes by_text
code_of_17_with_16 = refl

-- At most a number of bytes gives the identity: 4,096 in an image, here 32.
the_last_byte_of_a_limit : folded 32 (replicate 31 0 ++ 255 ∷ replicate 8 0) ≡ replicate 15 0 ++ 255 ∷ []
unfolding files
the_last_byte_of_a_limit = refl

the_byte_behind_a_limit : folded 32 (replicate 32 0 ++ 255 ∷ replicate 8 0) ≡ replicate 16 0
unfolding files
the_byte_behind_a_limit = refl

seventeen_bytes : by_text (hex "0102030405060708 090a0b0c0d0e0f10 ff")
    ≡ texts "MODULE Linux x86_64 040302FE06050807090A0B0C0D0E0F100 a.out\n"
unfolding files noted with_notes by_text
seventeen_bytes = refl

text_without_flags : dump (file_of [] (null ∷ of_kind 1 0 (code 0 text) ∷ [])) ≡ texts by_code
unfolding files noted with_notes by_text
text_without_flags = refl
