-- Worked examples: files with compressed sections, with `--full` and without it (System V gABI,
-- "Section Compression").
use Rattle.std.proofs.Common.{◌≡◌, ℕ, List, [], ◌∷◌, ◌++◌, codes, length, refl}
use Prim.Native.String.{String}
use Rattle.sym_edges.proofs.Hex.{little}
use Rattle.worked.proofs.Elf.{Section, progbits, of_kind, hex}
use Rattle.worked.proofs.Small.{Told, ran, dump, small_and, gives_and_omits, refused, files}

-- A unit of version 3 as zlib stores it, and the same with another last byte.
abbrev whole : String
whole = "7801010b00f4ff070000000300000000000800750013"

abbrev spoiled : String
spoiled = "7801010b00f4ff070000000300000000000800750012"

-- Bytes after an Elf64_Chdr with a type and a size.
unfoldable behind_header : ℕ → ℕ → String → List ℕ
behind_header type size stream = little 4 type ++ little 4 0 ++ little 8 size ++ little 8 1 ++ hex stream

abbrev info : ℕ → ℕ → String → Section
info type size stream = of_kind 1 0x800 (progbits ".debug_info" (behind_header type size stream))

abbrev older : String → Section
older stream = progbits ".zdebug_info" (codes "ZLIB" ++ hex "000000000000000b" ++ hex stream)

-- The answer to the small file with such a section, with `--full` and without it.
unfoldable full : Section → Told
full section = ran (codes "dump" ∷ codes "--full" ∷ codes "d/a.out" ∷ []) (codes "d/a.out") (small_and (section ∷ []))

unfoldable plain_words : Section → Told
plain_words section = dump (small_and (section ∷ []))

abbrev skipped : Told
skipped = gives_and_omits "PUBLIC 1000 0 main\n" "skipped debug_info 0 version 3\n"

by_zlib : full (info 1 11 whole) ≡ skipped
unfolding files behind_header full plain_words
by_zlib = refl

in_the_older_form : full (older whole) ≡ skipped
unfolding files behind_header full plain_words
in_the_older_form = refl

by_zstd : full (info 2 11 whole) ≡ refused "refused elf compressed 5\n"
unfolding files behind_header full plain_words
by_zstd = refl

a_header_that_is_cut : full (of_kind 1 0x800 (progbits ".debug_info" (hex "0100000000000000"))) ≡ refused "refused elf compressed 5\n"
unfolding files behind_header full plain_words
a_header_that_is_cut = refl

another_size : full (info 1 12 whole) ≡ refused "refused elf inflate 5\n"
unfolding files behind_header full plain_words
another_size = refl

another_check : full (info 1 11 spoiled) ≡ refused "refused elf inflate 5\n"
unfolding files behind_header full plain_words
another_check = refl

too_long : full (info 1 0x20000001 whole) ≡ refused "refused elf inflated-too-long\n"
unfolding files behind_header full plain_words
too_long = refl

-- Without `--full` each of them is refused.
by_zlib_plain : plain_words (info 1 11 whole) ≡ refused "refused elf compressed 5\n"
unfolding files behind_header full plain_words
by_zlib_plain = refl

in_the_older_form_plain : plain_words (older whole) ≡ refused "refused elf compressed 5\n"
unfolding files behind_header full plain_words
in_the_older_form_plain = refl
