-- Worked examples: the ranges of code, and the base.
use Rattle.std.proofs.Common.{◌≡◌, ℕ, List, [], ◌∷◌, replicate, refl}
use Rattle.worked.proofs.Elf.{Section, Program, program, loaded, of_kind, code, code_named, function, hex}
use Rattle.worked.proofs.Small.{dump, id, main, text, file_with, worked, gives, files}

-- A file with a build id, one section, and the function `main` at an address.
unfoldable file_at : List Program → Section → ℕ → List ℕ
file_at programs section address = file_with programs (id ∷ section ∷ []) (function "main" address ∷ []) []

-- Code is what is loaded and executed (sh_flags).
code_alone : dump (file_at (loaded 0 ∷ []) (of_kind 1 6 (code 0x1000 text)) 0x1000) ≡ gives "PUBLIC 1000 0 main\n"
unfolding files file_at
code_alone = refl

code_that_is_written : dump (file_at (loaded 0 ∷ []) (of_kind 1 7 (code 0x1000 text)) 0x1000) ≡ gives "PUBLIC 1000 0 main\n"
unfolding files file_at
code_that_is_written = refl

code_with_further_flags : dump (file_at (loaded 0 ∷ []) (of_kind 1 0xf000000000000406 (code 0x1000 text)) 0x1000)
    ≡ gives "PUBLIC 1000 0 main\n"
unfolding files file_at
code_with_further_flags = refl

not_executed : dump (file_at (loaded 0 ∷ []) (of_kind 1 2 (code 0x1000 text)) 0x1000) ≡ gives ""
unfolding files file_at
not_executed = refl

not_loaded : dump (file_at (loaded 0 ∷ []) (of_kind 1 4 (code 0x1000 text)) 0x1000) ≡ gives ""
unfolding files file_at
not_loaded = refl

without_flags : dump (file_at (loaded 0 ∷ []) (of_kind 1 0 (code 0x1000 text)) 0x1000) ≡ gives ""
unfolding files file_at
without_flags = refl

written_alone : dump (file_at (loaded 0 ∷ []) (of_kind 1 1 (code 0x1000 text)) 0x1000) ≡ gives ""
unfolding files file_at
written_alone = refl

without_bytes_in_the_file : dump (file_at (loaded 0 ∷ []) (of_kind 8 6 (code 0x1000 text)) 0x1000) ≡ gives "PUBLIC 1000 0 main\n"
unfolding files file_at
without_bytes_in_the_file = refl

of_no_type : dump (file_at (loaded 0 ∷ []) (of_kind 0 6 (code 0x1000 text)) 0x1000) ≡ gives "PUBLIC 1000 0 main\n"
unfolding files file_at
of_no_type = refl

of_an_unknown_type : dump (file_at (loaded 0 ∷ []) (of_kind 0x70000001 6 (code 0x1000 text)) 0x1000) ≡ gives "PUBLIC 1000 0 main\n"
unfolding files file_at
of_an_unknown_type = refl

of_size_0 : dump (file_at (loaded 0 ∷ []) (of_kind 1 6 (code 0x1000 [])) 0x1000) ≡ gives ""
unfolding files file_at
of_size_0 = refl

-- Code must begin at the base or above it, and end within 64 bits.
at_the_base : dump (file_at (loaded 0x1000 ∷ []) (code 0x1000 (replicate 16 0x90)) 0x1008) ≡ gives "PUBLIC 8 0 main\n"
unfolding files file_at
at_the_base = refl

at_the_base_the_first_byte : dump (file_at (loaded 0x1000 ∷ []) (code 0x1000 (replicate 16 0x90)) 0x1000) ≡ gives "PUBLIC 0 0 main\n"
unfolding files file_at
at_the_base_the_first_byte = refl

above_the_base : dump (file_at (loaded 0xfff ∷ []) (code 0x1000 (replicate 16 0x90)) 0x1000) ≡ gives "PUBLIC 1 0 main\n"
unfolding files file_at
above_the_base = refl

below_the_base : dump (file_at (loaded 0x2000 ∷ []) (code 0x1000 (replicate 16 0x90)) 0x1000) ≡ gives ""
unfolding files file_at
below_the_base = refl

across_the_base : dump (file_at (loaded 0x1001 ∷ []) (code 0x1000 (replicate 16 0x90)) 0x1008) ≡ gives ""
unfolding files file_at
across_the_base = refl

at_address_0 : dump (file_at (loaded 0 ∷ []) (code 0 (replicate 16 0x90)) 0) ≡ gives "PUBLIC 0 0 main\n"
unfolding files file_at
at_address_0 = refl

an_end_of_64_bits : dump (file_at (loaded 0 ∷ []) (code 0xfffffffffffffff0 (replicate 15 0x90)) 0xfffffffffffffff0)
    ≡ gives "PUBLIC fffffffffffffff0 0 main\n"
unfolding files file_at
an_end_of_64_bits = refl

an_end_of_65_bits : dump (file_at (loaded 0 ∷ []) (code 0xfffffffffffffff0 (replicate 16 0x90)) 0xfffffffffffffff0) ≡ gives ""
unfolding files file_at
an_end_of_65_bits = refl

an_end_that_comes_round : dump (file_at (loaded 0 ∷ []) (code 0xffffffffffffffff (replicate 16 0x90)) 0xffffffffffffffff) ≡ gives ""
unfolding files file_at
an_end_that_comes_round = refl

-- The first segment that is loaded gives the base (p_type 1, p_vaddr).
one : dump (file_at (program 1 0x400 ∷ []) (code 0x1000 text) 0x1000) ≡ gives "PUBLIC c00 0 main\n"
unfolding files file_at
one = refl

the_lower_one_first : dump (file_at (program 1 0x400 ∷ program 1 0x800 ∷ []) (code 0x1000 text) 0x1000) ≡ gives "PUBLIC c00 0 main\n"
unfolding files file_at
the_lower_one_first = refl

the_higher_one_first : dump (file_at (program 1 0x800 ∷ program 1 0x400 ∷ []) (code 0x1000 text) 0x1000) ≡ gives "PUBLIC 800 0 main\n"
unfolding files file_at
the_higher_one_first = refl

behind_another_kind : dump (file_at (program 6 0x40 ∷ program 1 0x400 ∷ []) (code 0x1000 text) 0x1000) ≡ gives "PUBLIC c00 0 main\n"
unfolding files file_at
behind_another_kind = refl

behind_one_of_no_kind : dump (file_at (program 0 0x40 ∷ program 1 0x400 ∷ []) (code 0x1000 text) 0x1000) ≡ gives "PUBLIC c00 0 main\n"
unfolding files file_at
behind_one_of_no_kind = refl

behind_a_far_kind : dump (file_at (program 0x101 0x40 ∷ program 1 0x400 ∷ []) (code 0x1000 text) 0x1000) ≡ gives "PUBLIC c00 0 main\n"
unfolding files file_at
behind_a_far_kind = refl

none_is_loaded : dump (file_at (program 6 0x40 ∷ program 2 0x80 ∷ []) (code 0x1000 text) 0x1000) ≡ gives "PUBLIC 1000 0 main\n"
unfolding files file_at
none_is_loaded = refl

no_segment : dump (file_at [] (code 0x1000 text) 0x1000) ≡ gives "PUBLIC 1000 0 main\n"
unfolding files file_at
no_segment = refl

-- Each section of code counts.
three_sections : dump (worked (function "gap" 0x1010 ∷ function "plt" 0x1020 ∷ function "low" 0x800 ∷ main ∷ []) (code_named ".plt" 0x1020 text ∷ code_named ".init" 0x800 (hex "c3") ∷ []))
    ≡ gives "PUBLIC 800 0 low\nPUBLIC 1000 0 main\nPUBLIC 1020 0 plt\n"
unfolding files file_at
three_sections = refl
