-- Worked examples: the arguments of the program, and the name of the module.
use Rattle.std.proofs.Common.{◌≡◌, ℕ, List, [], ◌∷◌, ◌++◌, codes, None, Some, refl}
use Prim.Native.String.{String}
use Rattle.worked.proofs.Elf.{progbits}
use Rattle.worked.proofs.Plain.{plain_verdict}
use Rattle.worked.proofs.Small.{Told, told, ran, small, worked, texts, files}

-- The answers to arguments if there is no file, and if there is the file `a`.
unfoldable both : List (List ℕ) → List Told
both words = told (plain_verdict words (λ asked. None)) ∷ ran words (codes "a") small ∷ []

abbrev usage : List Told
usage =
    let line : Told = Some (2, "", "usage: dumpsyms dump ELF, check SYM, lookup SYM ADDR, frame SYM ADDR STATE, sample N, walk SYM STATE, judge ELF SYM, names SYM, dump --full ELF, stacks CORE STORE\n") in line ∷ line ∷ []

-- A dump of a file at a path.
unfoldable named : String → Told
named path = ran (codes "dump" ∷ codes path ∷ []) (codes path) (worked [] (progbits "x" [] ∷ []))

-- Invalid arguments give the usage line, whether there is a file or not.
no_words : both [] ≡ usage
unfolding files both named
no_words = refl

an_empty_word : both (codes "" ∷ []) ≡ usage
unfolding files both named
an_empty_word = refl

dump_alone : both (codes "dump" ∷ []) ≡ usage
unfolding files both named
dump_alone = refl

a_name_alone : both (codes "a" ∷ []) ≡ usage
unfolding files both named
a_name_alone = refl

a_capital_letter : both (codes "Dump" ∷ codes "a" ∷ []) ≡ usage
unfolding files both named
a_capital_letter = refl

a_longer_word : both (codes "dumps" ∷ codes "a" ∷ []) ≡ usage
unfolding files both named
a_longer_word = refl

a_shorter_word : both (codes "dum" ∷ codes "a" ∷ []) ≡ usage
unfolding files both named
a_shorter_word = refl

an_empty_word_and_a_name : both (codes "" ∷ codes "a" ∷ []) ≡ usage
unfolding files both named
an_empty_word_and_a_name = refl

the_name_first : both (codes "a" ∷ codes "dump" ∷ []) ≡ usage
unfolding files both named
the_name_first = refl

three_words : both (codes "dump" ∷ codes "a" ∷ codes "b" ∷ []) ≡ usage
unfolding files both named
three_words = refl

an_empty_third_word : both (codes "dump" ∷ codes "a" ∷ codes "" ∷ []) ≡ usage
unfolding files both named
an_empty_third_word = refl

-- A sample of no units is invalid.
no_units : both (codes "sample" ∷ codes "0" ∷ []) ≡ usage
unfolding files both named
no_units = refl

-- The answers of `dump a` if there is no file, and if there is the file `a`.
abbrev dumped : List Told
dumped =
    let none : Told = Some (3, "", "cannot read input\n") in
    let text : Told = Some (0, "MODULE Linux x86_64 030201000504070608090A0B0C0D0E0F0 a\nINFO CODE_ID 000102030405060708090A0B0C0D0E0F10111213\nPUBLIC 1000 0 main\n", "") in
    none ∷ text ∷ []

-- The arguments of a dump by a number of workers.
abbrev by_workers : String → List (List ℕ)
by_workers number = codes "dump" ∷ codes "a" ∷ codes "--workers" ∷ codes number ∷ []

-- The number of workers changes nothing.
two_words : both (codes "dump" ∷ codes "a" ∷ []) ≡ dumped
unfolding files both named
two_words = refl

one_worker : both (by_workers "1") ≡ dumped
unfolding files both named
one_worker = refl

two_workers : both (by_workers "2") ≡ dumped
unfolding files both named
two_workers = refl

nine_workers : both (by_workers "9") ≡ dumped
unfolding files both named
nine_workers = refl

ten_workers : both (by_workers "10") ≡ dumped
unfolding files both named
ten_workers = refl

the_most_workers : both (by_workers "64") ≡ dumped
unfolding files both named
the_most_workers = refl

-- A number of workers is decimal digits from 1 to 64, without a sign or a leading zero.
no_workers : both (by_workers "0") ≡ usage
unfolding files both named
no_workers = refl

one_worker_too_many : both (by_workers "65") ≡ usage
unfolding files both named
one_worker_too_many = refl

a_hundred_workers : both (by_workers "100") ≡ usage
unfolding files both named
a_hundred_workers = refl

a_number_beyond_64_bits : both (by_workers "18446744073709551620") ≡ usage
unfolding files both named
a_number_beyond_64_bits = refl

a_zero_in_front : both (by_workers "08") ≡ usage
unfolding files both named
a_zero_in_front = refl

a_plus : both (by_workers "+4") ≡ usage
unfolding files both named
a_plus = refl

a_minus : both (by_workers "-4") ≡ usage
unfolding files both named
a_minus = refl

a_space_in_front : both (by_workers " 4") ≡ usage
unfolding files both named
a_space_in_front = refl

a_space_behind : both (by_workers "4 ") ≡ usage
unfolding files both named
a_space_behind = refl

a_letter_behind : both (by_workers "4a") ≡ usage
unfolding files both named
a_letter_behind = refl

a_slash_behind : both (by_workers "4/") ≡ usage
unfolding files both named
a_slash_behind = refl

a_colon_behind : both (by_workers "4:") ≡ usage
unfolding files both named
a_colon_behind = refl

hexadecimal : both (by_workers "a") ≡ usage
unfolding files both named
hexadecimal = refl

an_empty_number : both (by_workers "") ≡ usage
unfolding files both named
an_empty_number = refl

workers_without_a_number : both (codes "dump" ∷ codes "a" ∷ codes "--workers" ∷ []) ≡ usage
unfolding files both named
workers_without_a_number = refl

a_fifth_word : both (by_workers "4" ++ codes "4" ∷ []) ≡ usage
unfolding files both named
a_fifth_word = refl

another_option : both (codes "dump" ∷ codes "a" ∷ codes "--worker" ∷ codes "4" ∷ []) ≡ usage
unfolding files both named
another_option = refl

the_option_first : both (codes "dump" ∷ codes "--workers" ∷ codes "4" ∷ codes "a" ∷ []) ≡ usage
unfolding files both named
the_option_first = refl

another_command_with_workers : both (codes "dumps" ∷ codes "a" ∷ codes "--workers" ∷ codes "4" ∷ []) ≡ usage
unfolding files both named
another_command_with_workers = refl

-- The name of a file may be the word of an option.
a_file_named_like_the_option : ran (codes "dump" ∷ codes "--workers" ∷ []) (codes "--workers") (worked [] (progbits "x" [] ∷ []))
    ≡ texts "MODULE Linux x86_64 030201000504070608090A0B0C0D0E0F0 --workers\nINFO CODE_ID 000102030405060708090A0B0C0D0E0F10111213\n"
unfolding files both named
a_file_named_like_the_option = refl

-- A file that does not exist cannot be read.
no_files : told (plain_verdict (codes "dump" ∷ codes "nofile" ∷ []) (λ asked. None)) ≡ Some (3, "", "cannot read input\n")
unfolding files both named
no_files = refl

another_file : ran (codes "dump" ∷ codes "nofile" ∷ []) (codes "nofil") small ≡ Some (3, "", "cannot read input\n")
unfolding files both named
another_file = refl

-- The module is named by what follows the last slash.
no_slash : named "a.out"
    ≡ texts "MODULE Linux x86_64 030201000504070608090A0B0C0D0E0F0 a.out\nINFO CODE_ID 000102030405060708090A0B0C0D0E0F10111213\n"
unfolding files both named
no_slash = refl

one_slash : named "d/a.out"
    ≡ texts "MODULE Linux x86_64 030201000504070608090A0B0C0D0E0F0 a.out\nINFO CODE_ID 000102030405060708090A0B0C0D0E0F10111213\n"
unfolding files both named
one_slash = refl

slashes : named "/usr/lib/a.out"
    ≡ texts "MODULE Linux x86_64 030201000504070608090A0B0C0D0E0F0 a.out\nINFO CODE_ID 000102030405060708090A0B0C0D0E0F10111213\n"
unfolding files both named
slashes = refl

two_slashes : named "d//x"
    ≡ texts "MODULE Linux x86_64 030201000504070608090A0B0C0D0E0F0 x\nINFO CODE_ID 000102030405060708090A0B0C0D0E0F10111213\n"
unfolding files both named
two_slashes = refl

spaces : named "d/ x y "
    ≡ texts "MODULE Linux x86_64 030201000504070608090A0B0C0D0E0F0 x y \nINFO CODE_ID 000102030405060708090A0B0C0D0E0F10111213\n"
unfolding files both named
spaces = refl

a_tab : named "d/a\tb"
    ≡ texts "MODULE Linux x86_64 030201000504070608090A0B0C0D0E0F0 a?b\nINFO CODE_ID 000102030405060708090A0B0C0D0E0F10111213\n"
unfolding files both named
a_tab = refl

a_delete : named "d/\u{7f}"
    ≡ texts "MODULE Linux x86_64 030201000504070608090A0B0C0D0E0F0 ?\nINFO CODE_ID 000102030405060708090A0B0C0D0E0F10111213\n"
unfolding files both named
a_delete = refl

high_bytes : named "d/Ã©"
    ≡ texts "MODULE Linux x86_64 030201000504070608090A0B0C0D0E0F0 Ã©\nINFO CODE_ID 000102030405060708090A0B0C0D0E0F10111213\n"
unfolding files both named
high_bytes = refl

a_line_end : named "d/\n x"
    ≡ texts "MODULE Linux x86_64 030201000504070608090A0B0C0D0E0F0 ? x\nINFO CODE_ID 000102030405060708090A0B0C0D0E0F10111213\n"
unfolding files both named
a_line_end = refl

nothing_behind_a_slash : named "d/"
    ≡ texts "MODULE Linux x86_64 030201000504070608090A0B0C0D0E0F0 <name omitted>\nINFO CODE_ID 000102030405060708090A0B0C0D0E0F10111213\n"
unfolding files both named
nothing_behind_a_slash = refl

a_slash_alone : named "/"
    ≡ texts "MODULE Linux x86_64 030201000504070608090A0B0C0D0E0F0 <name omitted>\nINFO CODE_ID 000102030405060708090A0B0C0D0E0F10111213\n"
unfolding files both named
a_slash_alone = refl

no_name : named ""
    ≡ texts "MODULE Linux x86_64 030201000504070608090A0B0C0D0E0F0 <name omitted>\nINFO CODE_ID 000102030405060708090A0B0C0D0E0F10111213\n"
unfolding files both named
no_name = refl

spaces_alone : named "d/  "
    ≡ texts "MODULE Linux x86_64 030201000504070608090A0B0C0D0E0F0 <name omitted>\nINFO CODE_ID 000102030405060708090A0B0C0D0E0F10111213\n"
unfolding files both named
spaces_alone = refl
