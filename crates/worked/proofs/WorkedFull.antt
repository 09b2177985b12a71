-- Worked examples: the arguments `--full`, `judge` with a debug file, files that cannot be read,
-- and units whose entries are in another file.
use Rattle.std.proofs.Common.{◌≡◌, ℕ, ◌+◌, Bool, true, false, List, [], ◌∷◌, ◌++◌, codes, length, replicate, None, Some, Result, Ok, Err, if◌then◌else◌, refl}
use Prim.Native.String.{String}
use Rattle.std.specs.Str.{bytes_eq}
use Rattle.sym_edges.proofs.Hex.{little}
use Rattle.sym_edges.proofs.Shown.{shown}
use Rattle.sym_edges.specs.Outside.{Files}
use Rattle.sym_edges.specs.declared.located.Located.{Located}
use Rattle.abbrev_units.specs.DebugSections.{DebugSections}
use Rattle.abbrev_units.specs.Units.{units_in}
use Rattle.abbrev_units.specs.declared.fault.DwarfKind.{DwarfKind}
use Rattle.abbrev_units.specs.declared.unit.Unit.{Unit}
use Rattle.dumpsyms_cmd.specs.Refusals.{units_text}
use Rattle.worked.proofs.ComputingSymbols.{symbols_compute}
use Rattle.worked.proofs.Elf.{progbits, hex}
use Rattle.worked.proofs.Plain.{plain_verdict}
use Rattle.worked.proofs.Small.{Told, told, ran, small, small_and, worked, files}

-- The answers to arguments if there is no file, and if there is the file `a`.
unfoldable both : List (List ℕ) → List Told
both words = told (plain_verdict words (λ asked. None)) ∷ ran words (codes "a") small ∷ []

-- Status 3, and a line on standard error.
abbrev not_read : String → Told
not_read line = Some (3, "", line)

-- The answers of `dump --full a` if there is no file, and if there is the file `a`.
abbrev dumped : List Told
dumped =
    let text : Told = Some (0, "MODULE Linux x86_64 030201000504070608090A0B0C0D0E0F0 a\nINFO CODE_ID 000102030405060708090A0B0C0D0E0F10111213\nPUBLIC 1000 0 main\n", "") in
    not_read "cannot read a\n" ∷ text ∷ []

-- The answers to invalid arguments.
abbrev usage : List Told
usage =
    let line : Told = Some (2, "", "usage: dumpsyms dump ELF, check SYM, lookup SYM ADDR, frame SYM ADDR STATE, sample N, walk SYM STATE, judge ELF SYM, names SYM, dump --full ELF, stacks CORE STORE\n") in line ∷ line ∷ []

full : both (codes "dump" ∷ codes "--full" ∷ codes "a" ∷ []) ≡ dumped
unfolding files both
full = refl

full_by_two_workers : both (codes "dump" ∷ codes "--full" ∷ codes "a" ∷ codes "--workers" ∷ codes "2" ∷ []) ≡ dumped
unfolding files both
full_by_two_workers = refl

full_with_a_debug_file : both (codes "dump" ∷ codes "--full" ∷ codes "a" ∷ codes "--debug" ∷ codes "a" ∷ []) ≡ dumped
unfolding files both
full_with_a_debug_file = refl

full_below_a_root : ran (codes "dump" ∷ codes "--full" ∷ codes "a" ∷ codes "--debug-root" ∷ codes "r" ∷ []) (codes "a") small ≡ not_read "cannot read r/.build-id/00/0102030405060708090a0b0c0d0e0f10111213.debug\n"
unfolding files both
full_below_a_root = refl

-- Arguments without options, for a file that is named like one.
a_file_named_full : ran (codes "dump" ∷ codes "--full" ∷ []) (codes "--full") small ≡ Some (0, "MODULE Linux x86_64 030201000504070608090A0B0C0D0E0F0 --full\nINFO CODE_ID 000102030405060708090A0B0C0D0E0F10111213\nPUBLIC 1000 0 main\n", "")
unfolding files both
a_file_named_full = refl

not_there_plain : told (plain_verdict (codes "dump" ∷ codes "--full" ∷ codes "--workers" ∷ codes "2" ∷ []) (λ asked. None)) ≡ not_read "cannot read input\n"
unfolding files both
not_there_plain = refl

judged_plain : told (plain_verdict (codes "judge" ∷ codes "--full" ∷ codes "a" ∷ []) (λ asked. None)) ≡ not_read "cannot read input\n"
unfolding files both
judged_plain = refl

-- Arguments that are invalid.
full_behind_the_file : both (codes "dump" ∷ codes "a" ∷ codes "--full" ∷ []) ≡ usage
unfolding files both
full_behind_the_file = refl

full_of_another_command : both (codes "check" ∷ codes "--full" ∷ codes "a" ∷ []) ≡ usage
unfolding files both
full_of_another_command = refl

full_without_a_number : both (codes "dump" ∷ codes "--full" ∷ codes "a" ∷ codes "--workers" ∷ codes "0" ∷ []) ≡ usage
unfolding files both
full_without_a_number = refl

judge_by_workers : both (codes "judge" ∷ codes "a" ∷ codes "a" ∷ codes "--workers" ∷ codes "2" ∷ []) ≡ usage
unfolding files both
judge_by_workers = refl

judge_full_by_workers : both (codes "judge" ∷ codes "--full" ∷ codes "a" ∷ codes "a" ∷ codes "--workers" ∷ codes "2" ∷ []) ≡ usage
unfolding files both
judge_full_by_workers = refl

-- A name is cleaned. The file that was asked for last is named.
a_name_that_is_cleaned : told (plain_verdict (codes "dump" ∷ codes "--full" ∷ codes " d/ x\t" ∷ []) (λ asked. None)) ≡ not_read "cannot read d/ x?\n"
unfolding files both
a_name_that_is_cleaned = refl

a_debug_file_that_is_missing : ran (codes "dump" ∷ codes "--full" ∷ codes "a" ∷ codes "--debug" ∷ codes "d" ∷ []) (codes "a") small ≡ not_read "cannot read d\n"
unfolding files both
a_debug_file_that_is_missing = refl

a_symbol_file_that_is_missing : ran (codes "judge" ∷ codes "--full" ∷ codes "a" ∷ codes "s" ∷ []) (codes "a") small ≡ not_read "cannot read s\n"
unfolding files both symbols_compute
a_symbol_file_that_is_missing = refl

behind_a_debug_file : ran (codes "judge" ∷ codes "--full" ∷ codes "a" ∷ codes "s" ∷ codes "--debug" ∷ codes "a" ∷ []) (codes "a") small ≡ not_read "cannot read s\n"
unfolding files both symbols_compute
behind_a_debug_file = refl

the_debug_file_first : ran (codes "judge" ∷ codes "a" ∷ codes "s" ∷ codes "--debug" ∷ codes "d" ∷ []) (codes "a") small ≡ not_read "cannot read input\n"
unfolding files both symbols_compute
the_debug_file_first = refl

-- The text of the small file, which `judge` finds the same with each form of its arguments.
abbrev text : List ℕ
text = codes "MODULE a b c d\nPUBLIC 1000 0 main\n"

unfoldable judged : List (List ℕ) → Told
judged words = told (plain_verdict words (λ asked. if bytes_eq asked (codes "a") then Some small else if bytes_eq asked (codes "s") then Some text else None))

judge_alone : judged (codes "judge" ∷ codes "a" ∷ codes "s" ∷ []) ≡ Some (0, "yes\n", "")
unfolding files symbols_compute judged
judge_alone = refl

judge_with_a_debug_file : judged (codes "judge" ∷ codes "a" ∷ codes "s" ∷ codes "--debug" ∷ codes "a" ∷ []) ≡ Some (0, "yes\n", "")
unfolding files symbols_compute judged
judge_with_a_debug_file = refl

judge_full : judged (codes "judge" ∷ codes "--full" ∷ codes "a" ∷ codes "s" ∷ []) ≡ Some (0, "yes\n", "")
unfolding files symbols_compute judged
judge_full = refl

judge_full_with_a_debug_file : judged (codes "judge" ∷ codes "--full" ∷ codes "a" ∷ codes "s" ∷ codes "--debug" ∷ codes "a" ∷ []) ≡ Some (0, "yes\n", "")
unfolding files symbols_compute judged
judge_full_with_a_debug_file = refl

judge_full_below_a_root : judged (codes "judge" ∷ codes "--full" ∷ codes "a" ∷ codes "s" ∷ codes "--debug-root" ∷ codes "r" ∷ []) ≡ not_read "cannot read r/.build-id/00/0102030405060708090a0b0c0d0e0f10111213.debug\n"
unfolding files symbols_compute judged
judge_full_below_a_root = refl

-- What standard error gets about the units of these sections.
abbrev sections : List ℕ → String → DebugSections
sections info abbreviations =
    record { info = info; abbrevs = hex abbreviations; line = []; line_str = []; strs = []; str_offsets = []; addr = []; ranges = []; rnglists = []; sup_strs = None; is_sup = false }

abbrev text_of : Bool → DebugSections → Result (List Unit) (Located DwarfKind) → String
text_of all own (Ok units) = shown (units_text all own units)
text_of all own (Err fault) = "a fault"

unfoldable says : Bool → List ℕ → String → String
says all info abbreviations = text_of all (sections info abbreviations) (units_in info)

-- A unit of version 4, and one of version 5 of a given type, by their entries. A skeleton unit has
-- the id of its split unit after the other fields.
unfoldable unit_4 : String → List ℕ
unit_4 entries = little 4 (7 + length (hex entries)) ++ hex "0400 00000000 08" ++ hex entries

unfoldable unit_5 : String → String → List ℕ
unit_5 type rest = little 4 (8 + length (hex rest)) ++ hex "0500" ++ hex type ++ hex "08 00000000" ++ hex rest

abbrev skeleton : List ℕ
skeleton = unit_5 "04" "0102030405060708 01 00"

-- Code 1 has a language, and code 2 has also DW_AT_GNU_dwo_name in four bytes.
abbrev named : String
named = "01 11 00 13 0b 00 00   02 4a 00 13 0b b042 0e 00 00   00"

a_skeleton_unit : says true skeleton named ≡ "split debug_info 0\n"
unfolding files says unit_4 unit_5
a_skeleton_unit = refl

the_same_plain : says false skeleton named ≡ ""
unfolding files says unit_4 unit_5
the_same_plain = refl

in_the_64_bit_format : says true (hex "ffffffff 1600000000000000 0500 04 08 0000000000000000 0102030405060708 01 00") named ≡ "split debug_info 0\n"
unfolding files says unit_4 unit_5
in_the_64_bit_format = refl

other_types_of_units : says true (unit_5 "01" "01 00" ++ unit_5 "03" "01 00" ++ unit_5 "05" "0102030405060708 01 00") named ≡ ""
unfolding files says unit_4 unit_5
other_types_of_units = refl

a_unit_of_version_4 : says true (unit_4 "02 00 00000000") named ≡ "split debug_info 0\n"
unfolding files says unit_4 unit_5
a_unit_of_version_4 = refl

without_the_attribute : says true (unit_4 "01 00") named ≡ ""
unfolding files says unit_4 unit_5
without_the_attribute = refl

without_an_entry : says true (unit_4 "" ++ unit_4 "02 00 00000000") named ≡ "split debug_info b\n"
unfolding files says unit_4 unit_5
without_an_entry = refl

in_their_order : says true (unit_4 "02 00 00000000" ++ hex "07000000 0300 00000000 08" ++ skeleton ++ unit_4 "01 00" ++ unit_4 "02 00 00000000") named
    ≡ "split debug_info 0\nskipped debug_info 11 version 3\nsplit debug_info 1c\nsplit debug_info 3f\n"
unfolding files says unit_4 unit_5
in_their_order = refl
