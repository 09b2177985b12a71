-- Worked examples: what `judge` answers, given the bytes of an ELF file and of a symbol file.
use Rattle.std.proofs.Common.{◌≡◌, ℕ, List, [], ◌∷◌, codes, Option, None, Some, replicate, if◌then◌else◌, refl}
use Prim.Native.String.{String}
use Rattle.std.specs.Str.{bytes_eq}
use Rattle.worked.proofs.ComputingSymbols.{symbols_compute}
use Rattle.worked.proofs.Elf.{Section, loaded, code, null, file_of, hex}
use Rattle.worked.proofs.Plain.{plain_verdict}
use Rattle.worked.proofs.Small.{Told, told, id, files}

-- A file with a function from 1000 to 1020 that pushes rbp, and its frame entry.
abbrev push_rbp : Section
push_rbp = record {
  name = codes ".eh_frame";
  kind = 1;
  flags = 0;
  address = 0x2000;
  link = 0;
  content = hex "14000000 00000000 01 7a5200 01 78 10 01 1b 0c0708 9001 0000 1c000000 1c000000 e0efffff 20000000 00 41 0e10 8602 43 0d06 4a 0c0708 000000 00000000";
}

unfoldable pushing : List ℕ
pushing = file_of (loaded 0 ∷ []) (null ∷ id ∷ code 0x1000 (replicate 32 0x90) ∷ push_rbp ∷ [])

-- The ELF file `e` and the symbol file `s`.
unfoldable over : Option (List ℕ) → Option (List ℕ) → Told
over elf sym = told (plain_verdict (codes "judge" ∷ codes "e" ∷ codes "s" ∷ []) (λ name. if bytes_eq name (codes "e") then elf else if bytes_eq name (codes "s") then sym else None))

unfoldable judged : String → Told
unfolding over pushing
judged text = over (Some pushing) (Some (codes text))

abbrev yes : Told
yes = Some (0, "yes\n", "")

abbrev no : String → Told
no place = Some (1, place, "")

-- The records that a dump gives, with another MODULE.
its_own_records : judged "MODULE a b c d\nSTACK CFI INIT 1000 20 .cfa: $rsp 8 + .ra: .cfa -8 + ^\nSTACK CFI 1001 .cfa: $rsp 16 + $rbp: .cfa -16 + ^\nSTACK CFI 1004 .cfa: $rbp 16 +\nSTACK CFI 100e .cfa: $rsp 8 +\n" ≡ yes
unfolding judged files symbols_compute
its_own_records = refl

-- The same rules in other words.
other_words : judged "MODULE a b c d\nSTACK CFI INIT 1000 20 .cfa: $rsp 8 + .ra: .cfa -8 + ^\nSTACK CFI 1001 .cfa: 16 $rsp + $rbp: .cfa 16 - ^\nSTACK CFI 1004 .cfa: $rbp 16 +\nSTACK CFI 100e .cfa: $rsp 8 +\n" ≡ yes
unfolding judged files symbols_compute
other_words = refl

-- Another place of rbp.
another_slot : judged "MODULE a b c d\nSTACK CFI INIT 1000 20 .cfa: $rsp 8 + .ra: .cfa -8 + ^\nSTACK CFI 1001 .cfa: $rsp 16 + $rbp: .cfa -8 + ^\nSTACK CFI 1004 .cfa: $rbp 16 +\nSTACK CFI 100e .cfa: $rsp 8 +\n" ≡ no "no 1001 rbp\n"
unfolding judged files symbols_compute
another_slot = refl

-- A change is missing.
without_its_last_line : judged "MODULE a b c d\nSTACK CFI INIT 1000 20 .cfa: $rsp 8 + .ra: .cfa -8 + ^\nSTACK CFI 1001 .cfa: $rsp 16 + $rbp: .cfa -16 + ^\nSTACK CFI 1004 .cfa: $rbp 16 +\n" ≡ no "no 100e cfa\n"
unfolding judged files symbols_compute
without_its_last_line = refl

-- Another return address.
another_return_address : judged "MODULE a b c d\nSTACK CFI INIT 1000 20 .cfa: $rsp 8 + .ra: .cfa -16 + ^\nSTACK CFI 1001 .cfa: $rsp 16 + $rbp: .cfa -16 + ^\nSTACK CFI 1004 .cfa: $rbp 16 +\nSTACK CFI 100e .cfa: $rsp 8 +\n" ≡ no "no 1000 ra\n"
unfolding judged files symbols_compute
another_return_address = refl

-- An INIT that ends too early, and one that begins too early.
a_shorter_init : judged "MODULE a b c d\nSTACK CFI INIT 1000 1f .cfa: $rsp 8 + .ra: .cfa -8 + ^\nSTACK CFI 1001 .cfa: $rsp 16 + $rbp: .cfa -16 + ^\nSTACK CFI 1004 .cfa: $rbp 16 +\nSTACK CFI 100e .cfa: $rsp 8 +\n" ≡ no "no 101f init\n"
unfolding judged files symbols_compute
a_shorter_init = refl

an_earlier_init : judged "MODULE a b c d\nSTACK CFI INIT fff 21 .cfa: $rsp 8 + .ra: .cfa -8 + ^\nSTACK CFI 1001 .cfa: $rsp 16 + $rbp: .cfa -16 + ^\nSTACK CFI 1004 .cfa: $rbp 16 +\nSTACK CFI 100e .cfa: $rsp 8 +\n" ≡ no "no fff init\n"
unfolding judged files symbols_compute
an_earlier_init = refl

-- A file that has only a MODULE record.
no_records : judged "MODULE a b c d\n" ≡ no "no 1000 init\n"
unfolding judged files symbols_compute
no_records = refl

-- At one address names come before frame rules, and a lesser address comes before both.
a_function : judged "MODULE a b c d\nFUNC 1000 20 0 f\n" ≡ no "no 1000 func\n"
unfolding judged files symbols_compute
a_function = refl

a_function_before : judged "MODULE a b c d\nFUNC 0 1 0 f\nSTACK CFI INIT 1000 20 .cfa: $rsp 8 + .ra: .cfa -8 + ^\nSTACK CFI 1001 .cfa: $rsp 16 + $rbp: .cfa -16 + ^\nSTACK CFI 1004 .cfa: $rbp 16 +\nSTACK CFI 100e .cfa: $rsp 8 +\n" ≡ no "no 0 func\n"
unfolding judged files symbols_compute
a_function_before = refl

the_last_address : judged "MODULE a b c d\nFUNC ffffffffffffffff 1 0 f\nSTACK CFI INIT 1000 20 .cfa: $rsp 8 + .ra: .cfa -8 + ^\nSTACK CFI 1001 .cfa: $rsp 16 + $rbp: .cfa -16 + ^\nSTACK CFI 1004 .cfa: $rbp 16 +\nSTACK CFI 100e .cfa: $rsp 8 +\n" ≡ no "no ffffffffffffffff func\n"
unfolding judged files symbols_compute
the_last_address = refl

-- Two aspects differ at one address: the first in their order counts.
two_parts : judged "MODULE a b c d\nSTACK CFI INIT 1000 20 .cfa: $rsp 16 + .ra: .cfa -16 + ^\nSTACK CFI 1001 .cfa: $rsp 16 + $rbp: .cfa -16 + ^\nSTACK CFI 1004 .cfa: $rbp 16 +\nSTACK CFI 100e .cfa: $rsp 8 +\n" ≡ no "no 1000 cfa\n"
unfolding judged files symbols_compute
two_parts = refl

-- PUBLIC and INFO are not compared.
a_symbol : judged "MODULE a b c d\nINFO x\nPUBLIC 1000 0 f\nSTACK CFI INIT 1000 20 .cfa: $rsp 8 + .ra: .cfa -8 + ^\nSTACK CFI 1001 .cfa: $rsp 16 + $rbp: .cfa -16 + ^\nSTACK CFI 1004 .cfa: $rbp 16 +\nSTACK CFI 100e .cfa: $rsp 8 +\n" ≡ yes
unfolding judged files symbols_compute
a_symbol = refl

-- An INIT that is split in two.
split_in_two : judged "MODULE a b c d\nSTACK CFI INIT 1000 e .cfa: $rsp 8 + .ra: .cfa -8 + ^\nSTACK CFI 1001 .cfa: $rsp 16 + $rbp: .cfa -16 + ^\nSTACK CFI 1004 .cfa: $rbp 16 +\nSTACK CFI INIT 100e 12 $rbp: -16 .cfa + ^ .ra: .cfa 8 - ^ .cfa: 8 $rsp +\n" ≡ yes
unfolding judged files symbols_compute
split_in_two = refl

-- The ELF file is read first. If it is refused, the symbol file is not asked for.
an_elf_file_that_is_none : over (Some (codes "x")) None ≡ Some (1, "", "refused elf not-elf\n")
unfolding over files symbols_compute
an_elf_file_that_is_none = refl

no_elf_file : over None (Some (codes "MODULE a b c d\n")) ≡ Some (3, "", "cannot read input\n")
unfolding over files symbols_compute
no_elf_file = refl

no_symbol_file : over (Some pushing) None ≡ Some (3, "", "cannot read input\n")
unfolding over pushing files symbols_compute
no_symbol_file = refl

a_symbol_file_that_is_none : judged "FILE 0 a\n" ≡ Some (1, "", "refused text no-module line 1\n")
unfolding judged files symbols_compute
a_symbol_file_that_is_none = refl
