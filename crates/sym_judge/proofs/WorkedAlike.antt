-- Worked examples: the first aspect in which two texts differ at an address.
use Rattle.std.proofs.Common.{◌≡◌, ℕ, ◌-◌, ◌^◌, List, [], ◌++◌, codes, Option, None, Some, Result, Ok, Err, refl}
use Prim.Native.String.{String}
use Rattle.sym_records.specs.declared.line.SymLine.{SymLine}
use Rattle.sym_records.specs.Reading.{reading}
use Rattle.sym_judge.specs.Alike.{first_unlike}
use Rattle.sym_judge.specs.declared.ruling.Aspect.{Aspect}
use Rattle.sym_judge.specs.declared.ruling.Aspect.TheVariants.{Func, Chain, Line, Init, Cfa, Ra, Reg}
use Rattle.sym_judge.proofs.Computing.{sym_judge_computes}

abbrev pub records_in : {F : Type 0} → Result (List SymLine) F → List SymLine
records_in (Ok records) = records
records_in (Err fault) = []

unfoldable pub records : String → List SymLine
records text = records_in (reading (codes "MODULE a b c d\n" ++ codes text))

unfoldable unlike : String → String → ℕ → Option Aspect
unfolding records
unlike own other x = first_unlike (records own) (records other) x

-- The rules of a function that sets up rbp, and the same rules in other words.
abbrev frames : String
frames = "STACK CFI INIT 1000 20 .cfa: $rsp 8 + .ra: .cfa -8 + ^\nSTACK CFI 1001 .cfa: $rsp 16 + $rbp: .cfa -16 + ^\nSTACK CFI 1004 .cfa: $rbp 16 +\nSTACK CFI 100e .cfa: $rsp 8 +\n"

abbrev reworded : String
reworded = "STACK CFI INIT 1000 20 .cfa: $rsp 8 + .ra: .cfa -8 + ^\nSTACK CFI 1001 .cfa: 16 $rsp + $rbp: .cfa 16 - ^\nSTACK CFI 1004 .cfa: $rbp 16 +\nSTACK CFI 100e .cfa: $rsp 8 +\n"

before_all : unlike frames reworded 0xfff ≡ None
unfolding unlike sym_judge_computes
before_all = refl

in_other_words : unlike frames reworded 0x1001 ≡ None
unfolding unlike sym_judge_computes
in_other_words = refl

another_slot : unlike frames "STACK CFI INIT 1000 20 .cfa: $rsp 8 + .ra: .cfa -8 + ^\nSTACK CFI 1001 .cfa: $rsp 16 + $rbp: .cfa -8 + ^\n" 0x1001 ≡ Some (Reg 6)
unfolding unlike sym_judge_computes
another_slot = refl

the_same_before_it : unlike frames "STACK CFI INIT 1000 20 .cfa: $rsp 8 + .ra: .cfa -8 + ^\nSTACK CFI 1001 .cfa: $rsp 16 + $rbp: .cfa -8 + ^\n" 0x1000 ≡ None
unfolding unlike sym_judge_computes
the_same_before_it = refl

without_its_last_line : unlike frames "STACK CFI INIT 1000 20 .cfa: $rsp 8 + .ra: .cfa -8 + ^\nSTACK CFI 1001 .cfa: $rsp 16 + $rbp: .cfa -16 + ^\nSTACK CFI 1004 .cfa: $rbp 16 +\n" 0x100e ≡ Some Cfa
unfolding unlike sym_judge_computes
without_its_last_line = refl

-- An INIT that is split in two says the same.
split_in_two : unlike frames "STACK CFI INIT 1000 10 .cfa: $rsp 8 + .ra: .cfa -8 + ^\nSTACK CFI 1001 .cfa: $rsp 16 + $rbp: .cfa -16 + ^\nSTACK CFI 1004 .cfa: $rbp 16 +\nSTACK CFI 100e .cfa: $rsp 8 +\nSTACK CFI INIT 1010 10 $rbp: .cfa -16 + ^ .ra: -8 .cfa + ^ .cfa: $rsp 8 +\n" 0x101f ≡ None
unfolding unlike sym_judge_computes
split_in_two = refl

the_end_of_an_init : unlike frames "STACK CFI INIT 1000 1f .cfa: $rsp 8 + .ra: .cfa -8 + ^\nSTACK CFI 1001 .cfa: $rsp 16 + $rbp: .cfa -16 + ^\nSTACK CFI 1004 .cfa: $rbp 16 +\nSTACK CFI 100e .cfa: $rsp 8 +\n" 0x101f ≡ Some Init
unfolding unlike sym_judge_computes
the_end_of_an_init = refl

another_return_address : unlike frames "STACK CFI INIT 1000 20 .cfa: $rsp 8 + .ra: .cfa -16 + ^\n" 0x1000 ≡ Some Ra
unfolding unlike sym_judge_computes
another_return_address = refl

-- If the addresses of changes fall, the later record counts.
falling : unlike "STACK CFI INIT 0 9 .cfa: 1\nSTACK CFI 4 .cfa: 2\nSTACK CFI 2 .cfa: 3\n" "STACK CFI INIT 0 9 .cfa: 1\nSTACK CFI 2 .cfa: 3\n" 8 ≡ None
unfolding unlike sym_judge_computes
falling = refl

-- A function with an inlined call and lines, with other numbers and in another order.
abbrev names : String
names = "FILE 0 /s/a.c\nINLINE_ORIGIN 0 g\nFUNC 1000 20 0 f\nINLINE 0 4 0 0 1004 8\n1000 4 3 0\n1004 8 9 0\n100c 14 4 0\n"

abbrev renumbered : String
renumbered = "INFO x\nPUBLIC 10 0 p\nFUNC 1000 20 4 f\n1000 4 3 7\n100c 14 4 7\n1004 8 9 7\nINLINE 0 4 7 5 1004 4 1008 4\nINLINE_ORIGIN 5 g\nFILE 7 /s/a.c\nFILE 7 /s/b.c\n"

in_another_order : unlike names renumbered 0x1004 ≡ None
unfolding unlike sym_judge_computes
in_another_order = refl

at_its_end : unlike names renumbered 0x101f ≡ None
unfolding unlike sym_judge_computes
at_its_end = refl

another_name : unlike names "FUNC 1000 20 0 h\n" 0x1000 ≡ Some Func
unfolding unlike sym_judge_computes
another_name = refl

no_function : unlike names "PUBLIC 1000 0 f\n" 0x1000 ≡ Some Func
unfolding unlike sym_judge_computes
no_function = refl

-- The chain comes before the line.
no_call : unlike names "FILE 0 /s/a.c\nFUNC 1000 20 0 f\n1000 4 3 0\n" 0x1004 ≡ Some Chain
unfolding unlike sym_judge_computes
no_call = refl

another_call_line : unlike names "FILE 0 /s/a.c\nINLINE_ORIGIN 0 g\nFUNC 1000 20 0 f\nINLINE 0 5 0 0 1004 8\n1000 4 3 0\n" 0x1004 ≡ Some Chain
unfolding unlike sym_judge_computes
another_call_line = refl

another_line : unlike names "FILE 0 /s/a.c\nFUNC 1000 20 0 f\n1000 4 2 0\n" 0x1000 ≡ Some Line
unfolding unlike sym_judge_computes
another_line = refl

another_path : unlike names "FILE 0 /s/b.c\nFUNC 1000 20 0 f\n1000 4 3 0\n" 0x1000 ≡ Some Line
unfolding unlike sym_judge_computes
another_path = refl

-- A missing origin is `<name omitted>`, and a missing file has no path.
a_missing_origin : unlike "FUNC 0 9 0 f\nINLINE 0 5 0 0 0 9\n" "INLINE_ORIGIN 3 <name omitted>\nFUNC 0 9 0 f\nINLINE 0 5 4 3 0 9\n" 0 ≡ None
unfolding unlike sym_judge_computes
a_missing_origin = refl

a_missing_file : unlike "FUNC 0 9 0 f\n0 9 5 0\n" "FILE 0 ?\nFUNC 0 9 0 f\n0 9 5 0\n" 0 ≡ Some Line
unfolding unlike sym_judge_computes
a_missing_file = refl

-- The order of INLINE records of different levels and of FUNCs does not matter.
by_depth : unlike "INLINE_ORIGIN 0 g\nINLINE_ORIGIN 1 h\nFUNC 0 9 0 f\nINLINE 0 5 0 0 2 4\nINLINE 1 6 0 1 3 1\nFUNC 10 9 0 k\n" "INLINE_ORIGIN 0 g\nINLINE_ORIGIN 1 h\nFUNC 10 9 0 k\nFUNC 0 9 0 f\nINLINE 1 6 0 1 3 1\nINLINE 0 5 0 0 2 4\n" 3 ≡ None
unfolding unlike sym_judge_computes
by_depth = refl

-- The last of all addresses.
the_last_address : unlike "FUNC ffffffffffffffff 1 0 f\n" "FUNC ffffffffffffffff 1 0 g\n" (2 ^ 64 - 1) ≡ Some Func
unfolding unlike sym_judge_computes
the_last_address = refl
