-- Worked examples: what `walk` answers, given the bytes of the files.
use Rattle.std.proofs.Common.{◌≡◌, ℕ, List, [], ◌∷◌, codes, Option, None, Some, if◌then◌else◌, refl}
use Prim.Native.String.{String}
use Rattle.std.specs.Str.{bytes_eq}
use Rattle.worked.proofs.ComputingSymbols.{symbols_compute}
use Rattle.worked.proofs.Plain.{plain_verdict}
use Rattle.worked.proofs.Small.{Told, told}

unfoldable of : List (List ℕ) → Option (List ℕ) → Option (List ℕ) → Told
of words sym state = told (plain_verdict words (λ name. if bytes_eq name (codes "s") then sym else if bytes_eq name (codes "t") then state else None))

unfoldable walked : Option (List ℕ) → Option (List ℕ) → Told
unfolding of
walked sym state = of (codes "walk" ∷ codes "s" ∷ codes "t" ∷ []) sym state

-- Two functions with rules for three ranges; and two functions next to each other, of which one has
-- an inlined copy.
abbrev two_calls : String
two_calls = "MODULE Linux x86_64 0 a\nFUNC 1000 20 0 f\nFUNC 2000 10 0 g\nSTACK CFI INIT 1000 20 .cfa: $rsp 8 + .ra: .cfa -8 + ^\nSTACK CFI INIT 2000 10 .cfa: $rsp 8 +\nSTACK CFI INIT 3000 10 .cfa: $rsp .ra: .cfa -8 + ^\n"

abbrev inlined : String
inlined = "MODULE Linux x86_64 0 a\nFILE 0 /s/a.c\nFILE 1 /s/b.c\nINLINE_ORIGIN 0 g\nFUNC 1000 10 0 leaf\n1000 10 2 0\nFUNC 1010 10 0 f\nINLINE 0 4 0 0 1014 8\n1010 4 3 0\n1014 8 9 1\n101c 4 5 0\nFUNC 1020 8 0 after\nPUBLIC 2000 0 _start\nSTACK CFI INIT 1000 30 .cfa: $rsp 8 + .ra: .cfa -8 + ^\n"

-- `f` returns to `g`, which has no rule for its return address.
a_caller : walked (Some (codes two_calls)) (Some (codes "REG rip 1005\nREG rsp 7000\nMEM 7000 0520000000000000\n")) ≡ Some (0, "0 1005\nf at ?\n1 2005\ng at ?\nend ra-undefined\n", "")
unfolding walked symbols_compute
a_caller = refl

-- A CFA that is not above the one before.
a_low_cfa : walked (Some (codes two_calls)) (Some (codes "REG rip 1005\nREG rsp 7000\nMEM 7000 0530000000000000\n")) ≡ Some (0, "0 1005\nf at ?\n1 3005\nnone\nend cfa-low 7008 7008\n", "")
unfolding walked symbols_compute
a_low_cfa = refl

-- Memory that is not known.
no_memory : walked (Some (codes two_calls)) (Some (codes "REG rip 1005\nREG rsp 7000\n")) ≡ Some (0, "0 1005\nf at ?\nend ra-failed unreadable 7000\n", "")
unfolding walked symbols_compute
no_memory = refl

-- A state without rip.
no_rip : walked (Some (codes two_calls)) (Some (codes "REG rsp 7000\nMEM 7000 0520000000000000\n")) ≡ Some (1, "", "refused walk no-rip\n")
unfolding walked symbols_compute
no_rip = refl

-- An address that is in no function and has no rules.
nowhere : walked (Some (codes two_calls)) (Some (codes "REG rip 4000\n")) ≡ Some (0, "0 4000\nnone\nend no-rules\n", "")
unfolding walked symbols_compute
nowhere = refl

-- The return address 0.
zero : walked (Some (codes two_calls)) (Some (codes "REG rip 1005\nREG rsp 7000\nMEM 7000 0000000000000000\n")) ≡ Some (0, "0 1005\nf at ?\nend ra-zero\n", "")
unfolding walked symbols_compute
zero = refl

-- A call is shown by its last address. If the return address is after the end of `f`, this is in
-- the last line of `f`. Inlined copies and symbols are shown too.
returns_behind_a_function : walked (Some (codes inlined)) (Some (codes "REG rip 1004\nREG rsp 7000\nMEM 7000 2010000000000000161000000000000001200000000000000000000000000000\n")) ≡ Some (0, "0 1004\nleaf at /s/a.c:2\n1 1020\nf at /s/a.c:5\n2 1016\ng at /s/b.c:9\nf at /s/a.c:4\n3 2001\npublic _start\nend no-rules\n", "")
unfolding walked symbols_compute
returns_behind_a_function = refl

-- Each other end.
no_cfa : walked (Some (codes "MODULE Linux x86_64 0 a\nSTACK CFI INIT 0 8 .ra: 1\n")) (Some (codes "REG rip 0\n")) ≡ Some (0, "0 0\nnone\nend cfa-undefined\n", "")
unfolding walked symbols_compute
no_cfa = refl

a_failed_cfa : walked (Some (codes "MODULE Linux x86_64 0 a\nSTACK CFI INIT 0 8 .cfa: $rsp 8 +\n")) (Some (codes "REG rip 0\n")) ≡ Some (0, "0 0\nnone\nend cfa-failed missing rsp\n", "")
unfolding walked symbols_compute
a_failed_cfa = refl

a_failed_return_address : walked (Some (codes "MODULE Linux x86_64 0 a\nSTACK CFI INIT 0 8 .cfa: 8 .ra: 1 0 /\n")) (Some (codes "REG rip 0\n")) ≡ Some (0, "0 0\nnone\nend ra-failed divide\n", "")
unfolding walked symbols_compute
a_failed_return_address = refl

-- In a procedure linkage table the CFA depends on rip.
a_linkage_table : walked (Some (codes "MODULE Linux x86_64 0 a\nPUBLIC 1020 0 puts@plt\nPUBLIC 5000 0 main\nSTACK CFI INIT 1020 20 .cfa: $rsp 8 + $rip 16 % 11 / 8 * + .ra: .cfa -8 + ^\n")) (Some (codes "REG rip 103b\nREG rsp 7000\nMEM 7000 01400000000000000150000000000000\n")) ≡ Some (0, "0 103b\npublic puts@plt\n1 5001\npublic main\nend no-rules\n", "")
unfolding walked symbols_compute
a_linkage_table = refl

-- Faults of the symbol file come before those of the state.
a_bad_text : walked (Some (codes "MODULE Linux x86_64 0 a\nfunc\n")) (Some (codes "REG\n")) ≡ Some (1, "", "refused text unknown line 2\n")
unfolding walked symbols_compute
a_bad_text = refl

a_bad_state : walked (Some (codes two_calls)) (Some (codes "REG\n")) ≡ Some (1, "", "refused state fields line 1\n")
unfolding walked symbols_compute
a_bad_state = refl

no_symbol_file : walked (None) (Some (codes "REG rip 0\n")) ≡ Some (3, "", "cannot read input\n")
unfolding walked symbols_compute
no_symbol_file = refl

no_state_file : walked (Some (codes two_calls)) (None) ≡ Some (3, "", "cannot read input\n")
unfolding walked symbols_compute
no_state_file = refl

-- Arguments that are invalid.
two_words : of (codes "walk" ∷ codes "s" ∷ []) (Some (codes two_calls)) (Some (codes "REG rip 0\n")) ≡ Some (2, "", "usage: dumpsyms dump ELF, check SYM, lookup SYM ADDR, frame SYM ADDR STATE, sample N, walk SYM STATE, judge ELF SYM, names SYM, dump --full ELF, stacks CORE STORE\n")
unfolding of symbols_compute
two_words = refl

four_words : of (codes "walk" ∷ codes "s" ∷ codes "t" ∷ codes "0" ∷ []) (Some (codes two_calls)) (Some (codes "REG rip 0\n")) ≡ Some (2, "", "usage: dumpsyms dump ELF, check SYM, lookup SYM ADDR, frame SYM ADDR STATE, sample N, walk SYM STATE, judge ELF SYM, names SYM, dump --full ELF, stacks CORE STORE\n")
unfolding of symbols_compute
four_words = refl
