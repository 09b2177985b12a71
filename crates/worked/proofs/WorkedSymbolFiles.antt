-- Worked examples: what `check`, `lookup` and `frame` answer, given the bytes of the files.
use Rattle.std.proofs.Common.{◌≡◌, ℕ, List, [], ◌∷◌, codes, Option, None, Some, if◌then◌else◌, refl}
use Prim.Native.String.{String}
use Rattle.std.specs.Str.{bytes_eq}
use Rattle.worked.proofs.ComputingSymbols.{symbols_compute}
use Rattle.worked.proofs.Plain.{plain_verdict}
use Rattle.worked.proofs.Small.{Told, told}

-- The answer to arguments with a symbol file `s` and a state file `t`.
unfoldable over : List (List ℕ) → Option (List ℕ) → Option (List ℕ) → Told
over words sym state = told (plain_verdict words (λ name. if bytes_eq name (codes "s") then sym else if bytes_eq name (codes "t") then state else None))

-- The text of a dump of a small C program.
abbrev hello : String
hello = "MODULE Linux x86_64 030201000504070608090A0B0C0D0E0F0 hello\nINFO CODE_ID 000102030405060708090A0B0C0D0E0F10111213\nFILE 0 /home/u/hello.c\nFUNC 1139 17 0 main\n1139 4 3 0\n113d f 4 0\n114c 4 5 0\nPUBLIC 1000 0 _init\nPUBLIC 1040 0 _start\nSTACK CFI INIT 1040 22 .cfa: $rsp 8 +\nSTACK CFI INIT 1020 20 .cfa: $rsp 16 + .ra: .cfa -8 + ^\nSTACK CFI 1026 .cfa: $rsp 24 +\nSTACK CFI 1030 .cfa: $rsp 8 + $rip 0 + 16 % 5 + 16 / 8 * +\nSTACK CFI INIT 1139 17 .cfa: $rsp 8 + .ra: .cfa -8 + ^\nSTACK CFI 113a .cfa: $rsp 16 + $rbp: .cfa -16 + ^\nSTACK CFI 113d .cfa: $rbp 16 +\nSTACK CFI 114f .cfa: $rsp 8 +\n"

-- A checker finds that a FUNC overlaps an earlier one.
functions_meet : over (codes "check" ∷ codes "s" ∷ []) (Some (codes "MODULE Linux x86_64 0 a\nFUNC 1000 10 0 f\nFUNC 1008 10 0 g\n")) (None) ≡ Some (1, "C5 record 3\n", "")
unfolding over symbols_compute
functions_meet = refl

-- A checker finds nothing if they do not overlap.
functions_apart : over (codes "check" ∷ codes "s" ∷ []) (Some (codes "MODULE Linux x86_64 0 a\nFUNC 1000 10 0 f\nFUNC 1010 10 0 g\n")) (None) ≡ Some (0, "no findings\n", "")
unfolding over symbols_compute
functions_apart = refl

-- A line that is no record is refused with its number.
an_unknown_word : over (codes "check" ∷ codes "s" ∷ []) (Some (codes "MODULE Linux x86_64 0 a\nfunc 1\n")) (None) ≡ Some (1, "", "refused text unknown line 2\n")
unfolding over symbols_compute
an_unknown_word = refl

-- A file without records.
an_empty_file : over (codes "check" ∷ codes "s" ∷ []) (Some (codes "")) (None) ≡ Some (1, "", "refused text empty line 1\n")
unfolding over symbols_compute
an_empty_file = refl

-- Findings are in the order of the records.
two_findings : over (codes "check" ∷ codes "s" ∷ []) (Some (codes "MODULE Linux x86_64 0 a\nFILE 0 a\nFILE 0 b\nFUNC 10 0 0 f\n")) (None) ≡ Some (1, "C1 record 3\nC4 record 4\n", "")
unfolding over symbols_compute
two_findings = refl

-- CRs at the end of a line are ignored.
two_crs : over (codes "check" ∷ codes "s" ∷ []) (Some (codes "MODULE Linux x86_64 0 a\nFILE 0 a\r\r\n")) (None) ≡ Some (0, "no findings\n", "")
unfolding over symbols_compute
two_crs = refl

-- Findings at one record are in the order of their kinds.
two_kinds : over (codes "check" ∷ codes "s" ∷ []) (Some (codes "MODULE Linux x86_64 0 a\nFUNC 10 8 0 f\n10 0 1 9\n")) (None) ≡ Some (1, "C2 record 3\nC4 record 3\n", "")
unfolding over symbols_compute
two_kinds = refl

-- INITs that overlap, and a change outside of its INIT.
frames_meet : over (codes "check" ∷ codes "s" ∷ []) (Some (codes "MODULE Linux x86_64 0 a\nSTACK CFI INIT 10 8 .cfa: $rsp 8 +\nSTACK CFI INIT 14 8 .cfa: $rsp 8 +\nSTACK CFI 1c .cfa: $rsp 16 +\n")) (None) ≡ Some (1, "C8 record 3\nC9 record 4\n", "")
unfolding over symbols_compute
frames_meet = refl

-- The word of each kind of fault.
a_line_before_a_function : over (codes "check" ∷ codes "s" ∷ []) (Some (codes "MODULE Linux x86_64 0 a\n1000 4 1 0\n")) (None) ≡ Some (1, "", "refused text misplaced line 2\n")
unfolding over symbols_compute
a_line_before_a_function = refl

no_module : over (codes "check" ∷ codes "s" ∷ []) (Some (codes "\nFILE 0 a\n")) (None) ≡ Some (1, "", "refused text no-module line 2\n")
unfolding over symbols_compute
no_module = refl

a_windows_record : over (codes "check" ∷ codes "s" ∷ []) (Some (codes "MODULE Linux x86_64 0 a\nSTACK WIN 4\n")) (None) ≡ Some (1, "", "refused text windows line 2\n")
unfolding over symbols_compute
a_windows_record = refl

a_bad_number : over (codes "check" ∷ codes "s" ∷ []) (Some (codes "MODULE Linux x86_64 0 a\nFUNC  M000 1 0 f\n")) (None) ≡ Some (1, "", "refused text hex line 2\n")
unfolding over symbols_compute
a_bad_number = refl

a_rule_without_words : over (codes "check" ∷ codes "s" ∷ []) (Some (codes "MODULE Linux x86_64 0 a\nSTACK CFI INIT 10 4 .cfa: $rsp 8 + .ra:\n")) (None) ≡ Some (1, "", "refused text rule line 2\n")
unfolding over symbols_compute
a_rule_without_words = refl

a_number_too_large : over (codes "check" ∷ codes "s" ∷ []) (Some (codes "MODULE Linux x86_64 0 a\nFILE 4294967296 a\n")) (None) ≡ Some (1, "", "refused text decimal line 2\n")
unfolding over symbols_compute
a_number_too_large = refl

a_name_missing : over (codes "check" ∷ codes "s" ∷ []) (Some (codes "MODULE Linux x86_64 0 a\nFUNC 10 4 0\n")) (None) ≡ Some (1, "", "refused text fields line 2\n")
unfolding over symbols_compute
a_name_missing = refl

-- A file that does not exist.
no_file : over (codes "check" ∷ codes "s" ∷ []) (None) (None) ≡ Some (3, "", "cannot read input\n")
unfolding over symbols_compute
no_file = refl

-- After a push: the CFA, the return address and rbp have values by their rules, and rsp is the CFA.
-- The other registers that a call keeps have no value in this state.
a_pushed_register : over (codes "frame" ∷ codes "s" ∷ codes "1001" ∷ codes "t" ∷ []) (Some (codes "MODULE Linux x86_64 0 a\nSTACK CFI INIT 1000 20 .cfa: $rsp 8 + .ra: .cfa -8 + ^\nSTACK CFI 1001 .cfa: $rsp 16 + $rbp: .cfa -16 + ^\nSTACK CFI 1004 .cfa: $rbp 16 +\nSTACK CFI 100e .cfa: $rsp 8 +\n")) (Some (codes "REG rsp 7ffe0010\nMEM 7ffe0010 4000fe7f000000003412400000000000\n")) ≡ Some (0, "cfa 7ffe0020\nra 401234\nrax undefined\nrdx undefined\nrcx undefined\nrbx failed missing rbx\nrsi undefined\nrdi undefined\nrbp 7ffe0040\nrsp 7ffe0020\nr8 undefined\nr9 undefined\nr10 undefined\nr11 undefined\nr12 failed missing r12\nr13 failed missing r13\nr14 failed missing r14\nr15 failed missing r15\n", "")
unfolding over symbols_compute
a_pushed_register = refl

-- A word of which the last byte is missing cannot be read.
a_byte_short : over (codes "frame" ∷ codes "s" ∷ codes "1001" ∷ codes "t" ∷ []) (Some (codes "MODULE Linux x86_64 0 a\nSTACK CFI INIT 1000 20 .cfa: $rsp 8 + .ra: .cfa -8 + ^\nSTACK CFI 1001 .cfa: $rsp 16 + $rbp: .cfa -16 + ^\nSTACK CFI 1004 .cfa: $rbp 16 +\nSTACK CFI 100e .cfa: $rsp 8 +\n")) (Some (codes "REG rsp 7ffe0010\nMEM 7ffe0010 4000fe7f0000000034124000000000\n")) ≡ Some (0, "cfa 7ffe0020\nra failed unreadable 7ffe0018\nrax undefined\nrdx undefined\nrcx undefined\nrbx failed missing rbx\nrsi undefined\nrdi undefined\nrbp 7ffe0040\nrsp 7ffe0020\nr8 undefined\nr9 undefined\nr10 undefined\nr11 undefined\nr12 failed missing r12\nr13 failed missing r13\nr14 failed missing r14\nr15 failed missing r15\n", "")
unfolding over symbols_compute
a_byte_short = refl

-- At the address before the push, the first rules count.
before_the_push : over (codes "frame" ∷ codes "s" ∷ codes "1000" ∷ codes "t" ∷ []) (Some (codes "MODULE Linux x86_64 0 a\nSTACK CFI INIT 1000 20 .cfa: $rsp 8 + .ra: .cfa -8 + ^\nSTACK CFI 1001 .cfa: $rsp 16 + $rbp: .cfa -16 + ^\nSTACK CFI 1004 .cfa: $rbp 16 +\nSTACK CFI 100e .cfa: $rsp 8 +\n")) (Some (codes "REG rsp 10\nREG rbp 5\n")) ≡ Some (0, "cfa 18\nra failed unreadable 10\nrax undefined\nrdx undefined\nrcx undefined\nrbx failed missing rbx\nrsi undefined\nrdi undefined\nrbp 5\nrsp 18\nr8 undefined\nr9 undefined\nr10 undefined\nr11 undefined\nr12 failed missing r12\nr13 failed missing r13\nr14 failed missing r14\nr15 failed missing r15\n", "")
unfolding over symbols_compute
before_the_push = refl

-- An empty state.
no_values : over (codes "frame" ∷ codes "s" ∷ codes "1001" ∷ codes "t" ∷ []) (Some (codes "MODULE Linux x86_64 0 a\nSTACK CFI INIT 1000 20 .cfa: $rsp 8 + .ra: .cfa -8 + ^\nSTACK CFI 1001 .cfa: $rsp 16 + $rbp: .cfa -16 + ^\nSTACK CFI 1004 .cfa: $rbp 16 +\nSTACK CFI 100e .cfa: $rsp 8 +\n")) (Some (codes "")) ≡ Some (0, "cfa failed missing rsp\nra failed missing rsp\nrax undefined\nrdx undefined\nrcx undefined\nrbx failed missing rbx\nrsi undefined\nrdi undefined\nrbp failed missing rsp\nrsp failed missing rsp\nr8 undefined\nr9 undefined\nr10 undefined\nr11 undefined\nr12 failed missing r12\nr13 failed missing r13\nr14 failed missing r14\nr15 failed missing r15\n", "")
unfolding over symbols_compute
no_values = refl

-- In a procedure linkage table the CFA depends on rip, by a DWARF expression.
a_call_of_a_linkage_table : over (codes "frame" ∷ codes "s" ∷ codes "103b" ∷ codes "t" ∷ []) (Some (codes hello)) (Some (codes "REG rsp 7ffe0000\nREG rip 103b\n")) ≡ Some (0, "cfa 7ffe0010\nra failed unreadable 7ffe0008\nrax undefined\nrdx undefined\nrcx undefined\nrbx failed missing rbx\nrsi undefined\nrdi undefined\nrbp failed missing rbp\nrsp 7ffe0010\nr8 undefined\nr9 undefined\nr10 undefined\nr11 undefined\nr12 failed missing r12\nr13 failed missing r13\nr14 failed missing r14\nr15 failed missing r15\n", "")
unfolding over symbols_compute
a_call_of_a_linkage_table = refl

a_call_of_a_linkage_table_before_its_push : over (codes "frame" ∷ codes "s" ∷ codes "1036" ∷ codes "t" ∷ []) (Some (codes hello)) (Some (codes "REG rsp 7ffe0000\nREG rip 1036\n")) ≡ Some (0, "cfa 7ffe0008\nra failed unreadable 7ffe0000\nrax undefined\nrdx undefined\nrcx undefined\nrbx failed missing rbx\nrsi undefined\nrdi undefined\nrbp failed missing rbp\nrsp 7ffe0008\nr8 undefined\nr9 undefined\nr10 undefined\nr11 undefined\nr12 failed missing r12\nr13 failed missing r13\nr14 failed missing r14\nr15 failed missing r15\n", "")
unfolding over symbols_compute
a_call_of_a_linkage_table_before_its_push = refl

a_call_of_a_linkage_table_without_rip : over (codes "frame" ∷ codes "s" ∷ codes "1036" ∷ codes "t" ∷ []) (Some (codes hello)) (Some (codes "REG rsp 7ffe0000\n")) ≡ Some (0, "cfa failed missing rip\nra failed missing rip\nrax undefined\nrdx undefined\nrcx undefined\nrbx failed missing rbx\nrsi undefined\nrdi undefined\nrbp failed missing rbp\nrsp failed missing rip\nr8 undefined\nr9 undefined\nr10 undefined\nr11 undefined\nr12 failed missing r12\nr13 failed missing r13\nr14 failed missing r14\nr15 failed missing r15\n", "")
unfolding over symbols_compute
a_call_of_a_linkage_table_without_rip = refl

-- There is no rule for the return address.
a_first_function : over (codes "frame" ∷ codes "s" ∷ codes "1001" ∷ codes "t" ∷ []) (Some (codes "MODULE Linux x86_64 0 a\nSTACK CFI INIT 1000 20 .cfa: $rsp 8 +\n")) (Some (codes "REG rsp 7ffe0010\nMEM 7ffe0010 4000fe7f000000003412400000000000\n")) ≡ Some (0, "cfa 7ffe0018\nra undefined\nrax undefined\nrdx undefined\nrcx undefined\nrbx failed missing rbx\nrsi undefined\nrdi undefined\nrbp failed missing rbp\nrsp 7ffe0018\nr8 undefined\nr9 undefined\nr10 undefined\nr11 undefined\nr12 failed missing r12\nr13 failed missing r13\nr14 failed missing r14\nr15 failed missing r15\n", "")
unfolding over symbols_compute
a_first_function = refl

-- rip has a value, or none.
rip : over (codes "frame" ∷ codes "s" ∷ codes "0" ∷ codes "t" ∷ []) (Some (codes "MODULE Linux x86_64 0 a\nSTACK CFI INIT 0 8 .cfa: $rip 1 + .ra: $rip $rbx: $nothing\n")) (Some (codes "REG rip ff\n")) ≡ Some (0, "cfa 100\nra ff\nrax undefined\nrdx undefined\nrcx undefined\nrbx failed unknown\nrsi undefined\nrdi undefined\nrbp failed missing rbp\nrsp 100\nr8 undefined\nr9 undefined\nr10 undefined\nr11 undefined\nr12 failed missing r12\nr13 failed missing r13\nr14 failed missing r14\nr15 failed missing r15\n", "")
unfolding over symbols_compute
rip = refl

no_rip : over (codes "frame" ∷ codes "s" ∷ codes "0" ∷ codes "t" ∷ []) (Some (codes "MODULE Linux x86_64 0 a\nSTACK CFI INIT 0 8 .cfa: 8 .ra: $rip\n")) (Some (codes "")) ≡ Some (0, "cfa 8\nra failed missing rip\nrax undefined\nrdx undefined\nrcx undefined\nrbx failed missing rbx\nrsi undefined\nrdi undefined\nrbp failed missing rbp\nrsp 8\nr8 undefined\nr9 undefined\nr10 undefined\nr11 undefined\nr12 failed missing r12\nr13 failed missing r13\nr14 failed missing r14\nr15 failed missing r15\n", "")
unfolding over symbols_compute
no_rip = refl

-- The words of causes.
signs : over (codes "frame" ∷ codes "s" ∷ codes "7" ∷ codes "t" ∷ []) (Some (codes "MODULE Linux x86_64 0 a\nSTACK CFI INIT 0 8 .cfa: 1 .ra: 1 10 @ $rax: 7 0 / $rdx: 1 2 $rcx: 1023 16 @ $rbx: .undef\n")) (Some (codes "")) ≡ Some (0, "cfa 1\nra failed align\nrax failed divide\nrdx failed stack\nrcx 3f0\nrbx undefined\nrsi undefined\nrdi undefined\nrbp failed missing rbp\nrsp 1\nr8 undefined\nr9 undefined\nr10 undefined\nr11 undefined\nr12 failed missing r12\nr13 failed missing r13\nr14 failed missing r14\nr15 failed missing r15\n", "")
unfolding over symbols_compute
signs = refl

-- There is no rule for the CFA.
no_cfa : over (codes "frame" ∷ codes "s" ∷ codes "0" ∷ codes "t" ∷ []) (Some (codes "MODULE Linux x86_64 0 a\nSTACK CFI INIT 0 8 .ra: .cfa\n")) (Some (codes "")) ≡ Some (0, "cfa undefined\nra failed no-cfa\nrax undefined\nrdx undefined\nrcx undefined\nrbx failed missing rbx\nrsi undefined\nrdi undefined\nrbp failed missing rbp\nrsp undefined\nr8 undefined\nr9 undefined\nr10 undefined\nr11 undefined\nr12 failed missing r12\nr13 failed missing r13\nr14 failed missing r14\nr15 failed missing r15\n", "")
unfolding over symbols_compute
no_cfa = refl

-- No INIT has the address.
no_rules : over (codes "frame" ∷ codes "s" ∷ codes "1020" ∷ codes "t" ∷ []) (Some (codes "MODULE Linux x86_64 0 a\nSTACK CFI INIT 1000 20 .cfa: $rsp 8 + .ra: .cfa -8 + ^\nSTACK CFI 1001 .cfa: $rsp 16 + $rbp: .cfa -16 + ^\nSTACK CFI 1004 .cfa: $rbp 16 +\nSTACK CFI 100e .cfa: $rsp 8 +\n")) (Some (codes "")) ≡ Some (0, "none\n", "")
unfolding over symbols_compute
no_rules = refl

-- Faults of the state file count even if no INIT has the address.
a_bad_state_and_no_rules : over (codes "frame" ∷ codes "s" ∷ codes "1020" ∷ codes "t" ∷ []) (Some (codes "MODULE Linux x86_64 0 a\nSTACK CFI INIT 1000 20 .cfa: $rsp 8 + .ra: .cfa -8 + ^\nSTACK CFI 1001 .cfa: $rsp 16 + $rbp: .cfa -16 + ^\nSTACK CFI 1004 .cfa: $rbp 16 +\nSTACK CFI 100e .cfa: $rsp 8 +\n")) (Some (codes "REG\n")) ≡ Some (1, "", "refused state fields line 1\n")
unfolding over symbols_compute
a_bad_state_and_no_rules = refl

-- An address in digits of either case.
an_address_in_capitals : over (codes "frame" ∷ codes "s" ∷ codes "101F" ∷ codes "t" ∷ []) (Some (codes "MODULE Linux x86_64 0 a\nSTACK CFI INIT 1000 20 .cfa: $rsp 8 + .ra: .cfa -8 + ^\nSTACK CFI 1001 .cfa: $rsp 16 + $rbp: .cfa -16 + ^\nSTACK CFI 1004 .cfa: $rbp 16 +\nSTACK CFI 100e .cfa: $rsp 8 +\n")) (Some (codes "")) ≡ Some (0, "cfa failed missing rsp\nra failed missing rsp\nrax undefined\nrdx undefined\nrcx undefined\nrbx failed missing rbx\nrsi undefined\nrdi undefined\nrbp failed missing rsp\nrsp failed missing rsp\nr8 undefined\nr9 undefined\nr10 undefined\nr11 undefined\nr12 failed missing r12\nr13 failed missing r13\nr14 failed missing r14\nr15 failed missing r15\n", "")
unfolding over symbols_compute
an_address_in_capitals = refl

-- Each kind of fault of a state file.
an_unknown_state_word : over (codes "frame" ∷ codes "s" ∷ codes "1001" ∷ codes "t" ∷ []) (Some (codes "MODULE Linux x86_64 0 a\nSTACK CFI INIT 1000 20 .cfa: $rsp 8 + .ra: .cfa -8 + ^\nSTACK CFI 1001 .cfa: $rsp 16 + $rbp: .cfa -16 + ^\nSTACK CFI 1004 .cfa: $rbp 16 +\nSTACK CFI 100e .cfa: $rsp 8 +\n")) (Some (codes "SET rax 1\n")) ≡ Some (1, "", "refused state keyword line 1\n")
unfolding over symbols_compute
an_unknown_state_word = refl

a_value_missing : over (codes "frame" ∷ codes "s" ∷ codes "1001" ∷ codes "t" ∷ []) (Some (codes "MODULE Linux x86_64 0 a\nSTACK CFI INIT 1000 20 .cfa: $rsp 8 + .ra: .cfa -8 + ^\nSTACK CFI 1001 .cfa: $rsp 16 + $rbp: .cfa -16 + ^\nSTACK CFI 1004 .cfa: $rbp 16 +\nSTACK CFI 100e .cfa: $rsp 8 +\n")) (Some (codes "REG rax\n")) ≡ Some (1, "", "refused state fields line 1\n")
unfolding over symbols_compute
a_value_missing = refl

an_unknown_register : over (codes "frame" ∷ codes "s" ∷ codes "1001" ∷ codes "t" ∷ []) (Some (codes "MODULE Linux x86_64 0 a\nSTACK CFI INIT 1000 20 .cfa: $rsp 8 + .ra: .cfa -8 + ^\nSTACK CFI 1001 .cfa: $rsp 16 + $rbp: .cfa -16 + ^\nSTACK CFI 1004 .cfa: $rbp 16 +\nSTACK CFI 100e .cfa: $rsp 8 +\n")) (Some (codes "REG foo 1\n")) ≡ Some (1, "", "refused state register line 1\n")
unfolding over symbols_compute
an_unknown_register = refl

an_odd_run : over (codes "frame" ∷ codes "s" ∷ codes "1001" ∷ codes "t" ∷ []) (Some (codes "MODULE Linux x86_64 0 a\nSTACK CFI INIT 1000 20 .cfa: $rsp 8 + .ra: .cfa -8 + ^\nSTACK CFI 1001 .cfa: $rsp 16 + $rbp: .cfa -16 + ^\nSTACK CFI 1004 .cfa: $rbp 16 +\nSTACK CFI 100e .cfa: $rsp 8 +\n")) (Some (codes "\nMEM 0 012\n")) ≡ Some (1, "", "refused state hex line 2\n")
unfolding over symbols_compute
an_odd_run = refl

a_run_that_wraps : over (codes "frame" ∷ codes "s" ∷ codes "1001" ∷ codes "t" ∷ []) (Some (codes "MODULE Linux x86_64 0 a\nSTACK CFI INIT 1000 20 .cfa: $rsp 8 + .ra: .cfa -8 + ^\nSTACK CFI 1001 .cfa: $rsp 16 + $rbp: .cfa -16 + ^\nSTACK CFI 1004 .cfa: $rbp 16 +\nSTACK CFI 100e .cfa: $rsp 8 +\n")) (Some (codes "MEM ffffffffffffffff 0102\n")) ≡ Some (1, "", "refused state wraps line 1\n")
unfolding over symbols_compute
a_run_that_wraps = refl

-- Faults of the symbol file come before those of the state file.
a_bad_text_before_a_bad_state : over (codes "frame" ∷ codes "s" ∷ codes "1001" ∷ codes "t" ∷ []) (Some (codes "MODULE Linux x86_64 0 a\nfunc\n")) (Some (codes "REG\n")) ≡ Some (1, "", "refused text unknown line 2\n")
unfolding over symbols_compute
a_bad_text_before_a_bad_state = refl

-- A state file that does not exist.
no_state_file : over (codes "frame" ∷ codes "s" ∷ codes "1001" ∷ codes "t" ∷ []) (Some (codes "MODULE Linux x86_64 0 a\nSTACK CFI INIT 1000 20 .cfa: $rsp 8 + .ra: .cfa -8 + ^\nSTACK CFI 1001 .cfa: $rsp 16 + $rbp: .cfa -16 + ^\nSTACK CFI 1004 .cfa: $rbp 16 +\nSTACK CFI 100e .cfa: $rsp 8 +\n")) (None) ≡ Some (3, "", "cannot read input\n")
unfolding over symbols_compute
no_state_file = refl

-- Arguments that are no address.
an_address_with_a_prefix : over (codes "frame" ∷ codes "s" ∷ codes "0x10" ∷ codes "t" ∷ []) (Some (codes "MODULE Linux x86_64 0 a\nSTACK CFI INIT 1000 20 .cfa: $rsp 8 + .ra: .cfa -8 + ^\nSTACK CFI 1001 .cfa: $rsp 16 + $rbp: .cfa -16 + ^\nSTACK CFI 1004 .cfa: $rbp 16 +\nSTACK CFI 100e .cfa: $rsp 8 +\n")) (Some (codes "")) ≡ Some (2, "", "usage: dumpsyms dump ELF, check SYM, lookup SYM ADDR, frame SYM ADDR STATE, sample N, walk SYM STATE, judge ELF SYM, names SYM, dump --full ELF, stacks CORE STORE\n")
unfolding over symbols_compute
an_address_with_a_prefix = refl

seventeen_digits : over (codes "frame" ∷ codes "s" ∷ codes "00000000000001001" ∷ codes "t" ∷ []) (Some (codes "MODULE Linux x86_64 0 a\nSTACK CFI INIT 1000 20 .cfa: $rsp 8 + .ra: .cfa -8 + ^\nSTACK CFI 1001 .cfa: $rsp 16 + $rbp: .cfa -16 + ^\nSTACK CFI 1004 .cfa: $rbp 16 +\nSTACK CFI 100e .cfa: $rsp 8 +\n")) (Some (codes "")) ≡ Some (2, "", "usage: dumpsyms dump ELF, check SYM, lookup SYM ADDR, frame SYM ADDR STATE, sample N, walk SYM STATE, judge ELF SYM, names SYM, dump --full ELF, stacks CORE STORE\n")
unfolding over symbols_compute
seventeen_digits = refl

no_digits : over (codes "frame" ∷ codes "s" ∷ codes "" ∷ codes "t" ∷ []) (Some (codes "MODULE Linux x86_64 0 a\nSTACK CFI INIT 1000 20 .cfa: $rsp 8 + .ra: .cfa -8 + ^\nSTACK CFI 1001 .cfa: $rsp 16 + $rbp: .cfa -16 + ^\nSTACK CFI 1004 .cfa: $rbp 16 +\nSTACK CFI 100e .cfa: $rsp 8 +\n")) (Some (codes "")) ≡ Some (2, "", "usage: dumpsyms dump ELF, check SYM, lookup SYM ADDR, frame SYM ADDR STATE, sample N, walk SYM STATE, judge ELF SYM, names SYM, dump --full ELF, stacks CORE STORE\n")
unfolding over symbols_compute
no_digits = refl

-- A function, and a copy that is inlined in it.
an_inlined_call : over (codes "lookup" ∷ codes "s" ∷ codes "1005" ∷ []) (Some (codes "MODULE Linux x86_64 0 a\nFILE 0 /s/a.c\nINLINE_ORIGIN 0 g\nFUNC 1000 20 0 _Z1fv\nINLINE 0 4 0 0 1004 8\n1000 4 3 0\n1004 8 9 0\n100c 14 4 0\n")) (None) ≡ Some (0, "g at /s/a.c:9\n_Z1fv at /s/a.c:4\n", "")
unfolding over symbols_compute
an_inlined_call = refl

behind_the_function : over (codes "lookup" ∷ codes "s" ∷ codes "1020" ∷ []) (Some (codes "MODULE Linux x86_64 0 a\nFILE 0 /s/a.c\nINLINE_ORIGIN 0 g\nFUNC 1000 20 0 _Z1fv\nINLINE 0 4 0 0 1004 8\n1000 4 3 0\n1004 8 9 0\n100c 14 4 0\n")) (None) ≡ Some (0, "none\n", "")
unfolding over symbols_compute
behind_the_function = refl

-- The nearest symbol before the address.
between_symbols : over (codes "lookup" ∷ codes "s" ∷ codes "1045" ∷ []) (Some (codes hello)) (None) ≡ Some (0, "public _start\n", "")
unfolding over symbols_compute
between_symbols = refl

-- An address in `main`, and a check of the whole text.
in_main : over (codes "lookup" ∷ codes "s" ∷ codes "1145" ∷ []) (Some (codes hello)) (None) ≡ Some (0, "main at /home/u/hello.c:4\n", "")
unfolding over symbols_compute
in_main = refl

nothing_found : over (codes "check" ∷ codes "s" ∷ []) (Some (codes hello)) (None) ≡ Some (0, "no findings\n", "")
unfolding over symbols_compute
nothing_found = refl

-- A copy of level 1 at an address without a copy of level 0.
a_level_without_the_one_before : over (codes "lookup" ∷ codes "s" ∷ codes "1005" ∷ []) (Some (codes "MODULE Linux x86_64 0 a\nFILE 0 /s/a.c\nINLINE_ORIGIN 0 g\nFUNC 1000 20 0 f\nINLINE 1 4 0 0 1004 8\n")) (None) ≡ Some (0, "f at ?\n", "")
unfolding over symbols_compute
a_level_without_the_one_before = refl

-- A symbol, a function after it, and the function's end.
in_front_of_a_function : over (codes "lookup" ∷ codes "s" ∷ codes "100f" ∷ []) (Some (codes "MODULE Linux x86_64 0 a\nPUBLIC 1000 0 p\nFUNC 1010 4 0 f\n")) (None) ≡ Some (0, "public p\n", "")
unfolding over symbols_compute
in_front_of_a_function = refl

in_a_function : over (codes "lookup" ∷ codes "s" ∷ codes "1012" ∷ []) (Some (codes "MODULE Linux x86_64 0 a\nPUBLIC 1000 0 p\nFUNC 1010 4 0 f\n")) (None) ≡ Some (0, "f at ?\n", "")
unfolding over symbols_compute
in_a_function = refl

a_function_begins_between : over (codes "lookup" ∷ codes "s" ∷ codes "1014" ∷ []) (Some (codes "MODULE Linux x86_64 0 a\nPUBLIC 1000 0 p\nFUNC 1010 4 0 f\n")) (None) ≡ Some (0, "none\n", "")
unfolding over symbols_compute
a_function_begins_between = refl

-- Of two functions the first one counts.
the_first_of_two_functions : over (codes "lookup" ∷ codes "s" ∷ codes "1018" ∷ []) (Some (codes "MODULE Linux x86_64 0 a\nFUNC 1000 20 0 f\nFUNC 1010 20 0 g\n")) (None) ≡ Some (0, "f at ?\n", "")
unfolding over symbols_compute
the_first_of_two_functions = refl

behind_the_first : over (codes "lookup" ∷ codes "s" ∷ codes "1028" ∷ []) (Some (codes "MODULE Linux x86_64 0 a\nFUNC 1000 20 0 f\nFUNC 1010 20 0 g\n")) (None) ≡ Some (0, "g at ?\n", "")
unfolding over symbols_compute
behind_the_first = refl

-- An address in capitals.
the_last_address : over (codes "lookup" ∷ codes "s" ∷ codes "FFFFFFFFFFFFFFFF" ∷ []) (Some (codes "MODULE Linux x86_64 0 a\nFUNC ffffffffffffffff 1 0 e\n")) (None) ≡ Some (0, "e at ?\n", "")
unfolding over symbols_compute
the_last_address = refl

an_origin_missing : over (codes "lookup" ∷ codes "s" ∷ codes "1004" ∷ []) (Some (codes "MODULE Linux x86_64 0 a\nFUNC 1000 20 0 f\nINLINE 0 4 7 7 1004 8\n1004 4 9 7\n")) (None) ≡ Some (0, "<name omitted> at ?\nf at ?\n", "")
unfolding over symbols_compute
an_origin_missing = refl

-- The file is refused as `check` refuses it.
a_file_that_is_refused : over (codes "lookup" ∷ codes "s" ∷ codes "1004" ∷ []) (Some (codes "MODULE Linux x86_64 0 a\nfunc 1\n")) (None) ≡ Some (1, "", "refused text unknown line 2\n")
unfolding over symbols_compute
a_file_that_is_refused = refl

no_symbol_file : over (codes "lookup" ∷ codes "s" ∷ codes "1004" ∷ []) (None) (None) ≡ Some (3, "", "cannot read input\n")
unfolding over symbols_compute
no_symbol_file = refl

-- Arguments that are no address.
a_prefix : over (codes "lookup" ∷ codes "s" ∷ codes "0x10" ∷ []) (Some (codes "MODULE Linux x86_64 0 a\n")) (None) ≡ Some (2, "", "usage: dumpsyms dump ELF, check SYM, lookup SYM ADDR, frame SYM ADDR STATE, sample N, walk SYM STATE, judge ELF SYM, names SYM, dump --full ELF, stacks CORE STORE\n")
unfolding over symbols_compute
a_prefix = refl

seventeen_address_digits : over (codes "lookup" ∷ codes "s" ∷ codes "00000000000001005" ∷ []) (Some (codes "MODULE Linux x86_64 0 a\n")) (None) ≡ Some (2, "", "usage: dumpsyms dump ELF, check SYM, lookup SYM ADDR, frame SYM ADDR STATE, sample N, walk SYM STATE, judge ELF SYM, names SYM, dump --full ELF, stacks CORE STORE\n")
unfolding over symbols_compute
seventeen_address_digits = refl
