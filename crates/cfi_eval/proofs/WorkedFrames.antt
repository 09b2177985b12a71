-- Worked examples (Breakpad's symbol_files.md, "STACK CFI"): the rules at an address, and their
-- values for registers and memory.
use Rattle.std.proofs.Common.{◌≡◌, ℕ, List, [], ◌∷◌, ◌++◌, codes, replicate, Option, Some, None, Result, Ok, Err, refl}
use Prim.Native.String.{String}
use Rattle.sym_records.specs.Reading.{reading}
use Rattle.sym_records.specs.declared.line.SymLine.{SymLine}
use Rattle.sym_rules.specs.declared.text_fault.TextFault.{TextFault}
use Rattle.cfi_eval.proofs.Computing.{cfi_eval_computes}
use Rattle.cfi_eval.specs.declared.registers.Regs.{Regs}
use Rattle.cfi_eval.specs.declared.memory.MemRun.{MemRun}
use Rattle.cfi_eval.specs.declared.outcome.Cause.TheVariants.{Missing, Unreadable, UnknownName, NoCfa}
use Rattle.cfi_eval.specs.declared.outcome.Outcome.{Outcome}
use Rattle.cfi_eval.specs.declared.outcome.Outcome.TheVariants.{Value, Undefined, Failed}
use Rattle.cfi_eval.specs.declared.outcome.Frame.{Frame}
use Rattle.cfi_eval.specs.TextValue.{text_frame}
use Rattle.cfi_eval.specs.Inits.{init_place}

-- The records of a text after its MODULE.
abbrev records_in : Result (List SymLine) TextFault → List SymLine
records_in (Ok records) = records
records_in (Err fault) = []

lines : String → List SymLine
unfolding cfi_eval_computes
lines text = records_in (reading (codes "MODULE a b c d\n" ++ codes text))

-- Only rsp has a value, and there is memory above it.
abbrev registers : Option ℕ → Regs
registers rsp = record { values = replicate 7 None ++ rsp ∷ replicate 8 None; rip = None }

abbrev stack : List ℕ → List MemRun
stack last = record { start = 0x7ffe0010; bytes = 0x40 ∷ 0 ∷ 0xfe ∷ 0x7f ∷ 0 ∷ 0 ∷ 0 ∷ 0 ∷ 0x34 ∷ 0x12 ∷ 0x40 ∷ 0 ∷ 0 ∷ 0 ∷ 0 ∷ last } ∷ []

-- The values of a frame, in which the preserved registers other than rbp are missing and all others
-- are undefined.
abbrev gives : Outcome → Outcome → Outcome → Outcome → Frame
gives cfa ra rbp rsp = record {
  cfa = cfa;
  ra = ra;
  regs =
      Undefined ∷ Undefined ∷ Undefined ∷ Failed (Missing 3) ∷ Undefined ∷ Undefined ∷ rbp ∷ rsp
      ∷ Undefined ∷ Undefined ∷ Undefined ∷ Undefined ∷ Failed (Missing 12) ∷ Failed (Missing 13) ∷ Failed (Missing 14) ∷ Failed (Missing 15) ∷ [];
}

-- A function that pushes rbp, moves rsp to it, and pops it before it returns.
example : List SymLine
unfolding cfi_eval_computes lines
example = lines "STACK CFI INIT 1000 20 .cfa: $rsp 8 + .ra: .cfa -8 + ^\nSTACK CFI 1001 .cfa: $rsp 16 + $rbp: .cfa -16 + ^\nSTACK CFI 1004 .cfa: $rbp 16 +\nSTACK CFI 100e .cfa: $rsp 8 +\n"

at_example : ℕ → Option Frame
unfolding cfi_eval_computes lines example
at_example x = text_frame example x (registers (Some 0x7ffe0010)) (stack (0 ∷ []))

-- After the push, the CFA is 16 above rsp, and the stack has rbp and the return address.
pushed : at_example 0x1001 ≡ Some (gives (Value 0x7ffe0020) (Value 0x401234) (Value 0x7ffe0040) (Value 0x7ffe0020))
unfolding cfi_eval_computes lines example at_example
pushed = refl

-- The word at the address has only seven known bytes.
seven_bytes : text_frame example 0x1001 (registers (Some 0x7ffe0010)) (stack []) ≡ Some (gives (Value 0x7ffe0020) (Failed (Unreadable 0x7ffe0018)) (Value 0x7ffe0040) (Value 0x7ffe0020))
unfolding cfi_eval_computes lines example at_example
seven_bytes = refl

-- Before the first change.
before_change : at_example 0x1000 ≡ Some (gives (Value 0x7ffe0018) (Value 0x7ffe0040) (Failed (Missing 6)) (Value 0x7ffe0018))
unfolding cfi_eval_computes lines example at_example
before_change = refl

-- At a change and between changes.
between_changes : at_example 0x1003 ≡ at_example 0x1001
unfolding cfi_eval_computes lines example at_example
between_changes = refl

-- If the CFA fails, so do `.cfa` in the other rules, and rsp.
cfa_failed : at_example 0x1004 ≡ Some (gives (Failed (Missing 6)) (Failed (Missing 6)) (Failed (Missing 6)) (Failed (Missing 6)))
unfolding cfi_eval_computes lines example at_example
cfa_failed = refl

-- The rule of rbp is still that of an earlier change.
last_change : at_example 0x101f ≡ Some (gives (Value 0x7ffe0018) (Value 0x7ffe0040) (Failed (Unreadable 0x7ffe0008)) (Value 0x7ffe0018))
unfolding cfi_eval_computes lines example at_example
last_change = refl

-- Addresses outside of the INIT.
outside_below : at_example 0xfff ≡ None
unfolding cfi_eval_computes lines example at_example
outside_below = refl

outside_above : at_example 0x1020 ≡ None
unfolding cfi_eval_computes lines example at_example
outside_above = refl

-- No register has a value.
no_registers : text_frame example 0x1001 (registers None) [] ≡ Some (gives (Failed (Missing 7)) (Failed (Missing 7)) (Failed (Missing 7)) (Failed (Missing 7)))
unfolding cfi_eval_computes lines example at_example
no_registers = refl

-- Without a rule, the return address is undefined and rsp is the CFA.
no_ra : text_frame (lines "STACK CFI INIT 1000 20 .cfa: $rsp 8 +\n") 0x1000 (registers (Some 0x10)) [] ≡ Some (gives (Value 0x18) Undefined (Failed (Missing 6)) (Value 0x18))
unfolding cfi_eval_computes lines example at_example
no_ra = refl

-- Without a rule, the CFA is undefined and `.cfa` has no value.
no_cfa : text_frame (lines "STACK CFI INIT 1000 20 .ra: .cfa 8 - $rbp: .undef\n") 0x1000 (registers (Some 0x10)) [] ≡ Some (gives Undefined (Failed NoCfa) Undefined Undefined)
unfolding cfi_eval_computes lines example at_example
no_cfa = refl

-- The rule of the CFA is `.undef`.
undefined_cfa : text_frame (lines "STACK CFI INIT 1000 20 .cfa: .undef .ra: .cfa\n") 0x1000 (registers (Some 0x10)) [] ≡ Some (gives Undefined (Failed NoCfa) (Failed (Missing 6)) Undefined)
unfolding cfi_eval_computes lines example at_example
undefined_cfa = refl

-- `.cfa` is used inside its own rule.
own_cfa : text_frame (lines "STACK CFI INIT 1000 20 .cfa: .cfa 8 + .ra: .cfa\n") 0x1000 (registers (Some 0x10)) [] ≡ Some (gives (Failed UnknownName) (Failed UnknownName) (Failed (Missing 6)) (Failed UnknownName))
unfolding cfi_eval_computes lines example at_example
own_cfa = refl

-- Rsp has a rule.
rsp_rule : text_frame (lines "STACK CFI INIT 1000 20 .cfa: $rsp $rsp: $rsp 1 +\n") 0x1000 (registers (Some 0x10)) [] ≡ Some (gives (Value 0x10) Undefined (Failed (Missing 6)) (Value 0x11))
unfolding cfi_eval_computes lines example at_example
rsp_rule = refl

-- Of two rules with one target in one record, the last counts.
twice : text_frame (lines "STACK CFI INIT 1000 20 .cfa: $rsp 8 + .cfa: $rsp 9 +\nSTACK CFI 1002 .cfa: 1 .cfa: 2\n") 0x1000 (registers (Some 0x10)) [] ≡ Some (gives (Value 0x19) Undefined (Failed (Missing 6)) (Value 0x19))
unfolding cfi_eval_computes lines example at_example
twice = refl

twice_in_change : text_frame (lines "STACK CFI INIT 1000 20 .cfa: $rsp 8 + .cfa: $rsp 9 +\nSTACK CFI 1002 .cfa: 1 .cfa: 2\n") 0x1002 (registers (Some 0x10)) [] ≡ Some (gives (Value 2) Undefined (Failed (Missing 6)) (Value 2))
unfolding cfi_eval_computes lines example at_example
twice_in_change = refl

-- A target that is not one of the known names changes no register.
other_target : text_frame (lines "STACK CFI INIT 1000 20 .cfa: $rsp $eax: 5\n") 0x1000 (registers (Some 0x10)) [] ≡ Some (gives (Value 0x10) Undefined (Failed (Missing 6)) (Value 0x10))
unfolding cfi_eval_computes lines example at_example
other_target = refl

-- Of two INITs that cover an address the first counts, and only with its own changes.
first_init : text_frame (lines "STACK CFI INIT 1000 10 .cfa: 1\nSTACK CFI 1004 .cfa: 2\nSTACK CFI INIT 1004 20 .cfa: 3\nSTACK CFI 1008 .cfa: 4\n") 0x1008 (registers (Some 0x10)) [] ≡ Some (gives (Value 2) Undefined (Failed (Missing 6)) (Value 2))
unfolding cfi_eval_computes lines example at_example
first_init = refl

second_init : text_frame (lines "STACK CFI INIT 1000 10 .cfa: 1\nSTACK CFI 1004 .cfa: 2\nSTACK CFI INIT 1004 20 .cfa: 3\nSTACK CFI 1008 .cfa: 4\n") 0x1010 (registers (Some 0x10)) [] ≡ Some (gives (Value 4) Undefined (Failed (Missing 6)) (Value 4))
unfolding cfi_eval_computes lines example at_example
second_init = refl

-- Changes count in their order, even if their addresses descend.
falling_changes : text_frame (lines "STACK CFI INIT 1000 10 .cfa: 1\nSTACK CFI 1008 .cfa: 2\nSTACK CFI 1004 .cfa: 3\n") 0x1008 (registers (Some 0x10)) [] ≡ Some (gives (Value 3) Undefined (Failed (Missing 6)) (Value 3))
unfolding cfi_eval_computes lines example at_example
falling_changes = refl

-- An INIT of size 0 covers nothing, and one may reach beyond 2^64 - 1.
empty_init : text_frame (lines "STACK CFI INIT 1000 0 .cfa: 1\n") 0x1000 (registers (Some 0x10)) [] ≡ None
unfolding cfi_eval_computes lines example at_example
empty_init = refl

last_address : text_frame (lines "STACK CFI INIT fffffffffffffff0 20 .cfa: 1\n") 0xffffffffffffffff (registers (Some 0x10)) [] ≡ Some (gives (Value 1) Undefined (Failed (Missing 6)) (Value 1))
unfolding cfi_eval_computes lines example at_example
last_address = refl

-- The index of the INIT.
place : init_place (lines "PUBLIC 5 0 x\nSTACK CFI INIT 1000 10 .cfa: 1\nSTACK CFI 1004 .cfa: 2\nSTACK CFI INIT 1004 20 .cfa: 3\n") 0x1010 ≡ Some 4
unfolding cfi_eval_computes lines example at_example
place = refl

no_place : init_place example 0x1020 ≡ None
unfolding cfi_eval_computes lines example at_example
no_place = refl
