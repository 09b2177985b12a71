-- Worked examples: what state files say, and the first fault of bad ones, with its line.
use Rattle.std.proofs.Common.{◌≡◌, ℕ, List, [], ◌∷◌, ◌++◌, codes, replicate, Option, Some, None, Result, Ok, Err, refl}
use Prim.Native.String.{String}
use Rattle.cfi_eval.specs.declared.memory.MemRun.{MemRun}
use Rattle.cfi_eval.specs.Bytes.{byte_at}
use Rattle.state_file.specs.declared.state.State.{State}
use Rattle.state_file.specs.declared.fault.StateFault.{StateFault}
use Rattle.state_file.specs.declared.fault.StateKind.TheVariants.{Keyword, Fields, Register, Hex, Wraps}
use Rattle.state_file.specs.StateText.{no_registers, no_state, state_of}
use Rattle.state_file.proofs.Computing.{state_file_computes}

read : String → Result State StateFault
unfolding state_file_computes
read text = state_of (codes text)

-- The state that only has a value of rsp, and the one that only has memory.
abbrev with_rsp : Option ℕ → State
with_rsp rsp = record { regs = record { values = replicate 7 None ++ rsp ∷ replicate 8 None; rip = None }; memory = [] }

abbrev with_memory : List MemRun → State
with_memory runs = record { regs = no_registers; memory = runs }

-- An empty file.
empty : read "" ≡ Ok no_state
unfolding state_file_computes read
empty = refl

-- Blank lines only.
blank : read "\n \r\n\n  " ≡ Ok no_state
unfolding state_file_computes read
blank = refl

-- A register, with digits in both cases.
register : read "REG rsp 7ffeABCd\n" ≡ Ok (with_rsp (Some 0x7ffeabcd))
unfolding state_file_computes read
register = refl

-- The last LF is missing, and there are spaces and CRs.
spaced : read "  REG   rsp  1 \r \r\r" ≡ Ok (with_rsp (Some 1))
unfolding state_file_computes read
spaced = refl

-- The last value counts.
twice : read "REG rsp 1\nREG rsp 2\n" ≡ Ok (with_rsp (Some 2))
unfolding state_file_computes read
twice = refl

-- A number of sixteen digits.
sixteen : read "REG rsp ffffffffffffffff\n" ≡ Ok (with_rsp (Some 0xffffffffffffffff))
unfolding state_file_computes read
sixteen = refl

-- The last of the sixteen registers, the first one, and rip.
all_registers : read "REG r15 3\nREG rax 1\nREG rip 2\n" ≡ Ok (record { regs = record { values = Some 1 ∷ replicate 14 None ++ Some 3 ∷ []; rip = Some 2 }; memory = [] })
unfolding state_file_computes read
all_registers = refl

-- Memory, in the order of the lines.
memory : read "MEM 10 0aFF00\n\nMEM 0 7f\n" ≡ Ok (with_memory (record { start = 0x10; bytes = 0x0a ∷ 0xff ∷ 0 ∷ [] } ∷ record { start = 0; bytes = 0x7f ∷ [] } ∷ []))
unfolding state_file_computes read
memory = refl

-- A run that ends at 2^64.
last_byte : read "MEM ffffffffffffffff 01\n" ≡ Ok (with_memory (record { start = 0xffffffffffffffff; bytes = 1 ∷ [] } ∷ []))
unfolding state_file_computes read
last_byte = refl

-- An unknown keyword.
unknown : read "SET rax 1" ≡ Err (record { kind = Keyword; line = 1 })
unfolding state_file_computes read
unknown = refl

-- A keyword in lower case.
lower_case : read "reg rax 1\n" ≡ Err (record { kind = Keyword; line = 1 })
unfolding state_file_computes read
lower_case = refl

-- A CR before a space does not end a keyword.
cr_behind_keyword : read "REG\r " ≡ Err (record { kind = Keyword; line = 1 })
unfolding state_file_computes read
cr_behind_keyword = refl

cr_in_keyword : read "REG\r rax 1" ≡ Err (record { kind = Keyword; line = 1 })
unfolding state_file_computes read
cr_in_keyword = refl

-- No fields, one field too few, and one too many.
no_fields : read "REG" ≡ Err (record { kind = Fields; line = 1 })
unfolding state_file_computes read
no_fields = refl

no_fields_cr : read "REG\r\r" ≡ Err (record { kind = Fields; line = 1 })
unfolding state_file_computes read
no_fields_cr = refl

one_field : read "REG rax" ≡ Err (record { kind = Fields; line = 1 })
unfolding state_file_computes read
one_field = refl

three_fields : read "REG rax 1 2" ≡ Err (record { kind = Fields; line = 1 })
unfolding state_file_computes read
three_fields = refl

memory_one_field : read "MEM 10" ≡ Err (record { kind = Fields; line = 1 })
unfolding state_file_computes read
memory_one_field = refl

memory_three_fields : read "MEM 10 00 00" ≡ Err (record { kind = Fields; line = 1 })
unfolding state_file_computes read
memory_three_fields = refl

-- The number of fields is looked at before the fields.
fields_first : read "REG foo xyz 1" ≡ Err (record { kind = Fields; line = 1 })
unfolding state_file_computes read
fields_first = refl

-- Names of no register.
no_register : read "REG foo 1" ≡ Err (record { kind = Register; line = 1 })
unfolding state_file_computes read
no_register = refl

dollar : read "REG $rax 1" ≡ Err (record { kind = Register; line = 1 })
unfolding state_file_computes read
dollar = refl

upper_case : read "REG RAX 1" ≡ Err (record { kind = Register; line = 1 })
unfolding state_file_computes read
upper_case = refl

sixteen_registers : read "REG r16 1" ≡ Err (record { kind = Register; line = 1 })
unfolding state_file_computes read
sixteen_registers = refl

cr_in_name : read "REG rax\r 1" ≡ Err (record { kind = Register; line = 1 })
unfolding state_file_computes read
cr_in_name = refl

-- The name is looked at before the number.
register_first : read "REG foo x" ≡ Err (record { kind = Register; line = 1 })
unfolding state_file_computes read
register_first = refl

-- A field that is no number, and a number of seventeen digits.
no_number : read "REG rax 0x1" ≡ Err (record { kind = Hex; line = 1 })
unfolding state_file_computes read
no_number = refl

seventeen : read "REG rax 00000000000000001" ≡ Err (record { kind = Hex; line = 1 })
unfolding state_file_computes read
seventeen = refl

-- A field that is no address.
no_address : read "MEM x 00" ≡ Err (record { kind = Hex; line = 1 })
unfolding state_file_computes read
no_address = refl

-- A run with an odd number of digits, and one with other letters.
odd_run : read "MEM 0 012" ≡ Err (record { kind = Hex; line = 1 })
unfolding state_file_computes read
odd_run = refl

bad_run : read "MEM 0 0g" ≡ Err (record { kind = Hex; line = 1 })
unfolding state_file_computes read
bad_run = refl

-- A bad address comes before a bad run, and both come before a run that leaves the addresses.
address_first : read "MEM 00000000000000000 012" ≡ Err (record { kind = Hex; line = 1 })
unfolding state_file_computes read
address_first = refl

run_first : read "MEM ffffffffffffffff 010" ≡ Err (record { kind = Hex; line = 1 })
unfolding state_file_computes read
run_first = refl

-- A run that leaves the addresses below 2^64.
wraps : read "MEM ffffffffffffffff 0102" ≡ Err (record { kind = Wraps; line = 1 })
unfolding state_file_computes read
wraps = refl

-- The first fault counts. The numbers of lines include blank lines.
third_line : read "REG rsp 1\n\nREG foo 1\nSET\n" ≡ Err (record { kind = Register; line = 3 })
unfolding state_file_computes read
third_line = refl

behind_blank : read " \r\n\r\nMEM 0 1\n" ≡ Err (record { kind = Hex; line = 3 })
unfolding state_file_computes read
behind_blank = refl

-- A later run overrides an earlier one.
memory_in : Result State StateFault → List MemRun
memory_in (Ok state) = state.memory
memory_in (Err fault) = []

later_run : byte_at (memory_in (read "MEM 10 010203\nMEM 11 aa\n")) 0x11 ≡ Some 0xaa
unfolding state_file_computes read memory_in
later_run = refl
