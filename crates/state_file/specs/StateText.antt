-- The meaning of a state file. Its lines are cut as in a symbol file, and each line says one thing: `REG name hex` gives the value of a register,
-- `MEM hex bytes` the bytes of memory from an address on. A later line overrides an earlier one.
use Rattle.std.specs.Prelude.{ℕ, ◌+◌, ◌*◌, ◌^◌, nat_lt, if◌then◌else◌, List, [], ◌∷◌, ◌++◌, replicate, length, slice_set, codes, Option, None, Some, ok_or, Result, Ok, Err}
use Rattle.std.specs.Option.{option_map, option_and_then}
use Rattle.std.specs.Str.{bytes_eq}
use Rattle.sym_edges.specs.Results.{◌>>=◌}
use Rattle.sym_rules.specs.Cuts.{is_margin, from, trim_end, split_lines}
use Rattle.sym_rules.specs.RuleReading.{words, register_of}
use Rattle.sym_records.specs.FieldReading.{hex_digit, hex_value}
use Rattle.sym_records.specs.Reading.{next_number}
use Rattle.sym_records.specs.Text.{is_blank, trimmed, key_of}
use Rattle.cfi_eval.specs.declared.registers.Regs.{Regs}
use Rattle.state_file.specs.declared.line.StateLine.{StateLine}
use Rattle.state_file.specs.declared.line.StateLine.TheVariants.{Blank, Register, Run}
use Rattle.state_file.specs.declared.state.State.{State}
use Rattle.state_file.specs.declared.fault.StateFault.{StateFault}
use Rattle.state_file.specs.declared.fault.StateKind.{StateKind}
use Rattle.state_file.specs.declared.fault.StateKind.TheVariants as fault

-- no register has a value, and no byte of memory is known
abbrev pub no_registers : Regs
no_registers = record { values = replicate 16 None; rip = None }

abbrev pub no_state : State
no_state = record { regs = no_registers; memory = [] }

-- registers with one more value: that of one of the sixteen, given its number, or that of rip
abbrev pub with_value : Option ℕ → ℕ → Regs → Regs
with_value None value regs = record { values = regs.values; rip = Some value }
with_value (Some register) value regs = record { values = slice_set regs.values register (Some value); rip = regs.rip }

-- a state after one more line
abbrev pub with_line : StateLine → State → State
with_line Blank state = state
with_line (Register register value) state = record { regs = with_value register value state.regs; memory = state.memory }
with_line (Run run) state = record { regs = state.regs; memory = state.memory ++ run ∷ [] }

-- the register with a name, which is written without `$`: the number of one of the sixteen, or rip, which has no number
unfoldable pub named_register : List ℕ → Option (Option ℕ)
named_register name = if bytes_eq name (codes "rip") then Some None else option_map Some (register_of (36 ∷ name))

-- `REG name hex`
unfoldable pub register_line : List ℕ → List ℕ → Result StateLine StateKind
register_line name word = do
  register ← ok_or (named_register name) fault.Register
  value ← ok_or (hex_value word) fault.Hex
  Ok (Register register value)

-- the byte of two hexadecimal digits
abbrev pub byte_of : ℕ → ℕ → Option ℕ
byte_of high low = option_and_then (λ h. option_map (λ l. h * 16 + l) (hex_digit low)) (hex_digit high)

-- the bytes of pairs of digits
unfoldable pub bytes_of : List ℕ → Option (List ℕ)
bytes_of [] = Some []
bytes_of (a ∷ []) = None
bytes_of (a ∷ b ∷ digits) = option_and_then (λ byte. option_map (λ bytes. byte ∷ bytes) (bytes_of digits)) (byte_of a b)

-- a run of bytes; its last byte must be at an address below 2^64
abbrev pub run_line : ℕ → List ℕ → Result StateLine StateKind
run_line start bytes = if nat_lt (2 ^ 64) (start + length bytes) then Err fault.Wraps else Ok (Run (record { start = start; bytes = bytes }))

-- `MEM hex bytes`
unfoldable pub memory_line : List ℕ → List ℕ → Result StateLine StateKind
memory_line word digits = do
  start ← ok_or (hex_value word) fault.Hex
  bytes ← ok_or (bytes_of digits) fault.Hex
  run_line start bytes

-- exactly two fields, or a fault
abbrev pub two_fields : (List ℕ → List ℕ → Result StateLine StateKind) → List (List ℕ) → Result StateLine StateKind
two_fields next (a ∷ b ∷ []) = next a b
two_fields next _ = Err fault.Fields

-- a line, given its first word and its fields
unfoldable pub worded_line : List ℕ → List (List ℕ) → Result StateLine StateKind
worded_line key fields =
    if bytes_eq key (codes "REG") then two_fields register_line fields
    else if bytes_eq key (codes "MEM") then two_fields memory_line fields
    else Err fault.Keyword

-- what a line says. Its first word is found as in a symbol file. In what follows, spaces and CRs at
-- the end of the line are ignored
unfoldable pub line_read : List ℕ → Result StateLine StateKind
line_read line =
    if is_blank line then Ok Blank
    else worded_line (key_of line) (words (trim_end is_margin (from 32 (trimmed line))))

-- a fault, with the number of its line
abbrev pub numbered : ℕ → Result StateLine StateKind → Result StateLine StateFault
numbered number (Ok said) = Ok said
numbered number (Err kind) = Err (record { kind = kind; line = number })

-- a state after more lines; `number` lines come before them
unfoldable pub with_lines : ℕ → State → List (List ℕ) → Result State StateFault
with_lines number state [] = Ok state
with_lines number state (line ∷ lines) =
    numbered (next_number number) (line_read line) >>= λ said. with_lines (next_number number) (with_line said state) lines

-- the state that a file gives, or its first fault
unfoldable pub state_of : List ℕ → Result State StateFault
state_of bytes = with_lines 0 no_state (split_lines bytes)
