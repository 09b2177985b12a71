-- The parts of a text as the code finds them.
use Rattle.std.specs.Prelude.{◌≡◌, ◌<◌, ℕ, List, [], ◌∷◌, Option, None, Some, Result, Ok, Err}
use Rattle.sym_edges.specs.declared.fault.Stop.{Stop}
use Rattle.sym_edges.specs.declared.fault.Stop.TheVariants.{Fault, NoMemory}
use Rattle.sym_rules.specs.Cuts.{split_lines}
use Rattle.cfi_eval.specs.declared.registers.Regs.{Regs}
use Rattle.cfi_eval.specs.declared.memory.MemRun.{MemRun}
use Rattle.state_file.specs.declared.line.StateLine.{StateLine}
use Rattle.state_file.specs.declared.line.StateLine.TheVariants.{Blank, Register, Run}
use Rattle.state_file.specs.declared.state.State.{State}

-- the lines after the first line
abbrev pub lines_behind : Option (List ℕ) → List (List ℕ)
lines_behind None = []
lines_behind (Some bytes) = split_lines bytes

-- two words, if there are exactly two
abbrev pub two_of : List (List ℕ) → Option (List ℕ × List ℕ)
two_of (a ∷ b ∷ []) = Some (a, b)
two_of _ = None

-- a state, made of the registers and the memory that the code stores separately
abbrev pub state : Regs → List MemRun → State
state regs runs = record { regs = regs; memory = runs }

-- the number of a register is below 16; rip has no number
abbrev pub HasPlace : Option ℕ → Type 0
HasPlace None = Unit {0}
HasPlace (Some register) = register < 16

abbrev pub HasRegister : StateLine → Type 0
HasRegister Blank = Unit {0}
HasRegister (Register register value) = HasPlace register
HasRegister (Run run) = Unit {0}

-- what a call returns is the value or the fault of a reading, or it ran out of memory
abbrev pub Gives : {A F : Type 0} → Result A (Stop F) → Result A F → Type 0
Gives (Ok x) read = read ≡ Ok x
Gives (Err (Fault f)) read = read ≡ Err f
Gives (Err NoMemory) read = Unit {0}
