-- Values of registers and bytes of memory that are in range, as in a processor. The definitions of
-- values also allow larger numbers.
use Rattle.std.specs.Prelude.{◌≡◌, ℕ, ◌<◌, ◌^◌, List, Some, Ok}
use Rattle.cfi_eval.specs.declared.registers.Regs.{Regs}
use Rattle.cfi_eval.specs.declared.memory.MemRun.{MemRun}
use Rattle.cfi_eval.specs.declared.outcome.Outcome.{Outcome}
use Rattle.cfi_eval.specs.declared.outcome.Outcome.TheVariants.{Value, Undefined, Failed}
use Rattle.cfi_eval.specs.Postfix.{register_value}
use Rattle.cfi_eval.specs.Bytes.{byte_at}

-- the value of a register, if it has one, is below 2^64
abbrev pub AreWords : Regs → Type 0
AreWords regs = (register v : ℕ) → register_value regs register ≡ Ok v → v < 2 ^ 64

-- the byte at an address, if it is known, is below 256
abbrev pub AreBytes : List MemRun → Type 0
AreBytes memory = (a b : ℕ) → byte_at memory a ≡ Some b → b < 256

-- the CFA is a number of 64 bits, or its rule failed; it is not undefined
abbrev pub IsKnown : Outcome → Type 0
IsKnown (Value v) = v < 2 ^ 64
IsKnown Undefined = ⊥
IsKnown (Failed why) = Unit {0}
