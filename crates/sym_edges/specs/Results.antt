-- Steps that may fail.
use Rattle.std.specs.Prelude.{Bool, if◌then◌else◌, Option, Some, None, Result, Ok, Err}

-- if the first step gave a value, the second step with it; otherwise the fault of the first step
infixl 10 ◌>>=◌
abbrev pub ◌>>=◌ : {A B F : Type 0} → Result A F → (A → Result B F) → Result B F
(Ok x) >>= next = next x
(Err fault) >>= next = Err fault

-- a fault, unless `well` is true
abbrev pub unless : {F : Type 0} → Bool → F → Option F
unless well fault = if well then None else Some fault

-- a fault if the test is true, otherwise the result of the later tests
abbrev pub fault_if : {F : Type 0} → Bool → F → Option F → Option F
fault_if test fault later = if test then Some fault else later
