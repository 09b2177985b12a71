-- The context in which instructions are executed.
use Rattle.std.specs.Prelude.{ℕ, ℤ, List, Option}
use Rattle.frame_rows.specs.declared.row.Row.{Row}
use Rattle.frame_rows.specs.declared.machine.CieContext.{CieContext}

-- the code and the data alignment factor of the CIE; the row that the CIE's instructions left, if they were executed before; and the run of bytes in
-- which the instructions and their expressions are
pub record Context : Type 0 where
  pub code_align : ℕ
  pub data_align : ℤ
  pub initial : Option Row
  pub run : List ℕ

-- the context of a CIE, with a run of instructions
abbrev pub with_run : CieContext → List ℕ → Context
with_run cie run = record { code_align = cie.code_align; data_align = cie.data_align; initial = cie.initial; run = run }
