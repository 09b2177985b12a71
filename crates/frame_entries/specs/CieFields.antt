-- The fields of a CIE.
use Rattle.std.specs.Prelude.{ℕ, ℤ, Bool, List}

-- what the FDEs of a CIE need from it (DWARF 5, 6.4.1): the code alignment factor, the data alignment factor, the encoding of pointers, whether there
-- is an augmentation, and the initial instructions
pub record CieFields : Type 0 where
  pub code_align : ℕ
  pub data_align : ℤ
  pub encoding : ℕ
  pub augmented : Bool
  pub initial_instructions : List ℕ
