-- The fields of a frame description entry.
use Rattle.std.specs.Prelude.{ℕ, ℤ, List}

-- a frame description entry (FDE; DWARF 5, 6.4.1): the place of its CIE in the section, its address range, the fields of the CIE with the initial
-- instructions, its own instructions, and the address of its own instructions
pub record FdeFields : Type 0 where
  pub cie : ℕ
  pub start : ℕ
  pub size : ℕ
  pub code_align : ℕ
  pub data_align : ℤ
  pub encoding : ℕ
  pub initial_instructions : List ℕ
  pub instructions : List ℕ
  pub instructions_address : ℕ
