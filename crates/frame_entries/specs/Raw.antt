-- Entries as they are in their section.
use Rattle.std.specs.Prelude.{ℕ, Bool, if◌then◌else◌, List}

-- how many bytes a length and an id have (DWARF 5, 7.4); in the 64-bit format the length includes
-- the ffffffff before it
abbrev pub length_width : Bool → ℕ
length_width wide = if wide then 12 else 4

abbrev pub id_width : Bool → ℕ
id_width wide = if wide then 8 else 4

-- an entry as it is in its section: the place of its first byte, whether it has the 64-bit format, the place of its id and the id, the place of its
-- body, and the bytes of the body
pub record Raw : Type 0 where
  pub at : ℕ
  pub wide : Bool
  pub id_at : ℕ
  pub id : ℕ
  pub body_at : ℕ
  pub body : List ℕ
