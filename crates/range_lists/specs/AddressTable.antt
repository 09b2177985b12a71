use Rattle.std.specs.Prelude.{ℕ, List, Option}

-- the table in which an entry finds addresses by index (DWARF 5, 7.27): the bytes of `.debug_addr`, the unit's addr_base, and the place of the entry
pub record AddressTable : Type 0 where
  pub bytes : List ℕ
  pub base : Option ℕ
  pub at : ℕ
