-- Which records may follow which (Breakpad's symbol_files.md).
use Rattle.std.specs.Prelude.{Bool, true, false}
use Rattle.sym_records.specs.declared.place.Place.{Place}
use Rattle.sym_records.specs.declared.place.Place.TheVariants.{Start, Inside, Function, Frame}

-- the role of a record among its neighbours: the first of all (`MODULE`), a record of its own, a
-- function, a part of a function, a frame record, or a change of a frame record
pub data Role : Type 0 where
  First : Role
  Own : Role
  Owner : Role
  Owned : Role
  Frames : Role
  Changes : Role

-- which records may be at a place: the first record only at the start, a part of a function only in
-- a function, and a change only after a frame record or another change
abbrev pub may_stand : Place → Role → Bool
may_stand Start First = true
may_stand Start role = false
may_stand Inside First = false
may_stand Inside Owned = false
may_stand Inside Changes = false
may_stand Inside role = true
may_stand Function First = false
may_stand Function Changes = false
may_stand Function role = true
may_stand Frame First = false
may_stand Frame Owned = false
may_stand Frame role = true

-- the place after a record; a part of a function does not change the place
abbrev pub place_behind_role : Place → Role → Place
place_behind_role place First = Inside
place_behind_role place Own = Inside
place_behind_role place Owner = Function
place_behind_role place Owned = place
place_behind_role place Frames = Frame
place_behind_role place Changes = Frame

-- a change of a frame record
abbrev pub is_change_role : Role → Bool
is_change_role Changes = true
is_change_role role = false
