use Rattle.std.specs.Prelude.{Bool}
use Rattle.leb_cursor.specs.Ahead.{Ahead}

-- the bytes that the length of a unit or of a line table counts; `wide` says whether the format is
-- the 64-bit one
pub record Contents : Type 0 where
  pub wide : Bool
  pub ahead : Ahead
