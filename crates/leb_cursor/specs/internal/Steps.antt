-- The results of the functions that the public calls use.
use Rattle.std.specs.Prelude.{ℕ, Result, Ok, Err}
use Rattle.leb_cursor.specs.Ahead.{Ahead, passed}

-- the result of a function that reads from the front of the bytes, in the form of a reading: the
-- value, and what is ahead after its bytes
abbrev pub read_front : {A E : Type 0} → Ahead → Result (A × ℕ) E → Result (A × Ahead) E
read_front c (Ok front) = Ok (front.0, passed front.1 c)
read_front c (Err fault) = Err fault
