-- What a cursor has ahead; and the result of a call, in the form in which the definitions give
-- readings.
use Rattle.std.specs.Prelude.{ℕ, ◌+◌, List, drop, Result, Ok, Err}

-- the bytes that are left, and the place of the first of them
pub record Ahead : Type 0 where
  pub bytes : List ℕ
  pub at : ℕ

-- what is ahead after n bytes were passed
unfoldable pub passed : ℕ → Ahead → Ahead
passed n c = record { bytes = drop n c.bytes; at = c.at + n }

-- the result of a call in the form of a reading: its value with what is ahead after the call, or
-- its fault
abbrev pub gave : {A E : Type 0} → Result A E → Ahead → Result (A × Ahead) E
gave (Ok x) c = Ok (x, c)
gave (Err fault) c = Err fault

-- the same as `gave`, for a value that contracts see through a function `view`: a slice, for
-- example, as its bytes
abbrev pub gave_as : {A B E : Type 0} → (A → B) → Result A E → Ahead → Result (B × Ahead) E
gave_as view (Ok x) c = Ok (view x, c)
gave_as view (Err fault) c = Err fault
