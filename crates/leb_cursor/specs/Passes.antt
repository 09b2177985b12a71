-- How far a reading goes: it passes at least a number of bytes, and it never goes past the end.
use Rattle.std.specs.Prelude.{◌≡◌, ℕ, ◌+◌, ◌≤◌, length, Result, Ok, Err}
use Rattle.leb_cursor.specs.Ahead.{Ahead}

-- a reading from c that succeeds passes at least `least` bytes, and the end stays where it was
abbrev pub Passes : {A E : Type 0} → ℕ → Ahead → Result (A × Ahead) E → Type 0
Passes least c (Ok x) =
    (length x.1.bytes + least ≤ length c.bytes) × (x.1.at + length x.1.bytes ≡ c.at + length c.bytes)
Passes least c (Err fault) = Unit {0}
