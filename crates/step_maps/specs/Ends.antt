-- An address compared with an end that may be missing.
use Rattle.std.specs.Prelude.{ℕ, ◌<◌, ◌≤◌, Option, None, Some}

-- an address is below the end, if there is one
abbrev pub BelowEnd : ℕ → Option ℕ → Type 0
BelowEnd a None = Unit {0}
BelowEnd a (Some end) = a < end

-- an address is not above the end, if there is one
abbrev pub UpToEnd : ℕ → Option ℕ → Type 0
UpToEnd a None = Unit {0}
UpToEnd a (Some end) = a ≤ end
