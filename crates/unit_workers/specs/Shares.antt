-- The shares of a list: consecutive members that are one job.
use Rattle.std.specs.Prelude.{ℕ, ◌*◌, List, take, drop}

-- `size` members after those of the shares before; the last share may have fewer
abbrev pub share : {A : Type 0} → ℕ → ℕ → List A → List A
share size k items = take size (drop (size * k) items)
