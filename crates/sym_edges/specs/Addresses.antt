use Rattle.std.specs.Prelude.{ℕ, ◌≤◌, ◌<◌}

-- the addresses from `start` up to `end`, without `end`
pub record Range : Type 0 where
  pub start : ℕ
  pub end : ℕ

-- the address is in the range
abbrev pub Holds : Range → ℕ → Type 0
Holds range a = (range.start ≤ a) × (a < range.end)
