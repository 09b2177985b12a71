-- What contracts see of tickets and of a hand.
use Rattle.std.specs.Prelude.{ℕ, List}
use Rattle.atomic_table.specs.Seated.{TableId}

-- Tickets: their identity, how many numbers they have, and how many workers may draw
pub record Roll : Type 0 where
  pub id : TableId
  pub count : ℕ
  pub workers : ℕ

-- A hand: the tickets that it draws from; the numbers that it drew, in order; how many more draws
-- it may make that find no number; and how many workers it stands for
pub record Held : Type 0 where
  pub roll : Roll
  pub drawn : List ℕ
  pub rights : ℕ
  pub share : ℕ

abbrev pub held : Roll → List ℕ → ℕ → ℕ → Held
held roll drawn rights share = record { roll = roll; drawn = drawn; rights = rights; share = share }
