-- What it means that bytes wait in a buffer before a sink takes them.
use Rattle.std.specs.Prelude.{◌≡◌, ℕ, ◌≤◌, List, ◌++◌, Option, Result, OnOk, OnErr}
use Rattle.sym_edges.specs.Outside.{append_told, AddsFront, Rose}

-- `came` was put after the bytes `waited`. A front of all these bytes was handed to the sink, and
-- the rest waits now
pub record Passes (before : Option (List ℕ)) (waited came : List ℕ) (after : Option (List ℕ)) (waits : List ℕ) : Type 0 where
  pub front : List ℕ
  pub told : after ≡ append_told before front
  pub whole : waited ++ came ≡ front ++ waits

-- `came` was put after the bytes `waited`. Either they passed (`Passes`); or the sink failed, took
-- a front of all these bytes, and counted the fault
pub record Hands {A F : Type 0} (end : Result A F) (before : Option (List ℕ)) (faults : ℕ) (waited came : List ℕ) (after : Option (List ℕ)) (counted : ℕ) (waits : List ℕ) : Type 0 where
  pub passed : OnOk end (Passes before waited came after waits)
  pub front : OnErr end (AddsFront before after (waited ++ came))
  pub kept : faults ≤ counted
  pub cause : OnErr end (Rose faults counted)
