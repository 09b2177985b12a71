-- The position of a stepper among the rows of an entry. It begins at the first row, and each step goes on to the next. If no instruction of the entry
-- is bad, `here ∷ later` are the entry's rows at the beginning, and after each step the rows that are left.
use Rattle.std.specs.Prelude.{◌≡◌, ℕ, ◌<◌, Bool, true, false, List, [], ◌∷◌, Option, None, Some}
use Rattle.sym_edges.specs.declared.reason.Reason.{Reason}
use Rattle.frame_entries.specs.FdeFields.{FdeFields}
use Rattle.frame_rows.specs.declared.row.RowAt.{RowAt}
use Rattle.frame_rows.specs.Rows.{instruction_fault, AreRows}

pub record Standing : Type 0 where
  -- memory ran out
  pub failed : Bool
  -- a step was refused, for this reason
  pub refused : Option Reason
  -- an instruction of the entry is bad and was not executed yet: the reason against the first bad one
  pub fault : Option Reason
  -- the end of the entry's range
  pub end : ℕ
  -- the row at the position, and the entry's rows after it, if no instruction is bad
  pub here : RowAt
  pub later : List RowAt

-- the position is at the first row of an entry
pub record Begins (e : FdeFields) (s : Standing) : Type 0 where
  pub fault : s.fault ≡ instruction_fault e
  pub rows : s.fault ≡ None → AreRows e (s.here ∷ s.later)

-- a step leads to the next row
pub record GoesOn (before after : Standing) : Type 0 where
  pub failed : after.failed ≡ false
  pub refused : after.refused ≡ None
  pub fault : after.fault ≡ before.fault
  pub end : after.end ≡ before.end
  pub rises : before.here.address < after.here.address
  pub below : after.here.address < before.end
  pub later : before.later ≡ after.here ∷ after.later

-- a step changes nothing; if no instruction is bad, there is no next row
pub record Stays (before after : Standing) : Type 0 where
  pub none : before.fault ≡ None → before.later ≡ []
  pub same : after ≡ before

abbrev pub IsStep : Bool → Standing → Standing → Type 0
IsStep true before after = GoesOn before after
IsStep false before after = Stays before after

-- a step is refused with the reason against the first bad instruction, and so is each later step
pub record Refuses (why : Reason) (before after : Standing) : Type 0 where
  pub is : before.fault ≡ Some why
  pub still : after.fault ≡ Some why
  pub refused : after.refused ≡ Some why
  pub failed : after.failed ≡ false

-- all instructions are executed, and none was bad: no row is left, and no later step is refused
pub record Ends (before after : Standing) : Type 0 where
  pub good : before.fault ≡ None
  pub none : after.later ≡ []
  pub failed : after.failed ≡ before.failed
  pub refused : after.refused ≡ None
  pub fault : after.fault ≡ None
  pub end : after.end ≡ before.end
