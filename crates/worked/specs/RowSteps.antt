-- When the frames of a walk are those of DWARF's rows.
use Rattle.std.specs.Prelude.{◌≡◌, ℕ, ◌+◌, true, List, [], ◌∷◌, Option, None, Some, Result, Ok, Err}
use Rattle.std.specs.List.{AllByRecursion}
use Rattle.frame_entries.specs.FdeFields.{FdeFields}
use Rattle.frame_rows.specs.Rows.{row_at}
use Rattle.cfi_eval.specs.declared.registers.Regs.{Regs}
use Rattle.cfi_eval.specs.declared.memory.MemRun.{MemRun}
use Rattle.cfi_eval.specs.declared.outcome.Frame.{Frame}
use Rattle.state_file.specs.StateText.{no_registers}
use Rattle.rule_postfix.specs.RowValue.{row_frame}
use Rattle.rule_postfix.specs.Covering.{holds_address, entries_at}
use Rattle.rule_postfix.specs.FrameMeaning.{SaysFrame}
use Rattle.stack_walk.specs.declared.steps.WalkStep.{WalkStep}
use Rattle.stack_walk.specs.declared.steps.WalkEnd.{WalkEnd}
use Rattle.stack_walk.specs.declared.steps.WalkEnd.TheVariants.{NoRules}
use Rattle.stack_walk.specs.Walk.{caller_regs}

-- the frame of a step, if rules apply there
abbrev pub frame_said : Result Frame WalkEnd → Option Frame
frame_said (Err end) = None
frame_said (Ok frame) = Some frame

-- a step is looked up at the address `x` of the file. If the entry covers `x`, the step has the frame of the entry's row there, evaluated with the
-- registers of the step
pub record HasRow (x : ℕ) (regs : Regs) (memory : List MemRun) (step : WalkStep) (e : FdeFields) : Type 0 where
  pub row : holds_address x e ≡ true → SaysFrame (row_at e x) (row_frame e (row_at e x) regs memory) (frame_said step.frame)

-- `HasRow` holds for each entry; if no entry covers `x`, the step has no frame
pub record IsRowStep (x : ℕ) (entries : List FdeFields) (regs : Regs) (memory : List MemRun) (step : WalkStep) : Type 0 where
  pub rows : AllByRecursion (HasRow x regs memory step) entries
  pub nothing_else : entries_at entries x ≡ 0 → step.frame ≡ Err NoRules

-- the registers that a frame passes on
abbrev pub regs_behind : Result Frame WalkEnd → Regs
regs_behind (Err end) = no_registers
regs_behind (Ok frame) = caller_regs frame

-- steps by the text of one file, whose addresses count from its base. The first step has these registers, and each other step has those that the
-- frame of the step before passes on
abbrev pub AreRowSteps : ℕ → List FdeFields → List MemRun → Regs → List WalkStep → Type 0
AreRowSteps base entries memory regs [] = Prim.Unit {0}
AreRowSteps base entries memory regs (step ∷ steps) = IsRowStep (step.at + base) entries regs memory step × AreRowSteps base entries memory (regs_behind step.frame) steps
