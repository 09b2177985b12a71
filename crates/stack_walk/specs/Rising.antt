-- The frames of a stack lie one above another: the CFA of each step but the last is a value, and is
-- above the CFA of the step before. Only the frame of a signal need not be above the one before,
-- since it may lie on another stack.
use Rattle.std.specs.Prelude.{◌≡◌, ◌<◌, ℕ, Bool, true, false, List, [], ◌∷◌, Option, None, Some, Result, Ok, Err}
use Rattle.cfi_eval.specs.declared.outcome.Frame.{Frame}
use Rattle.cfi_eval.specs.declared.outcome.Outcome.{Outcome}
use Rattle.cfi_eval.specs.declared.outcome.Outcome.TheVariants.{Value}
use Rattle.stack_walk.specs.declared.steps.WalkStep.{WalkStep}
use Rattle.stack_walk.specs.declared.steps.WalkEnd.{WalkEnd}

-- the CFA of a frame, if there are rules
abbrev pub frame_cfa : Result Frame WalkEnd → Option Outcome
frame_cfa (Err end) = None
frame_cfa (Ok frame) = Some frame.cfa

abbrev pub IsAbove : Bool → Option ℕ → ℕ → Type 0
IsAbove true before cfa = Unit {0}
IsAbove false None cfa = Unit {0}
IsAbove false (Some before) cfa = before < cfa

-- the step has the CFA `cfa`, and this is above `before` or the step is a signal's frame
pub record RisesTo (before : Option ℕ) (step : WalkStep) (cfa : ℕ) : Type 0 where
  pub is : frame_cfa step.frame ≡ Some (Value cfa)
  pub above : IsAbove step.signal before cfa

-- each step but the last rises in this way; `before` is the CFA before the first step
abbrev pub CfasRise : Option ℕ → List WalkStep → Type 0
CfasRise before [] = Unit {0}
CfasRise before (last ∷ []) = Unit {0}
CfasRise before (step ∷ next ∷ steps) = (cfa : ℕ) × (RisesTo before step cfa × CfasRise (Some cfa) (next ∷ steps))

-- none of the steps is a signal's frame
abbrev pub HaveNoSignals : List WalkStep → Type 0
HaveNoSignals [] = Unit {0}
HaveNoSignals (step ∷ steps) = (step.signal ≡ false) × HaveNoSignals steps
