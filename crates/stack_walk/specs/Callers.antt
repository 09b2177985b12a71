-- How the steps of a walk are related: each step is the caller of the step before.
use Rattle.std.specs.Prelude.{◌≡◌, ◌+◌, ℕ, Bool, true, false, if◌then◌else◌, List, [], ◌∷◌, Result, Ok, Err, IfSome}
use Rattle.sym_records.specs.declared.line.SymLine.{SymLine}
use Rattle.sym_rules.specs.declared.rules.RuleText.{RuleText}
use Rattle.cfi_eval.specs.declared.registers.Regs.{Regs}
use Rattle.cfi_eval.specs.declared.outcome.Outcome.TheVariants.{Value}
use Rattle.cfi_eval.specs.declared.outcome.Frame.{Frame}
use Rattle.state_file.specs.declared.state.State.{State}
use Rattle.stack_walk.specs.declared.steps.WalkStep.{WalkStep}
use Rattle.stack_walk.specs.declared.steps.WalkEnd.{WalkEnd}
use Rattle.stack_walk.specs.Walk.{Process, rules_at, signal_by, frame_by, answer_by, caller_regs, process_of}

-- the rules at the address that a step looks up
abbrev pub rules_of : Process → WalkStep → Result (List RuleText) WalkEnd
rules_of process step = rules_at process.signals (process.known_at step.at) step.rip step.at

-- a step has the values of these rules, given the registers and the memory. It has the names of the
-- address that it looks up; a signal's frame has the names of rip
pub record IsLookedUp (process : Process) (regs : Regs) (step : WalkStep) : Type 0 where
  pub signal : step.signal ≡ signal_by process.signals (rules_of process step)
  pub frame : step.frame ≡ frame_by regs process.memory (rules_of process step)
  pub answer : step.answer ≡ answer_by (process.known_at step.at).records (if step.signal then step.rip else step.at)

-- the first step is at the first address, looks up that address, and has the first registers
pub record IsInnermost (process : Process) (regs : Regs) (first : ℕ) (step : WalkStep) : Type 0 where
  pub rip : step.rip ≡ first
  pub at : step.at ≡ step.rip
  pub found : IsLookedUp process regs step

-- after a signal's frame, the address itself is looked up; after any other frame, the address one below, which is in the call
abbrev pub IsCallAddress : Bool → WalkStep → Type 0
IsCallAddress true step = step.at ≡ step.rip
IsCallAddress false step = step.at + 1 ≡ step.rip

-- the step after one with a frame is at the frame's return address, and its registers are those that have values in the frame
pub record IsCallerOf (process : Process) (signal : Bool) (frame : Frame) (step : WalkStep) : Type 0 where
  pub rip : frame.ra ≡ Value step.rip
  pub at : IsCallAddress signal step
  pub found : IsLookedUp process (caller_regs frame) step

abbrev pub ForFrame : Result Frame WalkEnd → (Frame → Type 0) → Type 0
ForFrame (Err end) P = ⊥
ForFrame (Ok frame) P = P frame

abbrev pub AreCallers : Process → List WalkStep → Type 0
AreCallers process [] = Unit {0}
AreCallers process (last ∷ []) = Unit {0}
AreCallers process (step ∷ next ∷ steps) = ForFrame step.frame (λ frame. IsCallerOf process step.signal frame next) × AreCallers process (next ∷ steps)

abbrev pub IsStack : Process → Regs → ℕ → List WalkStep → Type 0
IsStack process regs rip [] = ⊥
IsStack process regs rip (first ∷ steps) = IsInnermost process regs rip first × AreCallers process (first ∷ steps)

-- the stack of a state, given the records of one symbol file
abbrev pub IsStackOf : List SymLine → State → List WalkStep → Type 0
IsStackOf lines state steps = IfSome state.regs.rip (λ rip. IsStack (process_of lines state.memory) state.regs rip steps)
