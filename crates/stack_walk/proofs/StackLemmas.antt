-- Each step of a walk is the caller of the step before. The lemmas are for the laws.
use Rattle.std.proofs.Common.{◌≡◌, ℕ, zero, suc, ◌+◌, ◌-◌, ◌==◌, Bool, true, false, cond, List, [], ◌∷◌, Option, Some, Result, Ok, Err, refl, sym, ap, subst, ◌∙◌, arith}
use Rattle.std.proofs.lemmas.Bool.Decides.{nat_tests}
use Rattle.sym_edges.specs.Results.{◌>>=◌}
use Rattle.cfi_eval.specs.declared.registers.Regs.{Regs}
use Rattle.cfi_eval.specs.declared.outcome.Outcome.{Outcome}
use Rattle.cfi_eval.specs.declared.outcome.Outcome.TheVariants.{Value, Undefined, Failed}
use Rattle.cfi_eval.specs.declared.outcome.Frame.{Frame}
use Rattle.stack_walk.specs.declared.callers.Place.{Place}
use Rattle.stack_walk.specs.declared.steps.WalkStep.{WalkStep}
use Rattle.stack_walk.specs.declared.steps.WalkEnd.{WalkEnd}
use Rattle.stack_walk.specs.declared.steps.WalkEnd.TheVariants.{RaZero}
use Rattle.stack_walk.specs.declared.steps.Walk.{Walk}
use Rattle.stack_walk.specs.Walk.{Process, step_known, step_at, caller_regs, cfa_of, floor_of, return_address, place_after, going_on, walk_from, first_place}
use Rattle.stack_walk.specs.Callers.{IsLookedUp, IsInnermost, IsCallAddress, IsCallerOf, ForFrame, AreCallers, IsStack}

found_at : (process : Process) (here : Place) → IsLookedUp process here.regs (step_at process here)
unfolding step_known
found_at process here = record { signal = refl; frame = refl; answer = refl }

-- The place of a caller, by whether the frame before it is a signal's.
abbrev IsCallPlace : Bool → Place → Type 0
IsCallPlace true place = place.at ≡ place.rip
IsCallPlace false place = place.at + 1 ≡ place.rip

record IsPlaceOf (signal : Bool) (ra : Outcome) (regs : Regs) (place : Place) : Type 0 where
  pub rip : ra ≡ Value place.rip
  pub at : IsCallPlace signal place
  pub handed : place.regs ≡ regs

abbrev led : Bool → Result ℕ WalkEnd → Result ℕ WalkEnd → Regs → Result Place WalkEnd
led signal cfa ra regs = cfa >>= λ c. ra >>= λ r. Ok (record { rip = r; at = cond signal r (r - 1); regs = regs; before = Some c })

back : (r : ℕ) → (r == 0) ≡ false → r - 1 + 1 ≡ r
back r some = grind (arith, nat_tests)

place_by : (signal : Bool) (cfa : Result ℕ WalkEnd) (ra : Outcome) (regs : Regs) (place : Place) → led signal cfa (return_address signal ra) regs ≡ Ok place → IsPlaceOf signal ra regs place
place_by signal (Err end) ra regs place is = absurd (cc)
place_by signal (Ok c) Undefined regs place is = absurd (cc)
place_by signal (Ok c) (Failed why) regs place is = absurd (cc)
place_by true (Ok c) (Value r) regs place is =
    let same : record { rip = r; at = r; regs = regs; before = Some c } ≡ place = cc in
    subst (IsPlaceOf true (Value r) regs) same (record { rip = refl; at = refl; handed = refl })
place_by false (Ok c) (Value r) regs place is = by_test (r == 0) refl is
  where
    by_test : (t : Bool) → (r == 0) ≡ t → led false (Ok c) (cond t (Err RaZero) (Ok r)) regs ≡ Ok place → IsPlaceOf false (Value r) regs place
    by_test true zero_is is = absurd (cc)
    by_test false some is =
        let same : record { rip = r; at = r - 1; regs = regs; before = Some c } ≡ place = cc in
        subst (IsPlaceOf false (Value r) regs) same (record { rip = refl; at = back r some; handed = refl })

call_address : (process : Process) (signal : Bool) (place : Place) → IsCallPlace signal place → IsCallAddress signal (step_at process place)
unfolding step_known
call_address process true place is = is
call_address process false place is = is

same_rip : (process : Process) (place : Place) → (step_at process place).rip ≡ place.rip
unfolding step_known
same_rip process place = refl

called_by : (process : Process) (before : Option ℕ) (step : WalkStep) (frame : Result Frame WalkEnd) (place : Place) → step.frame ≡ frame → place_after before step ≡ Ok place → ForFrame frame (λ f. IsCallerOf process step.signal f (step_at process place))
called_by process before step (Err end) place same is = absurd (cc)
called_by process before step (Ok frame) place same is =
    let now : led step.signal (cfa_of (floor_of step.signal before) frame.cfa) (return_address step.signal frame.ra) (caller_regs frame) ≡ Ok place = cc in
    let by = place_by step.signal (cfa_of (floor_of step.signal before) frame.cfa) frame.ra (caller_regs frame) place now in
    record { rip = by.rip ∙ ap Value (sym (same_rip process place)); at = call_address process step.signal place by.at; found = subst (λ regs. IsLookedUp process regs (step_at process place)) by.handed (found_at process place) }

-- The step is the first of these.
abbrev IsHead : WalkStep → List WalkStep → Type 0
IsHead step [] = Unit {0}
IsHead step (first ∷ steps) = first ≡ step

head_by : (step : WalkStep) (next : Result Place WalkEnd) (go : Place → Walk) → IsHead step (going_on step next go).steps
head_by step (Err end) go = refl
head_by step (Ok place) go = refl

head_is : (process : Process) (most : ℕ) (here : Place) → IsHead (step_at process here) (walk_from process most here).steps
unfolding walk_from
head_is process zero here = tt
head_is process (suc more) here = head_by (step_at process here) (place_after here.before (step_at process here)) (walk_from process more)

-- A step put before its callers.
in_front : (process : Process) (step caller : WalkStep) (steps : List WalkStep) → ForFrame step.frame (λ f. IsCallerOf process step.signal f caller) → IsHead caller steps → AreCallers process steps → AreCallers process (step ∷ steps)
in_front process step caller [] leads head later = tt
in_front process step caller (next ∷ steps) leads head later = (subst (λ s. ForFrame step.frame (λ f. IsCallerOf process step.signal f s)) (sym head) leads, later)

callers_more : (process : Process) (before : Option ℕ) (step : WalkStep) (next : Result Place WalkEnd) (go : Place → Walk) → place_after before step ≡ next → ((place : Place) → IsHead (step_at process place) (go place).steps)
    → ((place : Place) → AreCallers process (go place).steps) → AreCallers process (going_on step next go).steps
callers_more process before step (Err end) go is head later = tt
callers_more process before step (Ok place) go is head later =
    in_front process step (step_at process place) (go place).steps (called_by process before step step.frame place refl is) (head place) (later place)

callers_from : (process : Process) (most : ℕ) (here : Place) → AreCallers process (walk_from process most here).steps
unfolding walk_from
callers_from process zero here = tt
callers_from process (suc more) here =
    callers_more process here.before (step_at process here) (place_after here.before (step_at process here)) (walk_from process more) refl (head_is process more) (callers_from process more)

-- The whole stack.
stack_by : (process : Process) (regs : Regs) (rip : ℕ) (first : WalkStep) (next : Result Place WalkEnd) (go : Place → Walk) → IsInnermost process regs rip first → AreCallers process (going_on first next go).steps → IsStack process regs rip (going_on first next go).steps
stack_by process regs rip first (Err end) go inner callers = (inner, callers)
stack_by process regs rip first (Ok place) go inner callers = (inner, callers)

innermost : (process : Process) (regs : Regs) (rip : ℕ) → IsInnermost process regs rip (step_at process (first_place regs rip))
unfolding step_known
innermost process regs rip = record { rip = refl; at = refl; found = found_at process (first_place regs rip) }

stack_suc : (process : Process) (regs : Regs) (rip more : ℕ) → IsStack process regs rip (walk_from process (suc more) (first_place regs rip)).steps
unfolding walk_from
stack_suc process regs rip more =
    let here : Place = first_place regs rip in
    stack_by process regs rip (step_at process here) (place_after here.before (step_at process here)) (walk_from process more) (innermost process regs rip) (callers_from process (suc more) here)

pub stack_from : (process : Process) (more rip : ℕ) (regs : Regs) → IsStack process regs rip (walk_from process (more + 1) (first_place regs rip)).steps
stack_from process more rip regs =
    let one : suc more ≡ more + 1 = omega arith in
    subst (λ n. IsStack process regs rip (walk_from process n (first_place regs rip)).steps) one (stack_suc process regs rip more)
