-- The CFAs of a walk rise, none of its steps is a signal's frame if these are not recognized, and a
-- walk has a limited number of steps. The lemmas are for the laws.
use Rattle.std.proofs.Common.{◌≡◌, ℕ, zero, suc, ◌-◌, ◌<◌, ◌≤◌, nat_lt, Bool, true, false, cond, List, [], ◌∷◌, length, Option, None, Some, Result, Ok, Err, refl, sym, ap, subst, ◌∙◌, arith}
use Rattle.std.proofs.lemmas.Bool.Decides.{nat_tests}
use Rattle.sym_edges.specs.Results.{◌>>=◌}
use Rattle.sym_rules.specs.declared.rules.RuleText.{RuleText}
use Rattle.cfi_eval.specs.declared.registers.Regs.{Regs}
use Rattle.cfi_eval.specs.declared.outcome.Outcome.{Outcome}
use Rattle.cfi_eval.specs.declared.outcome.Outcome.TheVariants.{Value, Undefined, Failed}
use Rattle.cfi_eval.specs.declared.outcome.Frame.{Frame}
use Rattle.stack_walk.specs.declared.callers.Place.{Place}
use Rattle.stack_walk.specs.declared.steps.WalkStep.{WalkStep}
use Rattle.stack_walk.specs.declared.steps.WalkEnd.{WalkEnd}
use Rattle.stack_walk.specs.declared.steps.WalkEnd.TheVariants.{CfaLow}
use Rattle.stack_walk.specs.declared.steps.Walk.{Walk}
use Rattle.stack_walk.specs.Walk.{Process, rules_at, signal_by, step_known, step_at, caller_regs, cfa_of, floor_of, return_address, place_after, going_on, walk_from}
use Rattle.stack_walk.specs.Rising.{IsAbove, RisesTo, CfasRise, HaveNoSignals, frame_cfa}

-- A walk has at most as many steps as are allowed, and at least one if one is allowed.
few_more : (step : WalkStep) (next : Result Place WalkEnd) (go : Place → Walk) (more : ℕ) → ((place : Place) → length (go place).steps ≤ more) → length (going_on step next go).steps ≤ suc more
few_more step (Err end) go more few = omega arith
few_more step (Ok place) go more few = omega (arith, few place)

pub few_from : (process : Process) (most : ℕ) (here : Place) → length (walk_from process most here).steps ≤ most
unfolding walk_from
few_from process zero here = omega arith
few_from process (suc more) here = few_more (step_at process here) (place_after here.before (step_at process here)) (walk_from process more) more (few_from process more)

pub some_from : (process : Process) (more : ℕ) (here : Place) → 0 < length (walk_from process (suc more) here).steps
unfolding walk_from
some_from process more here = go (place_after here.before (step_at process here))
  where
    go : (next : Result Place WalkEnd) → 0 < length (going_on (step_at process here) next (walk_from process more)).steps
    go (Err end) = omega arith
    go (Ok place) = omega arith

-- There are no signal's frames if these are not recognized.
signal_not : (signals : Bool) (rules : Result (List RuleText) WalkEnd) → signals ≡ false → signal_by signals rules ≡ false
signal_not signals (Err end) none = refl
signal_not false (Ok rules) none = refl
signal_not true (Ok rules) none = absurd (cc)

step_not : (process : Process) (here : Place) → process.signals ≡ false → (step_at process here).signal ≡ false
unfolding step_known
step_not process here none = signal_not process.signals (rules_at process.signals (process.known_at here.at) here.rip here.at) none

none_more : (step : WalkStep) (next : Result Place WalkEnd) (go : Place → Walk) → step.signal ≡ false → ((place : Place) → HaveNoSignals (go place).steps) → HaveNoSignals (going_on step next go).steps
none_more step (Err end) go one later = (one, tt)
none_more step (Ok place) go one later = (one, later place)

pub no_signals_from : (process : Process) (most : ℕ) (here : Place) → process.signals ≡ false → HaveNoSignals (walk_from process most here).steps
unfolding walk_from
no_signals_from process zero here none = tt
no_signals_from process (suc more) here none =
    none_more (step_at process here) (place_after here.before (step_at process here)) (walk_from process more) (step_not process here none) (λ place. no_signals_from process more place none)

-- A step that is followed by another has a CFA above the one before, and the next step knows this
-- CFA.
record Leads (signal : Bool) (before : Option ℕ) (outcome : Outcome) (place : Place) (cfa : ℕ) : Type 0 where
  pub is : outcome ≡ Value cfa
  pub above : IsAbove signal before cfa
  pub known : place.before ≡ Some cfa

below_of : (a b : ℕ) → nat_lt a b ≡ true → a < b
below_of a b h = grind (arith, nat_tests)

abbrev led : Bool → Result ℕ WalkEnd → Result ℕ WalkEnd → Regs → Result Place WalkEnd
led signal cfa ra regs = cfa >>= λ c. ra >>= λ r. Ok (record { rip = r; at = cond signal r (r - 1); regs = regs; before = Some c })

known_by : (signal : Bool) (cfa : ℕ) (ra : Result ℕ WalkEnd) (regs : Regs) (place : Place) → led signal (Ok cfa) ra regs ≡ Ok place → place.before ≡ Some cfa
known_by signal cfa (Err end) regs place is = absurd (cc)
known_by signal cfa (Ok r) regs place is =
    let same : record { rip = r; at = cond signal r (r - 1); regs = regs; before = Some cfa } ≡ place = cc in
    sym (ap (λ (p : Place). p.before) same)

leads_by : (signal : Bool) (before : Option ℕ) (outcome : Outcome) (ra : Result ℕ WalkEnd) (regs : Regs) (place : Place) → led signal (cfa_of (floor_of signal before) outcome) ra regs ≡ Ok place → (cfa : ℕ) × Leads signal before outcome place cfa
leads_by signal before Undefined ra regs place is = absurd (cc)
leads_by signal before (Failed why) ra regs place is = absurd (cc)
leads_by true before (Value cfa) ra regs place is = (cfa, record { is = refl; above = tt; known = known_by true cfa ra regs place is })
leads_by false None (Value cfa) ra regs place is = (cfa, record { is = refl; above = tt; known = known_by false cfa ra regs place is })
leads_by false (Some before) (Value cfa) ra regs place is = by_test (nat_lt before cfa) refl is
  where
    by_test : (t : Bool) → nat_lt before cfa ≡ t → led false (cond t (Ok cfa) (Err (CfaLow before cfa))) ra regs ≡ Ok place → (c : ℕ) × Leads false (Some before) (Value cfa) place c
    by_test true less is = (cfa, record { is = refl; above = below_of before cfa less; known = known_by false cfa ra regs place is })
    by_test false less is = absurd (cc)

rises_by : (step : WalkStep) (before : Option ℕ) (frame : Result Frame WalkEnd) (place : Place) → step.frame ≡ frame → place_after before step ≡ Ok place → (cfa : ℕ) × (RisesTo before step cfa × (place.before ≡ Some cfa))
rises_by step before (Err end) place same is = absurd (cc)
rises_by step before (Ok frame) place same is =
    let now : led step.signal (cfa_of (floor_of step.signal before) frame.cfa) (return_address step.signal frame.ra) (caller_regs frame) ≡ Ok place = cc in
    let found = leads_by step.signal before frame.cfa (return_address step.signal frame.ra) (caller_regs frame) place now in
    (found.0, (record { is = ap frame_cfa same ∙ ap Some found.1.is; above = found.1.above }, found.1.known))

cons_rises : (before : Option ℕ) (step : WalkStep) (cfa : ℕ) (steps : List WalkStep) → RisesTo before step cfa → CfasRise (Some cfa) steps → CfasRise before (step ∷ steps)
cons_rises before step cfa [] rises later = tt
cons_rises before step cfa (next ∷ steps) rises later = (cfa, (rises, later))

rise_more : (step : WalkStep) (before : Option ℕ) (next : Result Place WalkEnd) (go : Place → Walk) → place_after before step ≡ next → ((place : Place) → CfasRise place.before (go place).steps) → CfasRise before (going_on step next go).steps
rise_more step before (Err end) go is later = tt
rise_more step before (Ok place) go is later =
    let found = rises_by step before step.frame place refl is in
    cons_rises before step found.0 (go place).steps found.1.0 (subst (λ b. CfasRise b (go place).steps) found.1.1 (later place))

pub rise_from : (process : Process) (most : ℕ) (here : Place) → CfasRise here.before (walk_from process most here).steps
unfolding walk_from
rise_from process zero here = tt
rise_from process (suc more) here = rise_more (step_at process here) here.before (place_after here.before (step_at process here)) (walk_from process more) refl (rise_from process more)
