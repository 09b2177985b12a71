-- Steps one after another, for `walk_from` and `walk`, and for each loop that walks.
use Rattle.std.proofs.Common.{◌≡◌, ℕ, zero, suc, ◌+◌, ◌-◌, ◌<◌, ◌≤◌, List, [], ◌∷◌, ◌++◌, Some, Ok, Err, sym, ap, ◌∙◌, arith, append_assoc, append-nil}
use Rattle.std.specs.Option.{option_map}
use Rattle.sym_records.specs.declared.line.SymLine.{SymLine}
use Rattle.stack_walk.specs.declared.callers.Place.{Place}
use Rattle.stack_walk.specs.declared.steps.WalkStep.{WalkStep}
use Rattle.stack_walk.specs.declared.steps.WalkEnd.{WalkEnd}
use Rattle.stack_walk.specs.declared.steps.WalkEnd.TheVariants.{Limit}
use Rattle.stack_walk.specs.declared.steps.Walk.{Walk}
use Rattle.state_file.specs.declared.state.State.{State}
use Rattle.stack_walk.specs.Walk.{Process, step_at, place_after, going_on, walk_from, first_place, process_of, walk_of}
use Rattle.stack_walk.specs.internal.Front.{behind}

-- A walk of at most this many steps begins with a step.
step_of : (process : Process) (left : ℕ) (here : Place) → 0 < left → walk_from process left here ≡ going_on (step_at process here) (place_after here.before (step_at process here)) (walk_from process (left - 1))
unfolding walk_from
step_of process zero here some = absurd (omega arith)
step_of process (suc left) here some = let one : left ≡ suc left - 1 = omega arith in ap (λ n. going_on (step_at process here) (place_after here.before (step_at process here)) (walk_from process n)) one

behind_more : (steps : List WalkStep) (step : WalkStep) (walk : Walk) → behind (steps ++ step ∷ []) walk ≡ behind steps (record { steps = step ∷ walk.steps; end = walk.end })
behind_more steps step walk = ap (λ (xs : List WalkStep). record { steps = xs; end = walk.end }) (append_assoc steps (step ∷ []) walk.steps)

-- A step that is followed by another.
pub goes_on : (process : Process) (most turn : ℕ) (here place : Place) (steps next : List WalkStep) (step : WalkStep) (all : Walk) → behind steps (walk_from process (most - turn) here) ≡ all → turn < most → step ≡ step_at process here
    → place_after here.before step ≡ Ok place → next ≡ steps ++ step ∷ [] → behind next (walk_from process (most - (turn + 1)) place) ≡ all
goes_on process most turn here place steps next step all is few same leads more =
    let one : most - turn - 1 ≡ most - (turn + 1) = omega arith in
    let after : place_after here.before (step_at process here) ≡ Ok place = ap (place_after here.before) (sym same) ∙ leads in
    ap (λ xs. behind xs (walk_from process (most - (turn + 1)) place)) (more ∙ ap (λ s. steps ++ s ∷ []) same)
    ∙ behind_more steps (step_at process here) (walk_from process (most - (turn + 1)) place)
    ∙ ap (λ n. behind steps (going_on (step_at process here) (Ok place) (walk_from process n))) (sym one)
    ∙ ap (λ r. behind steps (going_on (step_at process here) r (walk_from process (most - turn - 1)))) (sym after)
    ∙ ap (behind steps) (sym (step_of process (most - turn) here (omega arith)))
    ∙ is

-- The last step.
pub ends_at : (process : Process) (most turn : ℕ) (here : Place) (steps next : List WalkStep) (step : WalkStep) (end : WalkEnd) (all : Walk) → behind steps (walk_from process (most - turn) here) ≡ all → turn < most → step ≡ step_at process here
    → place_after here.before step ≡ Err end → next ≡ steps ++ step ∷ [] → record { steps = next; end = end } ≡ all
ends_at process most turn here steps next step end all is few same leads more =
    let after : place_after here.before (step_at process here) ≡ Err end = ap (place_after here.before) (sym same) ∙ leads in
    ap (λ (xs : List WalkStep). record { steps = xs; end = end }) (more ∙ ap (λ s. steps ++ s ∷ []) same)
    ∙ ap (λ r. behind steps (going_on (step_at process here) r (walk_from process (most - turn - 1)))) (sym after)
    ∙ ap (behind steps) (sym (step_of process (most - turn) here (omega arith)))
    ∙ is

-- No more steps are allowed.
pub limit_at : (process : Process) (most turn : ℕ) (here : Place) (steps : List WalkStep) (all : Walk) → behind steps (walk_from process (most - turn) here) ≡ all → most ≤ turn → record { steps = steps; end = Limit } ≡ all
unfolding walk_from
limit_at process most turn here steps all is many =
    let none : most - turn ≡ 0 = omega arith in
    ap (λ (xs : List WalkStep). record { steps = xs; end = Limit }) (sym (append-nil steps)) ∙ ap (λ n. behind steps (walk_from process n here)) (sym none) ∙ is

-- The walk of a state that has rip.
pub walked : (lines : List SymLine) (state : State) (rip : ℕ) (first : Place) (walk : Walk) → state.regs.rip ≡ Some rip → first ≡ first_place state.regs rip → walk ≡ walk_from (process_of lines state.memory) 1024 first → walk_of lines state ≡ Some walk
unfolding walk_of
walked lines state rip first walk is from walks =
    ap (option_map (λ r. walk_from (process_of lines state.memory) 1024 (first_place state.regs r))) is
    ∙ ap (λ here. Some (walk_from (process_of lines state.memory) 1024 here)) (sym from)
    ∙ ap Some (sym walks)
