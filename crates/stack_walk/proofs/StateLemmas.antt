-- The walk of a state by the records of one symbol file, for `walks_of_a_state_are_stacks`.
use Rattle.std.proofs.Common.{◌≡◌, ℕ, ◌-◌, ◌<◌, ◌≤◌, nat_le, true, false, List, length, Option, None, Some, ok_or, Ok, IfSome, refl, ap, subst, ◌∙◌, arith}
use Rattle.std.proofs.lemmas.Bool.Decides.{nat_tests}
use Rattle.std.specs.Option.{option_map}
use Rattle.sym_records.specs.declared.line.SymLine.{SymLine}
use Rattle.state_file.specs.declared.state.State.{State}
use Rattle.sym_rules.specs.declared.rules.RuleText.{RuleText}
use Rattle.cfi_eval.specs.declared.memory.MemRun.{MemRun}
use Rattle.cfi_eval.specs.TextRules.{text_rules}
use Rattle.cfi_eval.specs.TextValue.{frame_of, text_frame}
use Rattle.stack_walk.specs.Records.{rules_in}
use Rattle.stack_walk.specs.declared.callers.Place.{Place}
use Rattle.stack_walk.specs.declared.known.Known.{Known}
use Rattle.stack_walk.specs.declared.steps.WalkStep.{WalkStep}
use Rattle.stack_walk.specs.declared.steps.Walk.{Walk}
use Rattle.stack_walk.specs.declared.steps.WalkEnd.TheVariants.{NoRules}
use Rattle.stack_walk.specs.Walk.{frame_by, step_known, step_at, walk_from, first_place, process_of, walk_of}
use Rattle.stack_walk.specs.Callers.{IsStack, IsStackOf}
use Rattle.stack_walk.specs.Rising.{CfasRise, HaveNoSignals}
use Rattle.stack_walk.proofs.RisingLemmas.{rise_from, no_signals_from, some_from, few_from}
use Rattle.stack_walk.proofs.StackLemmas.{stack_from}

by_rip : (lines : List SymLine) (state : State) (rip : Option ℕ) (walk : Walk) (P : Walk → Type 0) → option_map (λ r. walk_from (process_of lines state.memory) 1024 (first_place state.regs r)) rip ≡ Some walk
    → IfSome rip (λ r. P (walk_from (process_of lines state.memory) 1024 (first_place state.regs r))) → P walk
by_rip lines state None walk P is holds = absurd (cc)
by_rip lines state (Some r) walk P is holds =
    let same : walk_from (process_of lines state.memory) 1024 (first_place state.regs r) ≡ walk = cc in
    subst P same holds

-- What is true of each walk is true of the walk of a state.
each : (lines : List SymLine) (state : State) (walk : Walk) (P : Walk → Type 0) → walk_of lines state ≡ Some walk → ((r : ℕ) → P (walk_from (process_of lines state.memory) 1024 (first_place state.regs r))) → P walk
unfolding walk_of
each lines state walk P is holds = by_rip lines state state.regs.rip walk P is (some state.regs.rip)
  where
    some : (rip : Option ℕ) → IfSome rip (λ r. P (walk_from (process_of lines state.memory) 1024 (first_place state.regs r)))
    some None = tt
    some (Some r) = holds r

pub walks_rise : (lines : List SymLine) (state : State) (walk : Walk) → walk_of lines state ≡ Some walk → CfasRise None walk.steps
walks_rise lines state walk is = each lines state walk (λ w. CfasRise None w.steps) is (λ r. rise_from (process_of lines state.memory) 1024 (first_place state.regs r))

pub walks_have_no_signals : (lines : List SymLine) (state : State) (walk : Walk) → walk_of lines state ≡ Some walk → HaveNoSignals walk.steps
walks_have_no_signals lines state walk is = each lines state walk (λ w. HaveNoSignals w.steps) is (λ r. no_signals_from (process_of lines state.memory) 1024 (first_place state.regs r) refl)

pub walks_some : (lines : List SymLine) (state : State) (walk : Walk) → walk_of lines state ≡ Some walk → 0 < length walk.steps
walks_some lines state walk is = each lines state walk (λ w. 0 < length w.steps) is (λ r. some_from (process_of lines state.memory) 1023 (first_place state.regs r))

pub walks_few : (lines : List SymLine) (state : State) (walk : Walk) → walk_of lines state ≡ Some walk → length walk.steps ≤ 1024
walks_few lines state walk is = each lines state walk (λ w. length w.steps ≤ 1024) is (λ r. few_from (process_of lines state.memory) 1024 (first_place state.regs r))

stack_by : (lines : List SymLine) (state : State) (rip : Option ℕ) (walk : Walk) → option_map (λ r. walk_from (process_of lines state.memory) 1024 (first_place state.regs r)) rip ≡ Some walk → IfSome rip (λ r. IsStack (process_of lines state.memory) state.regs r walk.steps)
stack_by lines state None walk is = tt
stack_by lines state (Some r) walk is =
    let same : walk_from (process_of lines state.memory) 1024 (first_place state.regs r) ≡ walk = cc in
    subst (λ (w : Walk). IsStack (process_of lines state.memory) state.regs r w.steps) same (stack_from (process_of lines state.memory) 1023 r state.regs)

pub walks_are_stacks : (lines : List SymLine) (state : State) (walk : Walk) → walk_of lines state ≡ Some walk → IsStackOf lines state walk.steps
unfolding walk_of
walks_are_stacks lines state walk is = stack_by lines state state.regs.rip walk is

-- What is known of every address.
pub rules_at_0 : (lines : List SymLine) (a : ℕ) → rules_in (record { base = 0; lines = lines }) a ≡ text_rules lines a
rules_at_0 lines a =
    let low : nat_le 0 a ≡ true = grind (arith, nat_tests) in
    let same : a - 0 ≡ a = omega arith in
    rw (low, same) refl

-- The frame of a step is what the text gives at its address.
pub frame_of_text : (lines : List SymLine) (memory : List MemRun) (here : Place) → (step_at (process_of lines memory) here).frame ≡ ok_or (text_frame lines here.at here.regs memory) NoRules
unfolding step_known text_frame
frame_of_text lines memory here = ap (λ (rules : Option (List RuleText)). frame_by here.regs memory (ok_or rules NoRules)) (rules_at_0 lines here.at) ∙ go (text_rules lines here.at)
  where
    go : (rules : Option (List RuleText)) → frame_by here.regs memory (ok_or rules NoRules) ≡ ok_or (option_map (frame_of here.regs memory) rules) NoRules
    go None = refl
    go (Some rules) = refl

-- A step, by what is known of every address.
pub step_of_file : (lines : List SymLine) (memory : List MemRun) (known : Known) (here : Place) (step : WalkStep) → known ≡ record { records = Ok (record { base = 0; lines = lines }); is_code = true } → step ≡ step_known false known memory here → step ≡ step_at (process_of lines memory) here
step_of_file lines memory known here step all is = is ∙ ap (λ k. step_known false k memory here) all
