-- The frames of a walk by DWARF's rows, for `walks_go_by_the_rows` and `stacks_go_by_the_rows`.
use Rattle.std.proofs.lemmas.Bool.Decides.{nat_tests}
use Rattle.std.proofs.Common.{◌≡◌, ℕ, zero, suc, ◌+◌, ◌-◌, ◌≤◌, nat_le, Bool, true, false, cond, List, [], ◌∷◌, Option, None, Some, ok_or, Result, Ok, Err, refl, sym, ap, subst, ◌∙◌, arith}
use Rattle.std.specs.List.{AllByRecursion}
use Rattle.std.specs.Option.{option_map}
use Rattle.sym_edges.specs.Results.{◌>>=◌}
use Rattle.elf_sections.specs.Image.{ImageParts}
use Rattle.frame_entries.specs.FdeFields.{FdeFields}
use Rattle.frame_rows.specs.Rows.{row_at}
use Rattle.sym_records.specs.declared.line.SymLine.{SymLine}
use Rattle.cfi_eval.specs.declared.registers.Regs.{Regs}
use Rattle.cfi_eval.specs.declared.memory.MemRun.{MemRun}
use Rattle.cfi_eval.specs.declared.outcome.Frame.{Frame}
use Rattle.sym_rules.specs.declared.rules.RuleText.{RuleText}
use Rattle.cfi_eval.specs.TextRules.{text_rules}
use Rattle.cfi_eval.specs.TextValue.{text_frame, frame_of}
use Rattle.state_file.specs.declared.state.State.{State}
use Rattle.rule_postfix.specs.RowValue.{row_frame}
use Rattle.rule_postfix.specs.Covering.{holds_address, entries_at}
use Rattle.rule_postfix.specs.FrameMeaning.{SaysFrame, KeepsRows, KeepsFrames}
use Rattle.stack_walk.specs.Walk.{step_known}
use Rattle.stack_walk.specs.declared.callers.Place.{Place}
use Rattle.stack_walk.specs.declared.steps.WalkStep.{WalkStep}
use Rattle.stack_walk.specs.declared.steps.WalkEnd.{WalkEnd}
use Rattle.stack_walk.specs.declared.steps.WalkEnd.TheVariants.{NoRules}
use Rattle.stack_walk.specs.declared.steps.Walk.{Walk}
use Rattle.stack_walk.specs.Records.{rules_in}
use Rattle.stack_walk.specs.Callers.{IsLookedUp}
use Rattle.stack_walk.specs.declared.known.Known.{Known}
use Rattle.stack_walk.specs.Walk.{Process, is_nowhere, nowhere_rules, rules_at, frame_by, step_at, caller_regs, cfa_of, floor_of, return_address, place_after, going_on, walk_from, first_place, process_of, walk_of}
use Rattle.stack_walk.proofs.StateLemmas.{frame_of_text}
use Rattle.dumpsyms_cmd.specs.commands.Dump.{DumpsParts, written_of}
use Rattle.worked.specs.RowSteps.{frame_said, HasRow, IsRowStep, regs_behind, AreRowSteps}

-- The frame of a step, given what the text gives at its address.
said : (frame : Option Frame) → frame_said (ok_or frame NoRules) ≡ frame
said None = refl
said (Some frame) = refl

-- The row of an entry at a step whose frame is what the text gives at an address.
one_row : (base : ℕ) (lines : List SymLine) (memory : List MemRun) (regs : Regs) (a : ℕ) (step : WalkStep) (e : FdeFields) → frame_said step.frame ≡ text_frame lines a regs memory → KeepsRows base lines e → HasRow (a + base) regs memory step e
one_row base lines memory regs a step e is keeps =
    let back : a + base - base ≡ a = omega arith in
    record {
      row = λ holds.
          subst (SaysFrame (row_at e (a + base)) (row_frame e (row_at e (a + base)) regs memory)) (sym is)
          (subst (λ x. SaysFrame (row_at e (a + base)) (row_frame e (row_at e (a + base)) regs memory) (text_frame lines x regs memory)) back (keeps.at (a + base) regs memory holds));
    }

each_row : (base : ℕ) (lines : List SymLine) (memory : List MemRun) (regs : Regs) (a : ℕ) (step : WalkStep) (entries : List FdeFields) → frame_said step.frame ≡ text_frame lines a regs memory → AllByRecursion (KeepsRows base lines) entries → AllByRecursion (HasRow (a + base) regs memory step) entries
each_row base lines memory regs a step [] is keep = tt
each_row base lines memory regs a step (e ∷ entries) is keep = (one_row base lines memory regs a step e is keep.0, each_row base lines memory regs a step entries is keep.1)

row_step : (base : ℕ) (entries : List FdeFields) (lines : List SymLine) (memory : List MemRun) (regs : Regs) (a : ℕ) (step : WalkStep) → step.frame ≡ ok_or (text_frame lines a regs memory) NoRules → KeepsFrames base entries lines → IsRowStep (a + base) entries regs memory step
row_step base entries lines memory regs a step is keeps = record {
  rows = each_row base lines memory regs a step entries (ap frame_said is ∙ said (text_frame lines a regs memory)) keeps.rows;
  nothing_else = λ none. is ∙ ap (λ (frame : Option Frame). ok_or frame NoRules) (keeps.nothing_else a regs memory none);
}

at_is : (process : Process) (here : Place) → (step_at process here).at ≡ here.at
unfolding step_known
at_is process here = refl

one_step : (base : ℕ) (entries : List FdeFields) (lines : List SymLine) (memory : List MemRun) (here : Place) → KeepsFrames base entries lines → IsRowStep ((step_at (process_of lines memory) here).at + base) entries here.regs memory (step_at (process_of lines memory) here)
one_step base entries lines memory here keeps =
    subst (λ a. IsRowStep (a + base) entries here.regs memory (step_at (process_of lines memory) here)) (sym (at_is (process_of lines memory) here))
    (row_step base entries lines memory here.regs here.at (step_at (process_of lines memory) here) (frame_of_text lines memory here) keeps)

-- The registers of a step that follows another.
handed_by : (signal : Bool) (cfa ra : Result ℕ WalkEnd) (regs : Regs) (place : Place) → (cfa >>= λ c. ra >>= λ r. Ok (record { rip = r; at = cond signal r (r - 1); regs = regs; before = Some c })) ≡ Ok place → regs ≡ place.regs
handed_by signal (Err end) ra regs place is = absurd (cc)
handed_by signal (Ok c) (Err end) regs place is = absurd (cc)
handed_by signal (Ok c) (Ok r) regs place is =
    let same : record { rip = r; at = cond signal r (r - 1); regs = regs; before = Some c } ≡ place = cc in
    ap (λ (p : Place). p.regs) same

handed_on : (before : Option ℕ) (step : WalkStep) (frame : Result Frame WalkEnd) (place : Place) → step.frame ≡ frame → place_after before step ≡ Ok place → regs_behind step.frame ≡ place.regs
handed_on before step (Err end) place same is = absurd (cc)
handed_on before step (Ok frame) place same is =
    let now : (cfa_of (floor_of step.signal before) frame.cfa >>= λ c. return_address step.signal frame.ra >>= λ r. Ok (record { rip = r; at = cond step.signal r (r - 1); regs = caller_regs frame; before = Some c })) ≡ Ok place = cc in
    ap regs_behind same ∙ handed_by step.signal (cfa_of (floor_of step.signal before) frame.cfa) (return_address step.signal frame.ra) (caller_regs frame) place now

steps_more : (base : ℕ) (entries : List FdeFields) (memory : List MemRun) (regs : Regs) (before : Option ℕ) (step : WalkStep) (next : Result Place WalkEnd) (go : Place → Walk) → IsRowStep (step.at + base) entries regs memory step → place_after before step ≡ next
    → ((place : Place) → AreRowSteps base entries memory place.regs (go place).steps) → AreRowSteps base entries memory regs (going_on step next go).steps
steps_more base entries memory regs before step (Err end) go one is later = (one, tt)
steps_more base entries memory regs before step (Ok place) go one is later = (one, subst (λ rs. AreRowSteps base entries memory rs (go place).steps) (sym (handed_on before step step.frame place refl is)) (later place))

steps_from : (base : ℕ) (entries : List FdeFields) (lines : List SymLine) (memory : List MemRun) (most : ℕ) (here : Place) → KeepsFrames base entries lines → AreRowSteps base entries memory here.regs (walk_from (process_of lines memory) most here).steps
unfolding walk_from
steps_from base entries lines memory zero here keeps = tt
steps_from base entries lines memory (suc more) here keeps =
    steps_more base entries memory here.regs here.before (step_at (process_of lines memory) here) (place_after here.before (step_at (process_of lines memory) here)) (walk_from (process_of lines memory) more) (one_step base entries lines memory here keeps) refl
    (λ place. steps_from base entries lines memory more place keeps)

by_rip : (base : ℕ) (entries : List FdeFields) (lines : List SymLine) (memory : List MemRun) (regs : Regs) (rip : Option ℕ) (walk : Walk) → KeepsFrames base entries lines → option_map (λ r. walk_from (process_of lines memory) 1024 (first_place regs r)) rip ≡ Some walk → AreRowSteps base entries memory regs walk.steps
by_rip base entries lines memory regs None walk keeps is = absurd (cc)
by_rip base entries lines memory regs (Some r) walk keeps is =
    let same : walk_from (process_of lines memory) 1024 (first_place regs r) ≡ walk = cc in
    subst (λ (w : Walk). AreRowSteps base entries memory regs w.steps) same (steps_from base entries lines memory 1024 (first_place regs r) keeps)

pub walks_by_rows : (full : Bool) (parts : ImageParts) (name : List ℕ) (lines : List SymLine) (text : List ℕ) (dumped : DumpsParts full parts name lines text) (state : State) (walk : Walk) → walk_of lines state ≡ Some walk → AreRowSteps parts.base (written_of parts dumped.found) state.memory state.regs walk.steps
unfolding walk_of
walks_by_rows full parts name lines text dumped state walk is = by_rip parts.base (written_of parts dumped.found) lines state.memory state.regs state.regs.rip walk dumped.means is

-- A process of many modules.

-- The frame by the rules in a module's records.
frame_in : (base : ℕ) (lines : List SymLine) (a : ℕ) (regs : Regs) (memory : List MemRun) → base ≤ a → frame_by regs memory (ok_or (rules_in (record { base = base; lines = lines }) a) NoRules) ≡ ok_or (text_frame lines (a - base) regs memory) NoRules
unfolding text_frame
frame_in base lines a regs memory low =
    let yes : nat_le base a ≡ true = grind (arith, nat_tests) in
    ap (λ b. frame_by regs memory (ok_or (cond b (text_rules lines (a - base)) None) NoRules)) yes ∙ go (text_rules lines (a - base))
  where
    go : (rules : Option (List RuleText)) → frame_by regs memory (ok_or rules NoRules) ≡ ok_or (option_map (frame_of regs memory) rules) NoRules
    go None = refl
    go (Some rules) = refl

rules_by : (signals : Bool) (known : Known) (rip at base : ℕ) (lines : List SymLine) → known.records ≡ Ok (record { base = base; lines = lines }) → is_nowhere known rip at ≡ false → rules_at signals known rip at ≡ ok_or (rules_in (record { base = base; lines = lines }) at) NoRules
rules_by false known rip at base lines is some = ap (λ r. r >>= λ records. ok_or (rules_in records at) NoRules) is
rules_by true known rip at base lines is some = ap (λ b. cond b (Ok nowhere_rules) (known.records >>= λ records. ok_or (rules_in records at) NoRules)) some ∙ ap (λ r. r >>= λ records. ok_or (rules_in records at) NoRules) is

pub steps_by_rows : (full : Bool) (parts : ImageParts) (name : List ℕ) (lines : List SymLine) (text : List ℕ) (dumped : DumpsParts full parts name lines text) (process : Process) (regs : Regs) (step : WalkStep) (base : ℕ) → (process.known_at step.at).records ≡ Ok (record { base = base; lines = lines }) → base ≤ step.at
    → is_nowhere (process.known_at step.at) step.rip step.at ≡ false → IsLookedUp process regs step → IsRowStep ((step.at - base) + parts.base) (written_of parts dumped.found) regs process.memory step
steps_by_rows full parts name lines text dumped process regs step base is low some found =
    row_step parts.base (written_of parts dumped.found) lines process.memory regs (step.at - base) step
    (found.frame ∙ ap (frame_by regs process.memory) (rules_by process.signals (process.known_at step.at) step.rip step.at base lines is some) ∙ frame_in base lines step.at regs process.memory low) dumped.means
