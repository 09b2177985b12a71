-- A walk down a stack, given the records of symbol files (Breakpad's symbol_files.md, "STACK CFI"): from a first place through the callers, with one
-- step for each. A step has the rules and the names of one address.
use Rattle.std.specs.Prelude.{ℕ, zero, suc, ◌-◌, ◌==◌, ◌&&◌, Bool, true, false, not, pos, negsuc, nat_lt, if◌then◌else◌, List, [], ◌∷◌, map, Option, None, Some, ok_or, Result, Ok, Err}
use Rattle.std.specs.List.{list_any}
use Rattle.std.specs.Option.{option_map}
use Rattle.sym_edges.specs.Results.{◌>>=◌}
use Rattle.sym_edges.specs.Outside.{MatchStop}
use Rattle.sym_edges.specs.declared.fault.Stop.{Stop}
use Rattle.sym_records.specs.declared.line.SymLine.{SymLine}
use Rattle.sym_rules.specs.declared.rules.RuleText.{RuleText}
use Rattle.sym_rules.specs.declared.rules.Target.TheVariants as target
use Rattle.sym_rules.specs.declared.rules.Token.{Token}
use Rattle.sym_rules.specs.declared.rules.Token.TheVariants as token
use Rattle.cfi_eval.specs.declared.registers.Regs.{Regs}
use Rattle.cfi_eval.specs.declared.memory.MemRun.{MemRun}
use Rattle.cfi_eval.specs.declared.outcome.Outcome.{Outcome}
use Rattle.cfi_eval.specs.declared.outcome.Outcome.TheVariants.{Value, Undefined, Failed}
use Rattle.cfi_eval.specs.declared.outcome.Frame.{Frame}
use Rattle.cfi_eval.specs.TextRules.{rule_for}
use Rattle.cfi_eval.specs.TextValue.{frame_of}
use Rattle.state_file.specs.declared.state.State.{State}
use Rattle.sym_lookup.specs.declared.answers.Answer.{Answer}
use Rattle.sym_lookup.specs.declared.answers.Answer.TheVariants.{Nothing}
use Rattle.stack_walk.specs.Records.{ModuleRecords, rules_in, answer_in}
use Rattle.stack_walk.specs.declared.callers.Place.{Place}
use Rattle.stack_walk.specs.declared.known.Known.{Known}
use Rattle.stack_walk.specs.declared.steps.WalkStep.{WalkStep}
use Rattle.stack_walk.specs.declared.steps.WalkEnd.{WalkEnd}
use Rattle.stack_walk.specs.declared.steps.WalkEnd.TheVariants.{NoRules, CfaUndefined, CfaFailed, CfaLow, RaUndefined, RaFailed, RaZero, Limit}
use Rattle.stack_walk.specs.declared.steps.Walk.{Walk}

-- the process that a walk goes through: its memory, which does not change, and for each address the
-- records of its module (or why there are none) and whether the address is code. `signals` says
-- whether frames of signals and calls to nowhere are recognized
pub record Process : Type 0 where
  pub memory : List MemRun
  pub known_at : ℕ → Known
  pub signals : Bool

-- the rules after a call to an address that is not code: the call put its return address on top of the stack, `.cfa: $rsp 8 + .ra: .cfa -8 + ^`
abbrev pub nowhere_rules : List RuleText
nowhere_rules =
    record { target = target.Cfa; tokens = token.Reg 7 ∷ token.Number (pos 8) ∷ token.Add ∷ [] }
    ∷ record { target = target.Ra; tokens = token.Cfa ∷ token.Number (negsuc 7) ∷ token.Add ∷ token.Fetch ∷ [] } ∷ []

-- a call led nowhere if the step looks up rip itself, and rip is not code
abbrev pub is_nowhere : Known → ℕ → ℕ → Bool
is_nowhere known rip at = at == rip && not known.is_code

-- the rules of a step that looks up the address `at`, given what is known of it; or why the walk ends there
abbrev pub rules_at : Bool → Known → ℕ → ℕ → Result (List RuleText) WalkEnd
rules_at signals known rip at =
    if signals && is_nowhere known rip at then Ok nowhere_rules
    else known.records >>= λ records. ok_or (rules_in records at) NoRules

-- the rules are those of a signal's frame: the rule of the return address uses rsp and not the CFA.
-- The system put that address at a place that depends on rsp alone
abbrev pub is_rsp : Token → Bool
is_rsp (token.Reg register) = register == 7
is_rsp _ = false

abbrev pub is_cfa : Token → Bool
is_cfa token.Cfa = true
is_cfa _ = false

abbrev pub rests_on_rsp : Option (List Token) → Bool
rests_on_rsp None = false
rests_on_rsp (Some tokens) = list_any is_rsp tokens && not (list_any is_cfa tokens)

unfoldable pub is_signal : List RuleText → Bool
is_signal rules = rests_on_rsp (rule_for target.Ra rules)

abbrev pub signal_by : Bool → Result (List RuleText) WalkEnd → Bool
signal_by signals (Err end) = false
signal_by signals (Ok rules) = signals && is_signal rules

-- what the rules evaluate to, or why there are none
abbrev pub frame_by : Regs → List MemRun → Result (List RuleText) WalkEnd → Result Frame WalkEnd
frame_by regs memory (Err end) = Err end
frame_by regs memory (Ok rules) = Ok (frame_of regs memory rules)

-- what names an address, if there are records
abbrev pub answer_by : Result ModuleRecords WalkEnd → ℕ → Answer
answer_by (Err end) a = Nothing
answer_by (Ok records) a = answer_in records a

-- the step at a place with these rules; a signal's frame has the names of rip itself
abbrev pub step_by : Known → List MemRun → Place → Bool → Result (List RuleText) WalkEnd → WalkStep
step_by known memory here signal rules = record {
  rip = here.rip;
  at = here.at;
  signal = signal;
  frame = frame_by here.regs memory rules;
  answer = answer_by known.records (if signal then here.rip else here.at);
}

-- the step at a place, given what is known of the address that is looked up
unfoldable pub step_known : Bool → Known → List MemRun → Place → WalkStep
step_known signals known memory here =
    let rules = rules_at signals known here.rip here.at in
    step_by known memory here (signal_by signals rules) rules

abbrev pub step_at : Process → Place → WalkStep
step_at process here = step_known process.signals (process.known_at here.at) process.memory here

-- the caller's registers: the outcomes that are values; the caller's rip is the return address
abbrev pub value_of : Outcome → Option ℕ
value_of (Value v) = Some v
value_of Undefined = None
value_of (Failed why) = None

abbrev pub caller_regs : Frame → Regs
caller_regs frame = record { values = map value_of frame.regs; rip = value_of frame.ra }

-- the CFA must have a value above the CFA of the step before, or the walk ends; a signal's frame need not be above, since it may lie on another stack
abbrev pub cfa_from : Option ℕ → ℕ → Result ℕ WalkEnd
cfa_from None cfa = Ok cfa
cfa_from (Some before) cfa = if nat_lt before cfa then Ok cfa else Err (CfaLow before cfa)

abbrev pub cfa_of : Option ℕ → Outcome → Result ℕ WalkEnd
cfa_of before Undefined = Err CfaUndefined
cfa_of before (Failed why) = Err (CfaFailed why)
cfa_of before (Value cfa) = cfa_from before cfa

abbrev pub floor_of : Bool → Option ℕ → Option ℕ
floor_of signal before = if signal then None else before

-- the return address must have a value other than 0, or the walk ends; in a signal's frame it may be 0
abbrev pub return_address : Bool → Outcome → Result ℕ WalkEnd
return_address signal Undefined = Err RaUndefined
return_address signal (Failed why) = Err (RaFailed why)
return_address signal (Value ra) = if not signal && ra == 0 then Err RaZero else Ok ra

-- the place of the caller, which is at the return address. The address one below is looked up,
-- since that is in the call; after a signal's frame the return address itself is looked up
abbrev pub caller_of : Bool → Option ℕ → Frame → Result Place WalkEnd
caller_of signal before frame = do
  cfa ← cfa_of (floor_of signal before) frame.cfa
  ra ← return_address signal frame.ra
  Ok (record { rip = ra; at = if signal then ra else ra - 1; regs = caller_regs frame; before = Some cfa })

-- the place after a step, or the first cause that ends the walk at this step
abbrev pub place_after : Option ℕ → WalkStep → Result Place WalkEnd
place_after before step = step.frame >>= caller_of step.signal before

abbrev pub going_on : WalkStep → Result Place WalkEnd → (Place → Walk) → Walk
going_on step (Err end) go = record { steps = step ∷ []; end = end }
going_on step (Ok next) go = record { steps = step ∷ (go next).steps; end = (go next).end }

-- at most this many steps from a place on; if one more would follow, the walk ends with `Limit`
unfoldable pub walk_from : Process → ℕ → Place → Walk
walk_from process zero here = record { steps = []; end = Limit }
walk_from process (suc more) here = let step = step_at process here in going_on step (place_after here.before step) (walk_from process more)

-- the first place: its address itself is looked up, and no step is before it
abbrev pub first_place : Regs → ℕ → Place
first_place regs rip = record { rip = rip; at = rip; regs = regs; before = None }

-- a process that is one module at base 0 with every address; frames of signals and calls to nowhere
-- are not recognized
abbrev pub process_of : List SymLine → List MemRun → Process
process_of lines memory = record { memory = memory; known_at = λ a. record { records = Ok (record { base = 0; lines = lines }); is_code = true }; signals = false }

-- the walk from a state, given the records of one symbol file, of at most `most` steps; a state without rip has no walk
abbrev pub walk_upto : ℕ → List SymLine → State → Option Walk
walk_upto most lines state = option_map (λ rip. walk_from (process_of lines state.memory) most (first_place state.regs rip)) state.regs.rip

abbrev pub MOST_STEPS : ℕ
MOST_STEPS = 1024

unfoldable pub walk_of : List SymLine → State → Option Walk
walk_of lines state = walk_upto MOST_STEPS lines state

-- a call ends with a fault of its own: neither with a result nor for lack of memory
abbrev pub IsFault : {A F : Type 0} → Result A (Stop F) → Type 0
IsFault result = MatchStop result (λ _. ⊥) (λ _. Unit {0}) ⊥
