-- Worked examples: the address of each step and the one that is looked up, and why the walk ends.
use Rattle.std.proofs.Common.{◌≡◌, ℕ, List, [], ◌∷◌, ◌++◌, ◌&&◌, nat_le, nat_lt, cond, Bool, true, false, codes, length, map, slice_index, Option, Some, None, Result, Ok, Err, refl}
use Prim.Native.String.{String}
use Rattle.std.specs.Option.{option_map}
use Rattle.sym_records.specs.Reading.{reading}
use Rattle.sym_records.specs.declared.line.SymLine.{SymLine}
use Rattle.cfi_eval.specs.declared.outcome.Cause.TheVariants.{Missing, Unreadable, Divide}
use Rattle.state_file.specs.StateText.{no_state, state_of}
use Rattle.state_file.specs.declared.state.State.{State}
use Rattle.stack_walk.specs.declared.steps.Walk.{Walk}
use Rattle.stack_walk.specs.declared.steps.WalkStep.{WalkStep}
use Rattle.stack_walk.specs.declared.steps.WalkEnd.{WalkEnd}
use Rattle.stack_walk.specs.declared.steps.WalkEnd.TheVariants.{NoModule, NoSymbols, NoRules, CfaUndefined, CfaFailed, CfaLow, RaUndefined, RaFailed, RaZero, Limit}
use Rattle.stack_walk.specs.Walk.{Process, walk_from, first_place, walk_upto}
use Rattle.stack_walk.proofs.Computing.{stack_walk_computes}

-- The records of a text after its MODULE, and the state of a state file.
abbrev records_in : {F : Type 0} → Result (List SymLine) F → List SymLine
records_in (Ok records) = records
records_in (Err fault) = []

abbrev state_in : {F : Type 0} → Result State F → State
state_in (Ok state) = state
state_in (Err fault) = no_state

abbrev spots : Walk → List (ℕ × ℕ) × WalkEnd
spots walk = (map {B = ℕ × ℕ} (λ (s : WalkStep). (s.rip, s.at)) walk.steps, walk.end)

unfoldable upto : ℕ → String → String → Option (List (ℕ × ℕ) × WalkEnd)
upto most text state = option_map spots (walk_upto most (records_in (reading (codes "MODULE a b c d\n" ++ codes text))) (state_in (state_of (codes state))))

unfoldable over : String → String → Option (List (ℕ × ℕ) × WalkEnd)
unfolding upto
over text state = upto 1024 text state

-- `f` returns to `g`, which has no rule for its return address. The code of the third INIT calls
-- nothing.
abbrev two_calls : String
two_calls = "FUNC 1000 20 0 f\nFUNC 2000 10 0 g\nSTACK CFI INIT 1000 20 .cfa: $rsp 8 + .ra: .cfa -8 + ^\nSTACK CFI INIT 2000 10 .cfa: $rsp 8 +\nSTACK CFI INIT 3000 10 .cfa: $rsp .ra: .cfa -8 + ^\n"

a_caller : over two_calls "REG rip 1005\nREG rsp 7000\nMEM 7000 0520000000000000\n" ≡ Some ((0x1005, 0x1005) ∷ (0x2005, 0x2004) ∷ [], RaUndefined)
unfolding over stack_walk_computes
a_caller = refl

-- A CFA that is equal to the one before.
a_loop : over two_calls "REG rip 1005\nREG rsp 7000\nMEM 7000 0530000000000000\n" ≡ Some ((0x1005, 0x1005) ∷ (0x3005, 0x3004) ∷ [], CfaLow 0x7008 0x7008)
unfolding over stack_walk_computes
a_loop = refl

no_memory : over two_calls "REG rip 1005\nREG rsp 7000\n" ≡ Some ((0x1005, 0x1005) ∷ [], RaFailed (Unreadable 0x7000))
unfolding over stack_walk_computes
no_memory = refl

no_rip : over two_calls "REG rsp 7000\n" ≡ None
unfolding over stack_walk_computes
no_rip = refl

-- An address in no function has no rules.
nowhere : over two_calls "REG rip 4000\nREG rsp 7000\n" ≡ Some ((0x4000, 0x4000) ∷ [], NoRules)
unfolding over stack_walk_computes
nowhere = refl

-- A return address in no function has no rules.
to_nowhere : over two_calls "REG rip 1005\nREG rsp 7000\nMEM 7000 0540000000000000\n" ≡ Some ((0x1005, 0x1005) ∷ (0x4005, 0x4004) ∷ [], NoRules)
unfolding over stack_walk_computes
to_nowhere = refl

-- A return address at the end of a range is looked up inside of it.
returns_to_the_end : over two_calls "REG rip 1005\nREG rsp 7000\nMEM 7000 2010000000000000\n" ≡ Some ((0x1005, 0x1005) ∷ (0x1020, 0x101f) ∷ [], RaFailed (Unreadable 0x7008))
unfolding over stack_walk_computes
returns_to_the_end = refl

-- The state's own rip at the end of a range is not inside of it.
begins_at_the_end : over two_calls "REG rip 1020\nREG rsp 7000\n" ≡ Some ((0x1020, 0x1020) ∷ [], NoRules)
unfolding over stack_walk_computes
begins_at_the_end = refl

-- The return address 0 ends the walk.
returns_to_zero : over two_calls "REG rip 1005\nREG rsp 7000\nMEM 7000 0000000000000000\n" ≡ Some ((0x1005, 0x1005) ∷ [], RaZero)
unfolding over stack_walk_computes
returns_to_zero = refl

-- Each other end.
no_cfa : over "STACK CFI INIT 1000 20 .ra: .cfa\n" "REG rip 1000\n" ≡ Some ((0x1000, 0x1000) ∷ [], CfaUndefined)
unfolding over stack_walk_computes
no_cfa = refl

a_failed_cfa : over "STACK CFI INIT 1000 20 .cfa: $rsp 8 + .ra: .cfa -8 + ^\n" "REG rip 1000\n" ≡ Some ((0x1000, 0x1000) ∷ [], CfaFailed (Missing 7))
unfolding over stack_walk_computes
a_failed_cfa = refl

a_failed_return_address : over "STACK CFI INIT 1000 20 .cfa: $rip .ra: .cfa 0 /\n" "REG rip 1000\n" ≡ Some ((0x1000, 0x1000) ∷ [], RaFailed Divide)
unfolding over stack_walk_computes
a_failed_return_address = refl

-- If both the CFA and the return address have a cause, that of the CFA counts. A CFA that is too
-- low comes before the return address.
the_cfa_first : over "STACK CFI INIT 1000 20 .cfa: $rsp 8 + .ra: .undef\n" "REG rip 1000\n" ≡ Some ((0x1000, 0x1000) ∷ [], CfaFailed (Missing 7))
unfolding over stack_walk_computes
the_cfa_first = refl

a_low_cfa_first : over "STACK CFI INIT 1000 20 .cfa: $rsp .ra: 8200\nSTACK CFI INIT 2000 20 .cfa: $rsp .ra: .undef\n" "REG rip 1000\nREG rsp 7000\n" ≡ Some ((0x1000, 0x1000) ∷ (0x2008, 0x2007) ∷ [], CfaLow 0x7000 0x7000)
unfolding over stack_walk_computes
a_low_cfa_first = refl

-- A CFA below the one before.
a_lower_cfa : over "STACK CFI INIT 1000 20 .cfa: $rsp 8 - .ra: 4104\n" "REG rip 1000\nREG rsp 7000\n" ≡ Some ((0x1000, 0x1000) ∷ (0x1008, 0x1007) ∷ [], CfaLow 0x6ff8 0x6ff0)
unfolding over stack_walk_computes
a_lower_cfa = refl

-- Outcomes that are values are passed on. Here rbp gets one from its rule, rbx because a call keeps
-- it, and rcx from a rule; rax has none.
abbrev handing_on : String
handing_on = "STACK CFI INIT 1000 20 .cfa: $rsp 16 + .ra: 8193 $rbp: .cfa -16 + ^ $rcx: 9\nSTACK CFI INIT 2000 1 .cfa: $rbp $rcx + .ra: $rbx\nSTACK CFI INIT 3000 1 .cfa: $rax .ra: $rbx\n"

handed_on : over handing_on "REG rip 1000\nREG rsp 7000\nREG rax 1001\nREG rbx 3001\nMEM 7000 1170000000000000\n" ≡ Some ((0x1000, 0x1000) ∷ (0x2001, 0x2000) ∷ (0x3001, 0x3000) ∷ [], CfaFailed (Missing 0))
unfolding over stack_walk_computes
handed_on = refl

-- A register whose rule failed has no value in the caller, not even the old one.
a_register_that_failed : over "STACK CFI INIT 1000 20 .cfa: $rsp 8 + .ra: 8193 $rbx: .cfa ^\nSTACK CFI INIT 2000 1 .cfa: $rbx .ra: .undef\n" "REG rip 1000\nREG rsp 7000\nREG rbx 8000\n" ≡ Some ((0x1000, 0x1000) ∷ (0x2001, 0x2000) ∷ [], CfaFailed (Missing 3))
unfolding over stack_walk_computes
a_register_that_failed = refl

-- Each step has its own rip: in a procedure linkage table the CFA depends on the address within the
-- entry.
abbrev linkage : String
linkage = "STACK CFI INIT 1020 20 .cfa: $rsp 8 + $rip 16 % 11 / 8 * + .ra: .cfa -8 + ^\n"

before_its_push : over linkage "REG rip 1036\nREG rsp 7000\nMEM 7000 00400000000000000050000000000000\n" ≡ Some ((0x1036, 0x1036) ∷ (0x4000, 0x3fff) ∷ [], NoRules)
unfolding over stack_walk_computes
before_its_push = refl

behind_its_push : over linkage "REG rip 103b\nREG rsp 7000\nMEM 7000 00400000000000000050000000000000\n" ≡ Some ((0x103b, 0x103b) ∷ (0x5000, 0x4fff) ∷ [], NoRules)
unfolding over stack_walk_computes
behind_its_push = refl

a_callers_rip : over "STACK CFI INIT 1000 20 .cfa: $rip .ra: 8193\nSTACK CFI INIT 2000 1 .cfa: $rip .ra: .undef\n" "REG rip 1000\n" ≡ Some ((0x1000, 0x1000) ∷ (0x2001, 0x2000) ∷ [], RaUndefined)
unfolding over stack_walk_computes
a_callers_rip = refl

-- At the last step that is allowed, another cause counts before the limit.
abbrev downwards : String
downwards = "STACK CFI INIT 0 2000 .cfa: $rsp 8 + .ra: $rip 1 -\n"

three_steps : upto 3 downwards "REG rip 4\nREG rsp 7000\n" ≡ Some ((4, 4) ∷ (3, 2) ∷ (2, 1) ∷ [], Limit)
unfolding upto stack_walk_computes
three_steps = refl

three_steps_and_none_left : upto 3 downwards "REG rip 3\nREG rsp 7000\n" ≡ Some ((3, 3) ∷ (2, 1) ∷ (1, 0) ∷ [], RaZero)
unfolding upto stack_walk_computes
three_steps_and_none_left = refl

-- Of a walk of 1,024 steps: how many there are, the first and the last, and the end.
abbrev counted : Option (List (ℕ × ℕ) × WalkEnd) → Option (ℕ × ℕ × ℕ × WalkEnd)
counted None = None
counted (Some found) = Some (length found.0, slice_index (map {B = ℕ} (λ (s : ℕ × ℕ). s.0) found.0) 0, slice_index (map {B = ℕ} (λ (s : ℕ × ℕ). s.0) found.0) 1023, found.1)

the_limit : counted (over downwards "REG rip 401\nREG rsp 7000\n") ≡ Some (1024, 0x401, 2, Limit)
unfolding over stack_walk_computes
the_limit = refl

as_many_as_may_be : counted (over downwards "REG rip 400\nREG rsp 7000\n") ≡ Some (1024, 0x400, 1, RaZero)
unfolding over stack_walk_computes
as_many_as_may_be = refl

-- A process of two modules. The first is at 10000 and has these records, the second is at 20000 and
-- has none. The first is code up to 14000.
unfoldable process_with : String → String → Process
process_with text state = record {
  memory = (state_in (state_of (codes state))).memory;
  known_at = λ a. record {
    records =
        cond (nat_le 0x10000 a && nat_lt a 0x18000) (Ok (record { base = 0x10000; lines = records_in (reading (codes "MODULE a b c d\n" ++ codes text)) }))
        (cond (nat_le 0x20000 a && nat_lt a 0x28000) (Err NoSymbols) (Err NoModule));
    is_code = nat_le 0x10000 a && nat_lt a 0x14000;
  };
  signals = true;
}

-- The addresses of the steps, and which steps are frames of signals.
abbrev kinds : Walk → List (ℕ × ℕ × Bool) × WalkEnd
kinds walk = (map {B = ℕ × ℕ × Bool} (λ (s : WalkStep). (s.rip, s.at, s.signal)) walk.steps, walk.end)

unfoldable through : String → String → ℕ → List (ℕ × ℕ × Bool) × WalkEnd
unfolding process_with
through text state rip = kinds (walk_from (process_with text state) 1024 (first_place (state_in (state_of (codes state))).regs rip))

-- The addresses of the records count from the module's base.
at_a_base : through two_calls "REG rsp 7000\nMEM 7000 0520010000000000\n" 0x11005 ≡ ((0x11005, 0x11005, false) ∷ (0x12005, 0x12004, false) ∷ [], RaUndefined)
unfolding through stack_walk_computes
at_a_base = refl

-- An address in no module, and one in a module without records.
to_no_module : through two_calls "REG rsp 7000\nMEM 7000 0500030000000000\n" 0x11005 ≡ ((0x11005, 0x11005, false) ∷ (0x30005, 0x30004, false) ∷ [], NoModule)
unfolding through stack_walk_computes
to_no_module = refl

to_no_symbols : through two_calls "REG rsp 7000\nMEM 7000 0500020000000000\n" 0x11005 ≡ ((0x11005, 0x11005, false) ∷ (0x20005, 0x20004, false) ∷ [], NoSymbols)
unfolding through stack_walk_computes
to_no_symbols = refl

-- A call to nowhere: to address 0, and to an address in a module that is not code.
through_null : through two_calls "REG rsp 7000\nMEM 7000 05100100000000000520010000000000\n" 0 ≡ ((0, 0, false) ∷ (0x11005, 0x11004, false) ∷ (0x12005, 0x12004, false) ∷ [], RaUndefined)
unfolding through stack_walk_computes
through_null = refl

into_data : through two_calls "REG rsp 7000\nMEM 7000 05100100000000000520010000000000\n" 0x15000 ≡ ((0x15000, 0x15000, false) ∷ (0x11005, 0x11004, false) ∷ (0x12005, 0x12004, false) ∷ [], RaUndefined)
unfolding through stack_walk_computes
into_data = refl

-- A return address that is not code is not such a call.
returns_to_data : through two_calls "REG rsp 7000\nMEM 7000 0550010000000000\n" 0x11005 ≡ ((0x11005, 0x11005, false) ∷ (0x15005, 0x15004, false) ∷ [], NoRules)
unfolding through stack_walk_computes
returns_to_data = refl

-- A handler at 1000 returns to 3000, whose rules are those of a signal's frame. The signal came at
-- 2000, where the CFA is lower.
abbrev with_signal : String
with_signal = "STACK CFI INIT 1000 20 .cfa: $rsp 8 + .ra: .cfa -8 + ^\nSTACK CFI INIT 2000 10 .cfa: $rsp 8 +\nSTACK CFI INIT 2fff 10 .cfa: $rsp 16 + ^ .ra: $rsp 8 + ^\n"

a_signal : through with_signal "REG rsp 7000\nMEM 7000 0030010000000000333300000000000000200100000000000060000000000000\n" 0x11005 ≡ ((0x11005, 0x11005, false) ∷ (0x13000, 0x12fff, true) ∷ (0x12000, 0x12000, false) ∷ [], RaUndefined)
unfolding through stack_walk_computes
a_signal = refl
