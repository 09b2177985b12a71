-- What holds of every step: the location never falls, and an instruction that moves the location
-- does not change the row. The lemmas are for `run_to_next_row`.
use Rattle.std.proofs.Common.{◌≡◌, ℕ, ◌+◌, ◌^◌, ◌<◌, ◌≤◌, ◌&&◌, Bool, true, false, None, is_some, nat_lt, nat_le, Ok, Err, refl, arith}
use Rattle.std.proofs.lemmas.Bool.{and_parts, leb-true}
use Rattle.sym_edges.specs.declared.reason.Reason.{Reason}
use Rattle.sym_edges.specs.declared.reason.Reason.TheVariants as reason
use Rattle.frame_rows.specs.declared.instruction.Instruction.{Instruction}
use Rattle.frame_rows.specs.Context.{Context}
use Rattle.frame_rows.specs.Instructions.{Item}
use Rattle.frame_rows.specs.Machine.{Machine}
use Rattle.sym_edges.specs.Results.{unless}
use Rattle.frame_rows.specs.Steps.{Effect, MovesTo, MovesBy, DefinesCfa, DefinesCfaExpr, ChangesRegister, ChangesOffset, PutsRule, Remembers, TakesBack, DoesNothing, effect, done, effect_fault, stepped, step_fault, move_fault}
use Rattle.frame_rows.specs.Rows.{item_stepped, item_fault, location_after, next_location}

pub unless_none : (well : Bool) (why : Reason) → unless well why ≡ None → well ≡ true
unless_none true why is = refl
unless_none false why is = cc

rises : (s : Context) (before after : ℕ) → move_fault s before after ≡ None → before ≤ after
rises s before after good = leb-true before after (and_parts _ _ (and_parts (is_some s.initial) _ (unless_none (is_some s.initial && (nat_le before after && nat_lt after (2 ^ 64))) reason.Range good)).1).0

effect_location : (e : Effect) (m : Machine) → (done e m).address ≡ location_after e m.address
effect_location (MovesTo address) m = refl
effect_location (MovesBy distance) m = refl
effect_location (DefinesCfa register offset) m = refl
effect_location (DefinesCfaExpr place why) m = refl
effect_location (ChangesRegister register) m = refl
effect_location (ChangesOffset offset) m = refl
effect_location (PutsRule column new why) m = refl
effect_location Remembers m = refl
effect_location TakesBack m = refl
effect_location DoesNothing m = refl

effect_grows : (s : Context) (e : Effect) (m : Machine) → effect_fault s e m ≡ None → m.address ≤ (done e m).address
effect_grows s (MovesTo address) m good = rises s m.address address good
effect_grows s (MovesBy distance) m good = rises s m.address (m.address + distance) good
effect_grows s (DefinesCfa register offset) m good = omega arith
effect_grows s (DefinesCfaExpr place why) m good = omega arith
effect_grows s (ChangesRegister register) m good = omega arith
effect_grows s (ChangesOffset offset) m good = omega arith
effect_grows s (PutsRule column new why) m good = omega arith
effect_grows s Remembers m good = omega arith
effect_grows s TakesBack m good = omega arith
effect_grows s DoesNothing m good = omega arith

effect_keeps : (e : Effect) (m : Machine) → m.address < (done e m).address → (done e m).row ≡ m.row
effect_keeps (MovesTo address) m moves = refl
effect_keeps (MovesBy distance) m moves = refl
effect_keeps (DefinesCfa register offset) m moves = absurd (omega arith)
effect_keeps (DefinesCfaExpr place why) m moves = absurd (omega arith)
effect_keeps (ChangesRegister register) m moves = absurd (omega arith)
effect_keeps (ChangesOffset offset) m moves = absurd (omega arith)
effect_keeps (PutsRule column new why) m moves = absurd (omega arith)
effect_keeps Remembers m moves = refl
effect_keeps TakesBack m moves = absurd (omega arith)
effect_keeps DoesNothing m moves = refl

-- The location after an instruction.
step_location : (s : Context) (i : Instruction) (m : Machine) → (stepped s i m).address ≡ next_location s (Ok i) m.address
unfolding stepped
step_location s i m = effect_location (effect s i) m

pub step_grows : (s : Context) (i : Instruction) (m : Machine) → step_fault s i m ≡ None → m.address ≤ (stepped s i m).address
unfolding stepped step_fault
step_grows s i m good = effect_grows s (effect s i) m good

pub step_keeps : (s : Context) (i : Instruction) (m : Machine) → m.address < (stepped s i m).address → (stepped s i m).row ≡ m.row
unfolding stepped
step_keeps s i m moves = effect_keeps (effect s i) m moves

-- The location after an item, which may be an instruction that cannot be read.
pub location : (s : Context) (i : Item) (m : Machine) → (item_stepped s i m).address ≡ next_location s i m.address
location s (Ok i) m = step_location s i m
location s (Err why) m = refl

pub grows : (s : Context) (i : Item) (m : Machine) → item_fault s i m ≡ None → m.address ≤ (item_stepped s i m).address
grows s (Ok i) m good = step_grows s i m good
grows s (Err why) m good = cc

pub keeps : (s : Context) (i : Item) (m : Machine) → m.address < (item_stepped s i m).address → (item_stepped s i m).row ≡ m.row
keeps s (Ok i) m moves = step_keeps s i m moves
keeps s (Err why) m moves = refl
