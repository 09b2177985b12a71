-- The steps ahead are given by the next operations; for `StepReader::new` and `next`, `read_behind`
-- and `read_behind_constant`.
use Rattle.std.proofs.Common.{◌≡◌, ◌≤◌, ◌<◌, ◌≢◌, ◌-◌, ◌^◌, ℕ, zero, suc, Bool, true, false, cond, List, [], ◌∷◌, length, take, drop, Option, None, Some, Ok, Err, refl, sym, ap, ◌∙◌, arith}
use Rattle.std.specs.Option.{option_and_then}
use Rattle.std.proofs.Math.Seq.{take-length}
use Rattle.std.proofs.lemmas.Bool.{le-leb, lt-leb, eq-eqb, ne_eqb}
use Rattle.sym_edges.specs.declared.reason.Reason.{Reason}
use Rattle.leb_cursor.specs.Ahead.{Ahead}
use Rattle.expr_steps.specs.declared.operation.Operation.{Operation}
use Rattle.expr_steps.specs.declared.operation.Operation.TheVariants.{Constant, Breg, Deref, And, Minus, Mul, Plus, PlusUconst, Shl, Ge}
use Rattle.expr_steps.specs.declared.step.Step.{Step}
use Rattle.expr_steps.specs.declared.step.Step.TheVariants as step
use Rattle.expr_steps.specs.Operations.{next_operation, operations_at, operations}
use Rattle.expr_steps.specs.Steps.{in_front, mask_size, with_and, step_alone, with_alone, steps_of, steps_at, steps}
use Rattle.expr_steps.specs.internal.Reading.{constant_of, IsPair, IsAlone, IsNoStep, steps_behind}
use Rattle.expr_steps.proofs.FollowLemmas.{front_of, operations_by}

-- The steps of a constant with `and`, `shl` or `ge`.
pub pair_and : (kept : Option ℕ) (value size : ℕ) → Some size ≡ mask_size 63 value → IsPair kept value And (step.Remainder size) (Some size)
unfolding steps_of
pair_and kept value size is = record { steps = λ later. ap (λ m. with_and m (steps_of later)) (sym is) }

pub no_mask : (kept : Option ℕ) (value : ℕ) → None ≡ mask_size 63 value → IsNoStep kept value And
unfolding steps_of
no_mask kept value is = record { steps = λ later. ap (λ m. with_and m (steps_of later)) (sym is) }

pub pair_shl : (kept : Option ℕ) (value : ℕ) → value ≤ 62 → IsPair kept value Shl (step.Product (2 ^ value)) None
unfolding steps_of
pair_shl kept value low = record { steps = λ later. ap (λ b. cond b (in_front (step.Product (2 ^ value)) (steps_of later None)) None) (le-leb value 62 low) }

pub far_shl : (kept : Option ℕ) (value : ℕ) → 62 < value → IsNoStep kept value Shl
unfolding steps_of
far_shl kept value high = record { steps = λ later. ap (λ b. cond b (in_front (step.Product (2 ^ value)) (steps_of later None)) None) (lt-leb value 62 high) }

pub pair_ge : (value size : ℕ) → value ≤ size → IsPair (Some size) value Ge (step.Reaches (size - value) size) None
unfolding steps_of
pair_ge value size low = record { steps = λ later. ap (λ b. cond b (in_front (step.Reaches (size - value) size) (steps_of later None)) None) (le-leb value size low) }

pub far_ge : (value size : ℕ) → size < value → IsNoStep (Some size) value Ge
unfolding steps_of
far_ge value size high = record { steps = λ later. ap (λ b. cond b (in_front (step.Reaches (size - value) size) (steps_of later None)) None) (lt-leb value size high) }

pub no_and : (value : ℕ) → IsNoStep None value Ge
unfolding steps_of
no_and value = record { steps = λ later. refl }

-- Whether an operation can be one step with a constant before it; before any other operation a
-- constant is a step alone.
abbrev pub pairs : Operation → Bool
pairs (Constant value) = false
pairs (Breg register offset) = false
pairs Deref = false
pairs And = true
pairs Minus = false
pairs Mul = false
pairs Plus = false
pairs (PlusUconst addend) = false
pairs Shl = true
pairs Ge = true

pub constant_alone : (kept : Option ℕ) (value : ℕ) (operation : Operation) → pairs operation ≡ false → IsAlone kept value operation
unfolding steps_of
constant_alone kept value (Constant other) off = record { steps = λ later. refl }
constant_alone kept value (Breg register offset) off = record { steps = λ later. refl }
constant_alone kept value Deref off = record { steps = λ later. refl }
constant_alone kept value And off = cc
constant_alone kept value Minus off = record { steps = λ later. refl }
constant_alone kept value Mul off = record { steps = λ later. refl }
constant_alone kept value Plus off = record { steps = λ later. refl }
constant_alone kept value (PlusUconst addend) off = record { steps = λ later. refl }
constant_alone kept value Shl off = cc
constant_alone kept value Ge off = cc

-- The lemmas about lists of operations, applied to the operations ahead.
behind_is : (operation : Operation) (kept : Option ℕ) (c : Ahead) (ahead : Option (List Operation)) → operations_at c ≡ ahead → steps_behind operation kept c ≡ option_and_then (λ ops. steps_of (operation ∷ ops) kept) ahead
unfolding steps_behind
behind_is operation kept c ahead is = ap (λ o. option_and_then (λ ops. steps_of (operation ∷ ops) kept) o) is

at_is : (kept : Option ℕ) (c : Ahead) (ahead : Option (List Operation)) → operations_at c ≡ ahead → steps_at kept c ≡ option_and_then (λ ops. steps_of ops kept) ahead
unfolding steps_at
at_is kept c ahead is = ap (λ o. option_and_then (λ ops. steps_of ops kept) o) is

paired_of : (kept : Option ℕ) (value : ℕ) (operation : Operation) (s : Step) (keeps : Option ℕ) (later : Option (List Operation)) → IsPair kept value operation s keeps
    → option_and_then (λ ops. steps_of (Constant value ∷ ops) kept) (front_of operation later) ≡ in_front s (option_and_then (λ ops. steps_of ops keeps) later)
paired_of kept value operation s keeps None pair = refl
paired_of kept value operation s keeps (Some later) pair = pair.steps later

pub paired : (kept : Option ℕ) (value : ℕ) (operation : Operation) (s : Step) (keeps : Option ℕ) (c d : Ahead) → Ok (Some operation, d) ≡ next_operation c → IsPair kept value operation s keeps
    → steps_behind (Constant value) kept c ≡ in_front s (steps_at keeps d)
paired kept value operation s keeps c d is pair =
    behind_is (Constant value) kept c (front_of operation (operations_at d)) (operations_by c (Ok (Some operation, d)) is)
    ∙ paired_of kept value operation s keeps (operations_at d) pair
    ∙ ap (in_front s) (sym (at_is keeps d (operations_at d) refl))

alone_of : (kept : Option ℕ) (value : ℕ) (operation : Operation) (later : Option (List Operation)) → IsAlone kept value operation
    → option_and_then (λ ops. steps_of (Constant value ∷ ops) kept) (front_of operation later) ≡ in_front (step.Constant value) (option_and_then (λ ops. steps_of ops None) (front_of operation later))
alone_of kept value operation None alone = refl
alone_of kept value operation (Some later) alone = alone.steps later

pub left_alone : (kept : Option ℕ) (value : ℕ) (operation : Operation) (c d : Ahead) → Ok (Some operation, d) ≡ next_operation c → IsAlone kept value operation
    → steps_behind (Constant value) kept c ≡ in_front (step.Constant value) (steps_at None c)
left_alone kept value operation c d is alone =
    let ahead : operations_at c ≡ front_of operation (operations_at d) = operations_by c (Ok (Some operation, d)) is in
    behind_is (Constant value) kept c (front_of operation (operations_at d)) ahead
    ∙ alone_of kept value operation (operations_at d) alone
    ∙ ap (in_front (step.Constant value)) (sym (at_is None c (front_of operation (operations_at d)) ahead))

no_step_of : (kept : Option ℕ) (value : ℕ) (operation : Operation) (later : Option (List Operation)) → IsNoStep kept value operation
    → option_and_then (λ ops. steps_of (Constant value ∷ ops) kept) (front_of operation later) ≡ None
no_step_of kept value operation None off = refl
no_step_of kept value operation (Some later) off = off.steps later

pub no_step : (kept : Option ℕ) (value : ℕ) (operation : Operation) (c d : Ahead) → Ok (Some operation, d) ≡ next_operation c → IsNoStep kept value operation → steps_behind (Constant value) kept c ≡ None
no_step kept value operation c d is off =
    behind_is (Constant value) kept c (front_of operation (operations_at d)) (operations_by c (Ok (Some operation, d)) is)
    ∙ no_step_of kept value operation (operations_at d) off

pub last_constant : (kept : Option ℕ) (value : ℕ) (c d : Ahead) → Ok (None, d) ≡ next_operation c → steps_behind (Constant value) kept c ≡ in_front (step.Constant value) (steps_at None c)
unfolding steps_of
last_constant kept value c d is =
    let ahead : operations_at c ≡ Some [] = operations_by c (Ok (None, d)) is in
    behind_is (Constant value) kept c (Some []) ahead ∙ ap (in_front (step.Constant value)) (sym (at_is None c (Some []) ahead))

pub unread_behind : (operation : Operation) (kept : Option ℕ) (c : Ahead) (why : Reason) → Err why ≡ next_operation c → steps_behind operation kept c ≡ None
unread_behind operation kept c why is = behind_is operation kept c None (operations_by c (Err why) is)

-- Steps that do not begin with a constant.
pub constant_is : (operation : Operation) (value : ℕ) → Some value ≡ constant_of operation → operation ≡ Constant value
constant_is (Constant other) value is = cc
constant_is (Breg register offset) value is = cc
constant_is Deref value is = cc
constant_is And value is = cc
constant_is Minus value is = cc
constant_is Mul value is = cc
constant_is Plus value is = cc
constant_is (PlusUconst addend) value is = cc
constant_is Shl value is = cc
constant_is Ge value is = cc

other_of : (operation : Operation) (kept : Option ℕ) (later : List Operation) → None ≡ constant_of operation → steps_of (operation ∷ later) kept ≡ with_alone (step_alone operation) (steps_of later None)
unfolding steps_of
other_of (Constant value) kept later off = cc
other_of (Breg register offset) kept later off = refl
other_of Deref kept later off = refl
other_of And kept later off = refl
other_of Minus kept later off = refl
other_of Mul kept later off = refl
other_of Plus kept later off = refl
other_of (PlusUconst addend) kept later off = refl
other_of Shl kept later off = refl
other_of Ge kept later off = refl

step_by : (operation : Operation) (kept : Option ℕ) (s : Step) (ahead : Option (List Operation)) → None ≡ constant_of operation → Some s ≡ step_alone operation
    → option_and_then (λ ops. steps_of (operation ∷ ops) kept) ahead ≡ in_front s (option_and_then (λ ops. steps_of ops None) ahead)
step_by operation kept s None off is = refl
step_by operation kept s (Some later) off is = other_of operation kept later off ∙ ap (λ x. with_alone x (steps_of later None)) (sym is)

pub steps_alone : (operation : Operation) (kept : Option ℕ) (s : Step) (c : Ahead) → None ≡ constant_of operation → Some s ≡ step_alone operation → steps_behind operation kept c ≡ in_front s (steps_at None c)
steps_alone operation kept s c off is =
    behind_is operation kept c (operations_at c) refl
    ∙ step_by operation kept s (operations_at c) off is
    ∙ ap (in_front s) (sym (at_is None c (operations_at c) refl))

none_by : (operation : Operation) (kept : Option ℕ) (ahead : Option (List Operation)) → None ≡ constant_of operation → None ≡ step_alone operation → option_and_then (λ ops. steps_of (operation ∷ ops) kept) ahead ≡ None
none_by operation kept None off is = refl
none_by operation kept (Some later) off is = other_of operation kept later off ∙ ap (λ x. with_alone x (steps_of later None)) (sym is)

pub none_alone : (operation : Operation) (kept : Option ℕ) (c : Ahead) → None ≡ constant_of operation → None ≡ step_alone operation → steps_behind operation kept c ≡ None
none_alone operation kept c off is = behind_is operation kept c (operations_at c) refl ∙ none_by operation kept (operations_at c) off is

-- The reader at the first byte, and the next step.
pub reads_all : (bytes : List ℕ) (c : Ahead) → c ≡ record { bytes = drop 0 (take (length bytes) bytes); at = 0 } → steps_at None c ≡ steps bytes
unfolding steps steps_at operations
reads_all bytes c is =
    ap (λ (a : Ahead). steps_at None a) is ∙ ap (λ xs. steps_at None (let a : Ahead = record { bytes = xs; at = 0 } in a)) (take-length bytes)

pub next_ends : (kept : Option ℕ) (c d : Ahead) → Ok (None, d) ≡ next_operation c → steps_at kept c ≡ Some []
unfolding steps_of
next_ends kept c d is = at_is kept c (Some []) (operations_by c (Ok (None, d)) is)

step_front : (operation : Operation) (kept : Option ℕ) (later : Option (List Operation)) → option_and_then (λ ops. steps_of ops kept) (front_of operation later) ≡ option_and_then (λ ops. steps_of (operation ∷ ops) kept) later
step_front operation kept None = refl
step_front operation kept (Some later) = refl

pub next_steps : (operation : Operation) (kept : Option ℕ) (c d : Ahead) → Ok (Some operation, d) ≡ next_operation c → steps_at kept c ≡ steps_behind operation kept d
next_steps operation kept c d is =
    at_is kept c (front_of operation (operations_at d)) (operations_by c (Ok (Some operation, d)) is)
    ∙ step_front operation kept (operations_at d)
    ∙ sym (behind_is operation kept d (operations_at d) refl)

pub next_unread : (kept : Option ℕ) (c : Ahead) (why : Reason) → Err why ≡ next_operation c → steps_at kept c ≡ None
next_unread kept c why is = at_is kept c None (operations_by c (Err why) is)

-- `mask_size` tries the powers of two from the highest down.
pub mask_found : (bits value size : ℕ) → 0 < bits → size ≡ 2 ^ (bits - 1) → value ≡ size - 1 → mask_size bits value ≡ Some size
unfolding mask_size
mask_found zero value size some power is = absurd (omega arith)
mask_found (suc n) value size some power is =
    let down : suc n - 1 ≡ n = omega arith in
    let same : size ≡ 2 ^ n = power ∙ ap (λ k. 2 ^ k) down in
    let last : value ≡ 2 ^ n - 1 = is ∙ ap (λ p. p - 1) same in
    ap (λ b. cond b (Some (2 ^ n)) (mask_size n value)) (eq-eqb value (2 ^ n - 1) last) ∙ ap Some (sym same)

pub mask_lower : (bits value size : ℕ) → 0 < bits → size ≡ 2 ^ (bits - 1) → value ≢ size - 1 → mask_size bits value ≡ mask_size (bits - 1) value
unfolding mask_size
mask_lower zero value size some power other = absurd (omega arith)
mask_lower (suc n) value size some power other =
    let down : suc n - 1 ≡ n = omega arith in
    let same : size ≡ 2 ^ n = power ∙ ap (λ k. 2 ^ k) down in
    let off : value ≢ 2 ^ n - 1 = λ e. other (e ∙ sym (ap (λ p. p - 1) same)) in
    ap (λ b. cond b (Some (2 ^ n)) (mask_size n value)) (ne_eqb value (2 ^ n - 1) off) ∙ ap (λ k. mask_size k value) (sym down)

pub mask_none : (bits value : ℕ) → bits ≡ 0 → mask_size bits value ≡ None
unfolding mask_size
mask_none bits value low = rw low refl
