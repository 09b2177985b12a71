-- The bounds of the registers and offsets of steps; for `steps_have_bounds`.
use Rattle.std.proofs.Common.{◌≡◌, ◌-◌, ◌^◌, ℕ, ℤ, zero, suc, Bool, true, false, nat_eq, nat_le, ◌&&◌, cond, List, [], ◌∷◌, length, Option, None, Some, Result, Ok, Err, refl, subst}
use Rattle.std.specs.Option.{option_and_then}
use Rattle.std.specs.List.{list_all}
use Rattle.sym_edges.specs.declared.reason.Reason.{Reason}
use Rattle.sym_edges.specs.Results.{◌>>=◌}
use Rattle.sym_edges.specs.Integers.{fits_i64}
use Rattle.leb_cursor.specs.declared.fault.CursorFault.{CursorFault}
use Rattle.leb_cursor.specs.Ahead.{Ahead}
use Rattle.leb_cursor.specs.Lists.{list_by, list_in, list_at}
use Rattle.leb_cursor.specs.Readings.{fixed_at, leb_length, sleb_sum, uleb_at, sleb_at, sleb_by}
use Rattle.expr_steps.specs.declared.operation.Operation.{Operation}
use Rattle.expr_steps.specs.declared.operation.Operation.TheVariants.{Constant, Breg, Deref, And, Minus, Mul, Plus, PlusUconst, Shl, Ge}
use Rattle.expr_steps.specs.declared.step.Step.{Step}
use Rattle.expr_steps.specs.declared.step.Step.TheVariants as step
use Rattle.expr_steps.specs.Operations.{or_unread, behind_opcode, operation_at, next_operation, listed, operations_at, operations}
use Rattle.expr_steps.specs.Steps.{in_front, mask_size, with_and, with_ge, with_alone, steps_of, steps}
use Rattle.expr_steps.specs.Standing.{has_bounds}

-- The offset of an operation is a signed number of 64 bits.
abbrev fits : Operation → Bool
fits (Breg register offset) = fits_i64 offset
fits _ = true

abbrev IfRead : Result (Operation × Ahead) Reason → Type 0
IfRead (Ok x) = fits x.0 ≡ true
IfRead (Err why) = Unit {0}

made_fits : {A : Type 0} (make : A → Operation) (reading : Result (A × Ahead) CursorFault) → ((x : A) → fits (make x) ≡ true) → IfRead (or_unread reading >>= λ x. Ok (make x.0, x.1))
made_fits make (Ok x) all = all x.0
made_fits make (Err fault) all = tt

abbrev IfSigned : Result (ℤ × Ahead) CursorFault → Type 0
IfSigned (Ok x) = fits_i64 x.0 ≡ true
IfSigned (Err fault) = Unit {0}

signed_by : (n : ℤ) (c : Ahead) (fault : CursorFault) (small : Bool) → fits_i64 n ≡ small → IfSigned (cond small (Ok (n, c)) (Err fault))
signed_by n c fault true is = is
signed_by n c fault false is = tt

sleb_fits : (c : Ahead) (count : Option ℕ) → IfSigned (sleb_by c count)
sleb_fits c None = tt
sleb_fits c (Some count) = signed_by (sleb_sum count c.bytes) _ _ (fits_i64 (sleb_sum count c.bytes)) refl

signed_fits : (c : Ahead) → IfSigned (sleb_at c)
unfolding sleb_at
signed_fits c = sleb_fits c (leb_length c.bytes)

breg_fits : (register : ℕ) (reading : Result (ℤ × Ahead) CursorFault) → IfSigned reading → IfRead (or_unread reading >>= λ x. Ok (Breg register x.0, x.1))
breg_fits register (Ok x) small = small
breg_fits register (Err fault) small = tt

either : (test : Bool) (given other : Result (Operation × Ahead) Reason) → IfRead given → IfRead other → IfRead (cond test given other)
either true given other first second = first
either false given other first second = second

behind_fits : (opcode : ℕ) (c : Ahead) → IfRead (behind_opcode opcode c)
unfolding behind_opcode
behind_fits opcode c =
    either (nat_eq opcode 0x06) _ _ refl
    (either (nat_eq opcode 0x08) _ _ (made_fits _ (fixed_at 1 c) (λ n. refl))
    (either (nat_eq opcode 0x09) _ _ (made_fits _ (fixed_at 1 c) (λ n. refl))
    (either (nat_eq opcode 0x0a) _ _ (made_fits _ (fixed_at 2 c) (λ n. refl))
    (either (nat_eq opcode 0x0b) _ _ (made_fits _ (fixed_at 2 c) (λ n. refl))
    (either (nat_eq opcode 0x0c) _ _ (made_fits _ (fixed_at 4 c) (λ n. refl))
    (either (nat_eq opcode 0x0d) _ _ (made_fits _ (fixed_at 4 c) (λ n. refl))
    (either (nat_eq opcode 0x0e) _ _ (made_fits _ (fixed_at 8 c) (λ n. refl))
    (either (nat_eq opcode 0x0f) _ _ (made_fits _ (fixed_at 8 c) (λ n. refl))
    (either (nat_eq opcode 0x10) _ _ (made_fits _ (uleb_at c) (λ n. refl))
    (either (nat_eq opcode 0x11) _ _ (made_fits _ (sleb_at c) (λ n. refl))
    (either (nat_eq opcode 0x1a) _ _ refl
    (either (nat_eq opcode 0x1c) _ _ refl
    (either (nat_eq opcode 0x1e) _ _ refl
    (either (nat_eq opcode 0x22) _ _ refl
    (either (nat_eq opcode 0x23) _ _ (made_fits _ (uleb_at c) (λ n. refl))
    (either (nat_eq opcode 0x24) _ _ refl
    (either (nat_eq opcode 0x2a) _ _ refl
    (either (nat_le 0x30 opcode && nat_le opcode 0x4f) _ _ refl
    (either (nat_le 0x70 opcode && nat_le opcode 0x8f) _ _ (breg_fits _ (sleb_at c) (signed_fits c))
    tt)))))))))))))))))))

abbrev IfNext : Result (Option Operation × Ahead) Reason → Type 0
IfNext (Ok (None, c)) = Unit {0}
IfNext (Ok (Some operation, c)) = fits operation ≡ true
IfNext (Err why) = Unit {0}

some_fits : (reading : Result (Operation × Ahead) Reason) → IfRead reading → IfNext (reading >>= λ x. Ok (Some x.0, x.1))
some_fits (Ok x) first = first
some_fits (Err why) first = tt

operation_fits : (opcode : Result (ℕ × Ahead) CursorFault) → IfNext (or_unread opcode >>= (λ code. behind_opcode code.0 code.1) >>= λ x. Ok (Some x.0, x.1))
operation_fits (Ok opcode) = some_fits (behind_opcode opcode.0 opcode.1) (behind_fits opcode.0 opcode.1)
operation_fits (Err fault) = tt

next_by : (test : Bool) (c : Ahead) (reading : Result (Option Operation × Ahead) Reason) → IfNext reading → IfNext (cond test (Ok (None, c)) reading)
next_by true c reading goes = tt
next_by false c reading goes = goes

next_fits : (c : Ahead) → IfNext (next_operation c)
unfolding next_operation operation_at
next_fits c = next_by (nat_eq (length c.bytes) 0) c _ (operation_fits (fixed_at 1 c))

-- The offsets of all operations are signed numbers of 64 bits.
abbrev IfAll : Result (List Operation × Ahead) Reason → Type 0
IfAll (Ok x) = list_all fits x.0 ≡ true
IfAll (Err why) = Unit {0}

both : (a b : Bool) → a ≡ true → b ≡ true → a && b ≡ true
both true b first second = second
both false b first second = first

front_fits : (operation : Operation) (later : Result (List Operation × Ahead) Reason) → fits operation ≡ true → IfAll later → IfAll (later >>= λ rest. Ok (operation ∷ rest.0, rest.1))
front_fits operation (Ok rest) first all = both (fits operation) (list_all fits rest.0) first all
front_fits operation (Err why) first all = tt

by_fits : (first : Result (Option Operation × Ahead) Reason) (later : Ahead → Result (List Operation × Ahead) Reason) → IfNext first → ((d : Ahead) → IfAll (later d)) → IfAll (first >>= λ x. list_by x.0 x.1 (later x.1))
by_fits (Ok (None, d)) later next all = refl
by_fits (Ok (Some operation, d)) later next all = front_fits operation (later d) next (all d)
by_fits (Err why) later next all = tt

list_fits : (n : ℕ) (c : Ahead) → IfAll (list_in next_operation n c)
unfolding list_in
list_fits zero c = refl
list_fits (suc n) c = by_fits (next_operation c) (list_in next_operation n) (next_fits c) (λ d. list_fits n d)

-- All steps have bounds.
abbrev IfSteps : Option (List Step) → Type 0
IfSteps None = Unit {0}
IfSteps (Some given) = list_all has_bounds given ≡ true

in_front_fits : (s : Step) (later : Option (List Step)) → has_bounds s ≡ true → IfSteps later → IfSteps (in_front s later)
in_front_fits s None first all = tt
in_front_fits s (Some given) first all = both (has_bounds s) (list_all has_bounds given) first all

cond_fits : (test : Bool) (s : Step) (later : Option (List Step)) → has_bounds s ≡ true → IfSteps later → IfSteps (cond test (in_front s later) None)
cond_fits true s later first all = in_front_fits s later first all
cond_fits false s later first all = tt

and_fits : (found : Option ℕ) (later : Option ℕ → Option (List Step)) → ((kept : Option ℕ) → IfSteps (later kept)) → IfSteps (with_and found later)
and_fits None later all = tt
and_fits (Some size) later all = in_front_fits (step.Remainder size) (later (Some size)) refl (all (Some size))

ge_fits : (c : ℕ) (kept : Option ℕ) (later : Option (List Step)) → IfSteps later → IfSteps (with_ge c kept later)
ge_fits c None later all = tt
ge_fits c (Some size) later all = cond_fits (nat_le c size) (step.Reaches (size - c) size) later refl all

register_fits : (register : ℕ) (offset : ℤ) (named : Bool) (later : Option (List Step)) → nat_le register 16 ≡ named → fits_i64 offset ≡ true → IfSteps later
    → IfSteps (with_alone (cond named (Some (step.Register register offset)) None) later)
register_fits register offset true later is small all = in_front_fits (step.Register register offset) later (both (nat_le register 16) (fits_i64 offset) is small) all
register_fits register offset false later is small all = tt

behind_first : (a b : Bool) → a && b ≡ true → b ≡ true
behind_first true b all = all
behind_first false b all = cc

first_of_both : (a b : Bool) → a && b ≡ true → a ≡ true
first_of_both true b all = refl
first_of_both false b all = all

made_bounds : (ops : List Operation) (kept : Option ℕ) → list_all fits ops ≡ true → IfSteps (steps_of ops kept)
unfolding steps_of
made_bounds [] kept all = refl
made_bounds (Constant c ∷ []) kept all = in_front_fits (step.Constant c) (Some []) refl refl
made_bounds (Constant c ∷ And ∷ later) kept all = and_fits (mask_size 63 c) (steps_of later) (λ k. made_bounds later k all)
made_bounds (Constant c ∷ Shl ∷ later) kept all = cond_fits (nat_le c 62) (step.Product (2 ^ c)) (steps_of later None) refl (made_bounds later None all)
made_bounds (Constant c ∷ Ge ∷ later) kept all = ge_fits c kept (steps_of later None) (made_bounds later None all)
made_bounds (Constant c ∷ Constant d ∷ later) kept all = in_front_fits (step.Constant c) (steps_of (Constant d ∷ later) None) refl (made_bounds (Constant d ∷ later) None all)
made_bounds (Constant c ∷ Breg register offset ∷ later) kept all = in_front_fits (step.Constant c) (steps_of (Breg register offset ∷ later) None) refl (made_bounds (Breg register offset ∷ later) None all)
made_bounds (Constant c ∷ Deref ∷ later) kept all = in_front_fits (step.Constant c) (steps_of (Deref ∷ later) None) refl (made_bounds (Deref ∷ later) None all)
made_bounds (Constant c ∷ Minus ∷ later) kept all = in_front_fits (step.Constant c) (steps_of (Minus ∷ later) None) refl (made_bounds (Minus ∷ later) None all)
made_bounds (Constant c ∷ Mul ∷ later) kept all = in_front_fits (step.Constant c) (steps_of (Mul ∷ later) None) refl (made_bounds (Mul ∷ later) None all)
made_bounds (Constant c ∷ Plus ∷ later) kept all = in_front_fits (step.Constant c) (steps_of (Plus ∷ later) None) refl (made_bounds (Plus ∷ later) None all)
made_bounds (Constant c ∷ PlusUconst addend ∷ later) kept all = in_front_fits (step.Constant c) (steps_of (PlusUconst addend ∷ later) None) refl (made_bounds (PlusUconst addend ∷ later) None all)
made_bounds (Breg register offset ∷ later) kept all =
    register_fits register offset (nat_le register 16) (steps_of later None) refl (first_of_both (fits_i64 offset) (list_all fits later) all)
    (made_bounds later None (behind_first (fits_i64 offset) (list_all fits later) all))
made_bounds (Deref ∷ later) kept all = in_front_fits step.Fetch (steps_of later None) refl (made_bounds later None all)
made_bounds (Minus ∷ later) kept all = in_front_fits step.Subtract (steps_of later None) refl (made_bounds later None all)
made_bounds (Mul ∷ later) kept all = in_front_fits step.Multiply (steps_of later None) refl (made_bounds later None all)
made_bounds (Plus ∷ later) kept all = in_front_fits step.Add (steps_of later None) refl (made_bounds later None all)
made_bounds (PlusUconst addend ∷ later) kept all = in_front_fits (step.AddConstant addend) (steps_of later None) refl (made_bounds later None all)
made_bounds (And ∷ later) kept all = tt
made_bounds (Shl ∷ later) kept all = tt
made_bounds (Ge ∷ later) kept all = tt

listed_bounds : (read : Result (List Operation × Ahead) Reason) → IfAll read → IfSteps (option_and_then (λ ops. steps_of ops None) (listed read))
listed_bounds (Ok x) all = made_bounds x.0 None all
listed_bounds (Err why) all = tt

bounds_of : (made : Option (List Step)) (given : List Step) → IfSteps made → made ≡ Some given → list_all has_bounds given ≡ true
bounds_of made given all is = let P : Option (List Step) → Type 0 = IfSteps in subst P is all

pub steps_bounded : (bytes : List ℕ) (given : List Step) → steps bytes ≡ Some given → list_all has_bounds given ≡ true
unfolding steps operations operations_at list_at
steps_bounded bytes given is = bounds_of _ given (listed_bounds (list_in next_operation (suc (length bytes)) (let a : Ahead = record { bytes = bytes; at = 0 } in a)) (list_fits _ _)) is
