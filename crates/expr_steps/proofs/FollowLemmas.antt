-- The list of operations does not depend on how many readings are allowed, because each operation
-- passes at least one byte; for `operations_follow`, `StepReader::next` and `read_behind_constant`.
use Rattle.std.proofs.Common.{◌≡◌, ℕ, Bool, true, false, nat_eq, nat_le, ◌&&◌, cond, List, [], ◌∷◌, length, Option, None, Some, Result, Ok, Err, refl, sym, ap, ◌∙◌, arith}
use Rattle.sym_edges.specs.declared.reason.Reason.{Reason}
use Rattle.sym_edges.specs.Results.{◌>>=◌}
use Rattle.leb_cursor.specs.declared.fault.CursorFault.{CursorFault}
use Rattle.leb_cursor.specs.Ahead.{Ahead}
use Rattle.leb_cursor.specs.Passes.{Passes}
use Rattle.leb_cursor.specs.Lists.{list_at, list_cases, list_by, GoesOn}
use Rattle.leb_cursor.specs.Readings.{fixed_at, uleb_at, sleb_at}
use Rattle.leb_cursor.proofs.PassLemmas.{fixed_passes, uleb_passes, sleb_passes, passes_then}
use Rattle.leb_cursor.proofs.ListLemmas.{weaker, list_follows}
use Rattle.expr_steps.specs.declared.operation.Operation.{Operation}
use Rattle.expr_steps.specs.Operations.{or_unread, one, behind_opcode, operation_at, next_operation, listed, operations_at}

-- How many bytes each reading passes.
or_passes : {A : Type 0} (reading : Result (A × Ahead) CursorFault) (least : ℕ) (c : Ahead) → Passes least c reading → Passes least c (or_unread reading)
or_passes (Ok x) least c goes = goes
or_passes (Err fault) least c goes = tt

made_passes : {A B E : Type 0} (make : A × Ahead → B) (reading : Result (A × Ahead) E) (c : Ahead) → Passes 0 c reading → Passes 0 c (reading >>= λ x. Ok (make x, x.1))
made_passes make (Ok x) c goes = goes
made_passes make (Err fault) c goes = tt

either : {A E : Type 0} (test : Bool) (given other : Result (A × Ahead) E) (c : Ahead) → Passes 0 c given → Passes 0 c other → Passes 0 c (cond test given other)
either true given other c first second = first
either false given other c first second = second

one_passes : {A : Type 0} (operand : Ahead → Result (A × Ahead) CursorFault) (make : A → Operation) (least : ℕ) (c : Ahead) → Passes least c (operand c) → Passes 0 c (one operand make c)
one_passes operand make least c goes = made_passes (λ x. make x.0) (or_unread (operand c)) c (or_passes (operand c) 0 c (weaker (operand c) least 0 c (omega arith) goes))

behind_passes : (opcode : ℕ) (c : Ahead) → Passes 0 c (behind_opcode opcode c)
unfolding behind_opcode
behind_passes opcode c =
    either (nat_eq opcode 0x06) _ _ c (omega arith, refl)
    (either (nat_eq opcode 0x08) _ _ c (one_passes (fixed_at 1) _ 1 c (fixed_passes 1 c))
    (either (nat_eq opcode 0x09) _ _ c (one_passes (fixed_at 1) _ 1 c (fixed_passes 1 c))
    (either (nat_eq opcode 0x0a) _ _ c (one_passes (fixed_at 2) _ 2 c (fixed_passes 2 c))
    (either (nat_eq opcode 0x0b) _ _ c (one_passes (fixed_at 2) _ 2 c (fixed_passes 2 c))
    (either (nat_eq opcode 0x0c) _ _ c (one_passes (fixed_at 4) _ 4 c (fixed_passes 4 c))
    (either (nat_eq opcode 0x0d) _ _ c (one_passes (fixed_at 4) _ 4 c (fixed_passes 4 c))
    (either (nat_eq opcode 0x0e) _ _ c (one_passes (fixed_at 8) _ 8 c (fixed_passes 8 c))
    (either (nat_eq opcode 0x0f) _ _ c (one_passes (fixed_at 8) _ 8 c (fixed_passes 8 c))
    (either (nat_eq opcode 0x10) _ _ c (one_passes uleb_at _ 1 c (uleb_passes c))
    (either (nat_eq opcode 0x11) _ _ c (one_passes sleb_at _ 1 c (sleb_passes c))
    (either (nat_eq opcode 0x1a) _ _ c (omega arith, refl)
    (either (nat_eq opcode 0x1c) _ _ c (omega arith, refl)
    (either (nat_eq opcode 0x1e) _ _ c (omega arith, refl)
    (either (nat_eq opcode 0x22) _ _ c (omega arith, refl)
    (either (nat_eq opcode 0x23) _ _ c (one_passes uleb_at _ 1 c (uleb_passes c))
    (either (nat_eq opcode 0x24) _ _ c (omega arith, refl)
    (either (nat_eq opcode 0x2a) _ _ c (omega arith, refl)
    (either (nat_le 0x30 opcode && nat_le opcode 0x4f) _ _ c (omega arith, refl)
    (either (nat_le 0x70 opcode && nat_le opcode 0x8f) _ _ c (one_passes sleb_at _ 1 c (sleb_passes c))
    tt)))))))))))))))))))

pub operation_passes : (c : Ahead) → Passes 1 c (operation_at c)
unfolding operation_at
operation_passes c =
    passes_then (or_unread (fixed_at 1 c)) (λ opcode. behind_opcode opcode.0 opcode.1) 1 0 c
    (or_passes (fixed_at 1 c) 1 c (fixed_passes 1 c)) (λ opcode. behind_passes opcode.0 opcode.1)

some_goes : (reading : Result (Operation × Ahead) Reason) (c : Ahead) → Passes 1 c reading → GoesOn c (reading >>= λ x. Ok (Some x.0, x.1))
some_goes (Ok x) c goes = goes
some_goes (Err why) c goes = tt

either_goes : (test : Bool) (reading : Result (Option Operation × Ahead) Reason) (c : Ahead) → GoesOn c reading → GoesOn c (cond test (Ok (None, c)) reading)
either_goes true reading c goes = (omega arith, refl)
either_goes false reading c goes = goes

pub next_goes : (c : Ahead) → GoesOn c (next_operation c)
unfolding next_operation
next_goes c = either_goes (nat_eq (length c.bytes) 0) (operation_at c >>= λ x. Ok (Some x.0, x.1)) c (some_goes (operation_at c) c (operation_passes c))

pub operations_are : (c : Ahead) → list_at next_operation c ≡ list_cases next_operation c
operations_are c = list_follows next_operation next_goes c

-- The operations ahead are given by the next operation.
abbrev pub front_of : Operation → Option (List Operation) → Option (List Operation)
front_of operation None = None
front_of operation (Some later) = Some (operation ∷ later)

abbrev pub listed_by : Result (Option Operation × Ahead) Reason → Option (List Operation)
listed_by (Ok (None, d)) = Some []
listed_by (Ok (Some operation, d)) = front_of operation (operations_at d)
listed_by (Err why) = None

front_listed : (operation : Operation) (later : Result (List Operation × Ahead) Reason) → listed (later >>= λ rest. Ok (operation ∷ rest.0, rest.1)) ≡ front_of operation (listed later)
front_listed operation (Ok rest) = refl
front_listed operation (Err why) = refl

by_listed : (first : Result (Option Operation × Ahead) Reason) → listed (first >>= λ x. list_by x.0 x.1 (list_at next_operation x.1)) ≡ listed_by first
unfolding operations_at
by_listed (Ok (None, d)) = refl
by_listed (Ok (Some operation, d)) = front_listed operation (list_at next_operation d)
by_listed (Err why) = refl

pub operations_by : (c : Ahead) (first : Result (Option Operation × Ahead) Reason) → first ≡ next_operation c → operations_at c ≡ listed_by first
unfolding operations_at
operations_by c first is = ap listed (operations_are c) ∙ by_listed (next_operation c) ∙ ap listed_by (sym is)
