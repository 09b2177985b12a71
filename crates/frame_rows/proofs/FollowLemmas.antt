-- The list of instructions does not depend on the bound on their number, since each instruction has
-- at least one byte. The lemmas are for `instructions_follow`.
use Rattle.std.proofs.Common.{◌≡◌, ◌≤◌, ◌+◌, ℕ, zero, suc, nat_eq, cond, List, [], ◌∷◌, length, Result, Ok, Err, refl, sym, ap, ◌∙◌, arith}
use Rattle.std.proofs.lemmas.Bool.{cond-true, eq-eqb}
use Rattle.sym_edges.specs.declared.reason.Reason.{Reason}
use Rattle.sym_edges.specs.Results.{◌>>=◌}
use Rattle.leb_cursor.specs.declared.fault.CursorFault.{CursorFault}
use Rattle.leb_cursor.specs.Ahead.{Ahead}
use Rattle.leb_cursor.specs.Passes.{Passes}
use Rattle.leb_cursor.specs.Readings.{fixed_at, uleb_at, sleb_at, take_at}
use Rattle.leb_cursor.proofs.PassLemmas.{fixed_passes, take_passes, uleb_passes, sleb_passes, passes_then}
use Rattle.frame_entries.specs.declared.pointer.Format.{Format}
use Rattle.frame_entries.specs.declared.pointer.Format.TheVariants as format
use Rattle.frame_entries.specs.Pointers.{format_of, number_at, pointer_at}
use Rattle.frame_entries.specs.FrameEntries.{address_at}
use Rattle.frame_rows.specs.declared.instruction.Block.{Block}
use Rattle.frame_rows.specs.declared.instruction.Instruction.{Instruction}
use Rattle.frame_rows.specs.Instructions.{Item, or_instruction, block_at, Operand, Ubyte, Uhalf, Uword, Uleb, Sleb, Exprloc, operand_at, Form, Alone, One, Two, Pointer, Unknown, one, form_at, form_of, instruction_at, onto_later, listed_in, listed_at, listed_by}

-- How many bytes a reading takes at least.
any : {A E : Type 0} (reading : Result (A × Ahead) E) (least : ℕ) (c : Ahead) → Passes least c reading → Passes 0 c reading
any (Ok x) least c goes = (omega (arith, goes.0), goes.1)
any (Err fault) least c goes = tt

or_passes : {A : Type 0} (reading : Result (A × Ahead) CursorFault) (least : ℕ) (c : Ahead) → Passes least c reading → Passes least c (or_instruction reading)
or_passes (Ok x) least c goes = goes
or_passes (Err fault) least c goes = tt

made_passes : {A B E : Type 0} (make : A × Ahead → B) (reading : Result (A × Ahead) E) (c : Ahead) → Passes 0 c reading → Passes 0 c (reading >>= λ x. Ok (make x, x.1))
made_passes make (Ok x) c goes = goes
made_passes make (Err fault) c goes = tt

fixed_any : (width : ℕ) (c : Ahead) → Passes 0 c (fixed_at width c)
fixed_any width c = any (fixed_at width c) width c (fixed_passes width c)

uleb_any : (c : Ahead) → Passes 0 c (uleb_at c)
uleb_any c = any (uleb_at c) 1 c (uleb_passes c)

sleb_any : (c : Ahead) → Passes 0 c (sleb_at c)
sleb_any c = any (sleb_at c) 1 c (sleb_passes c)

number_passes : (format : Format) (c : Ahead) → Passes 0 c (number_at format c)
unfolding number_at
number_passes format.U64 c = fixed_any 8 c
number_passes format.Uleb c = uleb_any c
number_passes format.U16 c = fixed_any 2 c
number_passes format.U32 c = fixed_any 4 c
number_passes format.Sleb c = made_passes _ (sleb_at c) c (sleb_any c)
number_passes format.I16 c = made_passes _ (fixed_at 2 c) c (fixed_any 2 c)
number_passes format.I32 c = made_passes _ (fixed_at 4 c) c (fixed_any 4 c)

pointer_passes : (encoding address : ℕ) (c : Ahead) → Passes 0 c (pointer_at encoding address c)
unfolding pointer_at
pointer_passes encoding address c = made_passes _ (number_at (format_of encoding) c) c (number_passes (format_of encoding) c)

block_passes : (c : Ahead) → Passes 0 c (block_at c)
unfolding block_at
block_passes c =
    passes_then (or_instruction (uleb_at c)) _ 0 0 c (or_passes (uleb_at c) 0 c (uleb_any c))
    (λ len. made_passes (λ run. (let b : Block = record { start = len.1.at; len = len.0 } in b)) (or_instruction (take_at len.0 len.1)) len.1 (or_passes (take_at len.0 len.1) 0 len.1 (any (take_at len.0 len.1) len.0 len.1 (take_passes len.0 len.1))))

operand_passes : (operand : Operand) (c : Ahead) → Passes 0 c (operand_at operand c)
unfolding operand_at
operand_passes Ubyte c = or_passes (fixed_at 1 c) 0 c (fixed_any 1 c)
operand_passes Uhalf c = or_passes (fixed_at 2 c) 0 c (fixed_any 2 c)
operand_passes Uword c = or_passes (fixed_at 4 c) 0 c (fixed_any 4 c)
operand_passes Uleb c = or_passes (uleb_at c) 0 c (uleb_any c)
operand_passes Sleb c = or_passes (sleb_at c) 0 c (sleb_any c)
operand_passes Exprloc c = block_passes c

form_passes : (encoding base : ℕ) (form : Form) (c : Ahead) → Passes 0 c (form_at encoding base form c)
unfolding form_at
form_passes encoding base (Alone instruction) c = (omega arith, refl)
form_passes encoding base (One operand make) c = made_passes (λ x. make x.0) (operand_at operand c) c (operand_passes operand c)
form_passes encoding base (Two first second make) c =
    passes_then (operand_at first c) (λ x. one (make x.0) (operand_at second x.1)) 0 0 c (operand_passes first c)
    (λ x. made_passes (λ y. make x.0 y.0) (operand_at second x.1) x.1 (operand_passes second x.1))
form_passes encoding base (Pointer make) c =
    made_passes (λ x. make x.0) (or_instruction (pointer_at encoding (address_at base c.at) c)) c
    (or_passes (pointer_at encoding (address_at base c.at) c) 0 c (pointer_passes encoding (address_at base c.at) c))
form_passes encoding base Unknown c = tt

pub instruction_passes : (encoding base : ℕ) (c : Ahead) → Passes 1 c (instruction_at encoding base c)
unfolding instruction_at
instruction_passes encoding base c =
    passes_then (or_instruction (fixed_at 1 c)) (λ opcode. form_at encoding base (form_of opcode.0) opcode.1) 1 0 c
    (or_passes (fixed_at 1 c) 1 c (fixed_passes 1 c)) (λ opcode. form_passes encoding base (form_of opcode.0) opcode.1)

-- Two bounds that allow enough instructions give the same list.
onto_same : (reading : Result (Instruction × Ahead) Reason) (c : Ahead) (f g : Ahead → List Item) → Passes 1 c reading → ((d : Ahead) → length d.bytes + 1 ≤ length c.bytes → f d ≡ g d) → onto_later reading f ≡ onto_later reading g
onto_same (Ok x) c f g goes same = ap (λ items. Ok x.0 ∷ items) (same x.1 goes.0)
onto_same (Err why) c f g goes same = refl

enough : (m n encoding base : ℕ) (c : Ahead) → length c.bytes ≤ m → length c.bytes ≤ n → listed_in m encoding base c ≡ listed_in n encoding base c
unfolding listed_in
enough zero zero encoding base c all_m all_n = refl
enough zero (suc n) encoding base c all_m all_n = sym (cond-true _ _ _ (eq-eqb (length c.bytes) 0 (omega arith)))
enough (suc m) zero encoding base c all_m all_n = cond-true _ _ _ (eq-eqb (length c.bytes) 0 (omega arith))
enough (suc m) (suc n) encoding base c all_m all_n =
    ap (cond (nat_eq (length c.bytes) 0) [])
    (onto_same (instruction_at encoding base c) c (listed_in m encoding base) (listed_in n encoding base) (instruction_passes encoding base c)
    (λ d less. enough m n encoding base d (omega arith) (omega arith)))

pub listed_is : (encoding base : ℕ) (c : Ahead) → listed_at encoding base c ≡ listed_by listed_at encoding base c
unfolding listed_at listed_in listed_by
listed_is encoding base c =
    enough (length c.bytes) (suc (length c.bytes)) encoding base c (omega arith) (omega arith)
    ∙ ap (cond (nat_eq (length c.bytes) 0) [])
    (onto_same (instruction_at encoding base c) c (λ d. listed_in (length c.bytes) encoding base d) (λ d. listed_in (length d.bytes) encoding base d) (instruction_passes encoding base c)
    (λ d less. enough (length c.bytes) (length d.bytes) encoding base d (omega arith) (omega arith)))
