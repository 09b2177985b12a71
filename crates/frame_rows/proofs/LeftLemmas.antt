-- The state that a CIE leaves depends on the CIE alone. No location instruction is allowed in a
-- CIE, so the FDE's address does not matter. The lemmas are for `begin`,
-- `entries_of_one_cie_begin_alike`, `into_begun` and `leave`.
use Rattle.std.proofs.Common.{◌≡◌, ℕ, ℤ, List, [], ◌∷◌, Option, Some, None, Result, Ok, Err, refl, sym, ◌∙◌, ap}
use Rattle.std.specs.Option.{option_or}
use Rattle.sym_edges.specs.declared.reason.Reason.{Reason}
use Rattle.sym_edges.specs.Outside.{MatchStop}
use Rattle.sym_edges.specs.declared.fault.Stop.{Stop}
use Rattle.sym_edges.specs.declared.fault.Stop.TheVariants.{Fault, NoMemory}
use Rattle.frame_entries.specs.FdeFields.{FdeFields}
use Rattle.frame_entries.specs.SharedCies.{HaveOneCie}
use Rattle.frame_rows.specs.declared.row.Row.{Row}
use Rattle.frame_rows.specs.declared.machine.CieContext.{CieContext}
use Rattle.frame_rows.specs.Instructions.{Item, instructions}
use Rattle.frame_rows.specs.Machine.{Machine}
use Rattle.frame_rows.specs.Context.{Context}
use Rattle.frame_rows.specs.Left.{Left}
use Rattle.frame_rows.specs.Steps.{Effect, MovesTo, MovesBy, DefinesCfa, DefinesCfaExpr, ChangesRegister, ChangesOffset, PutsRule, Remembers, TakesBack, DoesNothing, effect, done, effect_fault, stepped, step_fault}
use Rattle.frame_rows.specs.Rows.{item_stepped, item_fault, all_stepped, first_fault, empty_row, cie_context, cie_items, cie_begin, cie_end, left_context, own_begin}
use Rattle.frame_rows.specs.CieLeft.{left_unless, cie_left}

-- A state, and the state after an instruction that does not depend on the location.
abbrev state : ℕ → Row → List Row → Machine
state address row stack = record { address = address; row = row; stack = stack }

abbrev in_cie : ℕ → ℤ → List ℕ → Context
in_cie code data_align run = record { code_align = code; data_align = data_align; initial = None; run = run }

abbrev row_behind : Context → Item → Row → List Row → Row
row_behind s i row stack = (item_stepped s i (state 0 row stack)).row

abbrev stack_behind : Context → Item → Row → List Row → List Row
stack_behind s i row stack = (item_stepped s i (state 0 row stack)).stack

effect_apart : (e : Effect) (a : ℕ) (row : Row) (stack : List Row) → done e (state a row stack) ≡ state (done e (state a row stack)).address (done e (state 0 row stack)).row (done e (state 0 row stack)).stack
effect_apart (MovesTo address) a row stack = refl
effect_apart (MovesBy distance) a row stack = refl
effect_apart (DefinesCfa register offset) a row stack = refl
effect_apart (DefinesCfaExpr place why) a row stack = refl
effect_apart (ChangesRegister register) a row stack = refl
effect_apart (ChangesOffset offset) a row stack = refl
effect_apart (PutsRule column new why) a row stack = refl
effect_apart Remembers a row stack = refl
effect_apart TakesBack a row stack = refl
effect_apart DoesNothing a row stack = refl

step_apart : (s : Context) (i : Item) (a : ℕ) (row : Row) (stack : List Row) → item_stepped s i (state a row stack) ≡ state (item_stepped s i (state a row stack)).address (row_behind s i row stack) (stack_behind s i row stack)
unfolding stepped
step_apart s (Err why) a row stack = refl
step_apart s (Ok i) a row stack = effect_apart (effect s i) a row stack

effect_fault_apart : (code : ℕ) (factor : ℤ) (run : List ℕ) (e : Effect) (a b : ℕ) (row : Row) (stack : List Row) → effect_fault (in_cie code factor run) e (state a row stack) ≡ effect_fault (in_cie code factor run) e (state b row stack)
effect_fault_apart code factor run (MovesTo address) a b row stack = refl
effect_fault_apart code factor run (MovesBy distance) a b row stack = refl
effect_fault_apart code factor run (DefinesCfa register offset) a b row stack = refl
effect_fault_apart code factor run (DefinesCfaExpr place why) a b row stack = refl
effect_fault_apart code factor run (ChangesRegister register) a b row stack = refl
effect_fault_apart code factor run (ChangesOffset offset) a b row stack = refl
effect_fault_apart code factor run (PutsRule column new why) a b row stack = refl
effect_fault_apart code factor run Remembers a b row stack = refl
effect_fault_apart code factor run TakesBack a b row stack = refl
effect_fault_apart code factor run DoesNothing a b row stack = refl

fault_apart : (code : ℕ) (factor : ℤ) (run : List ℕ) (i : Item) (a b : ℕ) (row : Row) (stack : List Row) → item_fault (in_cie code factor run) i (state a row stack) ≡ item_fault (in_cie code factor run) i (state b row stack)
unfolding step_fault
fault_apart code factor run (Err why) a b row stack = refl
fault_apart code factor run (Ok i) a b row stack = effect_fault_apart code factor run (effect (in_cie code factor run) i) a b row stack

-- The results of all instructions, from two different addresses.
faults_apart : (code : ℕ) (factor : ℤ) (run : List ℕ) (items : List Item) (a b : ℕ) (row : Row) (stack : List Row) → first_fault (in_cie code factor run) items (state a row stack) ≡ first_fault (in_cie code factor run) items (state b row stack)
unfolding first_fault
faults_apart code factor run [] a b row stack = refl
faults_apart code factor run (i ∷ items) a b row stack =
    let s : Context = in_cie code factor run in
    ap (λ o. option_or o (first_fault s items (item_stepped s i (state a row stack)))) (fault_apart code factor run i a b row stack)
    ∙ ap (λ o. option_or (item_fault s i (state b row stack)) o)
    (ap (first_fault s items) (step_apart s i a row stack)
    ∙ faults_apart code factor run items (item_stepped s i (state a row stack)).address (item_stepped s i (state b row stack)).address (row_behind s i row stack) (stack_behind s i row stack)
    ∙ sym (ap (first_fault s items) (step_apart s i b row stack)))

rows_apart : (s : Context) (items : List Item) (a b : ℕ) (row : Row) (stack : List Row) → (all_stepped s items (state a row stack)).row ≡ (all_stepped s items (state b row stack)).row
unfolding all_stepped
rows_apart s [] a b row stack = refl
rows_apart s (i ∷ items) a b row stack =
    ap (λ m. (all_stepped s items m).row) (step_apart s i a row stack)
    ∙ rows_apart s items (item_stepped s i (state a row stack)).address (item_stepped s i (state b row stack)).address (row_behind s i row stack) (stack_behind s i row stack)
    ∙ sym (ap (λ m. (all_stepped s items m).row) (step_apart s i b row stack))

stacks_apart : (s : Context) (items : List Item) (a b : ℕ) (row : Row) (stack : List Row) → (all_stepped s items (state a row stack)).stack ≡ (all_stepped s items (state b row stack)).stack
unfolding all_stepped
stacks_apart s [] a b row stack = refl
stacks_apart s (i ∷ items) a b row stack =
    ap (λ m. (all_stepped s items m).stack) (step_apart s i a row stack)
    ∙ stacks_apart s items (item_stepped s i (state a row stack)).address (item_stepped s i (state b row stack)).address (row_behind s i row stack) (stack_behind s i row stack)
    ∙ sym (ap (λ m. (all_stepped s items m).stack) (step_apart s i b row stack))

-- The state that is left, given the fields of a CIE.
abbrev left_with : ℕ → ℤ → Option Reason → Row → List Row → Result Left Reason
left_with code factor why row stack =
    left_unless why (record { context = record { code_align = code; data_align = factor; initial = Some row }; stack = stack })

abbrev left_ok : CieContext → List Row → Result Left Reason
left_ok s stack = Ok (record { context = s; stack = stack })

abbrev left_from : ℕ → ℤ → List ℕ → List Item → ℕ → Result Left Reason
left_from code factor run items a =
    left_with code factor (first_fault (in_cie code factor run) items (state a empty_row [])) (all_stepped (in_cie code factor run) items (state a empty_row [])).row (all_stepped (in_cie code factor run) items (state a empty_row [])).stack

left_apart : (code : ℕ) (factor : ℤ) (run : List ℕ) (items : List Item) (a b : ℕ) → left_from code factor run items a ≡ left_from code factor run items b
left_apart code factor run items a b =
    let s : Context = in_cie code factor run in
    ap (λ o. left_with code factor o (all_stepped s items (state a empty_row [])).row (all_stepped s items (state a empty_row [])).stack) (faults_apart code factor run items a b empty_row [])
    ∙ ap (λ row. left_with code factor (first_fault s items (state b empty_row [])) row (all_stepped s items (state a empty_row [])).stack) (rows_apart s items a b empty_row [])
    ∙ ap (λ stack. left_with code factor (first_fault s items (state b empty_row [])) (all_stepped s items (state b empty_row [])).row stack) (stacks_apart s items a b empty_row [])

left_by_fields : (e : FdeFields) → cie_left e ≡ left_from e.code_align e.data_align e.initial_instructions (instructions e.encoding 0 e.initial_instructions) e.start
unfolding cie_left cie_context cie_items cie_begin cie_end left_context
left_by_fields e = refl

-- For entries of the same CIE, the same state is left.
pub one_left : (e f : FdeFields) → HaveOneCie e f → cie_left e ≡ cie_left f
one_left e f one =
    left_by_fields e
    ∙ left_apart e.code_align e.data_align e.initial_instructions (instructions e.encoding 0 e.initial_instructions) e.start f.start
    ∙ ap (λ code. left_from code e.data_align e.initial_instructions (instructions e.encoding 0 e.initial_instructions) f.start) one.code_align
    ∙ ap (λ factor. left_from f.code_align factor e.initial_instructions (instructions e.encoding 0 e.initial_instructions) f.start) one.data_align
    ∙ ap (λ encoding. left_from f.code_align f.data_align e.initial_instructions (instructions encoding 0 e.initial_instructions) f.start) one.encoding
    ∙ ap (λ bytes. left_from f.code_align f.data_align bytes (instructions f.encoding 0 bytes) f.start) one.initial_instructions
    ∙ sym (left_by_fields f)

-- What is known of the state that an entry's CIE left.
pub record IsLeft (e : FdeFields) (left : Left) : Type 0 where
  pub fault : first_fault (cie_context e) (cie_items e) (cie_begin e) ≡ None
  pub context : left.context ≡ left_context e
  pub stack : left.stack ≡ (cie_end e).stack

abbrev ok_or : Left → Result Left Reason → Left
ok_or d (Ok left) = left
ok_or d (Err why) = d

abbrev row_or : Row → Option Row → Row
row_or d None = d
row_or d (Some row) = row

abbrev err_or : Reason → Result Left Reason → Reason
err_or d (Ok left) = d
err_or d (Err why) = why

good_parts : (o : Option Reason) (x left : Left) → left_unless o x ≡ Ok left → (o ≡ None) × (x ≡ left)
good_parts None x left is = (refl, ap (ok_or x) is)
good_parts (Some why) x left is = cc

bad_part : (o : Option Reason) (x : Left) (why : Reason) → left_unless o x ≡ Err why → o ≡ Some why
bad_part None x why is = cc
bad_part (Some w) x why is = ap Some (ap (err_or w) is)

pub left_good : (e : FdeFields) (left : Left) → cie_left e ≡ Ok left → IsLeft e left
unfolding cie_left
left_good e left is =
    let parts = good_parts (first_fault (cie_context e) (cie_items e) (cie_begin e)) (record { context = left_context e; stack = (cie_end e).stack }) left is in
    record {
      fault = parts.0;
      context = ap (λ (l : Left). l.context) (sym parts.1);
      stack = ap (λ (l : Left). l.stack) (sym parts.1);
    }

pub left_bad : (e : FdeFields) (why : Reason) → cie_left e ≡ Err why → first_fault (cie_context e) (cie_items e) (cie_begin e) ≡ Some why
unfolding cie_left
left_bad e why is = bad_part (first_fault (cie_context e) (cie_items e) (cie_begin e)) (record { context = left_context e; stack = (cie_end e).stack }) why is

some_row : (a b : Row) → ◌≡◌ {A = Option Row} (Some a) (Some b) → a ≡ b
some_row a b is = ap (row_or a) is

-- The row is that after the instructions of the CIE.
row_left : (e : FdeFields) (left : Left) (o : Option Row) (row : Row) → IsLeft e left → o ≡ left.context.initial → o ≡ Some row → row ≡ (cie_end e).row
unfolding left_context
row_left e left o row is in_context there = some_row row (cie_end e).row (sym there ∙ in_context ∙ ap (λ (s : CieContext). s.initial) is.context)

pub no_row_left : (e : FdeFields) (left : Left) (o : Option Row) → IsLeft e left → o ≡ left.context.initial → o ≡ None → ⊥
unfolding left_context
no_row_left e left o is in_context none =
    let bad : ◌≡◌ {A = Option Row} None (Some (cie_end e).row) = sym none ∙ in_context ∙ ap (λ (s : CieContext). s.initial) is.context in
    cc

-- An entry's own instructions begin with the state that was left.
pub begun : (e : FdeFields) (left : Left) (m : Machine) (address : ℕ) (o : Option Row) (row : Row) (stack : List Row) → IsLeft e left → m ≡ state address row stack → address ≡ e.start → o ≡ left.context.initial → o ≡ Some row → stack ≡ left.stack → m ≡ own_begin e
unfolding own_begin
begun e left m address o row stack is made at in_context there stack_is =
    made ∙ ap (λ a. state a row stack) at ∙ ap (λ r. state e.start r stack) (row_left e left o row is in_context there) ∙ ap (λ k. state e.start (cie_end e).row k) (stack_is ∙ is.stack)

-- The state that is left if all instructions of the CIE were executed.
pub left_is : (e : FdeFields) (s : CieContext) (m : Machine) (row : Row) (stack : List Row) → first_fault (cie_context e) (cie_items e) (cie_begin e) ≡ None → m ≡ cie_end e → row ≡ m.row → stack ≡ m.stack → s ≡ record { code_align = e.code_align; data_align = e.data_align; initial = Some row } → cie_left e ≡ Ok (record { context = s; stack = stack })
unfolding cie_left left_context
left_is e s m row stack good is row_is stack_is context_is =
    let row_of : row ≡ (cie_end e).row = row_is ∙ ap (λ (k : Machine). k.row) is in
    let stack_of : stack ≡ (cie_end e).stack = stack_is ∙ ap (λ (k : Machine). k.stack) is in
    sym (ap (λ (l : CieContext). left_ok l stack) context_is
    ∙ ap (λ r. left_with e.code_align e.data_align None r stack) row_of
    ∙ ap (λ k. left_with e.code_align e.data_align None (cie_end e).row k) stack_of
    ∙ ap (λ o. left_with e.code_align e.data_align o (cie_end e).row (cie_end e).stack) (sym good))

-- An instruction of the CIE was refused.
pub refused_left : (A B : Type 0) (stop : Stop Reason) (e : FdeFields) (P : B → Type 0) → MatchStop {A = A} {F = Reason} (Err stop) (λ _. first_fault (cie_context e) (cie_items e) (cie_begin e) ≡ None) (λ why. first_fault (cie_context e) (cie_items e) (cie_begin e) ≡ Some why) (Unit {0}) → MatchStop {A = B} {F = Reason} (Err stop) P (λ why. cie_left e ≡ Err why) (Unit {0})
unfolding cie_left
refused_left A B (Fault why) e P bad = ap (λ o. left_unless o (record { context = left_context e; stack = (cie_end e).stack })) bad
refused_left A B NoMemory e P bad = tt
