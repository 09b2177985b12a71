-- A stepper begins at the first row of an entry. The lemmas are for `begin`, `new`, `run_all` and
-- `start`.
use Rattle.std.proofs.Common.{◌≡◌, ℕ, ◌+◌, ◌<◌, List, ◌∷◌, length, take, Option, None, Some, Err, sym, ◌∙◌, ap, arith, subst}
use Rattle.std.specs.Option.{option_or}
use Rattle.sym_edges.specs.declared.reason.Reason.{Reason}
use Rattle.sym_edges.specs.Outside.{MatchStop}
use Rattle.sym_edges.specs.declared.fault.Stop.{Stop}
use Rattle.sym_edges.specs.declared.fault.Stop.TheVariants.{Fault, NoMemory}
use Rattle.std.proofs.lemmas.List.{take_all}
use Rattle.leb_cursor.specs.Ahead.{Ahead}
use Rattle.frame_entries.specs.FdeFields.{FdeFields}
use Rattle.frame_rows.specs.declared.row.RowAt.{RowAt}
use Rattle.frame_rows.specs.declared.machine.CieContext.{CieContext}
use Rattle.frame_rows.specs.Context.{Context, with_run}
use Rattle.frame_rows.specs.Instructions.{listed_at, instructions}
use Rattle.frame_rows.specs.Machine.{Machine}
use Rattle.frame_rows.specs.Rows.{first_fault, cie_context, cie_items, cie_begin, left_context, own_context, own_items, own_begin, instruction_fault, rows_fault, AreRows}
use Rattle.frame_rows.specs.Standing.{Standing, Begins}
use Rattle.frame_rows.specs.internal.Walk.{rows_from, rows_past, row_with}
use Rattle.frame_rows.proofs.TestLemmas.{neither}
use Rattle.frame_rows.proofs.RowLemmas.{are_rows}
use Rattle.frame_rows.proofs.EntryLemmas.{cie_bad, own_bad}

-- A cursor over the instructions of an entry.
pub all_ahead : (encoding base : ℕ) (bytes : List ℕ) (c : Ahead) → c ≡ record { bytes = take (length bytes) bytes; at = 0 } → listed_at encoding base c ≡ instructions encoding base bytes
unfolding instructions
all_ahead encoding base bytes c is = ap (listed_at encoding base) (is ∙ ap (λ b. (let a : Ahead = record { bytes = b; at = 0 } in a)) (take_all (length bytes) bytes (omega arith)))

own_ahead : (v e : FdeFields) (c : Ahead) → v ≡ e → c ≡ record { bytes = take (length v.instructions) v.instructions; at = 0 } → listed_at v.encoding v.instructions_address c ≡ own_items e
unfolding own_items
own_ahead v e c view is =
    all_ahead v.encoding v.instructions_address v.instructions c is
    ∙ ap (λ (k : FdeFields). instructions k.encoding k.instructions_address k.instructions) view

both_good : (e : FdeFields) → instruction_fault e ≡ None → (first_fault (cie_context e) (cie_items e) (cie_begin e) ≡ None) × (first_fault (own_context e) (own_items e) (own_begin e) ≡ None)
unfolding instruction_fault
both_good e good = neither (first_fault (cie_context e) (cie_items e) (cie_begin e)) (first_fault (own_context e) (own_items e) (own_begin e)) good

-- The context that the CIE left, with the entry's own instructions.
pub own_is : (v e : FdeFields) (cie : CieContext) → v ≡ e → cie ≡ left_context e → with_run cie v.instructions ≡ own_context e
unfolding own_context
own_is v e cie view context = ap (λ (k : FdeFields). with_run cie k.instructions) view ∙ ap (λ k. with_run k e.instructions) context

own_whole : (v e : FdeFields) (s : Context) (m : Machine) (c : Ahead) → v ≡ e → s ≡ own_context e → m ≡ own_begin e → c ≡ record { bytes = take (length v.instructions) v.instructions; at = 0 } → first_fault s (listed_at v.encoding v.instructions_address c) m ≡ first_fault (own_context e) (own_items e) (own_begin e)
own_whole v e s m c view context machine over =
    ap (λ l. first_fault s l m) (own_ahead v e c view over)
    ∙ ap (λ k. first_fault k (own_items e) m) context ∙ ap (first_fault (own_context e) (own_items e)) machine

-- The reason against the first bad one of the entry's own instructions, after those up to the first
-- row are executed.
pub start_fault : (v e : FdeFields) (s held : Context) (m n : Machine) (c later : Ahead) → v ≡ e → s ≡ held → held ≡ own_context e → m ≡ own_begin e → c ≡ record { bytes = take (length v.instructions) v.instructions; at = 0 } →
    first_fault s (listed_at v.encoding v.instructions_address later) n ≡ first_fault s (listed_at v.encoding v.instructions_address c) m → first_fault held (listed_at v.encoding v.instructions_address later) n ≡ first_fault (own_context e) (own_items e) (own_begin e)
start_fault v e s held m n c later view same context machine over kept =
    ap (λ k. first_fault k (listed_at v.encoding v.instructions_address later) n) (sym same) ∙ kept ∙ own_whole v e s m c view (same ∙ context) machine over

pub start_refused : (A B : Type 0) (stop : Stop Reason) (v e : FdeFields) (s held : Context) (m : Machine) (c : Ahead) (P : A → Type 0) (Q : B → Type 0) → v ≡ e → s ≡ held → held ≡ own_context e → m ≡ own_begin e → c ≡ record { bytes = take (length v.instructions) v.instructions; at = 0 } →
    MatchStop {A = A} {F = Reason} (Err stop) P (λ why. first_fault s (listed_at v.encoding v.instructions_address c) m ≡ Some why) (Unit {0}) → MatchStop {A = B} {F = Reason} (Err stop) Q (λ why. first_fault (own_context e) (own_items e) (own_begin e) ≡ Some why) (Unit {0})
start_refused A B (Fault why) v e s held m c P Q view same context machine over bad = sym (own_whole v e s m c view (same ∙ context) machine over) ∙ bad
start_refused A B NoMemory v e s held m c P Q view same context machine over bad = tt

begins_at : (e : FdeFields) (m : Machine) → m ≡ own_begin e → m.address ≡ e.start
unfolding own_begin
begins_at e m is = ap (λ (k : Machine). k.address) is

pub start_rows : (v e : FdeFields) (s held : Context) (m n : Machine) (c later : Ahead) (end : ℕ) → v ≡ e → s ≡ held → held ≡ own_context e → m ≡ own_begin e → c ≡ record { bytes = take (length v.instructions) v.instructions; at = 0 } → e.start < end →
    ((end : ℕ) → m.address < end → rows_from end s (listed_at v.encoding v.instructions_address c) m ≡ row_with m.address n.row ∷ rows_past end s (listed_at v.encoding v.instructions_address later) n m.address) →
    row_with v.start n.row ∷ rows_past end held (listed_at v.encoding v.instructions_address later) n v.start ≡ rows_from end (own_context e) (own_items e) (own_begin e)
start_rows v e s held m n c later end view same context machine over some settled =
    let at : v.start ≡ m.address = ap (λ (k : FdeFields). k.start) view ∙ sym (begins_at e m machine) in
    ap (λ k. row_with v.start n.row ∷ rows_past end k (listed_at v.encoding v.instructions_address later) n v.start) (sym same)
    ∙ ap (λ a. row_with a n.row ∷ rows_past end s (listed_at v.encoding v.instructions_address later) n a) at
    ∙ sym (settled end (omega (arith, some, begins_at e m machine)))
    ∙ ap (λ l. rows_from end s l m) (own_ahead v e c view over)
    ∙ ap (λ k. rows_from end k (own_items e) m) (same ∙ context) ∙ ap (rows_from end (own_context e) (own_items e)) machine

-- The rows of the entry are ahead.
pub start_are : (v e : FdeFields) (rows : List RowAt) → instruction_fault e ≡ None → v ≡ e → rows ≡ rows_from (v.start + v.size) (own_context e) (own_items e) (own_begin e) → 0 < e.size → AreRows e rows
start_are v e rows good view is some =
    let P : List RowAt → Type 0 = λ xs. AreRows e xs in
    subst P (sym (is ∙ ap (λ (k : FdeFields). rows_from (k.start + k.size) (own_context e) (own_items e) (own_begin e)) view)) (are_rows e (both_good e good).1 some)

-- An entry that was inspected has no bad instruction.
pub own_fine : (e : FdeFields) (fault : Option Reason) → instruction_fault e ≡ None → fault ≡ first_fault (own_context e) (own_items e) (own_begin e) → fault ≡ None
own_fine e fault good is = is ∙ (both_good e good).1

-- The position of a stepper at the first row.
pub begins : (v e : FdeFields) (s : Standing) → first_fault (cie_context e) (cie_items e) (cie_begin e) ≡ None → v ≡ e → s.fault ≡ first_fault (own_context e) (own_items e) (own_begin e) → s.here ∷ s.later ≡ rows_from (v.start + v.size) (own_context e) (own_items e) (own_begin e) → 0 < e.size → Begins e s
unfolding instruction_fault
begins v e s cie view own rows some =
    let whole : s.fault ≡ instruction_fault e = own ∙ sym (ap (λ o. option_or o (first_fault (own_context e) (own_items e) (own_begin e))) cie) in
    record { fault = whole; rows = λ good. start_are v e (s.here ∷ s.later) (sym whole ∙ good) view rows some }

-- An entry that is refused at its first row, or because of its CIE.
pub start_stopped : (A B : Type 0) (stop : Stop Reason) (e : FdeFields) (P : A → Type 0) (Q : B → Type 0) → first_fault (cie_context e) (cie_items e) (cie_begin e) ≡ None → MatchStop {A = A} {F = Reason} (Err stop) P (λ why. first_fault (own_context e) (own_items e) (own_begin e) ≡ Some why) (Unit {0}) → MatchStop {A = B} {F = Reason} (Err stop) Q (λ why. rows_fault e ≡ Some why) (Unit {0})
start_stopped A B (Fault why) e P Q cie bad = own_bad e why cie bad
start_stopped A B NoMemory e P Q cie bad = tt

pub cie_stopped : (A B : Type 0) (stop : Stop Reason) (e : FdeFields) (P : A → Type 0) (Q : B → Type 0) → MatchStop {A = A} {F = Reason} (Err stop) P (λ why. first_fault (cie_context e) (cie_items e) (cie_begin e) ≡ Some why) (Unit {0}) → MatchStop {A = B} {F = Reason} (Err stop) Q (λ why. rows_fault e ≡ Some why) (Unit {0})
cie_stopped A B (Fault why) e P Q bad = cie_bad e why bad
cie_stopped A B NoMemory e P Q bad = tt
