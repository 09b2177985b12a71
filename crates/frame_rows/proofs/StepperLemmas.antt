-- The rows from the position of a stepper on. The lemmas are for `finish`, `next`, `run_to_end` and
-- `run_to_next_row`.
use Rattle.std.proofs.Common.{◌≡◌, ◌≢◌, ◌⊎◌, inl, inr, ℕ, ◌<◌, ◌≤◌, Bool, false, cond, List, [], ◌∷◌, ◌++◌, length, Option, None, Some, Result, Ok, Err, refl, sym, ◌∙◌, ap, arith, subst}
use Rattle.std.proofs.lemmas.Bool.{cases_lt, eq-eqb, ne_eqb, le-ltb, lt-ltb}
use Rattle.std.specs.Option.{option_or}
use Rattle.sym_edges.specs.declared.reason.Reason.{Reason}
use Rattle.sym_edges.specs.declared.fault.Stop.{Stop}
use Rattle.sym_edges.specs.declared.fault.Stop.TheVariants.{Fault, NoMemory}
use Rattle.sym_edges.specs.Outside.{MatchStop}
use Rattle.leb_cursor.specs.Ahead.{Ahead}
use Rattle.leb_cursor.specs.Passes.{Passes}
use Rattle.frame_rows.specs.declared.row.RowAt.{RowAt}
use Rattle.frame_rows.specs.declared.instruction.Instruction.{Instruction}
use Rattle.frame_rows.specs.Context.{Context}
use Rattle.frame_rows.specs.Instructions.{Item, instruction_at, onto_later, listed_at, listed_by}
use Rattle.frame_rows.specs.Machine.{Machine}
use Rattle.frame_rows.specs.Steps.{stepped, step_fault}
use Rattle.frame_rows.specs.Rows.{all_stepped, first_fault}
use Rattle.frame_rows.specs.declared.columns.Columns.{Columns}
use Rattle.frame_rows.specs.Columns.{StayOutside}
use Rattle.frame_rows.specs.Standing.{Standing, GoesOn, Stays, Ends}
use Rattle.frame_rows.specs.internal.Walk.{ended_row, last_row, rows_from, rows_past, row_with}
use Rattle.frame_rows.proofs.StepLemmas.{step_keeps, step_grows}
use Rattle.frame_rows.proofs.RowLemmas.{ended_yes, ended_no, from_more, past}
use Rattle.frame_rows.proofs.ReadLemmas.{fault_none, fault_more, fault_here, stepped_none, stepped_more}
use Rattle.frame_rows.proofs.FollowLemmas.{listed_is, instruction_passes}

-- The instructions ahead are the first of them and those after it.
by_first : (encoding base : ℕ) (c : Ahead) → length c.bytes ≢ 0 → listed_at encoding base c ≡ onto_later (instruction_at encoding base c) (listed_at encoding base)
unfolding listed_by
by_first encoding base c some = listed_is encoding base c ∙ ap (λ t. cond t [] (onto_later (instruction_at encoding base c) (listed_at encoding base))) (ne_eqb (length c.bytes) 0 some)

ahead_more : (encoding base : ℕ) (c later : Ahead) (i : Instruction) → length c.bytes ≢ 0 → Ok (i, later) ≡ instruction_at encoding base c → listed_at encoding base c ≡ Ok i ∷ listed_at encoding base later
ahead_more encoding base c later i some read = by_first encoding base c some ∙ ap (λ r. onto_later r (listed_at encoding base)) (sym read)

ahead_refused : (encoding base : ℕ) (c : Ahead) (why : Reason) → length c.bytes ≢ 0 → Err why ≡ instruction_at encoding base c → listed_at encoding base c ≡ Err why ∷ []
ahead_refused encoding base c why some read = by_first encoding base c some ∙ ap (λ r. onto_later r (listed_at encoding base)) (sym read)

ahead_none : (encoding base : ℕ) (c : Ahead) → length c.bytes ≡ 0 → listed_at encoding base c ≡ []
unfolding listed_by
ahead_none encoding base c none = listed_is encoding base c ∙ ap (λ t. cond t [] (onto_later (instruction_at encoding base c) (listed_at encoding base))) (eq-eqb (length c.bytes) 0 none)

-- An instruction takes at least one byte.
pub fewer_left : (encoding base : ℕ) (c later : Ahead) (i : Instruction) → Ok (i, later) ≡ instruction_at encoding base c → length later.bytes < length c.bytes
fewer_left encoding base c later i read =
    let given : Result (Instruction × Ahead) Reason = Ok (i, later) in
    let goes : Passes 1 c given = subst (λ (r : Result (Instruction × Ahead) Reason). Passes 1 c r) (sym read) (instruction_passes encoding base c) in
    omega (arith, goes.0)

-- The rows above an address.
past_some : (end : ℕ) (s : Context) (items : List Item) (m : Machine) (at : ℕ) → at < m.address → rows_past end s items m at ≡ rows_from end s items m
unfolding rows_past
past_some end s items m at up = ap (λ t. cond t (rows_from end s items m) []) (lt-ltb at m.address up)

past_none : (end : ℕ) (s : Context) (items : List Item) (m : Machine) (at : ℕ) → m.address ≤ at → rows_past end s items m at ≡ []
unfolding rows_past
past_none end s items m at stays = ap (λ t. cond t (rows_from end s items m) []) (le-ltb at m.address stays)

-- The next instruction is bad.
pub unread_fault : (s : Context) (encoding base : ℕ) (c : Ahead) (m : Machine) (why : Reason) (whole : Option Reason) → length c.bytes ≢ 0 → Err why ≡ instruction_at encoding base c → first_fault s (listed_at encoding base c) m ≡ whole → whole ≡ Some why
unread_fault s encoding base c m why whole some read so =
    sym so ∙ ap (λ l. first_fault s l m) (ahead_refused encoding base c why some read) ∙ fault_here s (Err why) [] m why refl

pub refused_fault : (A B : Type 0) (stop : Stop Reason) (s : Context) (encoding base : ℕ) (c later : Ahead) (i : Instruction) (m n : Machine) (P : B → Type 0) (whole : Option Reason) → length c.bytes ≢ 0 → Ok (i, later) ≡ instruction_at encoding base c → MatchStop {A = A} {F = Reason} (Err stop) (λ _. (step_fault s i m ≡ None) × (n ≡ stepped s i m)) (λ why. step_fault s i m ≡ Some why) (Unit {0}) → first_fault s (listed_at encoding base c) m ≡ whole → MatchStop {A = B} {F = Reason} (Err stop) P (λ why. whole ≡ Some why) (Unit {0})
refused_fault A B (Fault why) s encoding base c later i m n P whole some read bad so =
    sym so ∙ ap (λ l. first_fault s l m) (ahead_more encoding base c later i some read) ∙ fault_here s (Ok i) (listed_at encoding base later) m why bad
refused_fault A B NoMemory s encoding base c later i m n P whole some read bad so = tt

-- The next instruction is not bad, so those after it decide.
pub still : (s : Context) (encoding base : ℕ) (c later : Ahead) (i : Instruction) (m n : Machine) (whole : Option Reason) → length c.bytes ≢ 0 → Ok (i, later) ≡ instruction_at encoding base c → step_fault s i m ≡ None → n ≡ stepped s i m → first_fault s (listed_at encoding base c) m ≡ whole → first_fault s (listed_at encoding base later) n ≡ whole
still s encoding base c later i m n whole some read fine is so =
    ap (first_fault s (listed_at encoding base later)) is ∙ sym (fault_more s (Ok i) (listed_at encoding base later) m fine)
    ∙ sym (ap (λ l. first_fault s l m) (ahead_more encoding base c later i some read)) ∙ so

pub state_still : (s : Context) (encoding base : ℕ) (c later : Ahead) (i : Instruction) (m n whole : Machine) → length c.bytes ≢ 0 → Ok (i, later) ≡ instruction_at encoding base c → n ≡ stepped s i m → all_stepped s (listed_at encoding base c) m ≡ whole → all_stepped s (listed_at encoding base later) n ≡ whole
state_still s encoding base c later i m n whole some read is so =
    ap (all_stepped s (listed_at encoding base later)) is ∙ sym (stepped_more s (Ok i) (listed_at encoding base later) m)
    ∙ sym (ap (λ l. all_stepped s l m) (ahead_more encoding base c later i some read)) ∙ so

-- No instruction is left.
pub state_ended : (s : Context) (encoding base : ℕ) (c : Ahead) (m : Machine) → length c.bytes ≡ 0 → all_stepped s (listed_at encoding base c) m ≡ m
state_ended s encoding base c m none = ap (λ l. all_stepped s l m) (ahead_none encoding base c none) ∙ stepped_none s m

pub none_ahead : (s : Context) (encoding base : ℕ) (c : Ahead) (m : Machine) → length c.bytes ≡ 0 → first_fault s (listed_at encoding base c) m ≡ None
none_ahead s encoding base c m none = ap (λ l. first_fault s l m) (ahead_none encoding base c none) ∙ fault_none s m

-- The rows from a state on, given the next instruction.
rows_next : (end : ℕ) (s : Context) (encoding base : ℕ) (c later : Ahead) (i : Instruction) (m n : Machine) → length c.bytes ≢ 0 → Ok (i, later) ≡ instruction_at encoding base c → n ≡ stepped s i m → rows_from end s (listed_at encoding base c) m ≡ ended_row end m n.address ++ rows_from end s (listed_at encoding base later) n
rows_next end s encoding base c later i m n some read is =
    ap (λ l. rows_from end s l m) (ahead_more encoding base c later i some read) ∙ from_more end s (Ok i) (listed_at encoding base later) m
    ∙ ap (λ (k : Machine). ended_row end m k.address ++ rows_from end s (listed_at encoding base later) k) (sym is)

pub rows_moved : (end : ℕ) (s : Context) (encoding base at : ℕ) (c later : Ahead) (i : Instruction) (m n : Machine) (whole : List RowAt) → length c.bytes ≢ 0 → Ok (i, later) ≡ instruction_at encoding base c → n ≡ stepped s i m → m.address ≡ at → at < n.address → at < end → rows_from end s (listed_at encoding base c) m ≡ whole → whole ≡ row_with at n.row ∷ rows_past end s (listed_at encoding base later) n at
rows_moved end s encoding base at c later i m n whole some read is here up low so =
    let kept : m.row ≡ n.row = sym (ap (λ (k : Machine). k.row) is ∙ step_keeps s i m (omega (arith, here, ap (λ (k : Machine). k.address) is))) in
    sym so ∙ rows_next end s encoding base c later i m n some read is
    ∙ ap (λ l. l ++ rows_from end s (listed_at encoding base later) n) (ended_yes end m n.address (omega (arith, here)) (omega (arith, here)))
    ∙ ap (λ row. row_with m.address row ∷ rows_from end s (listed_at encoding base later) n) kept
    ∙ ap (λ a. row_with a n.row ∷ rows_from end s (listed_at encoding base later) n) here
    ∙ ap (λ l. row_with at n.row ∷ l) (sym (past_some end s (listed_at encoding base later) n at up))

pub rows_stay : (end : ℕ) (s : Context) (encoding base : ℕ) (c later : Ahead) (i : Instruction) (m n : Machine) (whole : List RowAt) → length c.bytes ≢ 0 → Ok (i, later) ≡ instruction_at encoding base c → n ≡ stepped s i m → n.address ≤ m.address → rows_from end s (listed_at encoding base c) m ≡ whole → rows_from end s (listed_at encoding base later) n ≡ whole
rows_stay end s encoding base c later i m n whole some read is stays so =
    sym (rows_next end s encoding base c later i m n some read is
    ∙ ap (λ l. l ++ rows_from end s (listed_at encoding base later) n) (ended_no end m n.address stays)) ∙ so

-- If the location does not rise, it stays.
pub stays_there : (s : Context) (i : Instruction) (m n : Machine) (at : ℕ) → step_fault s i m ≡ None → n ≡ stepped s i m → m.address ≡ at → n.address ≤ at → n.address ≡ at
stays_there s i m n at fine is here stays = omega (arith, step_grows s i m fine, ap (λ (k : Machine). k.address) is, here, stays)

from_none : (end : ℕ) (s : Context) (m : Machine) → rows_from end s [] m ≡ last_row end m
unfolding rows_from
from_none end s m = refl

last_yes : (end : ℕ) (m : Machine) → m.address < end → last_row end m ≡ row_with m.address m.row ∷ []
last_yes end m low = ap (λ t. cond t (row_with m.address m.row ∷ []) []) (lt-ltb m.address end low)

pub rows_last : (end : ℕ) (s : Context) (encoding base at : ℕ) (c : Ahead) (m : Machine) (whole : List RowAt) → length c.bytes ≡ 0 → m.address ≡ at → at < end → rows_from end s (listed_at encoding base c) m ≡ whole → whole ≡ row_with at m.row ∷ rows_past end s (listed_at encoding base c) m at
rows_last end s encoding base at c m whole none here low so =
    sym so ∙ ap (λ l. rows_from end s l m) (ahead_none encoding base c none) ∙ from_none end s m ∙ last_yes end m (omega (arith, here))
    ∙ ap (λ a. row_with a m.row ∷ []) here
    ∙ ap (λ l. row_with at m.row ∷ l) (sym (past_none end s (listed_at encoding base c) m at (omega (arith, here))))

-- There is no later row if the location is at the end of the range or above it.
later_over : (end : ℕ) (s : Context) (items : List Item) (m : Machine) (at : ℕ) → first_fault s items m ≡ None → at < m.address → end ≤ m.address → rows_past end s items m at ≡ []
later_over end s items m at good up over = past_some end s items m at up ∙ past end s items m good over

-- The position of a stepper, made from its parts.
abbrev pub standing : Bool → Option Reason → ℕ → ℕ → Context → List Item → Machine → Standing
standing failed refused end at s items m = record {
  failed = failed;
  refused = refused;
  fault = option_or refused (first_fault s items m);
  end = end;
  here = row_with at m.row;
  later = rows_past end s items m at;
}

ahead_fault : (refused : Option Reason) (fault : Option Reason) → refused ≡ None → option_or refused fault ≡ fault
ahead_fault refused fault none = ap (λ o. option_or o fault) none

-- There is no later row.
over_later : (end : ℕ) (s : Context) (items : List Item) (m : Machine) (at : ℕ) → first_fault s items m ≡ None → end ≤ m.address → rows_past end s items m at ≡ []
over_later end s items m at good over =
    elim (cases_lt at m.address) [
      | inl up ↦ later_over end s items m at good up over
      | inr stays ↦ past_none end s items m at stays
    ]

stays_by : (failed : Bool) (refused : Option Reason) (end at : ℕ) (s : Context) (items : List Item) (m : Machine) → refused ≡ None → (m.address ≤ at) ⊎ (end ≤ m.address) → Stays (standing failed refused end at s items m) (standing failed refused end at s items m)
stays_by failed refused end at s items m going (inl stays) = record { none = λ good. past_none end s items m at stays; same = refl }
stays_by failed refused end at s items m going (inr over) = record { none = λ good. over_later end s items m at (sym (ahead_fault refused (first_fault s items m) going) ∙ good) over; same = refl }

pub stays : (failed : Bool) (refused : Option Reason) (end at : ℕ) (s : Context) (items : List Item) (m : Machine) (before : Standing) → standing failed refused end at s items m ≡ before → refused ≡ None → (m.address ≤ at) ⊎ (end ≤ m.address) → Stays before before
stays failed refused end at s items m before view going where_to =
    let P : Standing → Type 0 = λ b. Stays b b in
    subst P view (stays_by failed refused end at s items m going where_to)

-- The next row.
goes_by : (failed : Bool) (refused : Option Reason) (end at next : ℕ) (s : Context) (items later : List Item) (m n : Machine) → failed ≡ false → refused ≡ None → next ≡ m.address → at < next → next < end → first_fault s later n ≡ first_fault s items m →
    ((end : ℕ) → m.address < end → rows_from end s items m ≡ row_with m.address n.row ∷ rows_past end s later n m.address) → GoesOn (standing failed refused end at s items m) (standing failed refused end next s later n)
goes_by failed refused end at next s items later m n fresh going here up low kept settled = record {
  failed = fresh;
  refused = going;
  fault = ap (option_or refused) kept;
  end = refl;
  rises = up;
  below = low;
  later = past_some end s items m at (omega (arith, here, up)) ∙ settled end (omega (arith, here, low)) ∙ ap (λ a. row_with a n.row ∷ rows_past end s later n a) (sym here);
}

pub goes_on : (failed : Bool) (refused : Option Reason) (end at next : ℕ) (s held : Context) (items later : List Item) (m n : Machine) (before : Standing) (columns : Columns) → standing failed refused end at held items m ≡ before → s ≡ held → failed ≡ false → refused ≡ None → next ≡ m.address → at < next → next < end → first_fault s later n ≡ first_fault s items m →
    ((end : ℕ) → m.address < end → rows_from end s items m ≡ row_with m.address n.row ∷ rows_past end s later n m.address) → StayOutside columns m.row n.row → GoesOn before (standing failed refused end next held later n) × StayOutside columns before.here.row n.row
goes_on failed refused end at next s held items later m n before columns view same fresh going here up low kept settled alike =
    let P : Context → Type 0 = λ k. GoesOn (standing failed refused end at k items m) (standing failed refused end next k later n) in
    let Q : Standing → Type 0 = λ b. GoesOn b (standing failed refused end next held later n) × StayOutside columns b.here.row n.row in
    subst Q view (subst P same (goes_by failed refused end at next s items later m n fresh going here up low kept settled), alike)

-- No instruction is left.
pub ends : (failed : Bool) (refused : Option Reason) (end at over : ℕ) (s held : Context) (items : List Item) (encoding base : ℕ) (c : Ahead) (m n : Machine) (before : Standing) → standing failed refused end at held items m ≡ before → s ≡ held → before.refused ≡ None → first_fault s items m ≡ None → length c.bytes ≡ 0 → over ≡ n.address → Ends before (standing failed refused end over held (listed_at encoding base c) n)
ends failed refused end at over s held items encoding base c m n before view same going good empty past =
    let none : refused ≡ None = ap (λ (b : Standing). b.refused) view ∙ going in
    record {
      good = ap (λ (b : Standing). b.fault) (sym view) ∙ ahead_fault refused (first_fault held items m) none ∙ ap (λ k. first_fault k items m) (sym same) ∙ good;
      none = past_none end held (listed_at encoding base c) n over (omega (arith, past));
      failed = ap (λ (b : Standing). b.failed) view;
      refused = none;
      fault = ahead_fault refused (first_fault held (listed_at encoding base c) n) none ∙ none_ahead held encoding base c n empty;
      end = ap (λ (b : Standing). b.end) view;
    }
