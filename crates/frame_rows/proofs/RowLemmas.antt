-- The rows that a single pass makes are those of the replay at each address. The lemmas are for
-- those of CfaLemmas, SoundLemmas, StartLemmas and StepperLemmas.
use Rattle.std.proofs.Common.{◌≡◌, ◌⊎◌, inl, inr, ℕ, ◌+◌, ◌<◌, ◌≤◌, ◌&&◌, cond, Bool, true, false, List, [], ◌∷◌, ◌++◌, map, Some, None, nat_lt, nat_le, refl, sym, ◌∙◌, ap, arith, subst}
use Rattle.std.proofs.lemmas.Bool.{and_parts, cases_lt, le-leb, le-ltb, lt-leb, lt-ltb, ltb-true}
use Rattle.frame_entries.specs.FdeFields.{FdeFields}
use Rattle.frame_rows.specs.declared.row.Row.{Row}
use Rattle.frame_rows.specs.declared.row.RowAt.{RowAt}
use Rattle.frame_rows.specs.Context.{Context}
use Rattle.frame_rows.specs.Instructions.{Item}
use Rattle.frame_rows.specs.Machine.{Machine}
use Rattle.std.specs.Option.{option_or}
use Rattle.frame_rows.specs.Rows.{item_stepped, item_fault, first_fault, replay, next_location, moves, last_at, Ascending, own_context, own_items, own_begin, row_at, stops, AreRows}
use Rattle.frame_rows.specs.internal.Walk.{row_here, ended_row, rows_from}
use Rattle.frame_rows.proofs.TestLemmas.{elim_bool, neither}
use Rattle.frame_rows.proofs.StepLemmas.{location, grows, keeps}

-- If no instruction is bad, the first one is not bad, and none after it.
pub parted : (s : Context) (i : Item) (items : List Item) (m : Machine) → first_fault s (i ∷ items) m ≡ None → (item_fault s i m ≡ None) × (first_fault s items (item_stepped s i m) ≡ None)
unfolding first_fault
parted s i items m good = neither (item_fault s i m) (first_fault s items (item_stepped s i m)) good

-- The replay stops at a state whose location is above the address.
waits : (s : Context) (items : List Item) (m : Machine) (a : ℕ) → a < m.address → replay s items m a ≡ m
unfolding replay
waits s [] m a above = refl
waits s (i ∷ items) m a above = ap (λ t. cond t (replay s items (item_stepped s i m) a) m) (lt-leb m.address a above)

-- The replay goes on from a state whose location is at or below the address.
pub goes_on : (s : Context) (i : Item) (items : List Item) (m : Machine) (a : ℕ) → m.address ≤ a → replay s (i ∷ items) m a ≡ replay s items (item_stepped s i m) a
unfolding replay
goes_on s i items m a below = ap (λ t. cond t (replay s items (item_stepped s i m) a) m) (le-leb m.address a below)

pub none_said : (a : ℕ) → last_at [] a ≡ None
unfolding last_at
none_said a = refl

-- The last row at or below an address, in a list with one more row in front.
pub said_by : (r : RowAt) (rows : List RowAt) (a : ℕ) → last_at (r ∷ rows) a ≡ option_or (last_at rows a) (cond (nat_le r.address a) (Some r.row) None)
unfolding last_at
said_by r rows a = refl

pub above_said : (r : RowAt) (rows : List RowAt) (a : ℕ) → a < r.address → last_at rows a ≡ None → last_at (r ∷ rows) a ≡ None
above_said r rows a above none =
    said_by r rows a ∙ ap (λ o. option_or o (cond (nat_le r.address a) (Some r.row) None)) none ∙ ap (λ t. cond t (Some r.row) None) (lt-leb r.address a above)

pub here_said : (r : RowAt) (rows : List RowAt) (a : ℕ) → r.address ≤ a → last_at rows a ≡ None → last_at (r ∷ rows) a ≡ Some r.row
here_said r rows a below none =
    said_by r rows a ∙ ap (λ o. option_or o (cond (nat_le r.address a) (Some r.row) None)) none ∙ ap (λ t. cond t (Some r.row) None) (le-leb r.address a below)

pub later_said : (r : RowAt) (rows : List RowAt) (a : ℕ) (row : Row) → last_at rows a ≡ Some row → last_at (r ∷ rows) a ≡ Some row
later_said r rows a row some = said_by r rows a ∙ ap (λ o. option_or o (cond (nat_le r.address a) (Some r.row) None)) some

and_no : {A : Type 0} (b : Bool) (x y : A) → cond (b && false) x y ≡ y
and_no true x y = refl
and_no false x y = refl

-- A row that ended is at the front of the list.
pub ended_yes : (end : ℕ) (m : Machine) (next : ℕ) → m.address < next → m.address < end → ended_row end m next ≡ row_here m ∷ []
ended_yes end m next up low = ap (λ t. cond t (row_here m ∷ []) []) (ap (λ t. t && nat_lt m.address end) (lt-ltb m.address next up) ∙ lt-ltb m.address end low)

ended_either : (end : ℕ) (m : Machine) (next : ℕ) (P : List RowAt → Type 0) → (m.address < next → m.address < end → P (row_here m ∷ [])) → P [] → P (ended_row end m next)
ended_either end m next P some none =
    elim_bool (nat_lt m.address next && nat_lt m.address end) (λ t. P (cond t (row_here m ∷ []) []))
    (λ is. some (ltb-true m.address next (and_parts _ _ is).0) (ltb-true m.address end (and_parts _ _ is).1))
    (λ is. none)

pub ended_no : (end : ℕ) (m : Machine) (next : ℕ) → next ≤ m.address → ended_row end m next ≡ []
ended_no end m next stays = ap (λ t. cond (t && nat_lt m.address end) (row_here m ∷ []) []) (le-ltb m.address next stays)

last_row : (end : ℕ) (s : Context) (m : Machine) (P : List RowAt → Type 0) → (m.address < end → P (row_here m ∷ [])) → P [] → P (rows_from end s [] m)
unfolding rows_from
last_row end s m P some none =
    elim_bool (nat_lt m.address end) (λ t. P (cond t (row_here m ∷ []) [])) (λ is. some (ltb-true m.address end is)) (λ is. none)

pub from_more : (end : ℕ) (s : Context) (i : Item) (items : List Item) (m : Machine) → rows_from end s (i ∷ items) m ≡ ended_row end m (item_stepped s i m).address ++ rows_from end s items (item_stepped s i m)
unfolding rows_from
from_more end s i items m = refl

-- None of the rows from a state on is at or below an address that is below the state's location.
later : (end : ℕ) (s : Context) (items : List Item) (m : Machine) (a : ℕ) → first_fault s items m ≡ None → a < m.address → last_at (rows_from end s items m) a ≡ None
later end s [] m a good above =
    last_row end s m (λ rows. last_at rows a ≡ None) (λ low. above_said (row_here m) [] a above (none_said a)) (none_said a)
later end s (i ∷ items) m a good above =
    let parts = parted s i items m good in
    let rest = later end s items (item_stepped s i m) a parts.1 (omega (arith, grows s i m parts.0)) in
    ap (λ rows. last_at rows a) (from_more end s i items m)
    ∙ ended_either end m (item_stepped s i m).address (λ rows. last_at (rows ++ rows_from end s items (item_stepped s i m)) a ≡ None)
    (λ up low. above_said (row_here m) (rows_from end s items (item_stepped s i m)) a above rest) rest

-- After the last instruction, the state's row applies up to the end.
last_says : (end : ℕ) (s : Context) (m : Machine) (a : ℕ) → m.address ≤ a → a < end → last_at (rows_from end s [] m) a ≡ Some m.row
unfolding rows_from
last_says end s m a below inside =
    ap (λ t. last_at (cond t (row_here m ∷ []) []) a) (lt-ltb m.address end (omega arith)) ∙ here_said (row_here m) [] a below (none_said a)

-- The row that applies at an address, given those that the next step leaves.
says_here : (end : ℕ) (m n : Machine) (rest : List RowAt) (a : ℕ) → m.address < n.address → m.address ≤ a → a < end → last_at rest a ≡ None → last_at (ended_row end m n.address ++ rest) a ≡ Some m.row
says_here end m n rest a up below inside none =
    ap (λ rows. last_at (rows ++ rest) a) (ended_yes end m n.address up (omega arith)) ∙ here_said (row_here m) rest a below none

says_later : (end : ℕ) (m n : Machine) (rest : List RowAt) (a : ℕ) (row : Row) → last_at rest a ≡ Some row → last_at (ended_row end m n.address ++ rest) a ≡ Some row
says_later end m n rest a row some =
    ended_either end m n.address (λ rows. last_at (rows ++ rest) a ≡ Some row) (λ up low. later_said (row_here m) rest a row some) some

says_by : (end : ℕ) (s : Context) (items : List Item) (m n : Machine) (a : ℕ) → first_fault s items n ≡ None → (m.address < n.address → n.row ≡ m.row) → m.address ≤ a → a < end → (n.address ≤ a → last_at (rows_from end s items n) a ≡ Some (replay s items n a).row) → (a < n.address) ⊎ (n.address ≤ a) → last_at (ended_row end m n.address ++ rows_from end s items n) a ≡ Some (replay s items n a).row
says_by end s items m n a good kept below inside rest (inl above) =
    says_here end m n (rows_from end s items n) a (omega arith) below inside (later end s items n a good above)
    ∙ ap Some (sym (ap (λ (k : Machine). k.row) (waits s items n a above) ∙ kept (omega arith)))
says_by end s items m n a good kept below inside rest (inr reached) =
    says_later end m n (rows_from end s items n) a (replay s items n a).row (rest reached)

replay_none : (s : Context) (m : Machine) (a : ℕ) → replay s [] m a ≡ m
unfolding replay
replay_none s m a = refl

-- At each address from the state's location up to the end, the row of the replay applies.
pub says : (end : ℕ) (s : Context) (items : List Item) (m : Machine) (a : ℕ) → first_fault s items m ≡ None → m.address ≤ a → a < end → last_at (rows_from end s items m) a ≡ Some (replay s items m a).row
says end s [] m a good below inside = last_says end s m a below inside ∙ ap Some (sym (ap (λ (k : Machine). k.row) (replay_none s m a)))
says end s (i ∷ items) m a good below inside =
    let parts = parted s i items m good in
    ap (λ rows. last_at rows a) (from_more end s i items m)
    ∙ says_by end s items m (item_stepped s i m) a parts.1 (keeps s i m) below inside
    (λ reached. says end s items (item_stepped s i m) a parts.1 reached inside) (cases_lt a (item_stepped s i m).address)
    ∙ ap Some (sym (ap (λ (k : Machine). k.row) (goes_on s i items m a below)))

-- There are no rows at the end of the range or above it.
pub past : (end : ℕ) (s : Context) (items : List Item) (m : Machine) → first_fault s items m ≡ None → end ≤ m.address → rows_from end s items m ≡ []
past end s [] m good over = last_row end s m (λ rows. end ≤ m.address → rows ≡ []) (λ low over. absurd (omega arith)) (λ over. refl) over
past end s (i ∷ items) m good over =
    let parts = parted s i items m good in
    from_more end s i items m
    ∙ ended_either end m (item_stepped s i m).address (λ rows. end ≤ m.address → rows ++ rows_from end s items (item_stepped s i m) ≡ rows_from end s items (item_stepped s i m)) (λ up low over. absurd (omega arith)) (λ over. refl) over
    ∙ past end s items (item_stepped s i m) parts.1 (omega (arith, grows s i m parts.0))

moves_none : (s : Context) (end at : ℕ) → moves s end [] at ≡ []
unfolding moves
moves_none s end at = refl

moves_on : (s : Context) (end : ℕ) (i : Item) (items : List Item) (at : ℕ) → at < next_location s i at → next_location s i at < end → moves s end (i ∷ items) at ≡ next_location s i at ∷ moves s end items (next_location s i at)
unfolding moves
moves_on s end i items at up low =
    ap (λ t. cond (t && nat_lt (next_location s i at) end) (next_location s i at ∷ moves s end items (next_location s i at)) (moves s end items (next_location s i at))) (lt-ltb at (next_location s i at) up)
    ∙ ap (λ t. cond t (next_location s i at ∷ moves s end items (next_location s i at)) (moves s end items (next_location s i at))) (lt-ltb (next_location s i at) end low)

moves_stay : (s : Context) (end : ℕ) (i : Item) (items : List Item) (at : ℕ) → next_location s i at ≤ at → moves s end (i ∷ items) at ≡ moves s end items (next_location s i at)
unfolding moves
moves_stay s end i items at stays =
    ap (λ t. cond (t && nat_lt (next_location s i at) end) (next_location s i at ∷ moves s end items (next_location s i at)) (moves s end items (next_location s i at))) (le-ltb at (next_location s i at) stays)

moves_out : (s : Context) (end : ℕ) (i : Item) (items : List Item) (at : ℕ) → end ≤ next_location s i at → moves s end (i ∷ items) at ≡ moves s end items (next_location s i at)
unfolding moves
moves_out s end i items at over =
    ap (λ t. cond (nat_lt at (next_location s i at) && t) (next_location s i at ∷ moves s end items (next_location s i at)) (moves s end items (next_location s i at))) (le-ltb (next_location s i at) end over)
    ∙ and_no (nat_lt at (next_location s i at)) (next_location s i at ∷ moves s end items (next_location s i at)) (moves s end items (next_location s i at))

-- No row begins at the end of the range or above it.
moves_past : (end : ℕ) (s : Context) (items : List Item) (m : Machine) → first_fault s items m ≡ None → end ≤ m.address → moves s end items m.address ≡ []
moves_past end s [] m good over = moves_none s end m.address
moves_past end s (i ∷ items) m good over =
    let parts = parted s i items m good in
    let next : next_location s i m.address ≡ (item_stepped s i m).address = sym (location s i m) in
    moves_out s end i items m.address (omega (arith, grows s i m parts.0, next))
    ∙ ap (moves s end items) next ∙ moves_past end s items (item_stepped s i m) parts.1 (omega (arith, grows s i m parts.0))

-- Where the rows from a state on begin, given where those after the next step begin.
stands_by : (end : ℕ) (s : Context) (i : Item) (items : List Item) (m n : Machine) → m.address < end → m.address ≤ n.address → next_location s i m.address ≡ n.address → (end ≤ n.address → rows_from end s items n ≡ []) → (end ≤ n.address → moves s end items n.address ≡ []) → (n.address < end → map (λ r. r.address) (rows_from end s items n) ≡ n.address ∷ moves s end items n.address) → (m.address < n.address) ⊎ (n.address ≤ m.address) → (n.address < end) ⊎ (end ≤ n.address) → map (λ r. r.address) (ended_row end m n.address ++ rows_from end s items n) ≡ m.address ∷ moves s end (i ∷ items) m.address
stands_by end s i items m n low up next over_rows over_moves rest (inl moved) (inl inside) =
    ap (λ rows. map (λ r. r.address) (rows ++ rows_from end s items n)) (ended_yes end m n.address moved low)
    ∙ ap (λ l. m.address ∷ l) (rest inside ∙ sym (moves_on s end i items m.address (omega (arith, next)) (omega (arith, next)) ∙ ap (λ a. a ∷ moves s end items a) next))
stands_by end s i items m n low up next over_rows over_moves rest (inl moved) (inr over) =
    ap (λ rows. map (λ r. r.address) (rows ++ rows_from end s items n)) (ended_yes end m n.address moved low)
    ∙ ap (λ l. m.address ∷ l) (ap (λ rows. map (λ r. r.address) rows) (over_rows over) ∙ sym (moves_out s end i items m.address (omega (arith, next)) ∙ ap (moves s end items) next ∙ over_moves over))
stands_by end s i items m n low up next over_rows over_moves rest (inr stays) inside =
    let same : n.address ≡ m.address = omega arith in
    ap (λ rows. map (λ r. r.address) (rows ++ rows_from end s items n)) (ended_no end m n.address stays)
    ∙ rest (omega arith)
    ∙ ap (λ a. a ∷ moves s end items a) same
    ∙ ap (λ l. m.address ∷ l) (sym (moves_stay s end i items m.address (omega (arith, next)) ∙ ap (moves s end items) (next ∙ same)))

last_stands : (end : ℕ) (s : Context) (m : Machine) → m.address < end → map (λ r. r.address) (rows_from end s [] m) ≡ m.address ∷ []
unfolding rows_from
last_stands end s m low = ap (λ t. map (λ r. r.address) (cond t (row_here m ∷ []) [])) (lt-ltb m.address end low)

-- The rows from a state on begin at its location, and at each address to which the location moves.
pub stands : (end : ℕ) (s : Context) (items : List Item) (m : Machine) → first_fault s items m ≡ None → m.address < end → map (λ r. r.address) (rows_from end s items m) ≡ m.address ∷ moves s end items m.address
stands end s [] m good low =
    last_stands end s m low ∙ ap (λ l. m.address ∷ l) (sym (moves_none s end m.address))
stands end s (i ∷ items) m good low =
    let parts = parted s i items m good in
    let n = item_stepped s i m in
    ap (λ rows. map (λ r. r.address) rows) (from_more end s i items m)
    ∙ stands_by end s i items m (item_stepped s i m) low (grows s i m parts.0) (sym (location s i m))
    (λ over. past end s items (item_stepped s i m) parts.1 over) (λ over. moves_past end s items (item_stepped s i m) parts.1 over)
    (λ inside. stands end s items (item_stepped s i m) parts.1 inside)
    (cases_lt m.address (item_stepped s i m).address) (cases_lt (item_stepped s i m).address end)

-- The addresses of the rows rise.
lower : (low lower end : ℕ) (rows : List RowAt) → lower ≤ low → Ascending low end rows → Ascending lower end rows
lower low lower' end [] less up = tt
lower low lower' end (r ∷ rows) less up = (omega (arith, up.0), up.1, up.2)

pub ascends : (end : ℕ) (s : Context) (items : List Item) (m : Machine) → first_fault s items m ≡ None → Ascending m.address end (rows_from end s items m)
ascends end s [] m good = last_row end s m (λ rows. Ascending m.address end rows) (λ low. (omega arith, low, tt)) tt
ascends end s (i ∷ items) m good =
    let parts = parted s i items m good in
    let rest = ascends end s items (item_stepped s i m) parts.1 in
    subst (λ (rows : List RowAt). Ascending m.address end rows) (sym (from_more end s i items m))
    (ended_either end m (item_stepped s i m).address (λ rows. Ascending m.address end (rows ++ rows_from end s items (item_stepped s i m)))
    (λ up low. (omega arith, low, lower (item_stepped s i m).address (m.address + 1) end (rows_from end s items (item_stepped s i m)) (omega arith) rest))
    (lower (item_stepped s i m).address m.address end (rows_from end s items (item_stepped s i m)) (grows s i m parts.0) rest))

-- The single pass over an entry's instructions gives the entry's rows.
pub are_rows : (e : FdeFields) → first_fault (own_context e) (own_items e) (own_begin e) ≡ None → 0 < e.size → AreRows e (rows_from (e.start + e.size) (own_context e) (own_items e) (own_begin e))
unfolding stops row_at own_begin
are_rows e good some = record {
  at_stops = stands (e.start + e.size) (own_context e) (own_items e) (own_begin e) good (omega arith);
  in_order = ascends (e.start + e.size) (own_context e) (own_items e) (own_begin e) good;
  each = λ a low high. says (e.start + e.size) (own_context e) (own_items e) (own_begin e) a good low high;
}
