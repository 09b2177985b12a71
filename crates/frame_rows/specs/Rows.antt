-- The row at an address of an entry, the addresses at which rows begin, and the reason for which an entry has no rows
-- (DWARF 5, sections 6.4.2 and 6.4.3).
use Rattle.std.specs.Prelude.{◌≡◌, ℕ, ◌+◌, ◌<◌, ◌≤◌, ◌&&◌, not, nat_lt, nat_le, Bool, true, false, if◌then◌else◌, List, [], ◌∷◌, map, replicate, Option, Some, None, is_some, Ok, Err}
use Rattle.std.specs.List.{list_any, range_with_len, slice_index_or}
use Rattle.sym_edges.specs.declared.reason.Reason.{Reason}
use Rattle.sym_edges.specs.declared.reason.Reason.TheVariants as reason
use Rattle.sym_edges.specs.Integers.{fits_i64}
use Rattle.frame_entries.specs.FdeFields.{FdeFields}
use Rattle.frame_rows.specs.declared.row.Rule.{Rule}
use Rattle.frame_rows.specs.declared.row.Rule.TheVariants as rule
use Rattle.frame_rows.specs.declared.row.CfaRule.{CfaRule}
use Rattle.frame_rows.specs.declared.row.CfaRule.TheVariants as cfa
use Rattle.frame_rows.specs.declared.row.Row.{Row}
use Rattle.frame_rows.specs.declared.row.RowAt.{RowAt}
use Rattle.frame_rows.specs.declared.machine.CieContext.{CieContext}
use Rattle.frame_rows.specs.Instructions.{Item, instructions}
use Rattle.frame_rows.specs.Machine.{Machine}
use Rattle.frame_rows.specs.Context.{Context, with_run}
use Rattle.expr_steps.specs.declared.place.Place.{Place}
use Rattle.expr_steps.specs.Places.{bytes_at}
use Rattle.expr_steps.specs.Standing.{standing}
use Rattle.sym_edges.specs.Results.{unless}
use Rattle.std.specs.Option.{option_or}
use Rattle.frame_rows.specs.Steps.{Effect, MovesTo, MovesBy, effect, has_cfa, stepped, step_fault}

-- an instruction that cannot be read changes nothing, and is refused for the reason why it cannot be read
abbrev pub item_stepped : Context → Item → Machine → Machine
item_stepped s (Ok instruction) m = stepped s instruction m
item_stepped s (Err why) m = m

abbrev pub item_fault : Context → Item → Machine → Option Reason
item_fault s (Ok instruction) m = step_fault s instruction m
item_fault s (Err why) m = Some why

-- the state after all instructions
unfoldable pub all_stepped : Context → List Item → Machine → Machine
all_stepped s [] m = m
all_stepped s (i ∷ items) m = all_stepped s items (item_stepped s i m)

-- the reason against the first bad instruction
unfoldable pub first_fault : Context → List Item → Machine → Option Reason
first_fault s [] m = None
first_fault s (i ∷ items) m = option_or (item_fault s i m) (first_fault s items (item_stepped s i m))

-- the state after all instructions up to the first one that begins at a location above the address
-- `a`; an instruction begins at the location that those before it left
unfoldable pub replay : Context → List Item → Machine → ℕ → Machine
replay s [] m a = m
replay s (i ∷ items) m a = if nat_le m.address a then replay s items (item_stepped s i m) a else m

-- no rule for the CFA, and the rule `Rest` for every column
unfoldable pub empty_row : Row
empty_row = record { cfa = None; rules = replicate 17 rule.Rest }

-- the initial instructions of an entry, which are those of its CIE, begin at the start of the entry's address range. No location instruction is
-- allowed among them, so the address of a pointer does not matter
unfoldable pub cie_context : FdeFields → Context
cie_context e = with_run (record { code_align = e.code_align; data_align = e.data_align; initial = None }) e.initial_instructions

unfoldable pub cie_items : FdeFields → List Item
cie_items e = instructions e.encoding 0 e.initial_instructions

unfoldable pub cie_begin : FdeFields → Machine
cie_begin e = record { address = e.start; row = empty_row; stack = [] }

unfoldable pub cie_end : FdeFields → Machine
cie_end e = all_stepped (cie_context e) (cie_items e) (cie_begin e)

-- the entry's own instructions begin with the row and the row stack that the initial instructions
-- left
unfoldable pub left_context : FdeFields → CieContext
left_context e = record { code_align = e.code_align; data_align = e.data_align; initial = Some (cie_end e).row }

unfoldable pub own_context : FdeFields → Context
own_context e = with_run (left_context e) e.instructions

unfoldable pub own_items : FdeFields → List Item
own_items e = instructions e.encoding e.instructions_address e.instructions

unfoldable pub own_begin : FdeFields → Machine
own_begin e = record { address = e.start; row = (cie_end e).row; stack = (cie_end e).stack }

-- the row at an address of the entry
unfoldable pub row_at : FdeFields → ℕ → Row
row_at e a = (replay (own_context e) (own_items e) (own_begin e) a).row

-- the location after an effect at the location `at`
abbrev pub location_after : Effect → ℕ → ℕ
location_after (MovesTo address) at = address
location_after (MovesBy distance) at = at + distance
location_after _ at = at

abbrev pub next_location : Context → Item → ℕ → ℕ
next_location s (Ok i) at = location_after (effect s i) at
next_location s (Err why) at = at

-- the addresses below `end` to which location instructions advance the location, each once
unfoldable pub moves : Context → ℕ → List Item → ℕ → List ℕ
moves s end [] at = []
moves s end (i ∷ items) at =
    if nat_lt at (next_location s i at) && nat_lt (next_location s i at) end
    then next_location s i at ∷ moves s end items (next_location s i at)
    else moves s end items (next_location s i at)

-- where rows begin: at the start of the range, and at each other address of the range to which the location moves
unfoldable pub stops : FdeFields → List ℕ
stops e = e.start ∷ moves (own_context e) (e.start + e.size) (own_items e) e.start

-- the reason against the first bad instruction; the CIE's instructions come before the entry's own
unfoldable pub instruction_fault : FdeFields → Option Reason
instruction_fault e = option_or (first_fault (cie_context e) (cie_items e) (cie_begin e)) (first_fault (own_context e) (own_items e) (own_begin e))

-- some address of the range has no CFA rule
unfoldable pub lacks_cfa : FdeFields → Bool
lacks_cfa e = list_any (λ a. not (has_cfa (row_at e a))) (range_with_len e.start e.size)

-- the reason for which an entry has no rows
unfoldable pub rows_fault : FdeFields → Option Reason
rows_fault e = option_or (instruction_fault e) (unless (not (lacks_cfa e)) reason.Cfa)

-- the last row of the list that begins at or below the address `a`
unfoldable pub last_at : List RowAt → ℕ → Option Row
last_at [] a = None
last_at (r ∷ rows) a = option_or (last_at rows a) (if nat_le r.address a then Some r.row else None)

-- the addresses of the rows rise, begin at `low` or above, and are below `end`
abbrev pub Ascending : ℕ → ℕ → List RowAt → Type 0
Ascending low end [] = Unit {0}
Ascending low end (r ∷ rows) = (low ≤ r.address) × (r.address < end) × Ascending (r.address + 1) end rows

-- the rows of an entry. Their addresses are those at which rows begin, in order. For each address
-- of the range, the last row that begins at or below it is the row at that address
pub record AreRows (e : FdeFields) (rows : List RowAt) : Type 0 where
  pub at_stops : map (λ r. r.address) rows ≡ stops e
  pub in_order : Ascending e.start (e.start + e.size) rows
  pub each : (a : ℕ) → e.start ≤ a → a < e.start + e.size → last_at rows a ≡ Some (row_at e a)

-- each address of the range has a CFA rule
pub record HasCfa (e : FdeFields) : Type 0 where
  pub everywhere : (a : ℕ) → e.start ≤ a → a < e.start + e.size → has_cfa (row_at e a) ≡ true

-- the bytes of an expression of an entry
abbrev pub expr_bytes : FdeFields → Place → List ℕ
expr_bytes e place = bytes_at place e.initial_instructions e.instructions

-- a rule of a column is sound if its register is one of the sixteen, its offset fits an i64, and
-- rule text can express its expression. The rule `Same` is not sound for the return address, which
-- is no register
abbrev pub is_sound_rule : FdeFields → ℕ → Rule → Bool
is_sound_rule e column rule.Rest = true
is_sound_rule e column rule.Undefined = true
is_sound_rule e column rule.Same = nat_lt column 16
is_sound_rule e column (rule.Offset n) = fits_i64 n
is_sound_rule e column (rule.ValOffset n) = fits_i64 n
is_sound_rule e column (rule.Register register) = nat_lt register 16
is_sound_rule e column (rule.Expr fetch place) = is_some (standing true (expr_bytes e place))

abbrev pub is_sound_cfa : FdeFields → Option CfaRule → Bool
is_sound_cfa e None = true
is_sound_cfa e (Some (cfa.Base register offset)) = nat_lt register 16 && fits_i64 offset
is_sound_cfa e (Some (cfa.Expr place)) = is_some (standing false (expr_bytes e place))

-- a row of an entry whose rules are sound
pub record IsSound (e : FdeFields) (row : Row) : Type 0 where
  pub cfa : is_sound_cfa e row.cfa ≡ true
  pub columns : (column : ℕ) → is_sound_rule e column (slice_index_or row.rules column rule.Rest) ≡ true
