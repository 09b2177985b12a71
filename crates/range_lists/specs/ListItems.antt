-- The items of range lists: those of `.debug_rnglists` (DWARF 5, 2.17.3 and 7.25), and those of `.debug_ranges` (DWARF 4, 2.17.3), which are pairs of
-- numbers.
use Rattle.std.specs.Prelude.{ℕ, ◌-◌, ◌^◌, ◌==◌, ◌&&◌, nat_lt, if◌then◌else◌, Option, None, Some, Result, Ok, Err}
use Rattle.sym_edges.specs.Results.{◌>>=◌}
use Rattle.leb_cursor.specs.declared.fault.CursorFault.{CursorFault}
use Rattle.leb_cursor.specs.Ahead.{Ahead}
use Rattle.leb_cursor.specs.Readings.{fixed_at, uleb_at}
use Rattle.range_lists.specs.declared.item.RangeItem.{RangeItem}
use Rattle.range_lists.specs.declared.item.RangeItem.TheVariants as item
use Rattle.range_lists.specs.declared.item.ItemFault.{ItemFault}
use Rattle.range_lists.specs.declared.item.ItemFault.TheVariants as fault

-- the item that a pair of numbers in `.debug_ranges` stands for. The pair 0 and 0 ends the list. If
-- the first number has all bits set, the second is the new base. Any other pair has two offsets
-- from the base
abbrev pub item_of_pair : ℕ → ℕ → Option RangeItem
item_of_pair first second =
    if first == 0 && second == 0 then None else
    if first == 2 ^ 64 - 1 then Some (item.BaseAddress second) else
    Some (item.OffsetPair first second)

unfoldable pub pair_at : Ahead → Result (Option RangeItem × Ahead) CursorFault
pair_at c =
    fixed_at 8 c >>= λ first.
    fixed_at 8 first.1 >>= λ second.
    Ok (item_of_pair first.0 second.0, second.1)

-- a reading whose fault becomes the fault of an item
abbrev pub as_item : {A : Type 0} → Result A CursorFault → Result A ItemFault
as_item (Ok x) = Ok x
as_item (Err f) = Err (fault.Cursor f)

-- an item with one operand, and an item with two operands
abbrev pub item_with : (ℕ → RangeItem) → Result (ℕ × Ahead) CursorFault → Result (Option RangeItem × Ahead) ItemFault
item_with make operand = as_item operand >>= λ x. Ok (Some (make x.0), x.1)

abbrev pub item_with_two : (ℕ → ℕ → RangeItem) → Result (ℕ × Ahead) CursorFault → (Ahead → Result (ℕ × Ahead) CursorFault) → Result (Option RangeItem × Ahead) ItemFault
item_with_two make first second =
    as_item first >>= λ x. as_item (second x.1) >>= λ y. Ok (Some (make x.0 y.0), y.1)

-- an item of `.debug_rnglists` after its kind, whose byte is at the place `at` (DWARF 5, table 7.30): DW_RLE_end_of_list, base_addressx, startx_endx,
-- startx_length, offset_pair, base_address, start_end, start_length
unfoldable pub item_by : ℕ → ℕ → Ahead → Result (Option RangeItem × Ahead) ItemFault
item_by kind at c =
    if kind == 0 then Ok (None, c) else
    if kind == 1 then item_with item.BaseAddressx (uleb_at c) else
    if kind == 2 then item_with_two item.StartxEndx (uleb_at c) uleb_at else
    if kind == 3 then item_with_two item.StartxLength (uleb_at c) uleb_at else
    if kind == 4 then item_with_two item.OffsetPair (uleb_at c) uleb_at else
    if kind == 5 then item_with item.BaseAddress (fixed_at 8 c) else
    if kind == 6 then item_with_two item.StartEnd (fixed_at 8 c) (fixed_at 8) else
    if kind == 7 then item_with_two item.StartLength (fixed_at 8 c) uleb_at else
    Err (fault.Kind at)

-- an item of `.debug_rnglists`: its first byte is its kind
unfoldable pub rnglist_item_at : Ahead → Result (Option RangeItem × Ahead) ItemFault
rnglist_item_at c = as_item (fixed_at 1 c) >>= λ kind. item_by kind.0 c.at kind.1

-- the next item of a list, given the version of the unit; none if the list ends
unfoldable pub item_at : ℕ → Ahead → Result (Option RangeItem × Ahead) ItemFault
item_at version c = if nat_lt version 5 then as_item (pair_at c) else rnglist_item_at c
