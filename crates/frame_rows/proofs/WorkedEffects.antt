-- Worked examples: each instruction with the location and the row after it.
use Rattle.std.proofs.Common.{◌≡◌, ℕ, pos, List, [], ◌∷◌, Option, None, Some, refl}
use Prim.Native.String.{String}
use Rattle.std.specs.Prelude.{⊤}
use Rattle.sym_edges.specs.declared.reason.Reason.{Reason}
use Rattle.sym_edges.specs.declared.reason.Reason.TheVariants as reason
use Rattle.frame_rows.specs.declared.row.Rule.{Rule}
use Rattle.frame_rows.specs.declared.row.Rule.TheVariants as rule
use Rattle.frame_rows.specs.declared.row.Row.{Row}
use Rattle.frame_rows.specs.Context.{Context}
use Rattle.frame_rows.specs.Machine.{Machine}
use Rattle.frame_rows.specs.Instructions.{instructions}
use Rattle.frame_rows.specs.Rows.{all_stepped, first_fault}
use Rattle.sym_edges.proofs.Hex.{hex}
use Rattle.frame_rows.proofs.Entries.{minus, row, entries}

-- Before each instruction rax keeps its value, rbp is at the CFA - 16, and the return address is at
-- the CFA - 8.
unfoldable before : List (ℕ × Rule)
before = (0, rule.Same) ∷ (6, rule.Offset (minus 16)) ∷ (16, rule.Offset (minus 8)) ∷ []

-- The alignment factors are 4 and -8. The initial instructions left rbp in r5, and r13 to r15 in
-- memory.
unfoldable context : Context
unfolding row
context = record {
  code_align = 4;
  data_align = minus 8;
  initial = Some (row 7 (pos 8) ((6, rule.Register 5) ∷ (13, rule.Offset (minus 24)) ∷ (14, rule.Offset (minus 32)) ∷ (15, rule.Offset (minus 40)) ∷ []));
  run = [];
}

unfoldable machine : Machine
unfolding row before
machine = record { address = 0x1000; row = row 7 (pos 8) before; stack = row 2 (pos 80) ((1, rule.Undefined) ∷ []) ∷ [] }

-- The location and the row after the instructions.
unfoldable behind : String → ℕ × Row
unfolding hex context machine
behind text = ((all_stepped context (instructions 0 0x2029 (hex text)) machine).address, (all_stepped context (instructions 0 0x2029 (hex text)) machine).row)

-- The reason why the instructions are refused in this state.
unfoldable why : String → Option Reason
unfolding hex context machine
why text = first_fault context (instructions 0 0x2029 (hex text)) machine

unfoldable effects : ⊤
unfolding entries before context machine behind why
effects = tt

advance_loc : behind "45" ≡ (0x1014, row 7 (pos 8) before)
unfolding effects
advance_loc = refl

set_loc : behind "01 0712000000000000" ≡ (0x1207, row 7 (pos 8) before)
unfolding effects
set_loc = refl

advance_loc1 : behind "02 ff" ≡ (0x13fc, row 7 (pos 8) before)
unfolding effects
advance_loc1 = refl

advance_loc2 : behind "03 0001" ≡ (0x1400, row 7 (pos 8) before)
unfolding effects
advance_loc2 = refl

advance_loc4 : behind "04 00000100" ≡ (0x41000, row 7 (pos 8) before)
unfolding effects
advance_loc4 = refl

offset : behind "83 02" ≡ (0x1000, row 7 (pos 8) ((3, rule.Offset (minus 16)) ∷ before))
unfolding effects
offset = refl

restore : behind "c6" ≡ (0x1000, row 7 (pos 8) ((6, rule.Register 5) ∷ before))
unfolding effects
restore = refl

restore_r13 : behind "cd" ≡ (0x1000, row 7 (pos 8) ((13, rule.Offset (minus 24)) ∷ before))
unfolding effects
restore_r13 = refl

restore_r14 : behind "ce" ≡ (0x1000, row 7 (pos 8) ((14, rule.Offset (minus 32)) ∷ before))
unfolding effects
restore_r14 = refl

restore_r15 : behind "cf" ≡ (0x1000, row 7 (pos 8) ((15, rule.Offset (minus 40)) ∷ before))
unfolding effects
restore_r15 = refl

restore_extended : behind "06 00" ≡ (0x1000, row 7 (pos 8) ((0, rule.Rest) ∷ before))
unfolding effects
restore_extended = refl

restore_extended_r15 : behind "06 0f" ≡ (0x1000, row 7 (pos 8) ((15, rule.Offset (minus 40)) ∷ before))
unfolding effects
restore_extended_r15 = refl

nop : behind "00" ≡ (0x1000, row 7 (pos 8) before)
unfolding effects
nop = refl

offset_extended : behind "05 03 02" ≡ (0x1000, row 7 (pos 8) ((3, rule.Offset (minus 16)) ∷ before))
unfolding effects
offset_extended = refl

undefined : behind "07 06" ≡ (0x1000, row 7 (pos 8) ((6, rule.Undefined) ∷ before))
unfolding effects
undefined = refl

same_value : behind "08 0f" ≡ (0x1000, row 7 (pos 8) ((15, rule.Same) ∷ before))
unfolding effects
same_value = refl

register : behind "09 10 03" ≡ (0x1000, row 7 (pos 8) ((16, rule.Register 3) ∷ before))
unfolding effects
register = refl

remember_state : behind "0a" ≡ (0x1000, row 7 (pos 8) before)
unfolding effects
remember_state = refl

restore_state : behind "0b" ≡ (0x1000, row 2 (pos 80) ((1, rule.Undefined) ∷ []))
unfolding effects
restore_state = refl

def_cfa : behind "0c 06 10" ≡ (0x1000, row 6 (pos 16) before)
unfolding effects
def_cfa = refl

def_cfa_register : behind "0d 06" ≡ (0x1000, row 6 (pos 8) before)
unfolding effects
def_cfa_register = refl

def_cfa_offset : behind "0e 10" ≡ (0x1000, row 7 (pos 16) before)
unfolding effects
def_cfa_offset = refl

offset_extended_sf : behind "11 03 7e" ≡ (0x1000, row 7 (pos 8) ((3, rule.Offset (pos 16)) ∷ before))
unfolding effects
offset_extended_sf = refl

def_cfa_sf : behind "12 06 7e" ≡ (0x1000, row 6 (pos 16) before)
unfolding effects
def_cfa_sf = refl

def_cfa_offset_sf : behind "13 7d" ≡ (0x1000, row 7 (pos 24) before)
unfolding effects
def_cfa_offset_sf = refl

val_offset : behind "14 03 02" ≡ (0x1000, row 7 (pos 8) ((3, rule.ValOffset (minus 16)) ∷ before))
unfolding effects
val_offset = refl

val_offset_sf : behind "15 03 7e" ≡ (0x1000, row 7 (pos 8) ((3, rule.ValOffset (pos 16)) ∷ before))
unfolding effects
val_offset_sf = refl

GNU_args_size : behind "2e 10" ≡ (0x1000, row 7 (pos 8) before)
unfolding effects
GNU_args_size = refl

offset_of_column_17 : behind "91 02" ≡ (0x1000, row 7 (pos 8) before)
unfolding effects
offset_of_column_17 = refl

-- Reasons for registers above 15, and for locations.
cfa_register_16 : why "0d 10" ≡ Some reason.Register
unfolding effects
cfa_register_16 = refl

cfa_register_16_by_def_cfa : why "0c 10 08" ≡ Some reason.Register
unfolding effects
cfa_register_16_by_def_cfa = refl

cfa_register_17_by_def_cfa_sf : why "12 11 7f" ≡ Some reason.Register
unfolding effects
cfa_register_17_by_def_cfa_sf = refl

same_value_of_the_return_address : why "08 10" ≡ Some reason.Register
unfolding effects
same_value_of_the_return_address = refl

a_source_above_15 : why "09 03 10" ≡ Some reason.Register
unfolding effects
a_source_above_15 = refl

a_source_above_15_for_the_return_address : why "09 10 8001" ≡ Some reason.Register
unfolding effects
a_source_above_15_for_the_return_address = refl

two_rows_of_one_that_is_remembered : why "0b 0b" ≡ Some reason.State
unfolding effects
two_rows_of_one_that_is_remembered = refl

a_location_below : why "01 ff0f000000000000" ≡ Some reason.Range
unfolding effects
a_location_below = refl

an_advance_past_the_last_address : why "01 fcffffffffffffff 41" ≡ Some reason.Range
unfolding effects
an_advance_past_the_last_address = refl

the_first_bad_one_counts : why "0d10 3f" ≡ Some reason.Register
unfolding effects
the_first_bad_one_counts = refl

an_advance_to_the_last_multiple : why "01 f8ffffffffffffff 41" ≡ None
unfolding effects
an_advance_to_the_last_multiple = refl
