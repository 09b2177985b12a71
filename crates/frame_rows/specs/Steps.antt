-- What each call frame instruction does (DWARF 5, section 6.4.2), and where it is not allowed.
use Rattle.std.specs.Prelude.{ℕ, ℤ, ◌+◌, ◌*◌, ◌^◌, ◌==◌, ◌&&◌, ◌||◌, true, false, not, nat_lt, nat_le, Bool, if◌then◌else◌, List, [], ◌∷◌, Option, Some, None, is_some, slice_set}
use Rattle.std.specs.List.{slice_index_or}
use Rattle.std.specs.Option.{option_or}
use Rattle.sym_edges.specs.Results.{unless}
use Rattle.std.specs.Int.{w64, cast_signed, int_wrapping_mul}
use Rattle.sym_edges.specs.declared.reason.Reason.{Reason}
use Rattle.sym_edges.specs.declared.reason.Reason.TheVariants as reason
use Rattle.frame_rows.specs.declared.row.Rule.{Rule}
use Rattle.frame_rows.specs.declared.row.Rule.TheVariants as rule
use Rattle.frame_rows.specs.declared.row.CfaRule.{CfaRule}
use Rattle.frame_rows.specs.declared.row.CfaRule.TheVariants as cfa
use Rattle.frame_rows.specs.declared.row.Row.{Row}
use Rattle.expr_steps.specs.declared.place.Place.{Place}
use Rattle.expr_steps.specs.Places.{bytes_at}
use Rattle.expr_steps.specs.Standing.{standing}
use Rattle.frame_rows.specs.declared.instruction.Block.{Block}
use Rattle.frame_rows.specs.declared.instruction.Instruction.{Instruction}
use Rattle.frame_rows.specs.declared.instruction.Instruction.TheVariants.{SetLoc, AdvanceLoc, DefCfa, DefCfaSf, DefCfaRegister, DefCfaOffset, DefCfaOffsetSf, DefCfaExpression, Undefined, SameValue, Offset, OffsetExtendedSf, ValOffset, ValOffsetSf, Register, Expression, ValExpression, Restore, RememberState, RestoreState, Nop}
use Rattle.frame_rows.specs.Machine.{Machine}
use Rattle.frame_rows.specs.Context.{Context}

-- the row has a CFA rule
abbrev pub has_cfa : Row → Bool
has_cfa row = is_some row.cfa

-- the row with another CFA rule
unfoldable pub put_cfa : ℕ → ℤ → Row → Row
put_cfa register offset row = record { cfa = Some (cfa.Base register offset); rules = row.rules }

unfoldable pub put_cfa_expr : Place → Row → Row
put_cfa_expr place row = record { cfa = Some (cfa.Expr place); rules = row.rules }

-- the CFA rule with another register, and the CFA rule with another offset, if the rule is a register and an offset
abbrev pub cfa_register : ℕ → Option CfaRule → Option CfaRule
cfa_register register None = None
cfa_register register (Some (cfa.Base old offset)) = Some (cfa.Base register offset)
cfa_register register (Some (cfa.Expr place)) = Some (cfa.Expr place)

abbrev pub cfa_offset : ℤ → Option CfaRule → Option CfaRule
cfa_offset offset None = None
cfa_offset offset (Some (cfa.Base register old)) = Some (cfa.Base register offset)
cfa_offset offset (Some (cfa.Expr place)) = Some (cfa.Expr place)

-- the CFA rule is a register and an offset
abbrev pub is_base : Option CfaRule → Bool
is_base None = false
is_base (Some (cfa.Base register offset)) = true
is_base (Some (cfa.Expr place)) = false

unfoldable pub put_register : ℕ → Row → Row
put_register register row = record { cfa = cfa_register register row.cfa; rules = row.rules }

unfoldable pub put_offset : ℤ → Row → Row
put_offset offset row = record { cfa = cfa_offset offset row.cfa; rules = row.rules }

-- the row with another rule for a column; columns above 16 are ignored
unfoldable pub put_rule : ℕ → Rule → Row → Row
put_rule column new row = if nat_lt column 17 then record { cfa = row.cfa; rules = slice_set row.rules column new } else row

-- an offset that is not factored, and the product of a factored offset and the data alignment
-- factor; both are taken modulo 2^64, as an i64
abbrev pub plain : ℕ → ℤ
plain offset = cast_signed w64 offset

abbrev pub scaled : Context → ℤ → ℤ
scaled s factored = int_wrapping_mul w64 factored s.data_align

-- the place of an expression, in the entry's own run of instructions or in that of its CIE
abbrev pub place_of_block : Context → Block → Place
place_of_block s block = record { own = is_some s.initial; start = block.start; len = block.len }

-- whether rule text can express the expression at a place of the run; `over_cfa` says that the
-- evaluation may begin with the CFA on the stack (DWARF 5, 6.4.2.2 and 6.4.2.3). The start and the
-- length of a place must each fit into four bytes
unfoldable pub can_say : Bool → Context → Block → Bool
can_say over_cfa s block =
    nat_lt block.start (2 ^ 32) && (nat_lt block.len (2 ^ 32) && is_some (standing over_cfa (bytes_at (place_of_block s block) s.run s.run)))

abbrev pub expr_fault : Bool → Context → Block → Option Reason
expr_fault over_cfa s block = unless (can_say over_cfa s block) reason.Expression

-- the reason against the expression of a column's rule, if there is one; columns above 16 are
-- ignored
abbrev pub column_expr_fault : Context → ℕ → Block → Option Reason
column_expr_fault s column block = unless (nat_lt 16 column || can_say true s block) reason.Expression

-- the rule that the initial instructions gave a column
abbrev pub rule_behind : Option Row → ℕ → Rule
rule_behind None column = rule.Rest
rule_behind (Some initial) column = slice_index_or initial.rules column rule.Rest

-- the state at another location, and the state with its row changed
abbrev pub moved : ℕ → Machine → Machine
moved address m = record { address = address; row = m.row; stack = m.stack }

abbrev pub on_row : (Row → Row) → Machine → Machine
on_row change m = record { address = m.address; row = change m.row; stack = m.stack }

-- the top of the row stack, and the rows under it
abbrev pub top_or : Row → List Row → Row
top_or row [] = row
top_or row (top ∷ rows) = top

abbrev pub under : List Row → List Row
under [] = []
under (top ∷ rows) = rows

-- some row is remembered
abbrev pub has_remembered : List Row → Bool
has_remembered [] = false
has_remembered (top ∷ rows) = true

-- the effects that instructions may have
pub data Effect : Type 0 where
  -- the location moves to an address, or by a distance
  MovesTo : ℕ → Effect
  MovesBy : ℕ → Effect
  -- the CFA's rule becomes a register and an offset; it becomes an expression, unless there is a
  -- reason against that; its register changes; its offset changes
  DefinesCfa : ℕ → ℤ → Effect
  DefinesCfaExpr : Place → Option Reason → Effect
  ChangesRegister : ℕ → Effect
  ChangesOffset : ℤ → Effect
  -- a column gets a rule, unless there is a reason against it
  PutsRule : ℕ → Rule → Option Reason → Effect
  -- the row is remembered, or the row that was remembered last is restored
  Remembers : Effect
  TakesBack : Effect
  DoesNothing : Effect

abbrev pub effect : Context → Instruction → Effect
-- row creation (6.4.2.1)
effect s (SetLoc address) = MovesTo address
effect s (AdvanceLoc delta) = MovesBy (delta * s.code_align)
-- CFA definition (6.4.2.2)
effect s (DefCfa register offset) = DefinesCfa register (plain offset)
effect s (DefCfaSf register factored) = DefinesCfa register (scaled s factored)
effect s (DefCfaRegister register) = ChangesRegister register
effect s (DefCfaOffset offset) = ChangesOffset (plain offset)
effect s (DefCfaOffsetSf factored) = ChangesOffset (scaled s factored)
effect s (DefCfaExpression block) = DefinesCfaExpr (place_of_block s block) (expr_fault false s block)
-- register rules (6.4.2.3); the return address is no register, and a register that has a column's value must be one of the sixteen
effect s (Undefined column) = PutsRule column rule.Undefined None
effect s (SameValue column) = PutsRule column rule.Same (unless (not (column == 16)) reason.Register)
effect s (Offset column factored) = PutsRule column (rule.Offset (scaled s (plain factored))) None
effect s (OffsetExtendedSf column factored) = PutsRule column (rule.Offset (scaled s factored)) None
effect s (ValOffset column factored) = PutsRule column (rule.ValOffset (scaled s (plain factored))) None
effect s (ValOffsetSf column factored) = PutsRule column (rule.ValOffset (scaled s factored)) None
effect s (Register column register) = PutsRule column (rule.Register register) (unless (nat_lt 16 column || nat_lt register 16) reason.Register)
effect s (Expression column block) = PutsRule column (rule.Expr true (place_of_block s block)) (column_expr_fault s column block)
effect s (ValExpression column block) = PutsRule column (rule.Expr false (place_of_block s block)) (column_expr_fault s column block)
effect s (Restore column) = PutsRule column (rule_behind s.initial column) (unless (is_some s.initial) reason.State)
-- row state (6.4.2.4)
effect s RememberState = Remembers
effect s RestoreState = TakesBack
-- padding (6.4.2.5)
effect s Nop = DoesNothing

-- the state after an effect
abbrev pub done : Effect → Machine → Machine
done (MovesTo address) m = moved address m
done (MovesBy distance) m = moved (m.address + distance) m
done (DefinesCfa register offset) m = on_row (put_cfa register offset) m
done (DefinesCfaExpr place why) m = on_row (put_cfa_expr place) m
done (ChangesRegister register) m = on_row (put_register register) m
done (ChangesOffset offset) m = on_row (put_offset offset) m
done (PutsRule column new why) m = on_row (put_rule column new) m
done Remembers m = record { address = m.address; row = m.row; stack = m.row ∷ m.stack }
done TakesBack m = record { address = m.address; row = top_or m.row m.stack; stack = under m.stack }
done DoesNothing m = m

-- a location instruction is not allowed in a CIE, and the location must not fall and must stay below 2^64
abbrev pub move_fault : Context → ℕ → ℕ → Option Reason
move_fault s before after = unless (is_some s.initial && (nat_le before after && nat_lt after (2 ^ 64))) reason.Range

-- the CFA's register must be one of the sixteen; the register or the offset alone can be changed only if the CFA rule is a register and an offset
abbrev pub register_fault : ℕ → Option Reason
register_fault register = unless (nat_lt register 16) reason.Register

abbrev pub part_fault : Machine → Option Reason
part_fault m = unless (is_base m.row.cfa) reason.State

-- why an effect is refused; of several reasons, the first in the order of `Reason`
abbrev pub effect_fault : Context → Effect → Machine → Option Reason
effect_fault s (MovesTo address) m = move_fault s m.address address
effect_fault s (MovesBy distance) m = move_fault s m.address (m.address + distance)
effect_fault s (DefinesCfa register offset) m = register_fault register
effect_fault s (DefinesCfaExpr place why) m = why
effect_fault s (ChangesRegister register) m = option_or (register_fault register) (part_fault m)
effect_fault s (ChangesOffset offset) m = part_fault m
effect_fault s (PutsRule column new why) m = why
effect_fault s Remembers m = None
effect_fault s TakesBack m = unless (has_remembered m.stack) reason.State
effect_fault s DoesNothing m = None

-- the state after an instruction, and the reason why the instruction is refused, if there is one
unfoldable pub stepped : Context → Instruction → Machine → Machine
stepped s i m = done (effect s i) m

unfoldable pub step_fault : Context → Instruction → Machine → Option Reason
step_fault s i m = effect_fault s (effect s i) m
