-- Entries and rows for the worked examples.
use Rattle.std.proofs.Common.{ℕ, ◌-◌, ℤ, negsuc, true, false, List, [], ◌∷◌, map, replicate, Option, None, Some, Result, Ok, Err}
use Prim.Native.String.{String}
use Rattle.std.specs.Prelude.{⊤, slice_set}
use Rattle.sym_edges.specs.declared.reason.Reason.{Reason}
use Rattle.frame_entries.specs.FdeFields.{FdeFields}
use Rattle.frame_rows.specs.declared.row.Rule.{Rule}
use Rattle.frame_rows.specs.declared.row.Rule.TheVariants as rule
use Rattle.frame_rows.specs.declared.row.CfaRule.TheVariants as cfa
use Rattle.frame_rows.specs.declared.row.Row.{Row}
use Rattle.expr_steps.specs.declared.place.Place.{Place}
use Rattle.frame_rows.specs.Rows.{stops, row_at, rows_fault}
use Rattle.sym_edges.proofs.Hex.{hex}
use Rattle.frame_rows.proofs.Computing.{frame_rows_computes}

abbrev pub minus : ℕ → ℤ
minus n = negsuc (n - 1)

-- A row with a CFA rule, and with rules for some columns.
unfoldable pub put : List (ℕ × Rule) → List Rule
put [] = replicate 17 rule.Rest
put (given ∷ rules) = slice_set (put rules) given.0 given.1

unfoldable pub row : ℕ → ℤ → List (ℕ × Rule) → Row
unfolding put
row register offset rules = record { cfa = Some (cfa.Base register offset); rules = put rules }

-- A row whose CFA rule is an expression, and the place of an expression in the entry's own
-- instructions or in those of its CIE.
unfoldable pub row_by : Place → List (ℕ × Rule) → Row
unfolding put
row_by place rules = record { cfa = Some (cfa.Expr place); rules = put rules }

abbrev pub in_own : ℕ → ℕ → Place
in_own start len = record { own = true; start = start; len = len }

abbrev pub in_cie : ℕ → ℕ → Place
in_cie start len = record { own = false; start = start; len = len }

-- An entry with data alignment factor -8, whose pointers have four bytes and are relative to their
-- place. Its own instructions are at address 2029.
unfoldable pub factored : ℕ → ℕ → ℕ → String → String → FdeFields
unfolding hex
factored factor start size initial own = record {
  cie = 0;
  start = start;
  size = size;
  code_align = factor;
  data_align = minus 8;
  encoding = 0x1b;
  initial_instructions = hex initial;
  instructions = hex own;
  instructions_address = 0x2029;
}

abbrev pub entry : ℕ → ℕ → String → String → FdeFields
entry start size initial own = factored 1 start size initial own

-- An entry at 1000 whose initial instructions give the state at a call: the CFA is rsp + 8, and the
-- return address is at the CFA - 8.
abbrev pub called : ℕ → String → FdeFields
called size own = entry 0x1000 size "0c0708 9001 0000" own

abbrev pub saved_return : ℕ × Rule
saved_return = (16, rule.Offset (minus 8))

-- The rows of an entry, or the reason for which it has none.
abbrev pub unless_fault : Option Reason → List (ℕ × Row) → Result (List (ℕ × Row)) Reason
unless_fault None found = Ok found
unless_fault (Some why) found = Err why

unfoldable pub rows : FdeFields → Result (List (ℕ × Row)) Reason
rows e = unless_fault (rows_fault e) (map {B = ℕ × Row} (λ a. (a, row_at e a)) (stops e))

unfoldable pub entries : ⊤
unfolding frame_rows_computes put row row_by factored rows
entries = tt
