-- The pass over the rows, as a recursion.
use Rattle.std.specs.Prelude.{ℕ, ◌-◌, if◌then◌else◌, List, [], ◌∷◌, ◌++◌}
use Rattle.frame_entries.specs.FdeFields.{FdeFields}
use Rattle.frame_rows.specs.declared.row.Row.{Row}
use Rattle.frame_rows.specs.declared.row.RowAt.{RowAt}
use Rattle.sym_records.specs.declared.line.SymLine.{SymLine}
use Rattle.sym_records.specs.declared.line.SymLine.TheVariants.{Init}
use Rattle.sym_rules.specs.declared.rules.RuleText.{RuleText}
use Rattle.rule_postfix.specs.RowRules.{row_rules, changed_rules, some_becomes_unspecified}
use Rattle.rule_postfix.specs.FrameLines.{change}

-- the records so far, and the INIT whose end is not known yet: its start, its rules and the changes in it
pub record Open : Type 0 where
  pub base : ℕ
  pub lines : List SymLine
  pub start : ℕ
  pub rules : List RuleText
  pub changes : List SymLine

-- an INIT was begun at a row
abbrev pub opened : FdeFields → ℕ → List SymLine → ℕ → Row → Open
opened e base lines start row = record { base = base; lines = lines; start = start; rules = row_rules e row; changes = [] }

-- the records after the open INIT was ended at `end`
abbrev pub closed : Open → ℕ → List SymLine
closed o end = o.lines ++ Init (o.start - o.base) (end - o.start) o.rules ∷ o.changes

-- the changes at a row were added to the open INIT
abbrev pub with_changes : ℕ → List RuleText → Open → Open
with_changes b rules o = record {
  base = o.base;
  lines = o.lines;
  start = o.start;
  rules = o.rules;
  changes = o.changes ++ change (b - o.base) rules;
}

-- the row that follows `before` was added
unfoldable pub with_row : FdeFields → ℕ → Row → Row → Open → Open
with_row e b before after o =
    if some_becomes_unspecified before after then opened e o.base (closed o b) b after
    else with_changes b (changed_rules e before after) o

-- the rows that follow `before` were added
unfoldable pub with_rows : FdeFields → Row → List RowAt → Open → Open
with_rows e before [] o = o
with_rows e before (r ∷ rows) o = with_rows e r.row rows (with_row e r.address before r.row o)

-- the records of rows, the last of which ends at `end`
unfoldable pub lines_of : FdeFields → ℕ → ℕ → List RowAt → List SymLine
lines_of e base end [] = []
lines_of e base end (r ∷ rows) = closed (with_rows e r.row rows (opened e base [] r.address r.row)) end
