-- The frame records of an entry (Breakpad's symbol_files.md, "STACK CFI INIT" and "STACK CFI"), given the row at each address. Rows at neighbouring
-- addresses are compared; how the rows are made does not matter.
use Rattle.std.specs.Prelude.{ℕ, ◌+◌, ◌-◌, ◌==◌, ◌||◌, Bool, zero, suc, if◌then◌else◌, List, [], ◌∷◌}
use Rattle.std.specs.List.{flat_map, range_with_len}
use Rattle.frame_entries.specs.FdeFields.{FdeFields}
use Rattle.frame_rows.specs.declared.row.Row.{Row}
use Rattle.sym_records.specs.declared.line.SymLine.{SymLine}
use Rattle.sym_records.specs.declared.line.SymLine.TheVariants.{Init, Change}
use Rattle.sym_rules.specs.declared.rules.RuleText.{RuleText}
use Rattle.rule_postfix.specs.RowRules.{row_rules, changed_rules, some_becomes_unspecified}

-- an INIT begins at `b`: the range starts there, or a column becomes unspecified, which no rule can say
unfoldable pub is_cut : (ℕ → Row) → ℕ → ℕ → Bool
is_cut row start b = b == start || some_becomes_unspecified (row (b - 1)) (row b)

-- the first of the `n` addresses from `b` on at which an INIT begins; if there is none, the address after these
unfoldable pub first_cut : (ℕ → Row) → ℕ → ℕ → ℕ → ℕ
first_cut row start b zero = b
first_cut row start b (suc n) = if is_cut row start b then b else first_cut row start (b + 1) n

-- a record of changes, if there are any
abbrev pub change : ℕ → List RuleText → List SymLine
change address [] = []
change address (r ∷ rules) = Change address (r ∷ rules) ∷ []

-- the records at an address: if an INIT begins there, that INIT, with all rules of the row, up to the next INIT or the end of the range; otherwise
-- the changes
unfoldable pub records_at : FdeFields → (ℕ → Row) → ℕ → ℕ → ℕ → ℕ → List SymLine
records_at e row start end base b =
    if is_cut row start b
    then Init (b - base) (first_cut row start (b + 1) (end - (b + 1)) - b) (row_rules e (row b)) ∷ []
    else change (b - base) (changed_rules e (row (b - 1)) (row b))

-- the records of a range of an entry; addresses are counted from `base`
unfoldable pub frame_lines : FdeFields → (ℕ → Row) → ℕ → ℕ → ℕ → List SymLine
frame_lines e row start size base = flat_map (records_at e row start (start + size) base) (range_with_len start size)
