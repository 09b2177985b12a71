-- The records of changes are inside the INIT of their range, and their addresses rise; for the
-- lemmas of KeptLemmas.
use Rattle.std.proofs.Common.{◌≡◌, ℕ, zero, suc, ◌+◌, ◌-◌, ◌<◌, ◌≤◌, ◌||◌, Bool, true, false, cond, List, [], ◌∷◌, ◌++◌, refl, ap, sym, ◌∙◌, arith, append_assoc, eq-eqb, subst}
use Rattle.std.specs.List.{flat_map, range_with_len}
use Rattle.frame_rows.specs.declared.row.Row.{Row}
use Rattle.frame_rows.specs.Rows.{row_at}
use Rattle.frame_entries.specs.FdeFields.{FdeFields}
use Rattle.sym_records.specs.declared.line.SymLine.{SymLine}
use Rattle.sym_records.specs.declared.line.SymLine.TheVariants.{Init}
use Rattle.sym_rules.specs.declared.rules.RuleText.{RuleText}
use Rattle.rule_postfix.specs.RowRules.{some_becomes_unspecified, row_rules, changed_rules}
use Rattle.rule_postfix.specs.FrameLines.{is_cut, first_cut, change, records_at, frame_lines}
use Rattle.rule_postfix.specs.Written.{entry_lines, written_lines}
use Rattle.sym_meaning.specs.Inits.{AreNested}
use Rattle.rule_postfix.proofs.LinesLemmas.{line_of}
use Rattle.rule_postfix.proofs.CoveringLemmas.{AreAbove, cut_above, first_by}

-- Records that are nested after any record.
pub record NestedAlways (lines : List SymLine) : Type 0 where
  pub at : (last end : ℕ) → AreNested last end lines

-- The record of one address, before records that are nested after it.
nested_line : (cut : Bool) (b c base last end : ℕ) (row rules : List RuleText) (lines : List SymLine) → base ≤ b → last + base < b → b < c → end + base ≡ cond cut b c →
    ((l e : ℕ) → l + base < b + 1 → e + base ≡ c → AreNested l e lines) → AreNested last end (cond cut (Init (b - base) (c - b) row ∷ []) (change (b - base) rules) ++ lines)
nested_line true b c base last end row rules lines le above below is more = (omega (arith, below), more (b - base) (b - base + (c - b)) (omega (arith, le)) (omega (arith, le, below)))
nested_line false b c base last end row [] lines le above below is more = more last end (omega (arith, above)) is
nested_line false b c base last end row (r ∷ rules) lines le above below is more = (omega (arith, above), (omega (arith, is, below, le), more (b - base) end (omega (arith, le)) is))

-- The records from an address on.
nested_from : (fde : FdeFields) (row : ℕ → Row) (start base end b n last stop : ℕ) (lines : List SymLine) → end ≡ b + n → base ≤ b → last + base < b → stop + base ≡ first_cut row start b n → NestedAlways lines → AreNested last stop (flat_map (records_at fde row start end base) (range_with_len b n) ++ lines)
nested_from fde row start base end b zero last stop lines size le above is always = always.at last stop
nested_from fde row start base end b (suc n) last stop lines size le above is always =
    let c : ℕ = first_cut row start (b + 1) n in
    let cut : Bool = is_cut row start b in
    let rest : List SymLine = flat_map (records_at fde row start end base) (range_with_len (b + 1) n) in
    let line : records_at fde row start end base b ≡ cond cut (Init (b - base) (c - b) (row_rules fde (row b)) ∷ []) (change (b - base) (changed_rules fde (row (b - 1)) (row b))) = line_of fde row start end base b n (row (b - 1)) (row b) cut (omega (arith, size)) refl refl refl in
    let P : List SymLine → Type 0 = λ ls. AreNested last stop ls in
    subst P (sym (ap (λ ls. (ls ++ rest) ++ lines) line ∙ append_assoc (cond cut (Init (b - base) (c - b) (row_rules fde (row b)) ∷ []) (change (b - base) (changed_rules fde (row (b - 1)) (row b)))) rest lines))
    (nested_line cut b c base last stop (row_rules fde (row b)) (changed_rules fde (row (b - 1)) (row b)) (rest ++ lines) le above (omega (arith, cut_above row start (b + 1) n)) (is ∙ first_by row start b n)
    (λ l e under at. nested_from fde row start base end (b + 1) n l e lines (omega (arith, size)) (omega (arith, le)) under at always))

pub starts_cut : (row : ℕ → Row) (start : ℕ) → is_cut row start start ≡ true
unfolding is_cut
starts_cut row start = ap (λ t. t || some_becomes_unspecified (row (start - 1)) (row start)) (eq-eqb start start refl)

-- The records of a range begin with an INIT.
nested_range : (fde : FdeFields) (row : ℕ → Row) (start base n : ℕ) (lines : List SymLine) → base ≤ start → NestedAlways lines → NestedAlways (frame_lines fde row start n base ++ lines)
unfolding frame_lines
nested_range fde row start base zero lines le always = always
nested_range fde row start base (suc n) lines le always = record {
  at = λ last stop.
      let end : ℕ = start + suc n in
      let c : ℕ = first_cut row start (start + 1) n in
      let rest : List SymLine = flat_map (records_at fde row start end base) (range_with_len (start + 1) n) in
      let line : records_at fde row start end base start ≡ Init (start - base) (c - start) (row_rules fde (row start)) ∷ [] = line_of fde row start end base start n (row (start - 1)) (row start) true (omega arith) refl refl (starts_cut row start) in
      let P : List SymLine → Type 0 = λ ls. AreNested last stop ls in
      subst P (sym (ap (λ ls. (ls ++ rest) ++ lines) line ∙ append_assoc (Init (start - base) (c - start) (row_rules fde (row start)) ∷ []) rest lines)) (
        omega (arith, cut_above row start (start + 1) n),
        nested_from fde row start base end (start + 1) n (start - base) (start - base + (c - start)) lines (omega arith) (omega (arith, le)) (omega (arith, le)) (omega (arith, le, cut_above row start (start + 1) n)) always,
      );
}

nested_none : NestedAlways []
nested_none = record { at = λ last end. tt }

-- The records of entries above the base.
pub written_nested : (base : ℕ) (entries : List FdeFields) → AreAbove base entries → NestedAlways (written_lines base entries)
unfolding written_lines entry_lines AreAbove
written_nested base [] above = nested_none
written_nested base (e ∷ entries) above = nested_range e (row_at e) e.start base e.size (written_lines base entries) above.0 (written_nested base entries above.1)
