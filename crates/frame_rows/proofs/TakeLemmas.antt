-- A row that takes over some columns of another row, for `follow`.
use Rattle.std.proofs.Common.{◌≡◌, ◌≢◌, inl, inr, ℕ, ◌+◌, ◌<◌, ◌≤◌, List, length, min, get_or, set, ap, sym, ◌∙◌, arith, get_or-set_other}
use Rattle.std.proofs.lemmas.Bool.{cases_lt}
use Rattle.std.proofs.lemmas.Grind.{get_or-set_at}
use Rattle.std.proofs.lemmas.List.{ext_get_or}
use Rattle.frame_rows.specs.declared.row.Rule.{Rule}
use Rattle.frame_rows.specs.declared.row.Rule.TheVariants as rule
use Rattle.frame_rows.specs.declared.row.Row.{Row}
use Rattle.frame_rows.specs.declared.columns.Columns.{Columns}
use Rattle.frame_rows.specs.Columns.{StayOutside}

-- The columns below `at` have been taken over, and the columns from `end` on are equal.
pub record Taking (at end : ℕ) (rules to : List Rule) : Type 0 where
  pub below : (k : ℕ) → k < at → get_or rules k rule.Rest ≡ get_or to k rule.Rest
  pub above : (k : ℕ) → end ≤ k → k < 17 → get_or rules k rule.Rest ≡ get_or to k rule.Rest

pub none_taken : (columns : Columns) (before to : Row) (end : ℕ) → StayOutside columns before to → end ≡ min columns.end 17 → Taking columns.first end before.rules to.rules
none_taken columns before to end so is = record {
  below = λ k low. so.below k low;
  above = λ k past low. so.above k (omega arith) low;
}

pub one_taken : (at end : ℕ) (rules to : List Rule) (new : Rule) → Taking at end rules to → at < end → at < length rules → new ≡ get_or to at rule.Rest → Taking (at + 1) end (set rules at new) to
one_taken at end rules to new so low_at inside is = record {
  below = λ k low.
      elim (cases_lt k at) [
        | inl before ↦ (let other : k ≢ at = omega arith in get_or-set_other rules at k new rule.Rest other ∙ so.below k before)
        | inr past ↦ (let here : k ≡ at = omega arith in get_or-set_at rules at k new rule.Rest here inside ∙ is ∙ ap (λ i. get_or to i rule.Rest) (sym here))
      ];
  above = λ k past low. (let other : k ≢ at = omega arith in get_or-set_other rules at k new rule.Rest other ∙ so.above k past low);
}

row_by : (cfa other : _) (rules to : List Rule) → cfa ≡ other → rules ≡ to → (let r : Row = record { cfa = cfa; rules = rules } in r) ≡ (let r : Row = record { cfa = other; rules = to } in r)
row_by cfa other rules to first second = ap (λ c. (let r : Row = record { cfa = c; rules = rules } in r)) first ∙ ap (λ l. (let r : Row = record { cfa = other; rules = l } in r)) second

pub all_taken : (at end : ℕ) (row to : Row) → length row.rules ≡ 17 → length to.rules ≡ 17 → row.cfa ≡ to.cfa → Taking at end row.rules to.rules → end ≤ at → row ≡ to
all_taken at end row to many more cfa so past =
    row_by row.cfa to.cfa row.rules to.rules cfa
    (ext_get_or rule.Rest row.rules to.rules (many ∙ sym more) (λ k low.
    elim (cases_lt k at) [
      | inl below ↦ so.below k below
      | inr above ↦ so.above k (omega arith) (omega (arith, low, many))
    ]))
