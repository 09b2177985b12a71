-- Which columns instructions leave unchanged, for `run_to_next_row`.
use Rattle.std.proofs.Common.{◌≡◌, ◌≢◌, ℕ, ◌+◌, min, max, get_or, set, refl, ap, sym, ◌∙◌, arith, subst, inl, inr, get_or-set_other}
use Rattle.std.proofs.lemmas.Bool.{cases_lt, lt-ltb, le-ltb}
use Rattle.frame_rows.specs.declared.row.Rule.{Rule}
use Rattle.frame_rows.specs.declared.row.Rule.TheVariants as rule
use Rattle.frame_rows.specs.declared.row.Row.{Row}
use Rattle.frame_rows.specs.declared.columns.Columns.{Columns}
use Rattle.frame_rows.specs.Context.{Context}
use Rattle.frame_rows.specs.declared.instruction.Instruction.{Instruction}
use Rattle.frame_rows.specs.Machine.{Machine}
use Rattle.frame_rows.specs.Steps.{Effect, MovesTo, MovesBy, DefinesCfa, DefinesCfaExpr, ChangesRegister, ChangesOffset, PutsRule, Remembers, TakesBack, DoesNothing, effect, done, stepped, put_rule, put_cfa, put_cfa_expr, put_register, put_offset}
use Rattle.frame_rows.specs.Columns.{StayOutside}
use Rattle.frame_rows.specs.internal.Touched.{no_columns, one_column, touched}

-- Two rows with the same rules.
alike : (columns : Columns) (before after : Row) → before.rules ≡ after.rules → StayOutside columns before after
alike columns before after same = record {
  below = λ k low. ap (λ rules. get_or rules k rule.Rest) same;
  above = λ k past low. ap (λ rules. get_or rules k rule.Rest) same;
}

-- A row in which one column gets a new rule.
one_by : (column : ℕ) (new : Rule) (row : Row) → StayOutside (record { first = column; end = column + 1 }) row (record { cfa = row.cfa; rules = set row.rules column new })
one_by column new row = record {
  below = λ k low. (let other : k ≢ column = omega arith in sym (get_or-set_other row.rules column k new rule.Rest other));
  above = λ k past low. (let other : k ≢ column = omega arith in sym (get_or-set_other row.rules column k new rule.Rest other));
}

one_stays : (column : ℕ) (new : Rule) (row : Row) → StayOutside (one_column column) row (put_rule column new row)
unfolding put_rule
one_stays column new row =
    elim (cases_lt column 17) [
      | inl below ↦ rw (lt-ltb column 17 below) (one_by column new row)
      | inr past ↦ rw (le-ltb column 17 past) (alike no_columns row row refl)
    ]

effect_stays : (e : Effect) (m : Machine) → StayOutside (touched e) m.row (done e m).row
unfolding put_cfa put_cfa_expr put_register put_offset
effect_stays (MovesTo address) m = alike no_columns m.row m.row refl
effect_stays (MovesBy distance) m = alike no_columns m.row m.row refl
effect_stays (DefinesCfa register offset) m = alike no_columns m.row (put_cfa register offset m.row) refl
effect_stays (DefinesCfaExpr place why) m = alike no_columns m.row (put_cfa_expr place m.row) refl
effect_stays (ChangesRegister register) m = alike no_columns m.row (put_register register m.row) refl
effect_stays (ChangesOffset offset) m = alike no_columns m.row (put_offset offset m.row) refl
effect_stays (PutsRule column new why) m = one_stays column new m.row
effect_stays Remembers m = alike no_columns m.row m.row refl
effect_stays TakesBack m = record { below = λ k low. absurd (omega arith); above = λ k past low. absurd (omega arith) }
effect_stays DoesNothing m = alike no_columns m.row m.row refl

touched_stay : (s : Context) (i : Instruction) (m : Machine) → StayOutside (touched (effect s i)) m.row (stepped s i m).row
unfolding stepped
touched_stay s i m = effect_stays (effect s i) m

-- Two changes, one after the other.
stay_both : (first second : Columns) (a b c : Row) → StayOutside first a b → StayOutside second b c → StayOutside (record { first = min first.first second.first; end = max first.end second.end }) a c
stay_both first second a b c one two = record {
  below = λ k low. one.below k (omega arith) ∙ two.below k (omega arith);
  above = λ k past low. one.above k (omega arith) low ∙ two.above k (omega arith) low;
}

pub stay_on : (begin : Row) (m n : Machine) (s : Context) (i : Instruction) (columns more other : Columns) → StayOutside columns begin m.row → other ≡ touched (effect s i) → n ≡ stepped s i m → more ≡ record { first = min columns.first other.first; end = max columns.end other.end } → StayOutside more begin n.row
stay_on begin m n s i columns more other so which is both =
    let P : Columns → Type 0 = λ c. StayOutside c begin n.row in
    let Q : Row → Type 0 = λ r. StayOutside (record { first = min columns.first (touched (effect s i)).first; end = max columns.end (touched (effect s i)).end }) begin r in
    let here : StayOutside (record { first = min columns.first (touched (effect s i)).first; end = max columns.end (touched (effect s i)).end }) begin n.row = subst Q (sym (ap (λ (k : Machine). k.row) is)) (stay_both columns (touched (effect s i)) begin m.row (stepped s i m).row so (touched_stay s i m)) in
    subst P (sym (both ∙ ap (λ (c : Columns). (let d : Columns = record { first = min columns.first c.first; end = max columns.end c.end } in d)) which)) here
