-- The records of sound rows are valid after any record; for the lemmas of CoveringLemmas and
-- EntryLemmas.
use Rattle.std.proofs.Common.{◌≡◌, ℕ, zero, suc, ◌+◌, ◌-◌, ◌<◌, ◌≤◌, ◌||◌, ◌^◌, Bool, true, false, cond, List, [], ◌∷◌, ◌++◌, length, None, refl, ap, sym, subst, ◌∙◌, arith, eq-eqb}
use Rattle.std.specs.List.{list_all, flat_map, range_with_len}
use Rattle.std.proofs.lemmas.Grind.{flat_map-append}
use Rattle.std.proofs.lemmas.List.{append-nil}
use Rattle.frame_entries.specs.FdeFields.{FdeFields}
use Rattle.frame_rows.specs.declared.row.Row.{Row}
use Rattle.frame_rows.specs.Steps.{has_cfa}
use Rattle.frame_rows.specs.Rows.{IsSound}
use Rattle.sym_records.specs.declared.line.SymLine.{SymLine}
use Rattle.sym_records.specs.declared.line.SymLine.TheVariants.{Init, Change}
use Rattle.sym_records.specs.declared.place.Place.{Place}
use Rattle.sym_records.specs.declared.place.Place.TheVariants.{Inside, Frame}
use Rattle.sym_rules.specs.declared.rules.RuleText.{RuleText}
use Rattle.sym_records.specs.Reading.{fits, leads}
use Rattle.rule_postfix.specs.LongRules.{is_long_rule}
use Rattle.sym_records.specs.Validity.{fields_fit, first_bad_from, place_behind}
use Rattle.rule_postfix.specs.RowRules.{some_becomes_unspecified, row_rules, changed_rules}
use Rattle.rule_postfix.specs.FrameLines.{is_cut, first_cut, change, records_at, frame_lines}
use Rattle.rule_postfix.proofs.PlainLemmas.{row_plain, changes_plain, row_most, changes_most, row_some}
use Rattle.sym_records.proofs.JoiningLemmas.{push_behind, behind_pushed}
use Rattle.rule_postfix.proofs.WideLemmas.{init_fits, change_fits}
use Rattle.rule_postfix.proofs.RulesLemmas.{range_from_more}

-- Each row of a range is sound and has a rule for the CFA.
pub record GoodRows (fde : FdeFields) (row : ℕ → Row) (start size base : ℕ) : Type 0 where
  pub sound : (a : ℕ) → IsSound fde (row a)
  pub cfa : (a : ℕ) → start ≤ a → a < start + size → has_cfa (row a) ≡ true
  pub inside : start + size < 2 ^ 64

-- Records that are valid after any record, and the place that they leave.
record Good (place : Place) (lines : List SymLine) : Type 0 where
  valid : first_bad_from 0 Inside lines ≡ None
  behind : place_behind Inside lines ≡ place

push : (place : Place) (lines : List SymLine) (s : SymLine) → Good place lines → fits place s ≡ true → leads place s ≡ Frame → fields_fit s ≡ true → Good Frame (lines ++ s ∷ [])
push place lines s good stands to fit = record {
  valid = push_behind Inside lines s good.valid (ap (λ p. fits p s) good.behind ∙ stands) fit;
  behind = behind_pushed Inside lines s ∙ ap (λ p. leads p s) good.behind ∙ to;
}

cut_by : (cut : Bool) (b c end : ℕ) → b ≤ end → c ≤ end → cond cut b c ≤ end
cut_by true b c end first second = first
cut_by false b c end first second = second

pub cut_within : (row : ℕ → Row) (start b n : ℕ) → first_cut row start b n ≤ b + n
unfolding first_cut
cut_within row start b zero = omega arith
cut_within row start b (suc n) = cut_by (is_cut row start b) b (first_cut row start (b + 1) n) (b + suc n) (omega arith) (omega (arith, cut_within row start (b + 1) n))

init_fit : (fde : FdeFields) → (row : ℕ → Row) (start size base b end : ℕ) → GoodRows fde row start size base → end ≡ start + size → start ≤ b → b < end → fields_fit (Init (b - base) (first_cut row start (b + 1) (end - (b + 1)) - b) (row_rules fde (row b))) ≡ true
init_fit fde row start size base b end rows is from below =
    init_fits (b - base) (first_cut row start (b + 1) (end - (b + 1)) - b) (row_rules fde (row b)) (omega (arith, rows.inside, is)) (omega (arith, rows.inside, is, cut_within row start (b + 1) (end - (b + 1))))
    (row_plain fde (row b) (rows.sound b)) (row_some fde (row b) (rows.sound b) (rows.cfa b from (omega (arith, is)))) (row_most fde (row b))

-- A record of changes, if there is one.
changes_good : (fde : FdeFields) → (row : ℕ → Row) (start size base b : ℕ) (rules : List RuleText) (lines : List SymLine) → GoodRows fde row start size base → b < start + size → list_all is_long_rule rules ≡ true → length rules ≤ 18 → Good Frame lines → Good Frame (lines ++ change (b - base) rules)
changes_good fde row start size base b [] lines rows below plain most good = let P : List SymLine → Type 0 = λ xs. Good Frame xs in subst P (sym (append-nil lines)) good
changes_good fde row start size base b (r ∷ rules) lines rows below plain most good =
    push Frame lines (Change (b - base) (r ∷ rules)) good refl refl (change_fits (b - base) (r ∷ rules) (omega (arith, rows.inside)) plain (omega arith) most)

next_by : (fde : FdeFields) → (row : ℕ → Row) (start size base b end : ℕ) (cut : Bool) (lines : List SymLine) → GoodRows fde row start size base → end ≡ start + size → start ≤ b → b < end → Good Frame lines →
    Good Frame (lines ++ cond cut (Init (b - base) (first_cut row start (b + 1) (end - (b + 1)) - b) (row_rules fde (row b)) ∷ []) (change (b - base) (changed_rules fde (row (b - 1)) (row b))))
next_by fde row start size base b end true lines rows is from below good =
    push Frame lines (Init (b - base) (first_cut row start (b + 1) (end - (b + 1)) - b) (row_rules fde (row b))) good refl refl (init_fit fde row start size base b end rows is from below)
next_by fde row start size base b end false lines rows is from below good =
    changes_good fde row start size base b (changed_rules fde (row (b - 1)) (row b)) lines rows (omega (arith, is)) (changes_plain fde (row (b - 1)) (row b) (rows.sound b)) (changes_most fde (row (b - 1)) (row b)) good

next_good : (fde : FdeFields) → (row : ℕ → Row) (start size base b end : ℕ) (lines : List SymLine) → GoodRows fde row start size base → end ≡ start + size → start ≤ b → b < end → Good Frame lines → Good Frame (lines ++ records_at fde row start end base b)
unfolding records_at
next_good fde row start size base b end lines rows is from below good = next_by fde row start size base b end (is_cut row start b) lines rows is from below good

first_good : (fde : FdeFields) → (row : ℕ → Row) (start size base end : ℕ) → GoodRows fde row start size base → end ≡ start + size → 0 < size → Good Frame (records_at fde row start end base start)
unfolding records_at is_cut first_bad_from place_behind
first_good fde row start size base end rows is some =
    let line : Bool → List SymLine = λ t. cond (t || some_becomes_unspecified (row (start - 1)) (row start)) (Init (start - base) (first_cut row start (start + 1) (end - (start + 1)) - start) (row_rules fde (row start)) ∷ []) (change (start - base) (changed_rules fde (row (start - 1)) (row start))) in
    let P : List SymLine → Type 0 = λ xs. Good Frame xs in
    subst P (sym (ap line (eq-eqb start start refl)))
    (push Inside [] (Init (start - base) (first_cut row start (start + 1) (end - (start + 1)) - start) (row_rules fde (row start))) (record { valid = refl; behind = refl }) refl refl (init_fit fde row start size base start end rows is (omega arith) (omega (arith, is))))

lines_more : (fde : FdeFields) (row : ℕ → Row) (start end base n : ℕ) → flat_map (records_at fde row start end base) (range_with_len start (n + 1)) ≡ flat_map (records_at fde row start end base) (range_with_len start n) ++ records_at fde row start end base (start + n)
lines_more fde row start end base n =
    ap (flat_map (records_at fde row start end base)) (range_from_more start n) ∙ flat_map-append (records_at fde row start end base) (range_with_len start n) ((start + n) ∷ [])
    ∙ ap (λ xs. flat_map (records_at fde row start end base) (range_with_len start n) ++ xs) (append-nil (records_at fde row start end base (start + n)))

all_good : (fde : FdeFields) → (row : ℕ → Row) (start size base end n : ℕ) → GoodRows fde row start size base → end ≡ start + size → n < size → Good Frame (flat_map (records_at fde row start end base) (range_with_len start (n + 1)))
all_good fde row start size base end zero rows is below =
    let P : List SymLine → Type 0 = λ xs. Good Frame xs in
    subst P (sym (append-nil (records_at fde row start end base start))) (first_good fde row start size base end rows is below)
all_good fde row start size base end (suc n) rows is below =
    let P : List SymLine → Type 0 = λ xs. Good Frame xs in
    let one : suc n ≡ n + 1 = omega arith in
    subst P (sym (lines_more fde row start end base (suc n)))
    (next_good fde row start size base (start + suc n) end (flat_map (records_at fde row start end base) (range_with_len start (suc n))) rows is (omega arith) (omega (arith, is, below))
    (let Q : ℕ → Type 0 = λ k. Good Frame (flat_map (records_at fde row start end base) (range_with_len start k)) in subst Q (sym one) (all_good fde row start size base end n rows is (omega (arith, below)))))

-- The records of a range of good rows are valid after any record.
pub lines_valid : (fde : FdeFields) → (row : ℕ → Row) (start size base : ℕ) → GoodRows fde row start size base → 0 < size → first_bad_from 0 Inside (frame_lines fde row start size base) ≡ None
unfolding frame_lines
lines_valid fde row start zero base rows some = absurd (omega (arith, some))
lines_valid fde row start (suc n) base rows some =
    let one : n + 1 ≡ suc n = omega arith in
    ap (λ k. first_bad_from 0 Inside (flat_map (records_at fde row start (start + suc n) base) (range_with_len start k))) (sym one)
    ∙ (all_good fde row start (suc n) base (start + suc n) n rows refl (omega arith)).valid
