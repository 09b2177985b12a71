-- The INITs of an entry cover each address of its range once; for the lemmas of KeptLemmas and
-- NestingLemmas.
use Rattle.std.proofs.Common.{◌≡◌, ℕ, zero, suc, ◌+◌, ◌-◌, ◌≤◌, ◌&&◌, ◌||◌, nat_le, nat_lt, Bool, true, false, cond, List, [], ◌∷◌, ◌++◌, map, refl, ap, sym, ◌∙◌, arith, eq-eqb}
use Rattle.std.specs.List.{list_any, flat_map, range_with_len}
use Rattle.std.proofs.Math.Bool.{and_comm}
use Rattle.std.proofs.lemmas.Bool.{or_from, or_parts}
use Rattle.std.proofs.lemmas.Bool.Decides.{nat_tests}
use Rattle.std.proofs.lemmas.List.{map-append}
use Rattle.std.proofs.lemmas.List.Folds.{list_any-append}
use Rattle.std.proofs.lemmas.List.Sums.{sum_by-append}
use Rattle.frame_rows.specs.declared.row.Row.{Row}
use Rattle.frame_rows.specs.Rows.{row_at}
use Rattle.frame_entries.specs.FdeFields.{FdeFields}
use Rattle.sym_records.specs.declared.line.SymLine.{SymLine}
use Rattle.sym_records.specs.declared.line.SymLine.TheVariants.{Init}
use Rattle.sym_rules.specs.declared.rules.RuleText.{RuleText}
use Rattle.rule_postfix.specs.RowRules.{some_becomes_unspecified, row_rules, changed_rules}
use Rattle.rule_postfix.specs.FrameLines.{is_cut, first_cut, change, records_at, frame_lines}
use Rattle.range_union.specs.Ranges.{overlap, any_overlap}
use Rattle.rule_postfix.specs.Written.{range_of, entry_lines, written_lines}
use Rattle.sym_meaning.specs.Inits.{init_covers, inits_at}
use Rattle.rule_postfix.specs.Covering.{holds_address, entries_at, AreDisjoint}
use Rattle.rule_postfix.proofs.LinesLemmas.{line_of}
use Rattle.rule_postfix.proofs.ValidLemmas.{cut_within}

-- 1 if an address is from `low` on and below `high`, otherwise 0.
from_to : ℕ → ℕ → ℕ → ℕ
from_to low high a = cond (nat_le low a && nat_lt a high) 1 0

-- Two ranges side by side.
joined : (a low mid high : ℕ) → low ≤ mid → mid ≤ high → from_to low mid a + from_to mid high a ≡ from_to low high a
unfolding from_to
joined a low mid high le more = grind (arith, nat_tests)

pub counts_one : (t : Bool) → 0 + cond t 1 0 ≡ cond t 1 0
counts_one true = refl
counts_one false = refl

pub inits_append : (xs ys : List SymLine) (x : ℕ) → inits_at (xs ++ ys) x ≡ inits_at xs x + inits_at ys x
unfolding inits_at
inits_append xs ys x = sum_by-append (λ s. cond (init_covers x s) 1 0) xs ys

empty : (a b : ℕ) → from_to b b a ≡ 0
unfolding from_to
empty a b = grind (arith, nat_tests)

covers_same : (low high base x : ℕ) → base ≤ low → low ≤ high → (nat_le (low - base) x && nat_lt x (low - base + (high - low))) ≡ (nat_le low (x + base) && nat_lt (x + base) high)
covers_same low high base x le more = grind (arith, nat_tests)

one_init : (low high base x : ℕ) (rules : List RuleText) → base ≤ low → low ≤ high → inits_at (Init (low - base) (high - low) rules ∷ []) x ≡ from_to low high (x + base)
unfolding inits_at from_to
one_init low high base x rules le more =
    counts_one (nat_le (low - base) x && nat_lt x (low - base + (high - low))) ∙ ap (λ t. cond t 1 0) (covers_same low high base x le more)

no_init : (address x : ℕ) (rules : List RuleText) → inits_at (change address rules) x ≡ 0
unfolding inits_at
no_init address x [] = refl
no_init address x (r ∷ rules) = refl

least : (cut : Bool) (b c : ℕ) → b ≤ c → b ≤ cond cut b c
least true b c le = omega arith
least false b c le = le

pub cut_above : (row : ℕ → Row) (start b n : ℕ) → b ≤ first_cut row start b n
unfolding first_cut
cut_above row start b zero = omega arith
cut_above row start b (suc n) = least (is_cut row start b) b (first_cut row start (b + 1) n) (omega (arith, cut_above row start (b + 1) n))

line_inits : (fde : FdeFields) (row : ℕ → Row) (start base end x b n : ℕ) (cut : Bool) → end ≡ b + 1 + n → base ≤ b → is_cut row start b ≡ cut → inits_at (flat_map (records_at fde row start end base) (range_with_len (b + 1) n)) x ≡ from_to (first_cut row start (b + 1) n) end (x + base) →
    inits_at (records_at fde row start end base b) x + from_to (first_cut row start (b + 1) n) end (x + base) ≡ from_to (cond cut b (first_cut row start (b + 1) n)) end (x + base)
line_inits fde row start base end x b n true size le is rest =
    let c : ℕ = first_cut row start (b + 1) n in
    ap (λ xs. inits_at xs x + from_to c end (x + base)) (line_of fde row start end base b n (row (b - 1)) (row b) true size refl refl is)
    ∙ ap (λ k. k + from_to c end (x + base)) (one_init b c base x (row_rules fde (row b)) le (omega (arith, cut_above row start (b + 1) n)))
    ∙ joined (x + base) b c end (omega (arith, cut_above row start (b + 1) n)) (omega (arith, size, cut_within row start (b + 1) n))
line_inits fde row start base end x b n false size le is rest =
    let c : ℕ = first_cut row start (b + 1) n in
    ap (λ xs. inits_at xs x + from_to c end (x + base)) (line_of fde row start end base b n (row (b - 1)) (row b) false size refl refl is)
    ∙ ap (λ k. k + from_to c end (x + base)) (no_init (b - base) x (changed_rules fde (row (b - 1)) (row b)))
    ∙ (omega arith)

pub first_by : (row : ℕ → Row) (start b n : ℕ) → first_cut row start b (suc n) ≡ cond (is_cut row start b) b (first_cut row start (b + 1) n)
unfolding first_cut
first_by row start b n = refl

inits_from : (fde : FdeFields) (row : ℕ → Row) (start base end x b n : ℕ) → end ≡ b + n → base ≤ b → inits_at (flat_map (records_at fde row start end base) (range_with_len b n)) x ≡ from_to (first_cut row start b n) end (x + base)
unfolding first_cut inits_at
inits_from fde row start base end x b zero size le = sym (empty (x + base) b) ∙ ap (λ k. from_to b k (x + base)) (let same : b ≡ end = omega (arith, size) in same)
inits_from fde row start base end x b (suc n) size le =
    let rest : inits_at (flat_map (records_at fde row start end base) (range_with_len (b + 1) n)) x ≡ from_to (first_cut row start (b + 1) n) end (x + base) = inits_from fde row start base end x (b + 1) n (omega (arith, size)) (omega (arith, le)) in
    inits_append (records_at fde row start end base b) (flat_map (records_at fde row start end base) (range_with_len (b + 1) n)) x
    ∙ ap (λ k. inits_at (records_at fde row start end base b) x + k) rest
    ∙ line_inits fde row start base end x b n (is_cut row start b) (omega (arith, size)) le refl rest

pub first_is_start : (row : ℕ → Row) (start n : ℕ) → first_cut row start start n ≡ start
unfolding first_cut is_cut
first_is_start row start zero = refl
first_is_start row start (suc n) = ap (λ t. cond (t || some_becomes_unspecified (row (start - 1)) (row start)) start (first_cut row start (start + 1) n)) (eq-eqb start start refl)

-- The INITs of a range cover each of its addresses once.
range_inits : (fde : FdeFields) (row : ℕ → Row) (start size base x : ℕ) → base ≤ start → inits_at (frame_lines fde row start size base) x ≡ from_to start (start + size) (x + base)
unfolding frame_lines
range_inits fde row start size base x le = inits_from fde row start base (start + size) x start size refl le ∙ ap (λ k. from_to k (start + size) (x + base)) (first_is_start row start size)

-- All entries start at or above a base.
unfoldable pub AreAbove : ℕ → List FdeFields → Type 0
AreAbove base [] = Unit {0}
AreAbove base (e ∷ entries) = (base ≤ e.start) × AreAbove base entries

entries_cons : (e : FdeFields) (entries : List FdeFields) (a : ℕ) → entries_at (e ∷ entries) a ≡ from_to e.start (e.start + e.size) a + entries_at entries a
unfolding entries_at from_to
entries_cons e entries a =
    sum_by-append (λ w. cond (holds_address a w) 1 0) (e ∷ []) entries ∙ ap (λ k. k + entries_at entries a) (counts_one (holds_address a e))

pub written_inits : (base x : ℕ) (entries : List FdeFields) → AreAbove base entries → inits_at (written_lines base entries) x ≡ entries_at entries (x + base)
unfolding written_lines inits_at entries_at entry_lines AreAbove
written_inits base x [] above = refl
written_inits base x (e ∷ entries) above =
    inits_append (entry_lines base e) (written_lines base entries) x
    ∙ ap (λ k. k + inits_at (written_lines base entries) x) (range_inits e (row_at e) e.start e.size base x above.0)
    ∙ ap (λ k. from_to e.start (e.start + e.size) (x + base) + k) (written_inits base x entries above.1)
    ∙ sym (entries_cons e entries (x + base))

pub above_none : (base : ℕ) → AreAbove base []
unfolding AreAbove
above_none base = tt

pub above_more : (base : ℕ) (entries : List FdeFields) (e : FdeFields) → AreAbove base entries → base ≤ e.start → AreAbove base (entries ++ e ∷ [])
unfolding AreAbove
above_more base [] e above le = (le, tt)
above_more base (w ∷ entries) e above le = (above.0, above_more base entries e above.1 le)

pub disjoint_more : (entries : List FdeFields) (e : FdeFields) → AreDisjoint entries → any_overlap (range_of e) (map range_of entries) ≡ false → AreDisjoint (entries ++ e ∷ [])
unfolding any_overlap
disjoint_more [] e apart none = (refl, tt)
disjoint_more (w ∷ entries) e apart none =
    let parts : (overlap (range_of e) (range_of w) ≡ false) × (list_any (overlap (range_of e)) (map range_of entries) ≡ false) = or_parts (overlap (range_of e) (range_of w)) (list_any (overlap (range_of e)) (map range_of entries)) none in (
      ap (list_any (overlap (range_of w))) (map-append range_of entries (e ∷ [])) ∙ list_any-append (overlap (range_of w)) (map range_of entries) (range_of e ∷ [])
          ∙ or_from (list_any (overlap (range_of w)) (map range_of entries)) (overlap (range_of w) (range_of e) || false) apart.0 (or_from (overlap (range_of w) (range_of e)) false (and_comm (nat_lt w.start (e.start + e.size)) (nat_lt e.start (w.start + w.size)) ∙ parts.0) refl),
      disjoint_more entries e apart.1 parts.1,
    )
