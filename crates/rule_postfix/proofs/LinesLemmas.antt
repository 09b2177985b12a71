-- The pass over the rows gives the records that the rows at each address define; for the lemmas of
-- CoveringLemmas, EntryLemmas, NestingLemmas.
use Rattle.std.proofs.Common.{◌≡◌, ℕ, zero, suc, ◌+◌, ◌-◌, ◌<◌, ◌≤◌, ◌&&◌, ◌||◌, not, nat_le, Bool, true, false, cond, List, [], ◌∷◌, ◌++◌, Option, Some, None, refl, ap, sym, subst, ◌∙◌, inl, inr, arith, append_assoc, eq-eqb}
use Rattle.std.specs.List.{flat_map, range_with_len, list_any, cons_option}
use Rattle.std.proofs.lemmas.Bool.{cases_lt, ne_eqb, le-leb, lt-leb, and_right, or_from}
use Rattle.std.proofs.lemmas.List.{append-nil}
use Rattle.frame_entries.specs.FdeFields.{FdeFields}
use Rattle.frame_rows.specs.declared.row.Row.{Row}
use Rattle.frame_rows.specs.declared.row.RowAt.{RowAt}
use Rattle.std.specs.Option.{option_or}
use Rattle.frame_rows.specs.Rows.{Ascending, last_at}
use Rattle.sym_records.specs.declared.line.SymLine.{SymLine}
use Rattle.sym_records.specs.declared.line.SymLine.TheVariants.{Init}
use Rattle.sym_rules.specs.declared.rules.RuleText.{RuleText}
use Rattle.sym_rules.specs.declared.rules.Target.{Target}
use Rattle.rule_postfix.specs.RowParts.{becomes_unspecified, is_unspecified, is_unruled, column_part, rule_at, part_of}
use Rattle.rule_postfix.specs.RowRules.{rule_of, rules_of, rules_by, targets, if_changed, some_becomes_unspecified, some_unspecified_below, row_rules, changed_rules}
use Rattle.rule_postfix.specs.FrameLines.{is_cut, first_cut, change, records_at, frame_lines}
use Rattle.rule_postfix.specs.internal.Writing.{Open, opened, closed, with_changes, with_row, with_rows, lines_of}
use Rattle.rule_postfix.proofs.OptionLemmas.{some_same, none_some}
use Rattle.rule_postfix.proofs.PartLemmas.{no_other}

-- Between equal rows no column becomes unspecified, and nothing changes.
not_both : (t : Bool) → (t && not t) ≡ false
not_both true = refl
not_both false = refl

rests_same : (x : Row) (k : ℕ) → becomes_unspecified x x k ≡ false
unfolding becomes_unspecified
rests_same x k = and_right (is_unspecified k) (is_unruled (column_part k (rule_at x k)) && not (is_unruled (column_part k (rule_at x k)))) (not_both (is_unruled (column_part k (rule_at x k))))

any_rests : (x : Row) (ks : List ℕ) → list_any (becomes_unspecified x x) ks ≡ false
any_rests x [] = refl
any_rests x (k ∷ ks) = or_from (becomes_unspecified x x k) (list_any (becomes_unspecified x x) ks) (rests_same x k) (any_rests x ks)

never_rests : (x : Row) → some_becomes_unspecified x x ≡ false
unfolding some_becomes_unspecified some_unspecified_below
never_rests x = any_rests x (range_with_len 0 17)

no_change : (fde : FdeFields) (x : Row) (t : Target) → if_changed fde x x t ≡ None
unfolding if_changed
no_change fde x t = no_other fde t (part_of x t)

no_rules : (fde : FdeFields) (x : Row) (ts : List Target) → rules_of (if_changed fde x x) ts ≡ []
unfolding rules_of
no_rules fde x [] = refl
no_rules fde x (t ∷ ts) = ap (λ o. cons_option (rule_of t o) (rules_of (if_changed fde x x) ts)) (no_change fde x t) ∙ no_rules fde x ts

never_changes : (fde : FdeFields) (x : Row) → changed_rules fde x x ≡ []
unfolding changed_rules rules_by
never_changes fde x = no_rules fde x targets

-- Rows from an address on say nothing below it.
past_all : (low end a : ℕ) (rows : List RowAt) → Ascending low end rows → a < low → last_at rows a ≡ None
unfolding last_at
past_all low end a [] rising below = refl
past_all low end a (r ∷ rows) rising below =
    ap (λ o. option_or o (cond (nat_le r.address a) (Some r.row) None)) (past_all (r.address + 1) end a rows rising.2 (omega (arith, rising.0)))
    ∙ ap (λ t. cond t (Some r.row) None) (lt-leb r.address a (omega (arith, rising.0)))

-- A row and the rows that follow it are those of the range, from an address on.
Follows : (ℕ → Row) → ℕ → ℕ → Row → List RowAt → Type 0
Follows row b end before rows = (a : ℕ) → b ≤ a → a < end → option_or (last_at rows a) (Some before) ≡ Some (row a)

or_twice : (o : Option Row) (x y : Row) → option_or (option_or o (Some x)) (Some y) ≡ option_or o (Some x)
or_twice None x y = refl
or_twice (Some z) x y = refl

last_on : (r : RowAt) (rows : List RowAt) (a : ℕ) → r.address ≤ a → last_at (r ∷ rows) a ≡ option_or (last_at rows a) (Some r.row)
unfolding last_at
last_on r rows a le = ap (λ t. option_or (last_at rows a) (cond t (Some r.row) None)) (le-leb r.address a le)

-- If no row begins at the next address, the row there is the row before.
stands : (row : ℕ → Row) (b end : ℕ) (before : Row) (rows : List RowAt) → Follows row b end before rows → b < end → Ascending (b + 1) end rows → before ≡ row b
unfolding Follows
stands row b end before rows follows inside rising =
    some_same before (row b) (ap (λ o. option_or o (Some before)) (sym (past_all (b + 1) end b rows rising (omega arith))) ∙ follows b (omega arith) inside)

begins : (row : ℕ → Row) (b end : ℕ) (before : Row) (r : RowAt) (rows : List RowAt) → Follows row b end before (r ∷ rows) → r.address ≡ b → b < end → Ascending (r.address + 1) end rows → r.row ≡ row b
unfolding Follows
begins row b end before r rows follows at inside rising =
    some_same r.row (row b)
    (ap (λ o. option_or (option_or o (Some r.row)) (Some before)) (sym (past_all (r.address + 1) end b rows rising (omega arith)))
    ∙ ap (λ o. option_or o (Some before)) (sym (last_on r rows b (omega arith))) ∙ follows b (omega arith) inside)

follows_on : (row : ℕ → Row) (b end : ℕ) (before : Row) (r : RowAt) (rows : List RowAt) → Follows row b end before (r ∷ rows) → r.address ≡ b → Follows row (b + 1) end r.row rows
unfolding Follows
follows_on row b end before r rows follows at a le below =
    sym (or_twice (last_at rows a) r.row before) ∙ ap (λ o. option_or o (Some before)) (sym (last_on r rows a (omega arith))) ∙ follows a (omega arith) below

follows_same : (row : ℕ → Row) (b end : ℕ) (before : Row) (rows : List RowAt) → Follows row b end before rows → Follows row (b + 1) end before rows
unfolding Follows
follows_same row b end before rows follows a le below = follows a (omega arith) below

-- An address at which the row does not change.
cut_at : (row : ℕ → Row) (start b : ℕ) (before after : Row) → start < b → before ≡ row (b - 1) → after ≡ row b → is_cut row start b ≡ some_becomes_unspecified before after
unfolding is_cut
cut_at row start b before after above e f =
    ap (λ t. t || some_becomes_unspecified (row (b - 1)) (row b)) (ne_eqb b start (λ same. absurd (omega (arith, same))))
    ∙ ap (λ x. some_becomes_unspecified x (row b)) (sym e) ∙ ap (λ x. some_becomes_unspecified before x) (sym f)

cut_of : (row : ℕ → Row) (start b n : ℕ) (cut : Bool) → is_cut row start b ≡ cut → first_cut row start b (suc n) ≡ cond cut b (first_cut row start (b + 1) n)
unfolding first_cut
cut_of row start b n cut e = ap (λ t. cond t b (first_cut row start (b + 1) n)) e

pub line_of : (fde : FdeFields) (row : ℕ → Row) (start end base b n : ℕ) (before after : Row) (cut : Bool) → end ≡ b + 1 + n → before ≡ row (b - 1) → after ≡ row b → is_cut row start b ≡ cut → records_at fde row start end base b ≡ cond cut (Init (b - base) (first_cut row start (b + 1) n - b) (row_rules fde after) ∷ []) (change (b - base) (changed_rules fde before after))
unfolding records_at
line_of fde row start end base b n before after cut size e f is =
    let left : end - (b + 1) ≡ n = omega (arith, size) in
    ap (λ t. cond t (Init (b - base) (first_cut row start (b + 1) (end - (b + 1)) - b) (row_rules fde (row b)) ∷ []) (change (b - base) (changed_rules fde (row (b - 1)) (row b)))) is
    ∙ ap (λ m. cond cut (Init (b - base) (first_cut row start (b + 1) m - b) (row_rules fde (row b)) ∷ []) (change (b - base) (changed_rules fde (row (b - 1)) (row b)))) left
    ∙ ap (λ x. cond cut (Init (b - base) (first_cut row start (b + 1) n - b) (row_rules fde (row b)) ∷ []) (change (b - base) (changed_rules fde x (row b)))) (sym e)
    ∙ ap (λ x. cond cut (Init (b - base) (first_cut row start (b + 1) n - b) (row_rules fde x) ∷ []) (change (b - base) (changed_rules fde before x))) (sym f)

-- One row more is written, and then the INIT ends.
ended_by : (fde : FdeFields) (cut : Bool) (b c : ℕ) (after : Row) (rules : List RuleText) (o : Open) (rest : List SymLine) →
    closed (cond cut (opened fde o.base (closed o b) b after) (with_changes b rules o)) c ++ rest
    ≡ closed o (cond cut b c) ++ (cond cut (Init (b - o.base) (c - b) (row_rules fde after) ∷ []) (change (b - o.base) rules) ++ rest)
ended_by fde true b c after rules o rest = append_assoc (closed o b) (Init (b - o.base) (c - b) (row_rules fde after) ∷ []) rest
ended_by fde false b c after rules o rest =
    ap (λ xs. xs ++ rest) (sym (append_assoc o.lines (Init (o.start - o.base) (c - o.start) o.rules ∷ o.changes) (change (b - o.base) rules)))
    ∙ append_assoc (closed o c) (change (b - o.base) rules) rest

base_by : (fde : FdeFields) (cut : Bool) (b : ℕ) (after : Row) (rules : List RuleText) (o : Open) → (cond cut (opened fde o.base (closed o b) b after) (with_changes b rules o)).base ≡ o.base
base_by fde true b after rules o = refl
base_by fde false b after rules o = refl

-- The records from an address on, after those that are written.
Rests : (fde : FdeFields) → (ℕ → Row) → ℕ → ℕ → ℕ → ℕ → Row → List RowAt → Open → Type 0
Rests fde row start end b n before rows o =
    closed (with_rows fde before rows o) end ≡ closed o (first_cut row start b n) ++ flat_map (records_at fde row start end o.base) (range_with_len b n)

stay : (fde : FdeFields) (row : ℕ → Row) (start end b n : ℕ) (before : Row) (rows : List RowAt) (o : Open) → end ≡ b + 1 + n → start < b → before ≡ row (b - 1) → before ≡ row b → Rests fde row start end (b + 1) n before rows o → Rests fde row start end b (suc n) before rows o
unfolding Rests
stay fde row start end b n before rows o size above e f rest =
    let cut : is_cut row start b ≡ false = cut_at row start b before before above e f ∙ never_rests before in
    let none : records_at fde row start end o.base b ≡ [] = line_of fde row start end o.base b n before before false size e f cut ∙ ap (change (b - o.base)) (never_changes fde before) in
    rest ∙ ap (λ c. closed o c ++ flat_map (records_at fde row start end o.base) (range_with_len (b + 1) n)) (sym (cut_of row start b n false cut))
    ∙ ap (λ xs. closed o (first_cut row start b (suc n)) ++ (xs ++ flat_map (records_at fde row start end o.base) (range_with_len (b + 1) n))) (sym none)

move : (fde : FdeFields) (row : ℕ → Row) (start end b n : ℕ) (before : Row) (r : RowAt) (rows : List RowAt) (o : Open) → end ≡ b + 1 + n → start < b → before ≡ row (b - 1) → r.row ≡ row b → r.address ≡ b → Rests fde row start end (b + 1) n r.row rows (with_row fde b before r.row o) → Rests fde row start end b (suc n) before (r ∷ rows) o
unfolding Rests with_rows with_row
move fde row start end b n before r rows o size above e f at rest =
    let cut : Bool = some_becomes_unspecified before r.row in
    let rules : List RuleText = changed_rules fde before r.row in
    let is : is_cut row start b ≡ cut = cut_at row start b before r.row above e f in
    let c : ℕ = first_cut row start (b + 1) n in
    let lines : ℕ → List SymLine = λ k. flat_map (records_at fde row start end k) (range_with_len (b + 1) n) in
    let next : Open = cond cut (opened fde o.base (closed o b) b r.row) (with_changes b rules o) in
    ap (λ k. closed (with_rows fde r.row rows (with_row fde k before r.row o)) end) at
    ∙ rest
    ∙ ap (λ k. closed next c ++ lines k) (base_by fde cut b r.row rules o)
    ∙ ended_by fde cut b c r.row rules o (lines o.base)
    ∙ ap (λ k. closed o k ++ (cond cut (Init (b - o.base) (c - b) (row_rules fde r.row) ∷ []) (change (b - o.base) rules) ++ lines o.base)) (sym (cut_of row start b n cut is))
    ∙ ap (λ xs. closed o (first_cut row start b (suc n)) ++ (xs ++ lines o.base)) (sym (line_of fde row start end o.base b n before r.row cut size e f is))

stays_more : (fde : FdeFields) (row : ℕ → Row) (start end b n : ℕ) (before : Row) (rows : List RowAt) (o : Open) → end ≡ b + 1 + n → start < b → before ≡ row (b - 1) → Ascending (b + 1) end rows → Follows row b end before rows →
    (before ≡ row (b + 1 - 1) → Ascending (b + 1) end rows → Follows row (b + 1) end before rows → Rests fde row start end (b + 1) n before rows o) → Rests fde row start end b (suc n) before rows o
stays_more fde row start end b n before rows o size above e rising follows rest =
    let f : before ≡ row b = stands row b end before rows follows (omega (arith, size)) rising in
    let back : b + 1 - 1 ≡ b = omega arith in
    stay fde row start end b n before rows o size above e f (rest (f ∙ ap row (sym back)) rising (follows_same row b end before rows follows))

moves_more : (fde : FdeFields) (row : ℕ → Row) (start end b n : ℕ) (before : Row) (r : RowAt) (rows : List RowAt) (o : Open) → end ≡ b + 1 + n → start < b → before ≡ row (b - 1) → Ascending b end (r ∷ rows) → Follows row b end before (r ∷ rows) → r.address ≡ b →
    (r.row ≡ row (b + 1 - 1) → Ascending (b + 1) end rows → Follows row (b + 1) end r.row rows → Rests fde row start end (b + 1) n r.row rows (with_row fde b before r.row o)) → Rests fde row start end b (suc n) before (r ∷ rows) o
moves_more fde row start end b n before r rows o size above e rising follows at rest =
    let f : r.row ≡ row b = begins row b end before r rows follows at (omega (arith, size)) rising.2 in
    let back : b + 1 - 1 ≡ b = omega arith in
    let P : ℕ → Type 0 = λ k. Ascending (k + 1) end rows in
    move fde row start end b n before r rows o size above e f at (rest (f ∙ ap row (sym back)) (subst P at rising.2) (follows_on row b end before r rows follows at))

rests : (fde : FdeFields) (row : ℕ → Row) (start end b n : ℕ) (before : Row) (rows : List RowAt) (o : Open) → end ≡ b + n → start < b → before ≡ row (b - 1) → Ascending b end rows → Follows row b end before rows → Rests fde row start end b n before rows o
unfolding Rests first_cut with_rows
rests fde row start end b zero before [] o size above e rising follows =
    ap (closed o) (let same : end ≡ b = omega (arith, size) in same) ∙ sym (append-nil (closed o b))
rests fde row start end b zero before (r ∷ rows) o size above e rising follows = absurd (omega (arith, size, rising.0, rising.1))
rests fde row start end b (suc n) before [] o size above e rising follows =
    let size : end ≡ b + 1 + n = omega (arith, size) in
    stays_more fde row start end b n before [] o size above e tt follows (λ back up on. rests fde row start end (b + 1) n before [] o size (omega arith) back up on)
rests fde row start end b (suc n) before (r ∷ rows) o size above e rising follows =
    let size : end ≡ b + 1 + n = omega (arith, size) in
    elim (cases_lt b r.address) [
      | inl below ↦ stays_more fde row start end b n before (r ∷ rows) o size above e (omega (arith, below), rising.1, rising.2) follows (λ back up on. rests fde row start end (b + 1) n before (r ∷ rows) o size (omega arith) back up on)
      | inr past ↦ moves_more fde row start end b n before r rows o size above e rising follows (omega (arith, past, rising.0)) (λ back up on. rests fde row start end (b + 1) n r.row rows (with_row fde b before r.row o) size (omega arith) back up on)
    ]

-- The first row is at the start.
first_at : (row : ℕ → Row) (start end : ℕ) (r : RowAt) (rows : List RowAt) → Ascending start end (r ∷ rows) → last_at (r ∷ rows) start ≡ Some (row start) → r.address ≡ start
first_at row start end r rows rising at =
    elim (cases_lt start r.address) [
      | inl below ↦ absurd (none_some (row start) (sym (past_all (start + 1) end start (r ∷ rows) (omega (arith, below), rising.1, rising.2) (omega arith)) ∙ at))
      | inr past ↦ omega (arith, past, rising.0)
    ]

follows_first : (row : ℕ → Row) (start end : ℕ) (r : RowAt) (rows : List RowAt) → ((a : ℕ) → start ≤ a → a < end → last_at (r ∷ rows) a ≡ Some (row a)) → r.address ≡ start → Follows row (start + 1) end r.row rows
unfolding Follows
follows_first row start end r rows each at a le below = sym (last_on r rows a (omega (arith, at))) ∙ each a (omega arith) below

first_row : (row : ℕ → Row) (start end : ℕ) (r : RowAt) (rows : List RowAt) → Ascending start end (r ∷ rows) → last_at (r ∷ rows) start ≡ Some (row start) → r.address ≡ start → r.row ≡ row start
first_row row start end r rows rising says at =
    some_same r.row (row start) (ap (λ o. option_or o (Some r.row)) (sym (past_all (r.address + 1) end start rows rising.2 (omega (arith, at)))) ∙ sym (last_on r rows start (omega (arith, at))) ∙ says)

first_line : (fde : FdeFields) (row : ℕ → Row) (start base n end : ℕ) → end ≡ start + 1 + n → records_at fde row start end base start ≡ Init (start - base) (first_cut row start (start + 1) n - start) (row_rules fde (row start)) ∷ []
unfolding records_at is_cut
first_line fde row start base n end size =
    let left : end - (start + 1) ≡ n = omega (arith, size) in
    ap (λ t. cond (t || some_becomes_unspecified (row (start - 1)) (row start)) (Init (start - base) (first_cut row start (start + 1) (end - (start + 1)) - start) (row_rules fde (row start)) ∷ []) (change (start - base) (changed_rules fde (row (start - 1)) (row start)))) (eq-eqb start start refl)
    ∙ ap (λ m. Init (start - base) (first_cut row start (start + 1) m - start) (row_rules fde (row start)) ∷ []) left

from_first : (fde : FdeFields) (row : ℕ → Row) (start base n end : ℕ) (r : RowAt) (rows : List RowAt) → end ≡ start + 1 + n → Ascending start end (r ∷ rows) → r.address ≡ start → r.row ≡ row start → Follows row (start + 1) end r.row rows →
    lines_of fde base end (r ∷ rows) ≡ flat_map (records_at fde row start end base) (start ∷ range_with_len (start + 1) n)
unfolding lines_of Rests
from_first fde row start base n end r rows size rising at e follows =
    let back : start + 1 - 1 ≡ start = omega arith in
    let P : ℕ → Type 0 = λ k. Ascending (k + 1) end rows in
    let tail : List SymLine = flat_map (records_at fde row start end base) (range_with_len (start + 1) n) in
    rests fde row start end (start + 1) n r.row rows (opened fde base [] r.address r.row) size (omega arith) (e ∙ ap row (sym back)) (subst P at rising.2) follows
    ∙ ap (λ k. (Init (k - base) (first_cut row start (start + 1) n - k) (row_rules fde r.row) ∷ []) ++ tail) at
    ∙ ap (λ x. (Init (start - base) (first_cut row start (start + 1) n - start) (row_rules fde x) ∷ []) ++ tail) e
    ∙ ap (λ xs. xs ++ tail) (sym (first_line fde row start base n end size))

-- The pass over the rows of a range gives the records of the range.
pub lines_are : (fde : FdeFields) (row : ℕ → Row) (start size base : ℕ) (rows : List RowAt) → 0 < size → Ascending start (start + size) rows → ((a : ℕ) → start ≤ a → a < start + size → last_at rows a ≡ Some (row a)) → lines_of fde base (start + size) rows ≡ frame_lines fde row start size base
unfolding last_at frame_lines
lines_are fde row start zero base rows some rising each = absurd (omega (arith, some))
lines_are fde row start (suc n) base [] some rising each = absurd (none_some (row start) (each start (omega arith) (omega arith)))
lines_are fde row start (suc n) base (r ∷ rows) some rising each =
    let end : ℕ = start + suc n in
    let size : end ≡ start + 1 + n = omega arith in
    let says : last_at (r ∷ rows) start ≡ Some (row start) = each start (omega arith) (omega arith) in
    let at : r.address ≡ start = first_at row start end r rows rising says in
    from_first fde row start base n end r rows size rising at (first_row row start end r rows rising says at) (follows_first row start end r rows each at)
