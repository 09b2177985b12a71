-- An entry lacks a rule for the CFA if and only if one of its rows does. The lemmas are for those
-- of EntryLemmas.
use Rattle.std.proofs.Common.{◌≡◌, ◌⊎◌, inl, inr, ℕ, zero, suc, ◌+◌, ◌<◌, ◌≤◌, ◌||◌, not, cond, Bool, true, false, List, [], ◌∷◌, nat_le, Option, Some, None, refl, sym, ◌∙◌, ap, arith}
use Rattle.std.proofs.lemmas.Bool.{cases_lt, not-false, not-true, or_parts, or_right}
use Rattle.std.specs.List.{list_any, range_with_len}
use Rattle.frame_entries.specs.FdeFields.{FdeFields}
use Rattle.frame_rows.specs.declared.row.Row.{Row}
use Rattle.frame_rows.specs.declared.row.RowAt.{RowAt}
use Rattle.frame_rows.specs.Steps.{has_cfa}
use Rattle.std.specs.Option.{option_or}
use Rattle.frame_rows.specs.Rows.{last_at, Ascending, AreRows, HasCfa, row_at, lacks_cfa}
use Rattle.frame_rows.proofs.TestLemmas.{elim_bool}
use Rattle.frame_rows.proofs.RowLemmas.{none_said, above_said, here_said, later_said, said_by}

-- The row has no rule for the CFA.
lacks : RowAt → Bool
lacks r = not (has_cfa r.row)

-- The last row at or below an address, given the answer for the rows after the first.
or_said : (later : Option Row) (here : Bool) (mine row : Row) → option_or later (cond here (Some mine) None) ≡ Some row → has_cfa mine ≡ true → (later ≡ Some row → has_cfa row ≡ true) → has_cfa row ≡ true
or_said (Some other) here mine row said have rest = rest said
or_said None true mine row said have rest = let same : mine ≡ row = cc in ap has_cfa (sym same) ∙ have
or_said None false mine row said have rest = cc

-- If every row has a rule for the CFA, so has the row that applies at an address.
said_have : (rows : List RowAt) (a : ℕ) (row : Row) → list_any (λ r. not (has_cfa r.row)) rows ≡ false → last_at rows a ≡ Some row → has_cfa row ≡ true
said_have [] a row none said = let no : ◌≡◌ {A = Option Row} None (Some row) = sym (none_said a) ∙ said in cc
said_have (r ∷ rows) a row none said =
    let parts = or_parts (not (has_cfa r.row)) (list_any (λ r. not (has_cfa r.row)) rows) none in
    or_said (last_at rows a) (nat_le r.address a) r.row row (sym (said_by r rows a) ∙ said) (not-false (has_cfa r.row) parts.0)
    (λ later. said_have rows a row parts.1 later)

-- No row applies below the first one.
below_none : (low end : ℕ) (rows : List RowAt) (a : ℕ) → Ascending low end rows → a < low → last_at rows a ≡ None
below_none low end [] a up below = none_said a
below_none low end (r ∷ rows) a up below =
    above_said r rows a (omega (arith, up.0)) (below_none (r.address + 1) end rows a up.2 (omega (arith, up.0)))

-- A row without a rule for the CFA applies at its own address.
lacking : (low end : ℕ) (rows : List RowAt) → Ascending low end rows → list_any (λ r. not (has_cfa r.row)) rows ≡ true → (a : ℕ) × (row : Row) × (low ≤ a) × (a < end) × (last_at rows a ≡ Some row) × (has_cfa row ≡ false)
lacking low end [] up some = cc
lacking low end (r ∷ rows) up some =
    elim_bool (not (has_cfa r.row)) (λ t. not (has_cfa r.row) ≡ t → (t || list_any (λ r. not (has_cfa r.row)) rows) ≡ true → (a : ℕ) × (row : Row) × (low ≤ a) × (a < end) × (last_at (r ∷ rows) a ≡ Some row) × (has_cfa row ≡ false))
    (λ _ is _. (r.address, r.row, up.0, up.1, here_said r rows r.address (omega arith) (below_none (r.address + 1) end rows r.address up.2 (omega arith)), not-true (has_cfa r.row) is))
    (λ _ _ rest. let more = lacking (r.address + 1) end rows up.2 rest in
    (more.0, more.1, omega (arith, up.0, more.2), more.3, later_said r rows more.0 more.1 more.4, more.5))
    refl some

none_in : (f : ℕ → Row) (start size : ℕ) → ((a : ℕ) → start ≤ a → a < start + size → has_cfa (f a) ≡ true) → list_any (λ a. not (has_cfa (f a))) (range_with_len start size) ≡ false
none_in f start zero all = refl
none_in f start (suc size) all =
    ap (λ t. not t || list_any (λ a. not (has_cfa (f a))) (range_with_len (start + 1) size)) (all start (omega arith) (omega arith))
    ∙ none_in f (start + 1) size (λ a low high. all a (omega arith) (omega arith))

some_by : (f : ℕ → Row) (start size a : ℕ) → has_cfa (f a) ≡ false → start ≤ a → (start + 1 ≤ a → list_any (λ a. not (has_cfa (f a))) (range_with_len (start + 1) size) ≡ true) → (start < a) ⊎ (a ≤ start) → (not (has_cfa (f start)) || list_any (λ a. not (has_cfa (f a))) (range_with_len (start + 1) size)) ≡ true
some_by f start size a is low rest (inl up) = or_right (not (has_cfa (f start))) (list_any (λ a. not (has_cfa (f a))) (range_with_len (start + 1) size)) (rest (omega arith))
some_by f start size a is low rest (inr down) =
    let same : start ≡ a = omega arith in
    ap (λ t. not t || list_any (λ a. not (has_cfa (f a))) (range_with_len (start + 1) size)) (ap (λ n. has_cfa (f n)) same ∙ is)

some_in : (f : ℕ → Row) (start size a : ℕ) → start ≤ a → a < start + size → has_cfa (f a) ≡ false → list_any (λ a. not (has_cfa (f a))) (range_with_len start size) ≡ true
some_in f start zero a low high is = absurd (omega arith)
some_in f start (suc size) a low high is =
    some_by f start size a is low (λ up. some_in f (start + 1) size a up (omega arith) is) (cases_lt start a)

-- If every row has a rule for the CFA, every address has one.
pub none_lacks : (e : FdeFields) (rows : List RowAt) → AreRows e rows → list_any (λ r. not (has_cfa r.row)) rows ≡ false → HasCfa e
none_lacks e rows are none = record { everywhere = λ a low high. said_have rows a (row_at e a) none (are.each a low high) }

pub has_not_lacks : (e : FdeFields) → HasCfa e → lacks_cfa e ≡ false
unfolding lacks_cfa
has_not_lacks e has = none_in (row_at e) e.start e.size has.everywhere

pub some_lacks : (e : FdeFields) (rows : List RowAt) → AreRows e rows → list_any (λ r. not (has_cfa r.row)) rows ≡ true → lacks_cfa e ≡ true
unfolding lacks_cfa
some_lacks e rows are some =
    let found = lacking e.start (e.start + e.size) rows are.in_order some in
    let same : Some (row_at e found.0) ≡ Some found.1 = sym (are.each found.0 found.2 found.3) ∙ found.4 in
    let row : row_at e found.0 ≡ found.1 = cc in
    some_in (row_at e) e.start e.size found.0 found.2 found.3 (ap has_cfa row ∙ found.5)

-- If no address of a range lacks a rule for the CFA, a given address has one.
cfa_there : (f : ℕ → Row) (start size a : ℕ) → list_any (λ b. not (has_cfa (f b))) (range_with_len start size) ≡ false → start ≤ a → a < start + size → has_cfa (f a) ≡ true
cfa_there f start zero a none low high = absurd (omega arith)
cfa_there f start (suc size) a none low high =
    let parts = or_parts (not (has_cfa (f start))) (list_any (λ b. not (has_cfa (f b))) (range_with_len (start + 1) size)) none in
    elim (cases_lt start a) [
      | inl up ↦ cfa_there f (start + 1) size a parts.1 (omega arith) (omega arith)
      | inr down ↦ let same : start ≡ a = omega arith in ap (λ b. has_cfa (f b)) (sym same) ∙ not-false (has_cfa (f start)) parts.0
    ]

pub not_lacks_has : (e : FdeFields) → lacks_cfa e ≡ false → HasCfa e
unfolding lacks_cfa
not_lacks_has e none = record { everywhere = λ a low high. cfa_there (row_at e) e.start e.size a none low high }
