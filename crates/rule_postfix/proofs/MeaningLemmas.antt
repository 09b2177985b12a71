-- The records of written entries mean what DWARF's rows mean; for the law about the meaning of
-- frames.
use Rattle.std.proofs.Common.{◌≡◌, ℕ, ◌+◌, ◌-◌, ◌<◌, ◌≤◌, nat_le, nat_lt, true, cond, List, [], ◌∷◌, ◌++◌, Option, None, refl, ap, sym, ◌∙◌, subst, arith, append_assoc, append-nil}
use Rattle.std.specs.List.{list_all, AllByRecursion}
use Rattle.std.specs.Option.{option_map}
use Rattle.std.proofs.lemmas.Bool.{and_parts, ltb-true, leb-true}
use Rattle.std.proofs.lemmas.List.FromFn.{get_or-map-range_with_len}
use Rattle.std.proofs.lemmas.List.Sums.{sum_by-append}
use Rattle.sym_edges.specs.Addresses.{Range}
use Rattle.range_set.specs.Starts.{AllFrom}
use Rattle.frame_entries.specs.declared.description.Entry.{Entry}
use Rattle.frame_entries.specs.FdeFields.{FdeFields}
use Rattle.frame_rows.specs.declared.row.Row.{Row}
use Rattle.frame_rows.specs.Steps.{has_cfa}
use Rattle.frame_rows.specs.Rows.{IsSound, row_at, rows_fault}
use Rattle.frame_rows.proofs.EntryLemmas.{rows_have, rows_sound}
use Rattle.sym_records.specs.declared.line.SymLine.{SymLine}
use Rattle.sym_rules.specs.declared.rules.Target.{Target}
use Rattle.sym_rules.specs.declared.rules.Target.TheVariants.{Cfa, Ra, Reg}
use Rattle.sym_rules.specs.declared.rules.RuleText.{RuleText}
use Rattle.sym_meaning.specs.Inits.{inits_at, is_frameless}
use Rattle.sym_meaning.proofs.InitLemmas.{covers_after}
use Rattle.cfi_eval.specs.declared.registers.Regs.{Regs}
use Rattle.cfi_eval.specs.declared.memory.MemRun.{MemRun}
use Rattle.cfi_eval.specs.declared.outcome.Outcome.TheVariants.{Undefined}
use Rattle.cfi_eval.specs.declared.outcome.Frame.{Frame}
use Rattle.cfi_eval.specs.TextValue.{text_register, frame_of, text_frame}
use Rattle.rule_postfix.specs.FrameLines.{frame_lines as lines_of_rows}
use Rattle.range_union.specs.Ranges.{any_overlap}
use Rattle.rule_postfix.specs.RowValue.{value_in_row, row_frame}
use Rattle.rule_postfix.specs.FrameMeaning.{IsFrameOf, SaysFrame, KeepsRows, KeepsFrames}
use Rattle.rule_postfix.specs.Written.{written, entry_lines, written_lines}
use Rattle.rule_postfix.specs.Covering.{holds_address, entries_at, AreDisjoint}
use Rattle.rule_postfix.proofs.CoveringLemmas.{AreAbove}
use Rattle.rule_postfix.proofs.WrittenLemmas.{AreWritten, written_are}
use Rattle.rule_postfix.proofs.KeptLemmas.{written_above, written_apart, written_cover}
use Rattle.rule_postfix.proofs.SayingLemmas.{entries_more, one_entry}
use Rattle.rule_postfix.proofs.ShownLemmas.{IsTarget, Shows}
use Rattle.rule_postfix.proofs.FoundLemmas.{AreSaid, HasRules, written_found, after_found, nothing_found}
use Rattle.rule_postfix.proofs.ValueLemmas.{cfa_shown, ra_shown, register_shown}

-- Rules that show a row give its frame.
frame_shown : (e : FdeFields) (row : Row) (regs : Regs) (memory : List MemRun) (rules : List RuleText) → IsSound e row → has_cfa row ≡ true → ((t : Target) → IsTarget t → Shows e rules row t) → IsFrameOf row (row_frame e row regs memory) (frame_of regs memory rules)
unfolding frame_of row_frame
frame_shown e row regs memory rules sound has shows = record {
  cfa = cfa_shown e regs memory rules row sound (shows Cfa tt);
  ra = ra_shown e regs memory rules row sound (shows Cfa tt) (shows Ra tt);
  registers = λ k below shown.
      get_or-map-range_with_len (text_register regs memory rules) 0 16 k k Undefined below (omega arith)
      ∙ register_shown e regs memory rules row k sound has shown (shows Cfa tt) (shows (Reg k) below)
      ∙ sym (get_or-map-range_with_len (value_in_row e regs memory row) 0 16 k k Undefined below (omega arith));
}

says_by : (e : FdeFields) (row : Row) (regs : Regs) (memory : List MemRun) (lines : List SymLine) (x : ℕ) → IsSound e row → has_cfa row ≡ true → HasRules e lines x row → SaysFrame row (row_frame e row regs memory) (text_frame lines x regs memory)
unfolding text_frame
says_by e row regs memory lines x sound has rules =
    let P : Option Frame → Type 0 = λ o. SaysFrame row (row_frame e row regs memory) o in
    subst P (sym (ap (option_map (frame_of regs memory)) rules.found)) (frame_shown e row regs memory rules.rules sound has rules.shows)

-- If the rows of an entry give no reason, their rules can be written.
rows_said : (e : FdeFields) → rows_fault e ≡ None → AreSaid e (row_at e) e.start (e.start + e.size)
rows_said e none = record { sound = λ a. rows_sound e a none; cfa = (rows_have e none).everywhere }

-- How many entries of two lists have an address.
entries_append : (xs ys : List FdeFields) (a : ℕ) → entries_at (xs ++ ys) a ≡ entries_at xs a + entries_at ys a
unfolding entries_at
entries_append xs ys a = sum_by-append (λ w. cond (holds_address a w) 1 0) xs ys

none_before : (a : ℕ) (xs : List FdeFields) (e : FdeFields) (ys : List FdeFields) → AreDisjoint (xs ++ e ∷ ys) → holds_address a e ≡ true → entries_at xs a ≡ 0
none_before a xs e ys apart held =
    let few : entries_at (xs ++ e ∷ ys) a ≤ 1 = one_entry a (xs ++ e ∷ ys) apart in
    let all : entries_at (xs ++ e ∷ ys) a ≡ entries_at xs a + entries_at (e ∷ ys) a = entries_append xs (e ∷ ys) a in
    let here : entries_at (e ∷ ys) a ≡ 1 + entries_at ys a = entries_more e ys a ∙ ap (λ t. cond t 1 0 + entries_at ys a) held in
    omega (arith, few, all, here)

above_parts : (base : ℕ) (xs : List FdeFields) (e : FdeFields) (ys : List FdeFields) → AreAbove base (xs ++ e ∷ ys) → AreAbove base xs × (base ≤ e.start)
unfolding AreAbove
above_parts base [] e ys above = (tt, above.0)
above_parts base (f ∷ xs) e ys above = let rest = above_parts base xs e ys above.1 in ((above.0, rest.0), rest.1)

pub low_held : (a : ℕ) (e : FdeFields) → holds_address a e ≡ true → e.start ≤ a
low_held a e held = leb-true e.start a (and_parts (nat_le e.start a) (nat_lt a (e.start + e.size)) held).0

pub high_held : (a : ℕ) (e : FdeFields) → holds_address a e ≡ true → a < e.start + e.size
high_held a e held = ltb-true a (e.start + e.size) (and_parts (nat_le e.start a) (nat_lt a (e.start + e.size)) held).1

-- What is known of the written entries.
pub record AreKept (base : ℕ) (entries : List FdeFields) : Type 0 where
  pub above : AreAbove base entries
  pub apart : AreDisjoint entries

no_inits : (front : List SymLine) (x : ℕ) → list_all is_frameless front ≡ true → inits_at front x ≡ 0
unfolding inits_at
no_inits front x plain = ap (λ ls. inits_at ls x) (sym (append-nil front)) ∙ covers_after x front [] plain

keeps_one : (base : ℕ) (front : List SymLine) (xs : List FdeFields) (e : FdeFields) (ys : List FdeFields) → list_all is_frameless front ≡ true → AreKept base (xs ++ e ∷ ys) → rows_fault e ≡ None → KeepsRows base (front ++ written_lines base (xs ++ e ∷ ys)) e
keeps_one base front xs e ys plain kept none = record {
  at = λ a regs memory held.
      let lines : List SymLine = front ++ written_lines base (xs ++ e ∷ ys) in
      let parts = above_parts base xs e ys kept.above in
      let low : e.start ≤ a = low_held a e held in
      let high : a < e.start + e.size = high_held a e held in
      let same : a - base + base ≡ a = omega (arith, low, parts.1) in
      let before : entries_at xs (a - base + base) ≡ 0 = ap (entries_at xs) same ∙ none_before a xs e ys kept.apart held in
      let said : AreSaid e (row_at e) e.start (e.start + e.size) = rows_said e none in
      let found : HasRules e lines (a - base) (row_at e (a - base + base)) =
      after_found e front (written_lines base (xs ++ e ∷ ys)) (a - base) (row_at e (a - base + base)) (no_inits front (a - base) plain)
      (written_found base (a - base) xs e ys parts.0 parts.1 before (omega (arith, low, same)) (omega (arith, high, same)) said) in
      let P : ℕ → Type 0 = λ k. HasRules e lines (a - base) (row_at e k) in
      says_by e (row_at e a) regs memory lines (a - base) (said.sound a) (said.cfa a low high) (subst P same found);
}

keeps_all : (base : ℕ) (front : List SymLine) (xs ys : List FdeFields) → list_all is_frameless front ≡ true → AreKept base (xs ++ ys) → AreWritten ys → AllByRecursion (KeepsRows base (front ++ written_lines base (xs ++ ys))) ys
keeps_all base front xs [] plain kept have = tt
keeps_all base front xs (e ∷ ys) plain kept have =
    let same : (xs ++ e ∷ []) ++ ys ≡ xs ++ e ∷ ys = append_assoc xs (e ∷ []) ys in
    let P : List FdeFields → Type 0 = λ es. AllByRecursion (KeepsRows base (front ++ written_lines base es)) ys in
    (keeps_one base front xs e ys plain kept have.0.rows, subst P same (keeps_all base front (xs ++ e ∷ []) ys plain (subst (AreKept base) (sym same) kept) have.1))

none_else : (base x : ℕ) (entries : List FdeFields) (lines : List SymLine) (regs : Regs) (memory : List MemRun) → inits_at lines x ≡ entries_at entries (x + base) → entries_at entries (x + base) ≡ 0 → text_frame lines x regs memory ≡ None
unfolding text_frame
none_else base x entries lines regs memory cover none = ap (option_map (frame_of regs memory)) (nothing_found lines x (cover ∙ none))

-- After records that are not about frames, the records of the written entries mean what the rows of
-- the entries mean.
pub frames_kept : (base : ℕ) (code : List Range) (first second : List Entry) (front : List SymLine) → AllFrom base code → list_all is_frameless front ≡ true → KeepsFrames base (written code first second) (front ++ written_lines base (written code first second))
frames_kept base code first second front from plain =
    let entries : List FdeFields = written code first second in
    let lines : List SymLine = front ++ written_lines base entries in
    record {
      rows = keeps_all base front [] entries plain (record { above = written_above base code first second from; apart = written_apart base code first second from }) (written_are code first second);
      nothing_else = λ x regs memory none. none_else base x entries lines regs memory (covers_after x front (written_lines base entries) plain ∙ written_cover base code first second (written_lines base entries) from refl x) none;
    }

pub entries_kept : (base : ℕ) (code : List Range) (first second : List Entry) → AllFrom base code → KeepsFrames base (written code first second) (written_lines base (written code first second))
entries_kept base code first second from = frames_kept base code first second [] from refl

-- The records of one entry.
pub entry_kept : (base : ℕ) (e : FdeFields) → base ≤ e.start → rows_fault e ≡ None → KeepsRows base (lines_of_rows e (row_at e) e.start e.size base) e
unfolding written_lines entry_lines any_overlap AreAbove
entry_kept base e le none =
    let kept : AreKept base (e ∷ []) = record { above = (le, tt); apart = (refl, tt) } in
    let P : List SymLine → Type 0 = λ ls. KeepsRows base ls e in
    subst P (append-nil (lines_of_rows e (row_at e) e.start e.size base)) (keeps_one base [] [] e [] refl kept none)
