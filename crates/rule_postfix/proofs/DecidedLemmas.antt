-- What the pass over the entries has decided, entry after entry; for `new`, `put_behind`,
-- `put_entry`, `put_free`, `put_range`, `translate_all`, `write`.
use Rattle.std.proofs.Common.{◌≡◌, ℕ, ◌+◌, ◌-◌, ◌<◌, ◌≤◌, ◌&&◌, ◌^◌, not, nat_lt, nat_le, Bool, true, false, List, [], ◌∷◌, ◌++◌, map, take, drop, length, get_or, Option, None, Some, Err, refl, ap, sym, ◌∙◌, inl, inr, arith, subst}
use Rattle.std.specs.List.{flat_map, list_any}
use Rattle.std.proofs.lemmas.Bool.{and_parts, not-true, or_cases, leb-true, ltb-true}
use Rattle.std.proofs.lemmas.Grind.{flat_map-append}
use Rattle.std.proofs.lemmas.List.{append-nil, map-append, take_more, length-drop, get_or-drop}
use Rattle.sym_edges.specs.declared.reason.Reason.{Reason}
use Rattle.sym_edges.specs.declared.reason.Reason.TheVariants as reason
use Rattle.sym_edges.specs.declared.fault.Stop.{Stop}
use Rattle.sym_edges.specs.declared.fault.Stop.TheVariants.{Fault, NoMemory}
use Rattle.sym_edges.specs.Outside.{MatchStop}
use Rattle.sym_edges.specs.Addresses.{Range}
use Rattle.range_set.specs.Starts.{AllFrom}
use Rattle.range_set.specs.Enclosing.{encloses}
use Rattle.frame_entries.specs.declared.description.Body.{Body}
use Rattle.frame_entries.specs.declared.description.Body.TheVariants.{Good, Bad}
use Rattle.frame_entries.specs.declared.description.Entry.{Entry}
use Rattle.frame_entries.specs.FdeFields.{FdeFields}
use Rattle.sym_edges.specs.Results.{unless}
use Rattle.std.specs.Option.{option_or}
use Rattle.sym_records.specs.Canon.{canon_text}
use Rattle.sym_records.specs.Spelled.{text_bytes}
use Rattle.sym_records.specs.declared.line.SymLine.{SymLine}
use Rattle.sym_records.proofs.SpelledLemmas.{text_grown}
use Rattle.rule_postfix.specs.declared.progress.Progress.{Progress}
use Rattle.rule_postfix.specs.declared.omission.Omission.{Omission}
use Rattle.range_union.specs.Ranges.{any_overlap}
use Rattle.rule_postfix.specs.Written.{Decided, range_of, has_range, is_code, reason_among, reason_behind, rows_reason, body_reason, reason_of, left_out, with_written, with_fields, with_decision, with_entry, with_entries, decided_behind, decided_of, decided, written, omitted, entry_lines, written_lines}
use Rattle.rule_postfix.specs.internal.Deciding.{LiesAbove, EndsAt, IfRefused, Shows, none_decided}
use Rattle.frame_rows.specs.Rows.{rows_fault}
use Rattle.rule_postfix.proofs.SpellingLemmas.{canon_append}
use Rattle.rule_postfix.proofs.ReasonLemmas.{no_rows}

-- One entry more, and others.
pub lines_append : (base : ℕ) (ws others : List FdeFields) → written_lines base (ws ++ others) ≡ written_lines base ws ++ written_lines base others
unfolding written_lines
lines_append base ws others = flat_map-append (entry_lines base) ws others

lines_more : (base : ℕ) (ws : List FdeFields) (e : FdeFields) → written_lines base (ws ++ e ∷ []) ≡ written_lines base ws ++ entry_lines base e
unfolding written_lines
lines_more base ws e = flat_map-append (entry_lines base) ws (e ∷ []) ∙ ap (λ xs. flat_map (entry_lines base) ws ++ xs) (append-nil (entry_lines base e))

pub shows_more : (base : ℕ) (p q : Progress) (e : FdeFields) (d : Decided) (full last new : List ℕ) (lines : List SymLine) → lines ≡ entry_lines base e → text_bytes p.text ≡ full ++ last → new ≡ last ++ canon_text lines → text_bytes q.text ≡ full ++ new → q.omitted.items ≡ p.omitted.items → q.taken ≡ p.taken ++ range_of e ∷ [] → Shows base p d → Shows base q (with_written e d)
shows_more base p q e d full last new lines these was more now same taken so = record {
  text = now ∙ text_grown full last (canon_text lines) new more ∙ ap (λ t. t ++ canon_text lines) (sym was ∙ so.text) ∙ ap (λ xs. canon_text (written_lines base d.written) ++ canon_text xs) these
      ∙ sym (canon_append (written_lines base d.written) (entry_lines base e)) ∙ ap canon_text (sym (lines_more base d.written e));
  omitted = same ∙ so.omitted;
  taken = taken ∙ ap (λ rs. rs ++ range_of e ∷ []) so.taken ∙ sym (map-append range_of d.written (e ∷ []));
}

-- Nothing is decided yet.
pub shows_none : (base : ℕ) (p : Progress) → text_bytes p.text ≡ [] → p.omitted.items ≡ [] → p.taken ≡ [] → Shows base p none_decided
unfolding written_lines canon_text
shows_none base p text omitted taken = record { text = text; omitted = omitted; taken = taken }

-- A range that code above a base encloses is above the base.
pub enclosed_above : (base start end : ℕ) (code : List Range) → AllFrom base code → encloses code start end ≡ true → base ≤ start
unfolding encloses
enclosed_above base start end [] above is = cc
enclosed_above base start end (r ∷ code) above is =
    elim (or_cases (nat_le r.start start && nat_le end r.end) (list_any (λ x. nat_le x.start start && nat_le end x.end) code) is) [
      | inl here ↦ omega (arith, above.0, leb-true r.start start (and_parts (nat_le r.start start) (nat_le end r.end) here).0)
      | inr later ↦ enclosed_above base start end code above.1 later
    ]

pub lies_above : (base : ℕ) (code kept : List Range) → AllFrom base code → ((start end : ℕ) → encloses kept start end ≡ encloses code start end) → LiesAbove base kept
lies_above base code kept above same = record { at = λ start end is. enclosed_above base start end code above (sym (same start end) ∙ is) }

-- For an entry without a reason to leave it out.
pub or_left : (a b : Option Reason) → option_or a b ≡ None → a ≡ None
or_left None b is = refl
or_left (Some why) b is = is

pub or_right : (a b : Option Reason) → option_or a b ≡ None → b ≡ None
or_right None b is = is
or_right (Some why) b is = cc

unless_true : (t : Bool) (why : Reason) → unless t why ≡ None → t ≡ true
unless_true true why is = refl
unless_true false why is = cc

-- The range of an entry is a range of addresses, is in one range of code, and overlaps no taken
-- range.
pub record IsFree (code taken : List Range) (e : FdeFields) : Type 0 where
  pub some : 0 < e.size
  pub fits : e.start + e.size < 2 ^ 64
  pub inside : encloses code e.start (e.start + e.size) ≡ true
  pub apart : any_overlap (range_of e) taken ≡ false

pub is_free : (code taken : List Range) (e : FdeFields) → reason_among code taken e ≡ None → IsFree code taken e
unfolding reason_among is_code has_range
is_free code taken e none =
    let later : option_or (unless (is_code code e) reason.Outside) (unless (not (any_overlap (range_of e) taken)) reason.Overlap) ≡ None = or_right (rows_reason e) (option_or (unless (is_code code e) reason.Outside) (unless (not (any_overlap (range_of e) taken)) reason.Overlap)) none in
    let inside : is_code code e ≡ true = unless_true (is_code code e) reason.Outside (or_left (unless (is_code code e) reason.Outside) (unless (not (any_overlap (range_of e) taken)) reason.Overlap) later) in
    let ranged : has_range e ≡ true = (and_parts (has_range e) (encloses code e.start (e.start + e.size)) inside).0 in
    let parts : (nat_lt 0 e.size ≡ true) × (nat_lt (e.start + e.size) (2 ^ 64) ≡ true) = and_parts (nat_lt 0 e.size) (nat_lt (e.start + e.size) (2 ^ 64)) ranged in
    record {
      some = ltb-true 0 e.size parts.0;
      fits = ltb-true (e.start + e.size) (2 ^ 64) parts.1;
      inside = (and_parts (has_range e) (encloses code e.start (e.start + e.size)) inside).1;
      apart = not-true (any_overlap (range_of e) taken) (unless_true (not (any_overlap (range_of e) taken)) reason.Overlap (or_right (unless (is_code code e) reason.Outside) (unless (not (any_overlap (range_of e) taken)) reason.Overlap) later));
    }

-- What is decided about an entry.
same_reason : (base : ℕ) (code : List Range) (p : Progress) (e : FdeFields) (d : Decided) → Shows base p d → reason_behind code d.written e ≡ reason_among code p.taken e
unfolding reason_behind reason_among
same_reason base code p e d so = ap (λ t. option_or (rows_reason e) (option_or (unless (is_code code e) reason.Outside) (unless (not t) reason.Overlap))) (sym (ap (any_overlap (range_of e)) so.taken))

pub entry_bad : (code : List Range) (entry : Entry) (why : Reason) (d : Decided) → entry.body ≡ Bad why → with_entry code entry d ≡ left_out entry why d
unfolding with_entry reason_of
entry_bad code entry why d body = ap (λ b. with_decision entry (body_reason code d.written b) d) body

abbrev pub with_good : Entry → FdeFields → Option Reason → Decided → Decided
with_good entry e None d = with_written e d
with_good entry e (Some why) d = left_out entry why d

decision_good : (entry : Entry) (e : FdeFields) (o : Option Reason) (d : Decided) → entry.body ≡ Good e → with_decision entry o d ≡ with_good entry e o d
decision_good entry e None d body = ap (λ b. with_fields b d) body
decision_good entry e (Some why) d body = refl

good_by : (base : ℕ) (code : List Range) (p : Progress) (entry : Entry) (e : FdeFields) (o : Option Reason) (d : Decided) → entry.body ≡ Good e → reason_among code p.taken e ≡ o → Shows base p d → with_entry code entry d ≡ with_good entry e o d
unfolding with_entry reason_of
good_by base code p entry e o d body is so =
    ap (λ b. with_decision entry (body_reason code d.written b) d) body ∙ ap (λ r. with_decision entry r d) (same_reason base code p e d so ∙ is) ∙ decision_good entry e o d body

pub written_too : (base : ℕ) (code : List Range) (p q : Progress) (entry : Entry) (e : FdeFields) → entry.body ≡ Good e → reason_among code p.taken e ≡ None →
    ((d : Decided) → Shows base p d → Shows base q (with_written e d)) → (d : Decided) → Shows base p d → Shows base q (with_entry code entry d)
written_too base code p q entry e body is more d so =
    let P : Decided → Type 0 = λ x. Shows base q x in
    subst P (sym (good_by base code p entry e None d body is so)) (more d so)

pub left_too : (base : ℕ) (code : List Range) (p q : Progress) (entry : Entry) (e : FdeFields) (why : Reason) → entry.body ≡ Good e → reason_among code p.taken e ≡ Some why →
    ((base : ℕ) (d : Decided) → Shows base p d → Shows base q (left_out entry why d)) → (d : Decided) → Shows base p d → Shows base q (with_entry code entry d)
left_too base code p q entry e why body is more d so =
    let P : Decided → Type 0 = λ x. Shows base q x in
    subst P (sym (good_by base code p entry e (Some why) d body is so)) (more base d so)

-- An entry that is refused after some of its text was written.
pub refused_too : (A B : Type 0) (base : ℕ) (code : List Range) (p q r : Progress) (entry : Entry) (e : FdeFields) (end : ℕ) (stop : Stop Reason) (P : A → Type 0) (Q : B → Type 0) → entry.body ≡ Good e → EndsAt e end →
    MatchStop {A = A} {F = Reason} (Err stop) P (λ _. (b : ℕ) (d : Decided) → Shows b p d → Shows b q d) (Unit {0}) → MatchStop {A = B} {F = Reason} (Err stop) Q (λ why. rows_fault e ≡ Some why) (Unit {0}) →
    IfRefused stop (λ why. (base : ℕ) (d : Decided) → Shows base q d → Shows base r (left_out entry why d)) → (d : Decided) → Shows base p d → Shows base r (with_entry code entry d)
refused_too A B base code p q r entry e end (Fault why) P Q body ends still bad more = left_too base code p r entry e why body (no_rows code p.taken e why ends.ranged bad) (λ b d so. more b d (still b d so))
refused_too A B base code p q r entry e end NoMemory P Q body ends still bad more = absurd more

pub bad_too : (base : ℕ) (code : List Range) (p q : Progress) (entry : Entry) (why : Reason) → entry.body ≡ Bad why →
    ((base : ℕ) (d : Decided) → Shows base p d → Shows base q (left_out entry why d)) → (d : Decided) → Shows base p d → Shows base q (with_entry code entry d)
bad_too base code p q entry why body more d so =
    let P : Decided → Type 0 = λ x. Shows base q x in
    subst P (sym (entry_bad code entry why d body)) (more base d so)

-- Entries in order.
pub entries_append : (code : List Range) (xs ys : List Entry) (d : Decided) → with_entries code (xs ++ ys) d ≡ with_entries code ys (with_entries code xs d)
unfolding with_entries
entries_append code [] ys d = refl
entries_append code (x ∷ xs) ys d = entries_append code xs ys (with_entry code x d)

pub entries_more : (code : List Range) (entries : List Entry) (i : ℕ) (entry : Entry) (d : Decided) → i < length entries → entry ≡ get_or entries i entry → with_entries code (take (i + 1) entries) d ≡ with_entry code entry (with_entries code (take i entries) d)
unfolding with_entries
entries_more code entries i entry d inside is =
    ap (λ xs. with_entries code xs d) (take_more entries i entry inside) ∙ entries_append code (take i entries) (get_or entries i entry ∷ []) d
    ∙ ap (λ x. with_entry code x (with_entries code (take i entries) d)) (sym is)

pub on_more : (base : ℕ) (code : List Range) (entries : List Entry) (i : ℕ) (entry : Entry) (p q r : Progress) → i < length entries → entry ≡ get_or entries i entry →
    ((d : Decided) → Shows base p d → Shows base q (with_entries code (take i entries) d)) → ((d : Decided) → Shows base q d → Shows base r (with_entry code entry d)) →
    (d : Decided) → Shows base p d → Shows base r (with_entries code (take (i + 1) entries) d)
on_more base code entries i entry p q r inside is so more d first =
    let P : Decided → Type 0 = λ x. Shows base r x in
    subst P (sym (entries_more code entries i entry d inside is)) (more (with_entries code (take i entries) d) (so d first))

-- The entries from an index on.
pub none_between : (base : ℕ) (code : List Range) (entries : List Entry) (from : ℕ) (p : Progress) (d : Decided) → Shows base p d → Shows base p (with_entries code (take (from - from) (drop from entries)) d)
unfolding with_entries
none_between base code entries from p d so =
    let P : ℕ → Type 0 = λ n. Shows base p (with_entries code (take n (drop from entries)) d) in
    subst P (let none : 0 ≡ from - from = omega arith in none) so

pub on_next : (base : ℕ) (code : List Range) (entries : List Entry) (from i : ℕ) (entry : Entry) (p q r : Progress) → from ≤ i → i < length entries → entry ≡ get_or entries i entry →
    ((d : Decided) → Shows base p d → Shows base q (with_entries code (take (i - from) (drop from entries)) d)) → ((d : Decided) → Shows base q d → Shows base r (with_entry code entry d)) →
    (d : Decided) → Shows base p d → Shows base r (with_entries code (take (i + 1 - from) (drop from entries)) d)
on_next base code entries from i entry p q r up inside is so more d first =
    let P : ℕ → Type 0 = λ n. Shows base r (with_entries code (take n (drop from entries)) d) in
    let back : from + (i - from) ≡ i = omega (arith, up) in
    subst P (let next : i - from + 1 ≡ i + 1 - from = omega (arith, up) in next)
    (on_more base code (drop from entries) (i - from) entry p q r (omega (arith, up, inside, length-drop from entries))
    (is ∙ ap (λ n. get_or entries n entry) (sym back) ∙ sym (get_or-drop from entries (i - from) entry)) so more d first)

-- The outermost ranges of code decide as all ranges of code do.
pub record SameCode (kept code : List Range) : Type 0 where
  pub at : (start end : ℕ) → encloses kept start end ≡ encloses code start end

same_behind : (kept code : List Range) (ws : List FdeFields) (e : FdeFields) → SameCode kept code → reason_behind kept ws e ≡ reason_behind code ws e
unfolding reason_behind reason_among is_code
same_behind kept code ws e same = ap (λ t. option_or (rows_reason e) (option_or (unless (has_range e && t) reason.Outside) (unless (not (any_overlap (range_of e) (map range_of ws))) reason.Overlap))) (same.at e.start (e.start + e.size))

same_body : (kept code : List Range) (ws : List FdeFields) (b : Body) → SameCode kept code → body_reason kept ws b ≡ body_reason code ws b
same_body kept code ws (Good e) same = same_behind kept code ws e same
same_body kept code ws (Bad why) same = refl

same_entries : (kept code : List Range) (entries : List Entry) (d : Decided) → SameCode kept code → with_entries kept entries d ≡ with_entries code entries d
unfolding with_entries with_entry reason_of
same_entries kept code [] d same = refl
same_entries kept code (x ∷ entries) d same =
    ap (λ o. with_entries kept entries (with_decision x o d)) (same_body kept code d.written x.body same) ∙ same_entries kept code entries (with_entry code x d) same

pub shown_all : (base : ℕ) (kept code : List Range) (first second : List Entry) (p q r : Progress) → ((start end : ℕ) → encloses kept start end ≡ encloses code start end) → Shows base p none_decided →
    ((d : Decided) → Shows base p d → Shows base q (with_entries kept first d)) → ((d : Decided) → Shows base q d → Shows base r (with_entries kept second d)) → Shows base r (decided code first second)
unfolding decided decided_of decided_behind
shown_all base kept code first second p q r at begun on_first on_second =
    let same : SameCode kept code = record { at = at } in
    let P : Decided → Type 0 = λ x. Shows base r x in
    subst P (same_entries kept code second (with_entries kept first none_decided) same ∙ ap (with_entries code second) (same_entries kept code first none_decided same) ∙ sym (entries_append code first second none_decided))
    (on_second (with_entries kept first none_decided) (on_first none_decided begun))

pub shown_text : (base : ℕ) (code : List Range) (first second : List Entry) (r : Progress) → Shows base r (decided code first second) → text_bytes r.text ≡ canon_text (written_lines base (written code first second))
unfolding written
shown_text base code first second r so = so.text

pub shown_omitted : (base : ℕ) (code : List Range) (first second : List Entry) (r : Progress) (left : List Omission) → Shows base r (decided code first second) → left ≡ r.omitted.items → left ≡ omitted code first second
unfolding omitted
shown_omitted base code first second r left so these = these ∙ so.omitted
