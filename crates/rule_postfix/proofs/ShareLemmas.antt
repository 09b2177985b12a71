-- The entries of a section in shares; for `join_share`, `join_shares`, `meets_any`, `put_entries`,
-- `put_share`, `take_all`.
use Rattle.std.proofs.Common.{◌≡◌, ℕ, zero, suc, ◌+◌, ◌*◌, ◌<◌, ◌≤◌, ◌||◌, not, Bool, true, false, map, length, take, get_or, List, [], ◌∷◌, ◌++◌, Option, Some, None, refl, ap, sym, subst, ◌∙◌, arith, append_assoc, append-nil}
use Rattle.std.specs.List.{list_any}
use Rattle.std.specs.Option.{option_or}
use Rattle.std.proofs.lemmas.Bool.{or_parts}
use Rattle.std.proofs.lemmas.List.{take_all, map-append, take_more}
use Rattle.std.proofs.lemmas.List.Folds.{list_any-append}
use Rattle.unit_workers.specs.Shares.{share}
use Rattle.unit_workers.proofs.ShareLemmas.{share_next}
use Rattle.sym_edges.specs.Addresses.{Range}
use Rattle.sym_edges.specs.Results.{unless}
use Rattle.sym_edges.specs.declared.reason.Reason.{Reason}
use Rattle.sym_edges.specs.declared.reason.Reason.TheVariants as reason
use Rattle.frame_entries.specs.declared.description.Body.{Body}
use Rattle.frame_entries.specs.declared.description.Body.TheVariants.{Good, Bad}
use Rattle.frame_entries.specs.declared.description.Entry.{Entry}
use Rattle.frame_entries.specs.FdeFields.{FdeFields}
use Rattle.sym_records.specs.Canon.{canon_text}
use Rattle.sym_records.specs.Spelled.{text_bytes}
use Rattle.rule_postfix.specs.declared.progress.Progress.{Progress}
use Rattle.range_union.specs.Ranges.{overlap, any_overlap}
use Rattle.rule_postfix.specs.Written.{Decided, range_of, is_code, rows_reason, reason_among, reason_behind, body_reason, reason_of, with_written, with_fields, with_decision, with_entry, with_entries, written_lines}
use Rattle.rule_postfix.specs.internal.Deciding.{Shows, none_decided}
use Rattle.rule_postfix.proofs.DecidedLemmas.{entries_append, lines_append}
use Rattle.rule_postfix.proofs.SpellingLemmas.{canon_append}

pub on_share : (base : ℕ) (code : List Range) (entries : List Entry) (size k : ℕ) (p q r : Progress) →
    ((d : Decided) → Shows base p d → Shows base q (with_entries code (take (size * k) entries) d)) → ((d : Decided) → Shows base q d → Shows base r (with_entries code (share size k entries) d)) →
    (d : Decided) → Shows base p d → Shows base r (with_entries code (take (size * (k + 1)) entries) d)
on_share base code entries size k p q r so more d first =
    let P : Decided → Type 0 = λ x. Shows base r x in
    subst P (sym (ap (λ es. with_entries code es d) (share_next size k entries) ∙ entries_append code (take (size * k) entries) (share size k entries) d))
    (more (with_entries code (take (size * k) entries) d) (so d first))

pub on_none : (base : ℕ) (code : List Range) (entries : List Entry) (size : ℕ) (p : Progress) (d : Decided) → Shows base p d → Shows base p (with_entries code (take (size * 0) entries) d)
unfolding with_entries
on_none base code entries size p d so =
    let P : ℕ → Type 0 = λ n. Shows base p (with_entries code (take n entries) d) in
    subst P (let none : 0 ≡ size * 0 = omega arith in none) so

-- One of the ranges overlaps a taken range.
pub met_here : (taken ranges : List Range) (k : ℕ) (r : Range) → k < length ranges → r ≡ get_or ranges k r → true ≡ any_overlap r taken → true ≡ list_any (λ range. any_overlap range taken) ranges
met_here taken [] k r inside is met = absurd (omega (arith, inside))
met_here taken (x ∷ ranges) zero r inside is met = ap (λ t. t || list_any (λ range. any_overlap range taken) ranges) (met ∙ ap (λ y. any_overlap y taken) is)
met_here taken (x ∷ ranges) (suc k) r inside is met =
    met_here taken ranges k r (omega (arith, inside)) is met ∙ true_or (any_overlap x taken) (list_any (λ range. any_overlap range taken) ranges) (sym (met_here taken ranges k r (omega (arith, inside)) is met))
  where
    true_or : (a b : Bool) → b ≡ true → b ≡ (a || b)
    true_or true b is = is
    true_or false b is = refl

met_push : (taken ranges : List Range) (r : Range) → list_any (λ range. any_overlap range taken) ranges ≡ false → any_overlap r taken ≡ false → list_any (λ range. any_overlap range taken) (ranges ++ r ∷ []) ≡ false
met_push taken ranges r none free = list_any-append (λ range. any_overlap range taken) ranges (r ∷ []) ∙ ap (λ t. t || (any_overlap r taken || false)) none ∙ ap (λ t. t || false) free

pub met_next : (taken ranges : List Range) (k : ℕ) (r : Range) → list_any (λ range. any_overlap range taken) (take k ranges) ≡ false → k < length ranges → r ≡ get_or ranges k r → any_overlap r taken ≡ false → list_any (λ range. any_overlap range taken) (take (k + 1) ranges) ≡ false
met_next taken ranges k r none inside is free =
    ap (list_any (λ range. any_overlap range taken)) (take_more ranges k r inside ∙ ap (λ x. take k ranges ++ x ∷ []) (sym is)) ∙ met_push taken (take k ranges) r none free

pub met_never : (taken ranges : List Range) (k : ℕ) → list_any (λ range. any_overlap range taken) (take k ranges) ≡ false → length ranges ≤ k → false ≡ list_any (λ range. any_overlap range taken) ranges
met_never taken ranges k none over = sym none ∙ ap (list_any (λ range. any_overlap range taken)) (take_all k ranges over)

-- Ranges that are taken when none is taken yet.
pub all_taken : (taken more : List Range) → length taken ≡ 0 → more ≡ taken ++ more
all_taken [] more none = refl
all_taken (x ∷ taken) more none = absurd (omega (arith, none))

-- What is decided after other entries.
abbrev pub joined : Decided → Decided → Decided
joined d l = record { written = d.written ++ l.written; omitted = d.omitted ++ l.omitted }

-- No range that one decision takes overlaps a range that the other took.
abbrev pub IsFreeOf : Decided → Decided → Type 0
IsFreeOf d l = list_any (λ range. any_overlap range (map range_of d.written)) (map range_of l.written) ≡ false

free_push : (d l : Decided) (e : FdeFields) → IsFreeOf d (with_written e l) → IsFreeOf d l × (any_overlap (range_of e) (map range_of d.written) ≡ false)
free_push d l e free =
    let test : Range → Bool = λ range. any_overlap range (map range_of d.written) in
    let parts = or_parts (list_any test (map range_of l.written)) (list_any test (range_of e ∷ []))
    (sym (ap (list_any test) (map-append range_of l.written (e ∷ [])) ∙ list_any-append test (map range_of l.written) (range_of e ∷ [])) ∙ free) in
    (parts.0, (or_parts (test (range_of e)) false parts.1).0)

-- One entry more.
free_body : (d l : Decided) (entry : Entry) (b : Body) → IsFreeOf d (with_fields b l) → IsFreeOf d l
free_body d l entry (Good e) free = (free_push d l e free).0
free_body d l entry (Bad why) free = free

free_decision : (d l : Decided) (entry : Entry) (o : Option Reason) → IsFreeOf d (with_decision entry o l) → IsFreeOf d l
free_decision d l entry None free = free_body d l entry entry.body free
free_decision d l entry (Some why) free = free

free_entries : (code : List Range) (entries : List Entry) (d l : Decided) → IsFreeOf d (with_entries code entries l) → IsFreeOf d l
unfolding with_entries with_entry
free_entries code [] d l free = free
free_entries code (x ∷ entries) d l free = free_decision d l x (reason_of code l.written x) (free_entries code entries d (with_entry code x l) free)

-- The reason of an entry is the same after the other entries, if its range overlaps none of theirs.
reason_by : (rows code : Option Reason) (s t : Bool) (o : Option Reason) → option_or rows (option_or code (unless (not t) reason.Overlap)) ≡ o → (o ≡ None → s ≡ false) → option_or rows (option_or code (unless (not (s || t)) reason.Overlap)) ≡ o
reason_by (Some why) code s t o is free = is
reason_by None (Some why) s t o is free = is
reason_by None None true true o is free = is
reason_by None None false t o is free = is
reason_by None None true false None is free = let no : ◌≡◌ {A = Bool} true false = free refl in cc
reason_by None None true false (Some why) is free = cc

same_reason : (code : List Range) (d l : Decided) (e : FdeFields) (o : Option Reason) → reason_behind code l.written e ≡ o → (o ≡ None → any_overlap (range_of e) (map range_of d.written) ≡ false) → reason_behind code (d.written ++ l.written) e ≡ o
unfolding reason_behind reason_among any_overlap
same_reason code d l e o is free =
    ap (λ t. option_or (rows_reason e) (option_or (unless (is_code code e) reason.Outside) (unless (not t) reason.Overlap)))
    (ap (list_any (overlap (range_of e))) (map-append range_of d.written l.written) ∙ list_any-append (overlap (range_of e)) (map range_of d.written) (map range_of l.written))
    ∙ reason_by (rows_reason e) (unless (is_code code e) reason.Outside) (any_overlap (range_of e) (map range_of d.written)) (any_overlap (range_of e) (map range_of l.written)) o is free

free_good : (d l : Decided) (entry : Entry) (e : FdeFields) (o : Option Reason) → entry.body ≡ Good e → IsFreeOf d (with_decision entry o l) → o ≡ None → any_overlap (range_of e) (map range_of d.written) ≡ false
free_good d l entry e None body free none =
    let P : Body → Type 0 = λ b. IsFreeOf d (with_fields b l) in
    (free_push d l e (subst P body free)).1
free_good d l entry e (Some why) body free none = cc

same_body : (code : List Range) (d l : Decided) (entry : Entry) (b : Body) → entry.body ≡ b → IsFreeOf d (with_decision entry (body_reason code l.written b) l) → body_reason code (d.written ++ l.written) b ≡ body_reason code l.written b
same_body code d l entry (Good e) body free = same_reason code d l e (reason_behind code l.written e) refl (free_good d l entry e (reason_behind code l.written e) body free)
same_body code d l entry (Bad why) body free = refl

joined_fields : (b : Body) (d l : Decided) → with_fields b (joined d l) ≡ joined d (with_fields b l)
joined_fields (Good e) d l = ap (λ es. record { written = es; omitted = d.omitted ++ l.omitted }) (append_assoc d.written l.written (e ∷ []))
joined_fields (Bad why) d l = refl

joined_decision : (entry : Entry) (o : Option Reason) (d l : Decided) → with_decision entry o (joined d l) ≡ joined d (with_decision entry o l)
joined_decision entry None d l = joined_fields entry.body d l
joined_decision entry (Some why) d l = ap (λ os. record { written = d.written ++ l.written; omitted = os }) (append_assoc d.omitted l.omitted (record { section = entry.section; at = entry.at; reason = why } ∷ []))

joined_entry : (code : List Range) (entry : Entry) (d l : Decided) → IsFreeOf d (with_entry code entry l) → with_entry code entry (joined d l) ≡ joined d (with_entry code entry l)
unfolding with_entry reason_of
joined_entry code entry d l free =
    ap (λ o. with_decision entry o (joined d l)) (same_body code d l entry entry.body refl free) ∙ joined_decision entry (body_reason code l.written entry.body) d l

joined_entries : (code : List Range) (entries : List Entry) (d l : Decided) → IsFreeOf d (with_entries code entries l) → with_entries code entries (joined d l) ≡ joined d (with_entries code entries l)
unfolding with_entries
joined_entries code [] d l free = refl
joined_entries code (x ∷ entries) d l free =
    ap (with_entries code entries) (joined_entry code x d l (free_entries code entries d (with_entry code x l) free)) ∙ joined_entries code entries d (with_entry code x l) free

none_joined : (d : Decided) → joined d none_decided ≡ d
none_joined d = ap (λ es. record { written = es; omitted = d.omitted ++ [] }) (append-nil d.written) ∙ ap (λ os. record { written = d.written; omitted = os }) (append-nil d.omitted)

-- What was decided as if no range were taken is also decided after the other entries.
pub part_joined : (base : ℕ) (code : List Range) (entries : List Entry) (p part r : Progress) → list_any (λ range. any_overlap range p.taken) part.taken ≡ false → Shows base part (with_entries code entries none_decided) →
    text_bytes r.text ≡ text_bytes p.text ++ text_bytes part.text → r.omitted.items ≡ p.omitted.items ++ part.omitted.items → r.taken ≡ p.taken ++ part.taken → (d : Decided) → Shows base p d → Shows base r (with_entries code entries d)
part_joined base code entries p part r free made text omitted taken d so =
    let m : Decided = with_entries code entries none_decided in
    let apart : IsFreeOf d m = ap (λ rs. list_any (λ range. any_overlap range rs) (map range_of m.written)) (sym so.taken) ∙ ap (list_any (λ range. any_overlap range p.taken)) (sym made.taken) ∙ free in
    let P : Decided → Type 0 = λ x. Shows base r x in
    subst P (sym (ap (with_entries code entries) (sym (none_joined d)) ∙ joined_entries code entries d none_decided apart))
    (record {
      text = text ∙ ap (λ t. t ++ text_bytes part.text) so.text ∙ ap (λ t. canon_text (written_lines base d.written) ++ t) made.text
          ∙ sym (ap canon_text (lines_append base d.written m.written) ∙ canon_append (written_lines base d.written) (written_lines base m.written));
      omitted = omitted ∙ ap (λ os. os ++ part.omitted.items) so.omitted ∙ ap (λ os. d.omitted ++ os) made.omitted;
      taken = taken ∙ ap (λ rs. rs ++ part.taken) so.taken ∙ ap (λ rs. map range_of d.written ++ rs) made.taken ∙ sym (map-append range_of d.written m.written);
    })

-- A range of the share overlaps neither taken ranges nor the ranges before it.
pub part_apart : (taken ranges : List Range) → list_any (λ range. any_overlap range taken) ranges ≡ false → ((k : ℕ) (d : Range) → k < length ranges → any_overlap (get_or ranges k d) (take k ranges) ≡ false) → (k : ℕ) (d : Range) → k < length ranges → any_overlap (get_or ranges k d) (taken ++ take k ranges) ≡ false
unfolding any_overlap
part_apart taken ranges free apart k d below =
    list_any-append (overlap (get_or ranges k d)) taken (take k ranges)
    ∙ ap (λ t. t || list_any (overlap (get_or ranges k d)) (take k ranges)) (each ranges k free below)
    ∙ apart k d below
  where
    each : (rs : List Range) (k : ℕ) → list_any (λ range. list_any (overlap range) taken) rs ≡ false → k < length rs → list_any (overlap (get_or rs k d)) taken ≡ false
    each [] k none less = absurd (omega (arith, less))
    each (x ∷ rs) zero none less = (or_parts (list_any (overlap x) taken) (list_any (λ range. list_any (overlap range) taken) rs) none).0
    each (x ∷ rs) (suc k) none less = each rs k (or_parts (list_any (overlap x) taken) (list_any (λ range. list_any (overlap range) taken) rs) none).1 (omega (arith, less))
