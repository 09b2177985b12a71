-- What holds for each written entry by itself; for the laws about frames.
use Rattle.std.proofs.Common.{◌≡◌, ℕ, ◌+◌, ◌<◌, ◌^◌, cond, not, true, map, List, [], ◌∷◌, ◌++◌, Option, None, Some, refl, ap, sym, ◌∙◌, subst, arith}
use Rattle.std.specs.Option.{option_or}
use Rattle.std.proofs.lemmas.Bool.Decides.{nat_tests}
use Rattle.sym_edges.specs.declared.reason.Reason.{Reason}
use Rattle.sym_edges.specs.declared.reason.Reason.TheVariants as reason
use Rattle.sym_edges.specs.Addresses.{Range}
use Rattle.sym_edges.specs.Results.{unless}
use Rattle.frame_entries.specs.declared.description.Body.{Body}
use Rattle.frame_entries.specs.declared.description.Body.TheVariants.{Good, Bad}
use Rattle.frame_entries.specs.declared.description.Entry.{Entry}
use Rattle.frame_entries.specs.FdeFields.{FdeFields}
use Rattle.frame_rows.specs.Rows.{rows_fault, instruction_fault}
use Rattle.sym_records.specs.declared.place.Place.TheVariants.{Inside}
use Rattle.sym_records.specs.Validity.{first_bad_from}
use Rattle.sym_records.proofs.JoiningLemmas.{join_behind}
use Rattle.range_union.specs.Ranges.{any_overlap}
use Rattle.rule_postfix.specs.Written.{Decided, range_of, has_range, rows_reason, reason_among, reason_behind, is_code, body_reason, reason_of, with_fields, with_decision, with_entry, with_entries, decided_behind, decided_of, decided, written, entry_lines, written_lines}
use Rattle.rule_postfix.specs.internal.Deciding.{none_decided}
use Rattle.rule_postfix.proofs.DecidedLemmas.{IsFree, is_free, or_left}
use Rattle.rule_postfix.proofs.EntryLemmas.{entry_valid}

-- The entry has rows, and a range of addresses.
pub record IsWritten (e : FdeFields) : Type 0 where
  pub rows : rows_fault e ≡ None
  pub some : 0 < e.size
  pub fits : e.start + e.size < 2 ^ 64

abbrev pub AreWritten : List FdeFields → Type 0
AreWritten [] = Unit {0}
AreWritten (e ∷ entries) = IsWritten e × AreWritten entries

written_push : (entries : List FdeFields) (e : FdeFields) → AreWritten entries → IsWritten e → AreWritten (entries ++ e ∷ [])
written_push [] e are is = (is, tt)
written_push (f ∷ entries) e are is = (are.0, written_push entries e are.1 is)

has_range_of : (e : FdeFields) → 0 < e.size → e.start + e.size < 2 ^ 64 → has_range e ≡ true
unfolding has_range
has_range_of e some fits = grind (arith, nat_tests)

free_written : (code taken : List Range) (e : FdeFields) → reason_among code taken e ≡ None → IsWritten e
unfolding reason_among rows_reason
free_written code taken e none =
    let free : IsFree code taken e = is_free code taken e none in
    let rows : cond (has_range e) (rows_fault e) (instruction_fault e) ≡ None = or_left (cond (has_range e) (rows_fault e) (instruction_fault e)) (option_or (unless (is_code code e) reason.Outside) (unless (not (any_overlap (range_of e) taken)) reason.Overlap)) none in
    record { rows = sym (ap (λ t. cond t (rows_fault e) (instruction_fault e)) (has_range_of e free.some free.fits)) ∙ rows; some = free.some; fits = free.fits }

good_written : (code : List Range) (entry : Entry) (e : FdeFields) (o : Option Reason) (d : Decided) → entry.body ≡ Good e → reason_behind code d.written e ≡ o → AreWritten d.written → AreWritten (with_decision entry o d).written
unfolding reason_behind
good_written code entry e None d body is are =
    let P : Body → Type 0 = λ b. AreWritten (with_fields b d).written in
    subst P (sym body) (written_push d.written e are (free_written code (map range_of d.written) e is))
good_written code entry e (Some why) d body is are = are

body_written : (code : List Range) (entry : Entry) (b : Body) (d : Decided) → entry.body ≡ b → AreWritten d.written → AreWritten (with_decision entry (body_reason code d.written b) d).written
body_written code entry (Good e) d body are = good_written code entry e (reason_behind code d.written e) d body refl are
body_written code entry (Bad why) d body are = are

entries_written : (code : List Range) (entries : List Entry) (d : Decided) → AreWritten d.written → AreWritten (with_entries code entries d).written
unfolding with_entries with_entry reason_of
entries_written code [] d are = are
entries_written code (x ∷ entries) d are = entries_written code entries (with_entry code x d) (body_written code x x.body d refl are)

pub written_are : (code : List Range) (first second : List Entry) → AreWritten (written code first second)
unfolding written decided decided_of decided_behind
written_are code first second = entries_written code (first ++ second) none_decided tt

-- The records of the written entries are valid after any record.
all_valid : (base : ℕ) (entries : List FdeFields) → AreWritten entries → first_bad_from 0 Inside (written_lines base entries) ≡ None
unfolding written_lines entry_lines first_bad_from
all_valid base [] are = refl
all_valid base (e ∷ entries) are = join_behind (entry_lines base e) (written_lines base entries) (entry_valid base e are.0.rows are.0.some are.0.fits) (all_valid base entries are.1)

pub written_valid : (base : ℕ) (code : List Range) (first second : List Entry) → first_bad_from 0 Inside (written_lines base (written code first second)) ≡ None
written_valid base code first second = all_valid base (written code first second) (written_are code first second)
