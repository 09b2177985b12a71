-- The rows of an entry, and its records; for `spell_entry` and the lemmas of WrittenLemmas.
use Rattle.std.proofs.Common.{◌≡◌, ℕ, ◌+◌, ◌<◌, ◌^◌, Bool, true, false, List, ◌∷◌, ◌++◌, None, Some, Err, sym, ◌∙◌, ap}
use Rattle.std.specs.List.{list_any}
use Rattle.sym_edges.specs.declared.reason.Reason.{Reason}
use Rattle.sym_edges.specs.declared.reason.Reason.TheVariants as reason
use Rattle.sym_edges.specs.Outside.{MatchStop}
use Rattle.sym_edges.specs.declared.fault.Stop.{Stop}
use Rattle.sym_edges.specs.declared.fault.Stop.TheVariants.{Fault, NoMemory}
use Rattle.frame_entries.specs.FdeFields.{FdeFields}
use Rattle.frame_rows.specs.declared.row.RowAt.{RowAt}
use Rattle.frame_rows.specs.Rows.{AreRows, row_at, rows_fault}
use Rattle.frame_rows.specs.Standing.{Standing, Begins}
use Rattle.frame_rows.proofs.EntryLemmas.{Walked, walked_by, none_refused, some_refused, rows_have, rows_sound, bad_instruction}
use Rattle.sym_records.specs.Canon.{canon_text}
use Rattle.sym_records.specs.declared.place.Place.TheVariants.{Inside}
use Rattle.sym_records.specs.Validity.{first_bad_from}
use Rattle.rule_postfix.specs.FrameLines.{frame_lines}
use Rattle.rule_postfix.specs.internal.Spelling.{lacks_rule}
use Rattle.rule_postfix.specs.internal.Writing.{lines_of}
use Rattle.rule_postfix.proofs.LinesLemmas.{lines_are}
use Rattle.rule_postfix.proofs.ValidLemmas.{lines_valid}

-- The pass over the rows of an entry gives its records.
rows_lines : (base : ℕ) (e : FdeFields) (rows : List RowAt) → AreRows e rows → 0 < e.size → lines_of e base (e.start + e.size) rows ≡ frame_lines e (row_at e) e.start e.size base
rows_lines base e rows are some = lines_are e (row_at e) e.start e.size base rows some are.in_order are.each

pub entry_text : (base end : ℕ) (e : FdeFields) (rows : List RowAt) (old text : List ℕ) → AreRows e rows → 0 < e.size → end ≡ e.start + e.size → text ≡ old ++ canon_text (lines_of e base end rows) → text ≡ old ++ canon_text (frame_lines e (row_at e) e.start e.size base)
entry_text base end e rows old text are some sum made = made ∙ ap (λ k. old ++ canon_text (lines_of e base k rows)) sum ∙ ap (λ lines. old ++ canon_text lines) (rows_lines base e rows are some)

-- The rows of an entry that the pass goes over.
pass_walked : (e : FdeFields) (s : Standing) → Begins e s → s.fault ≡ None → Walked e (s.here ∷ s.later)
pass_walked e s begun good = walked_by e (s.here ∷ s.later) (sym begun.fault ∙ good) (begun.rows good)

pub pass_lack : (e : FdeFields) (s : Standing) (lacking : Bool) → Begins e s → s.fault ≡ None → lacking ≡ list_any lacks_rule (s.here ∷ s.later) → lacking ≡ true → rows_fault e ≡ Some reason.Cfa
pass_lack e s lacking begun good is some = some_refused e (s.here ∷ s.later) lacking (pass_walked e s begun good) some is

pub pass_good : (e : FdeFields) (s : Standing) (lacking : Bool) → Begins e s → s.fault ≡ None → lacking ≡ list_any lacks_rule (s.here ∷ s.later) → lacking ≡ false → rows_fault e ≡ None
pass_good e s lacking begun good is none = none_refused e (s.here ∷ s.later) lacking (pass_walked e s begun good) none is

pub pass_bad : (A B : Type 0) (stop : Stop Reason) (e : FdeFields) (s : Standing) (P : A → Type 0) (Q : B → Type 0) → Begins e s → MatchStop {A = A} {F = Reason} (Err stop) P (λ why. s.fault ≡ Some why) (Unit {0}) → MatchStop {A = B} {F = Reason} (Err stop) Q (λ why. rows_fault e ≡ Some why) (Unit {0})
pass_bad A B (Fault why) e s P Q begun bad = bad_instruction e why (sym begun.fault ∙ bad)
pass_bad A B NoMemory e s P Q begun bad = tt

-- The records of an entry are valid after any record.
pub entry_valid : (base : ℕ) (e : FdeFields) → rows_fault e ≡ None → 0 < e.size → e.start + e.size < 2 ^ 64 → first_bad_from 0 Inside (frame_lines e (row_at e) e.start e.size base) ≡ None
entry_valid base e none some inside = lines_valid e (row_at e) e.start e.size base (record { sound = λ a. rows_sound e a none; cfa = (rows_have e none).everywhere; inside = inside }) some
