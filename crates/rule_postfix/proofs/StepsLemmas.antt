-- What is spelled as a stepper moves; for `put_row`, `spell_steps`.
use Rattle.std.proofs.Common.{◌≡◌, Option, Some, None, Result, Ok, Err, OnOk, ℕ, ◌-◌, ◌<◌, ◌≤◌, Bool, true, false, not, ◌||◌, cond, take, length, List, [], ◌∷◌, ◌++◌, refl, ap, sym, subst, ◌∙◌, arith, append_assoc, append-nil}
use Rattle.std.specs.List.{list_any}
use Rattle.sym_edges.specs.declared.reason.Reason.{Reason}
use Rattle.sym_edges.specs.Outside.{MatchStop}
use Rattle.sym_edges.specs.declared.fault.Stop.{Stop}
use Rattle.sym_edges.specs.declared.fault.Stop.TheVariants.{Fault, NoMemory}
use Rattle.frame_entries.specs.FdeFields.{FdeFields}
use Rattle.frame_rows.specs.declared.row.Row.{Row}
use Rattle.frame_rows.specs.Steps.{has_cfa}
use Rattle.frame_rows.specs.Standing.{Standing, GoesOn}
use Rattle.frame_rows.specs.Columns.{IsNext}
use Rattle.frame_rows.specs.declared.columns.Columns.{Columns}
use Rattle.sym_rules.specs.Rules.{spelled_rules}
use Rattle.sym_records.specs.Canon.{canon, canon_text, init_front}
use Rattle.sym_records.proofs.AddingLemmas.{init_line}
use Rattle.sym_records.specs.declared.line.SymLine.{SymLine}
use Rattle.sym_records.specs.declared.line.SymLine.TheVariants.{Init}
use Rattle.rule_postfix.specs.declared.open_init.OpenInit.{OpenInit}
use Rattle.rule_postfix.specs.RowRules.{row_rules, changed_rules, some_becomes_unspecified}
use Rattle.rule_postfix.specs.FrameLines.{change}
use Rattle.rule_postfix.specs.internal.Writing.{Open, opened, closed, with_changes, with_row, with_rows, lines_of}
use Rattle.rule_postfix.specs.internal.Spelling.{IsSpelled, lacks_rule}
use Rattle.rule_postfix.proofs.WriterLemmas.{starts, aboves}
use Rattle.range_union.proofs.RangeLemmas.{or_assoc_by}
use Rattle.rule_postfix.proofs.SpellingLemmas.{canon_append, more}

canon_more : (line : SymLine) (lines : List SymLine) → canon_text (line ∷ lines) ≡ canon line ++ canon_text lines
unfolding canon_text
canon_more line lines = refl

canon_none : (text : List ℕ) → text ≡ text ++ canon_text []
unfolding canon_text
canon_none text = sym (append-nil text)

-- An INIT that ends, with the changes in it.
pub closed_spelled : (front old new : List ℕ) (base end : ℕ) (p : OpenInit) (o : Open) → IsSpelled front base old p o → new ≡ old ++ (init_front (p.start - base) (end - p.start) ++ p.body.items) → new ≡ front ++ canon_text (closed o end)
closed_spelled front old new base end p o so is =
    let rules : List ℕ = spelled_rules o.rules ++ 10 ∷ [] in
    let whole : List ℕ = rules ++ canon_text o.changes in
    more front old new o.lines (Init (o.start - o.base) (end - o.start) o.rules ∷ o.changes) so.lines
    (is ∙ ap (λ t. old ++ t)
    (ap (λ t. init_front (p.start - base) (end - p.start) ++ t) so.body
    ∙ ap (λ start. init_front (start - base) (end - start) ++ whole) so.start
    ∙ ap (λ b. init_front (o.start - b) (end - o.start) ++ whole) (sym so.based)
    ∙ sym (append_assoc (init_front (o.start - o.base) (end - o.start)) rules (canon_text o.changes))
    ∙ ap (λ t. t ++ canon_text o.changes) (init_line (o.start - o.base) (end - o.start) o.rules)
    ∙ sym (canon_more (Init (o.start - o.base) (end - o.start) o.rules) o.changes)))

-- One row after another.
pub cut_spelled : (fde : FdeFields) (front old new : List ℕ) (base a : ℕ) (before after : Row) (p q : OpenInit) (o : Open) → some_becomes_unspecified before after ≡ true → new ≡ old ++ (init_front (p.start - base) (a - p.start) ++ p.body.items) → q.start ≡ a → q.body.items ≡ spelled_rules (row_rules fde after) ++ 10 ∷ [] → IsSpelled front base old p o → IsSpelled front base new q (with_row fde a before after o)
unfolding with_row
cut_spelled fde front old new base a before after p q o cut is start body so =
    let P : Open → Type 0 = λ k. IsSpelled front base new q k in
    subst P (ap (λ t. cond t (opened fde o.base (closed o a) a after) (with_changes a (changed_rules fde before after) o)) (sym cut))
    (record {
      based = so.based;
      start = start;
      body = body ∙ canon_none (spelled_rules (row_rules fde after) ++ 10 ∷ []);
      lines = closed_spelled front old new base a p o so is;
    })

pub change_spelled : (fde : FdeFields) (front text : List ℕ) (base a : ℕ) (before after : Row) (p q : OpenInit) (o : Open) → some_becomes_unspecified before after ≡ false → q.start ≡ p.start → q.body.items ≡ p.body.items ++ canon_text (change (a - base) (changed_rules fde before after)) → IsSpelled front base text p o → IsSpelled front base text q (with_row fde a before after o)
unfolding with_row
change_spelled fde front text base a before after p q o stays start body so =
    let P : Open → Type 0 = λ k. IsSpelled front base text q k in
    subst P (ap (λ t. cond t (opened fde o.base (closed o a) a after) (with_changes a (changed_rules fde before after) o)) (sym stays))
    (record {
      based = so.based;
      start = start ∙ so.start;
      body = body ∙ ap (λ t. t ++ canon_text (change (a - base) (changed_rules fde before after))) so.body
          ∙ append_assoc (spelled_rules o.rules ++ 10 ∷ []) (canon_text o.changes) (canon_text (change (a - base) (changed_rules fde before after)))
          ∙ ap (λ b. (spelled_rules o.rules ++ 10 ∷ []) ++ (canon_text o.changes ++ canon_text (change (a - b) (changed_rules fde before after)))) (sym so.based)
          ∙ ap (λ t. (spelled_rules o.rules ++ 10 ∷ []) ++ t) (sym (canon_append o.changes (change (a - o.base) (changed_rules fde before after))));
      lines = so.lines;
    })

-- What is spelled when a stepper is at a row after the first.
pub record Passing (fde : FdeFields) (base end : ℕ) (front text : List ℕ) (p : OpenInit) (before : Row) (lacking : Bool) (s first : Standing) : Type 0 where
  pub fresh : s.failed ≡ false
  pub going : s.refused ≡ None
  pub fault : s.fault ≡ first.fault
  pub ends : s.end ≡ end
  pub here : before ≡ s.here.row
  pub o : Open
  pub spelled : IsSpelled front base text p o
  pub same : with_rows fde s.here.row s.later o ≡ with_rows fde first.here.row first.later (opened fde base [] first.here.address first.here.row)
  pub above : base ≤ o.start
  pub below : o.start ≤ s.here.address
  pub low : s.here.address < end
  pub lack : (lacking || list_any lacks_rule s.later) ≡ list_any lacks_rule (first.here ∷ first.later)

pub pass_begins : (fde : FdeFields) (base end : ℕ) (text : List ℕ) (p : OpenInit) (before : Row) (lacking : Bool) (s : Standing) → s.failed ≡ false → s.refused ≡ None → s.end ≡ end → base ≤ s.here.address → s.here.address < end → before ≡ s.here.row → lacking ≡ not (has_cfa before) → p.start ≡ s.here.address → p.body.items ≡ spelled_rules (row_rules fde before) ++ 10 ∷ [] → Passing fde base end text text p before lacking s s
pass_begins fde base end text p before lacking s fresh going ends above low here lack start body = record {
  fresh = fresh;
  going = going;
  fault = refl;
  ends = ends;
  here = here;
  o = opened fde base [] s.here.address s.here.row;
  spelled = record { based = refl; start = start; body = body ∙ ap (λ row. spelled_rules (row_rules fde row) ++ 10 ∷ []) here ∙ canon_none (spelled_rules (row_rules fde s.here.row) ++ 10 ∷ []); lines = canon_none text };
  same = refl;
  above = above;
  below = omega arith;
  low = low;
  lack = ap (λ t. t || list_any lacks_rule s.later) (lack ∙ ap (λ row. not (has_cfa row)) here);
}

pub pass_on : (fde : FdeFields) (base end : ℕ) (front old new : List ℕ) (p q : OpenInit) (before after : Row) (lacking more : Bool) (s t first : Standing) → Passing fde base end front old p before lacking s first → GoesOn s t →
    ((front : List ℕ) (o : Open) → IsSpelled front base old p o → IsSpelled front base new q (with_row fde t.here.address before t.here.row o)) → after ≡ t.here.row → more ≡ (lacking || not (has_cfa t.here.row)) → Passing fde base end front new q after more t first
unfolding with_rows
pass_on fde base end front old new p q before after lacking more s t first so step one here lack =
    let P : Row → Type 0 = λ row. IsSpelled front base new q (with_row fde t.here.address row t.here.row so.o) in
    record {
      fresh = step.failed;
      going = step.refused;
      fault = step.fault ∙ so.fault;
      ends = step.end ∙ so.ends;
      here = here;
      o = with_row fde t.here.address s.here.row t.here.row so.o;
      spelled = subst P so.here (one front so.o so.spelled);
      same = ap (λ rows. with_rows fde s.here.row rows so.o) (sym step.later) ∙ so.same;
      above = aboves fde t.here.address s.here.row t.here.row so.o base so.above (omega (arith, so.above, so.below, step.rises));
      below = starts fde t.here.address s.here.row t.here.row so.o t.here.address (omega (arith, so.below, step.rises)) (omega arith);
      low = omega (arith, step.below, so.ends);
      lack = ap (λ b. b || list_any lacks_rule t.later) lack
          ∙ or_assoc_by lacking (not (has_cfa t.here.row)) (list_any lacks_rule t.later)
          ∙ ap (λ rows. lacking || list_any lacks_rule rows) (sym step.later) ∙ so.lack;
    }

pub pass_ends : (fde : FdeFields) (base end : ℕ) (front old new : List ℕ) (p : OpenInit) (before : Row) (lacking : Bool) (s first : Standing) → Passing fde base end front old p before lacking s first → s.later ≡ [] → new ≡ old ++ (init_front (p.start - base) (end - p.start) ++ p.body.items) → new ≡ front ++ canon_text (lines_of fde base end (first.here ∷ first.later))
unfolding lines_of with_rows
pass_ends fde base end front old new p before lacking s first so none is =
    closed_spelled front old new base end p so.o so.spelled is
    ∙ ap (λ o. front ++ canon_text (closed o end)) (sym (ap (λ rows. with_rows fde s.here.row rows so.o) none) ∙ so.same)

pub end_text : (A B : Type 0) (stop : Stop Reason) (front old new : List ℕ) (P : A → Type 0) (R : B → Type 0) → take (length front) old ≡ front → MatchStop {A = A} {F = Reason} (Err stop) P (λ _. new ≡ old) (Unit {0}) → MatchStop {A = B} {F = Reason} (Err stop) R (λ _. take (length front) new ≡ front) (Unit {0})
end_text A B (Fault why) front old new P R so same = ap (take (length front)) same ∙ so
end_text A B NoMemory front old new P R so same = tt

-- Whether there is another row; the last row counts if no instruction is bad.
pub is_last : (o : Option Columns) (s t : Standing) → o ≡ None → IsNext o s t → (s.fault ≡ None → s.later ≡ []) × (t ≡ s)
is_last None s t none next = (next.none, next.same)
is_last (Some columns) s t none next = cc

pub is_more : (o : Option Columns) (columns : Columns) (s t : Standing) → o ≡ Some columns → IsNext o s t → IsNext (Some columns) s t
is_more o columns s t is next = let P : Option Columns → Type 0 = λ k. IsNext k s t in subst P is next

-- Two facts that hold after a call that succeeded.
pub on_both : {A F : Type 0} {P Q R : Type 0} (r : Result A F) → (P → Q → R) → OnOk r P → OnOk r Q → OnOk r R
on_both (Ok x) then first second = then first second
on_both (Err e) then first second = tt

-- One row, given where it is.
pub by_row : (fde : FdeFields) (base address : ℕ) (before row : Row) (old new : List ℕ) (p q : OpenInit) (t : Standing) → address ≡ t.here.address → row ≡ t.here.row → ((front : List ℕ) (o : Open) → IsSpelled front base old p o → IsSpelled front base new q (with_row fde address before row o)) →
    (front : List ℕ) (o : Open) → IsSpelled front base old p o → IsSpelled front base new q (with_row fde t.here.address before t.here.row o)
by_row fde base address before row old new p q t at is one front o so =
    let P : ℕ → Type 0 = λ a. IsSpelled front base new q (with_row fde a before t.here.row o) in
    let Q : Row → Type 0 = λ r. IsSpelled front base new q (with_row fde address before r o) in
    subst P at (subst Q is (one front o so))
