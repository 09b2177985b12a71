use Rattle.std.proofs.Common.{◌≡◌, [], ◌∷◌, ◌++◌, ◌-◌, map, unwrap_or, refl, sym, ap, ◌∙◌}
use Rattle.std.specs.List.{slice_get}
use Rattle.std.proofs.lemmas.List.{nil_from_length}
use Rattle.sym_rules.proofs.BoolLemmas.{both}
use Rattle.sym_records.specs.Canon.{canon, canon_text}
use Rattle.sym_records.specs.Validity.{fields_fit}
use Rattle.sym_records.specs.declared.line.SymLine.TheVariants.{Line}
use Rattle.func_records.specs.internal.Spelling.{line_by, row_of}
use Rattle.func_records.proofs.CanonLemmas.{record_more, records_done, nothing_first}
use Rattle.func_records.proofs.parts.add_runs.Goals as goal

pub runs-preserved : goal.runs-preserved
runs-preserved c =
    let row = row_of c.args.rows.now c.args.unit in
    let run = c.in-Some-split_first.run'.now in
    let split : c.runs.rest.now ≡ run ∷ c.in-Some-split_first.later.now = c.in-Some-split_first.ensures.cases.0 in
    let number : c.in_ok-known-2.known.number ≡ unwrap_or (slice_get row run.path) 0 =
    c.in_ok-known-2.ensures.numbered
    ∙ ap (λ u. unwrap_or (slice_get (row_of c.args.rows.now u) c.in_ok-known-2.known.path) 0) (c.in_ok-known-2.ensures.same.0 ∙ c.runs.invariant.unit)
    ∙ ap (λ p. unwrap_or (slice_get row p) 0) c.in_ok-known-2.ensures.same.1 in
    let line : Line (run.start - c.args.base) (run.end - run.start) run.line c.in_ok-known-2.known.number ≡ line_by c.args.base row run = ap (Line (run.start - c.args.base) (run.end - run.start) run.line) number in
    record {
      known = c.in_ok-known-2.ensures.numbered;
      unit = c.in_ok-known-2.ensures.same.0 ∙ c.runs.invariant.unit;
      text = record_more c.runs.text.items _ _ (line_by c.args.base row run) (map (line_by c.args.base row) c.in-Some-split_first.later.now) (ap (λ rs. c.runs.text.items ++ canon_text (map (line_by c.args.base row) rs)) (sym split) ∙ c.runs.invariant.text) (c.in_ok-add_run.ensures.text ∙ ap (λ l. c.runs.text.items ++ canon l) line);
      fit = λ later. c.runs.invariant.fit (rw split (both (sym (ap fields_fit line) ∙ c.in_ok-add_run.ensures.fit) later));
    }

pub returns-clause-text : goal.returns-clause-text
returns-clause-text c =
    let none : c.runs.rest.now ≡ [] = nil_from_length c.runs.rest.now c.in_default-split_first.ensures.cases in
    records_done c.runs.text.items _ (map (line_by c.args.base (row_of c.args.rows.now c.args.unit)) c.runs.rest.now) (ap (map (line_by c.args.base (row_of c.args.rows.now c.args.unit))) none) c.runs.invariant.text

pub returns-in_default-clause-text : goal.returns-in_default-clause-text
returns-in_default-clause-text c =
    let by = line_by c.args.base (row_of c.args.rows.now c.args.unit) in
    records_done c.args.text.now.items _ (map by c.args.runs.now) (ap (map by) (nothing_first c.args.runs.now c.in_default.ensures.value)) refl
