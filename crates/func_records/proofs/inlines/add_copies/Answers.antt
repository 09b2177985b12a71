use Rattle.std.proofs.Common.{◌≡◌, ◌+◌, List, ◌∷◌, ◌++◌, map, drop, slice_index_or, sym, ap, ◌∙◌, arith}
use Rattle.std.proofs.lemmas.List.{drop_all}
use Rattle.sym_rules.proofs.BoolLemmas.{both}
use Rattle.sym_records.specs.Canon.{canon_text}
use Rattle.die_names.specs.Names.{entry_name}
use Rattle.inline_chain.specs.InlineRuns.{InlineParts}
use Rattle.func_records.specs.internal.Parts.{inline_by}
use Rattle.func_records.specs.internal.Origins.{name_number}
use Rattle.func_records.proofs.CanonLemmas.{record_more, records_done}
use Rattle.func_records.proofs.ListLemmas.{drop_next}
use Rattle.func_records.proofs.OriginLemmas.{number_at}
use Rattle.func_records.proofs.inlines.add_copies.Goals as goal

pub returns-clause-text : goal.returns-clause-text
returns-clause-text c =
    records_done c.copies.text.items _ (map (inline_by c.args.writer.now.base c.args.writer.now.numbers c.args.writer.now.units.now c.args.unit) (drop c.copies.place c.args.copies.now)) (ap (map (inline_by c.args.writer.now.base c.args.writer.now.numbers c.args.writer.now.units.now c.args.unit)) (drop_all c.copies.place c.args.copies.now (omega arith))) c.copies.invariant.text

pub add_copy-requires-clause-numbered : goal.add_copy-requires-clause-numbered
add_copy-requires-clause-numbered c =
    ap (λ os. slice_index_or os c.copies.place 0) c.requires.numbered
    ∙ number_at (name_number c.args.writer.now.numbers c.args.writer.now.units.now) c.args.writer.now.units.now c.args.unit c.args.copies.now c.copies.place c.index-copies-place.result 0 (omega arith)
    ∙ ap (λ r. name_number c.args.writer.now.numbers c.args.writer.now.units.now (entry_name c.args.writer.now.units.now c.args.unit r.entry)) (sym c.index-copies-place.is)

pub copies-preserved : goal.copies-preserved
copies-preserved c =
    let by = inline_by c.args.writer.now.base c.args.writer.now.numbers c.args.writer.now.units.now c.args.unit in
    let later : List InlineParts = drop (c.copies.place + 1) c.args.copies.now in
    let split : drop c.copies.place c.args.copies.now ≡ c.index-copies-place.result ∷ later = drop_next c.args.copies.now c.copies.place c.index-copies-place.result (omega arith) ∙ ap (λ r. r ∷ later) (sym c.index-copies-place.is) in
    let all = rw split at c.copies.invariant.short in
    record {
      short = all.1;
      text = record_more c.copies.text.items _ _ (by c.index-copies-place.result) (map by later) (ap (λ rs. c.copies.text.items ++ canon_text (map by rs)) (sym split) ∙ c.copies.invariant.text) c.in_ok-add_copy.ensures.text;
      fit = λ rest. c.copies.invariant.fit (rw split (both c.in_ok-add_copy.ensures.fit rest));
    }
