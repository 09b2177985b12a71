use Rattle.std.proofs.Common.{sym, arith}
use Rattle.std.proofs.lemmas.Option.{get_or_from_slice_get}
use Rattle.rule_postfix.proofs.DecidedLemmas.{none_between, on_next}
use Rattle.rule_postfix.proofs.KeepingLemmas.{kept_at, kept_more}
use Rattle.rule_postfix.proofs.progress.put_range.Goals as goal

pub entries-init : goal.entries-init
entries-init c = record { shown = λ d so. none_between c.args.setting.base c.args.setting.code.now c.args.entries.now c.args.from c.args.progress.now d so; kept = λ j d f there good. c.new-states.ensures f }

pub put_entry-requires-clause-known : goal.put_entry-requires-clause-known
put_entry-requires-clause-known c =
    let here = sym (get_or_from_slice_get c.args.entries.now c.entries.i c.entry-entry.result c.entry-entry.result c.entry-entry.ensures.value) in
    kept_at c.args.entries.now c.entries.i c.entry-entry.result c.entries.states (omega arith) here c.entries.invariant.kept

pub entries-preserved : goal.entries-preserved
entries-preserved c =
    let here = sym (get_or_from_slice_get c.args.entries.now c.entries.i c.entry-entry.result c.entry-entry.result c.entry-entry.ensures.value) in
    record {
      shown = on_next c.args.setting.base c.args.setting.code.now c.args.entries.now c.args.from c.entries.i c.entry-entry.result c.args.progress.now c.entries.progress c.put_entry.new.progress (omega arith) (omega arith) here c.entries.invariant.shown c.in_ok-put_entry.ensures.shown;
      kept = kept_more c.args.entries.now c.entries.i c.entry-entry.result c.entries.states c.put_entry.new.states c.entry-entry.ensures.shared (omega arith) here c.entries.invariant.kept c.in_ok-put_entry.ensures.kept;
    }
