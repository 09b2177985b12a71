use Rattle.rule_postfix.proofs.DecidedLemmas.{lies_above, shown_all, shown_text, shown_omitted}
use Rattle.rule_postfix.proofs.all.translate_all.Goals as goal

pub returns-clause-text : goal.returns-clause-text
returns-clause-text g c =
    shown_text c.args.base c.args.code.now c.args.first.now c.args.second.now c.put_entries-2.new.progress
    (shown_all c.args.base c.in_ok-enclosing.enclosing c.args.code.now c.args.first.now c.args.second.now c.new-progress.result c.put_entries.new.progress c.put_entries-2.new.progress
    c.in_ok-enclosing.ensures.same (c.new-progress.ensures c.args.base) c.in_ok-put_entries.ensures c.in_ok-put_entries-2.ensures)

pub returns-clause-omitted : goal.returns-clause-omitted
returns-clause-omitted g c =
    shown_omitted c.args.base c.args.code.now c.args.first.now c.args.second.now c.put_entries-2.new.progress c.of.result
    (shown_all c.args.base c.in_ok-enclosing.enclosing c.args.code.now c.args.first.now c.args.second.now c.new-progress.result c.put_entries.new.progress c.put_entries-2.new.progress
    c.in_ok-enclosing.ensures.same (c.new-progress.ensures c.args.base) c.in_ok-put_entries.ensures c.in_ok-put_entries-2.ensures)
    c.of.ensures

pub put_entries-requires-clause-above : goal.put_entries-requires-clause-above
put_entries-requires-clause-above g c κs within = lies_above c.args.base c.args.code.now c.in_ok-enclosing.enclosing c.requires.from c.in_ok-enclosing.ensures.same

pub put_entries-requires-2-clause-above : goal.put_entries-requires-2-clause-above
put_entries-requires-2-clause-above g c κs within = lies_above c.args.base c.args.code.now c.in_ok-enclosing.enclosing c.requires.from c.in_ok-enclosing.ensures.same
