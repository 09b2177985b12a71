use Rattle.rule_postfix.proofs.StepsLemmas.{cut_spelled, on_both}
use Rattle.rule_postfix.proofs.open_init.cut.Goals as goal

pub returns : goal.returns
returns c =
    on_both c.begin.result
    (λ start body front before o lost so.
    cut_spelled c.args.change.now.fde.now front c.args.text.now.items c.close.new.text.items c.args.change.now.base c.args.change.now.address before c.args.change.now.after.now c.args.open.now c.begin.new.open o lost c.in_ok-close.ensures start body so)
    c.begin.ensures.start c.begin.ensures.body
