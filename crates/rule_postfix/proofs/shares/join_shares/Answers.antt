use Rattle.std.proofs.Common.{◌∙◌, refl, sym, subst, arith}
use Rattle.std.proofs.lemmas.List.{length-set, get_or-set_other}
use Rattle.rule_postfix.specs.declared.progress.Progress.{Progress}
use Rattle.rule_postfix.specs.Written.{with_entries}
use Rattle.rule_postfix.specs.internal.Deciding.{Shows, none_decided}
use Rattle.unit_workers.specs.Shares.{share}
use Rattle.rule_postfix.proofs.ShareLemmas.{on_none, on_share}
use Rattle.rule_postfix.proofs.shares.join_shares.Goals as goal

pub shares-init : goal.shares-init
shares-init c = record {
  shown = λ d so. on_none c.args.translator.now.base c.args.translator.now.code c.args.translator.now.entries c.args.translator.now.size c.args.progress.now d so;
  each = λ j d from below. c.requires.each j d below;
  long = refl;
}

pub shares-preserved : goal.shares-preserved
shares-preserved c = record {
  shown = on_share c.args.translator.now.base c.args.translator.now.code c.args.translator.now.entries c.args.translator.now.size c.shares.k c.args.progress.now c.shares.progress c.join_share.new.progress c.shares.invariant.shown c.in_ok-join_share.ensures;
  each = λ j d from below.
      subst (λ (p : Progress). Shows c.args.translator.now.base p (with_entries c.args.translator.now.code (share c.args.translator.now.size j c.args.translator.now.entries) none_decided))
      (sym (get_or-set_other c.shares.parts.items c.shares.k j c.replace-part.new.dest d (λ same. absurd (omega (arith, same, from)))))
      (c.shares.invariant.each j d (omega (arith, from)) (omega (arith, below, length-set c.shares.parts.items c.shares.k c.replace-part.new.dest)));
  long = length-set c.shares.parts.items c.shares.k c.replace-part.new.dest ∙ c.shares.invariant.long;
}
