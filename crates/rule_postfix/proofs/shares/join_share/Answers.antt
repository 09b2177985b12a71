use Rattle.std.proofs.Common.{◌≡◌, ◌∙◌, false, ap, sym}
use Rattle.std.specs.List.{list_any}
use Rattle.range_union.specs.Ranges.{any_overlap}
use Rattle.unit_workers.specs.Shares.{share}
use Rattle.rule_postfix.proofs.ShareLemmas.{part_joined}
use Rattle.rule_postfix.proofs.shares.join_share.Goals as goal

pub returns : goal.returns
returns c = λ d so.
    let free : list_any (λ range. any_overlap range c.args.progress.now.taken) c.args.part.taken ≡ false
    = ap (list_any (λ range. any_overlap range c.args.progress.now.taken)) (sym c.as_slice.ensures.value) ∙ sym c.meets_any.ensures ∙ c.if-meets_any.false in
    part_joined c.args.translator.now.base c.args.translator.now.code (share c.args.translator.now.size c.args.k c.args.translator.now.entries) c.args.progress.now c.args.part _ free c.requires c.in_ok-append.ensures
    c.in_ok-append-2.ensures.items c.in_ok-take_all.ensures d so
