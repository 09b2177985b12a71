use Rattle.std.proofs.Common.{sym, ◌∙◌}
use Rattle.sym_grammar.proofs.ProgressLemmas.{pushed_good}
use Rattle.sym_grammar.proofs.progress.add_record.Goals as goal

pub invariant_of-seen-2 : goal.invariant_of-seen-2
invariant_of-seen-2 c =
    pushed_good c.seen.inside.records.items _ c.seen.inside.place _ c.args.line c.seen.invariant (sym c.fits.ensures ∙ c.if-not-fits.false) c.requires c.in_ok-push.ensures.items c.leads-place.ensures
