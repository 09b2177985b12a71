use Rattle.std.proofs.Common.{◌≡◌, length, sym, ◌∙◌, subst, arith}
use Rattle.sym_lookup.proofs.RisingLemmas.{skip_more, SkipsTo}
use Rattle.sym_lookup.proofs.line_runs.inlines_in_front.Goals as goal

pub records-preserved : goal.records-preserved
records-preserved c = skip_more c.records.at c.args.records.now c.index-records-at.result c.records.invariant c.index-records-at.is c.records-test.true (sym c.is_inline.ensures ∙ c.if-not-is_inline.false)

pub returns-clause-same : goal.returns-clause-same
returns-clause-same c =
    let end : c.records.at ≡ length c.args.records.now = omega arith in
    subst (SkipsTo c.args.records.now) end c.records.invariant
