use Rattle.std.proofs.Common.{◌≡◌, ◌+◌, ◌||◌, false, ◌∷◌, ◌∙◌, ap}
use Rattle.sym_records.specs.declared.line.Extent.{Extent}
use Rattle.sym_meaning.specs.Findings.{run_of, meet}
use Rattle.range_union.specs.Ranges.{range_to}
use Rattle.sym_findings.specs.internal.Ranges.{is_met}
use Rattle.sym_findings.proofs.MeetingLemmas.{at_run, empty_met, below_met, below_more, above_met, grown_more, joined_more}
use Rattle.sym_findings.proofs.met_ranges.MetRanges.put.Goals as goal

pub returns-then-end-start-clause-met : goal.returns-then-end-start-clause-met
returns-then-end-start-clause-met c =
    at_run (λ a s. false ≡ is_met c.args.self.now (run_of a s)) c.from-start.result c.from.result c.args.address c.args.size c.from-start.ensures c.from.ensures
    (empty_met c.args.self.now c.from-start.result c.from.result c.if-end-start.true)

pub returns-then-start-self-clause-met : goal.returns-then-start-self-clause-met
returns-then-start-self-clause-met c =
    at_run (λ a s. c.overlaps_any-met.result ≡ is_met c.args.self.now (run_of a s)) c.from-start.result c.from.result c.args.address c.args.size c.from-start.ensures c.from.ensures
    (below_met _ c.from-start.result c.from.result c.overlaps_any-met.result c.if-end-start.false c.overlaps_any-met.ensures
    ∙ ap (λ rs. is_met rs (run_of c.from-start.result c.from.result)) c.self.view_is)

pub returns-then-start-self-clause-more : goal.returns-then-start-self-clause-more
returns-then-start-self-clause-more c =
    at_run (λ a s. (e : Extent) → is_met (range_to c.self.inside.start c.self.inside.end ∷ c.put.new.self) e ≡ (is_met c.args.self.now e || meet e (run_of a s))) c.from-start.result c.from.result c.args.address c.args.size c.from-start.ensures c.from.ensures
    (λ e. below_more c.self.inside.start c.self.inside.end c.from-start.result c.from.result _ _ c.if-end-start.false c.in_ok-put.ensures.more e
    ∙ ap (λ rs. is_met rs e || meet e (run_of c.from-start.result c.from.result)) c.self.view_is)

pub returns-then-self-start-clause-met : goal.returns-then-self-start-clause-met
returns-then-self-start-clause-met c =
    at_run (λ a s. false ≡ is_met c.args.self.now (run_of a s)) c.from-start.result c.from.result c.args.address c.args.size c.from-start.ensures c.from.ensures
    (above_met c.self.inside.start c.self.inside.end c.self.inside.top c.from-start.result c.from.result c.self.inside.earlier c.self.invariant.0 c.self.invariant.1 c.if-start-self.false c.if-end-start.false
    ∙ ap (λ rs. is_met rs (run_of c.from-start.result c.from.result)) c.self.view_is)

pub returns-then-self-start-clause-more : goal.returns-then-self-start-clause-more
returns-then-self-start-clause-more c =
    at_run (λ a s. (e : Extent) → is_met (range_to c.self.inside.start (c.from-start.result + c.from.result) ∷ c.self.inside.earlier) e ≡ (is_met c.args.self.now e || meet e (run_of a s))) c.from-start.result c.from.result c.args.address c.args.size c.from-start.ensures c.from.ensures
    (λ e. grown_more c.self.inside.start c.self.inside.end c.self.inside.top c.from-start.result c.from.result c.self.inside.earlier c.self.invariant.0 c.if-self-start.true c.if-end-start.false e
    ∙ ap (λ rs. is_met rs e || meet e (run_of c.from-start.result c.from.result)) c.self.view_is)

pub returns-clause-met : goal.returns-clause-met
returns-clause-met c =
    at_run (λ a s. false ≡ is_met c.args.self.now (run_of a s)) c.from-start.result c.from.result c.args.address c.args.size c.from-start.ensures c.from.ensures
    (above_met c.self.inside.start c.self.inside.end c.self.inside.top c.from-start.result c.from.result c.self.inside.earlier c.self.invariant.0 c.self.invariant.1 c.if-start-self.false c.if-end-start.false
    ∙ ap (λ rs. is_met rs (run_of c.from-start.result c.from.result)) c.self.view_is)

pub returns-clause-more : goal.returns-clause-more
returns-clause-more c =
    at_run (λ a s. (e : Extent) → is_met (range_to c.from-start.result (c.from-start.result + c.from.result) ∷ c.put_some.new.earlier) e ≡ (is_met c.args.self.now e || meet e (run_of a s))) c.from-start.result c.from.result c.args.address c.args.size c.from-start.ensures c.from.ensures
    (λ e. joined_more c.self.inside.start c.self.inside.end c.self.inside.top c.from-start.result c.from.result c.self.inside.earlier c.put_some.new.earlier c.self.invariant.0 c.if-end-start.false c.in_ok-put_some.ensures.more e
    ∙ ap (λ rs. is_met rs e || meet e (run_of c.from-start.result c.from.result)) c.self.view_is)
