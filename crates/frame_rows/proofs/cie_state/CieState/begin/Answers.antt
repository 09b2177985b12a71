use Rattle.std.proofs.Common.{sym, ◌∙◌, ap, reverse}
use Rattle.frame_entries.specs.FdeFields.{FdeFields}
use Rattle.frame_rows.specs.Left.{Left}
use Rattle.frame_rows.proofs.LeftLemmas.{left_good, left_bad, no_row_left, begun}
use Rattle.frame_rows.proofs.cie_state.CieState.begin.Goals as goal

pub unreachable-requires : goal.unreachable-requires
unreachable-requires c =
    no_row_left c.args.fde.now c.in-Ok.left _ (left_good c.args.fde.now c.in-Ok.left (sym c.requires ∙ sym c.self.view_is ∙ c.in-Ok.is)) (ap (λ (l : Left). l.context.initial) c.left.view_is) c.in-None.is

pub returns-in-Some-clause-fault : goal.returns-in-Some-clause-fault
returns-in-Some-clause-fault c = (left_good c.args.fde.now c.in-Ok.left (sym c.requires ∙ sym c.self.view_is ∙ c.in-Ok.is)).fault

pub returns-in-Some-clause-machine : goal.returns-in-Some-clause-machine
returns-in-Some-clause-machine c =
    begun c.args.fde.now c.in-Ok.left c.new.result _ _ _ _ (left_good c.args.fde.now c.in-Ok.left (sym c.requires ∙ sym c.self.view_is ∙ c.in-Ok.is)) c.new.ensures
    (ap (λ (e : FdeFields). e.start) c.fde.view_is) (ap (λ (l : Left). l.context.initial) c.left.view_is) c.in-Some.is
    (ap reverse c.deref.ensures.value ∙ ap (λ (l : Left). l.stack) c.left.view_is)

pub returns-in-Some-clause-context : goal.returns-in-Some-clause-context
returns-in-Some-clause-context c =
    ap (λ (l : Left). l.context) c.left.view_is ∙ (left_good c.args.fde.now c.in-Ok.left (sym c.requires ∙ sym c.self.view_is ∙ c.in-Ok.is)).context

pub returns-in-Err-clause-fault : goal.returns-in-Err-clause-fault
returns-in-Err-clause-fault c = left_bad c.args.fde.now c.in-Err.why (sym c.requires ∙ sym c.self.view_is ∙ c.in-Err.is)
