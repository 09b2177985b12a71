use Rattle.std.proofs.Common.{ap}
use Rattle.frame_entries.specs.FdeFields.{FdeFields}
use Rattle.rule_postfix.proofs.KeepingLemmas.{new_kept}
use Rattle.rule_postfix.proofs.cie_states.CieStates.make.Goals as goal

pub returns-clause-kept : goal.returns-clause-kept
returns-clause-kept c = λ f was one.
    new_kept c.make_room.new.self (record { by_place = c.insert.new.self; short = c.make_room.new.self.short }) c.args.fde.now f c.fde.inside.cie c.in_ok-state.state (ap (λ (e : FdeFields). e.cie) c.fde.view_is) c.in_ok-state.ensures c.in_ok-insert.ensures.updates (c.make_room.ensures f was) one
