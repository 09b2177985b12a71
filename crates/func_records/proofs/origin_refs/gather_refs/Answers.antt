use Rattle.std.proofs.Common.{arith, refl, subst, take}
use Rattle.func_records.specs.internal.Origins.{RefsSay, all_names}
use Rattle.func_records.proofs.ListLemmas.{member_at}
use Rattle.func_records.proofs.OriginLemmas.{names_next, refs_none}
use Rattle.func_records.proofs.origin_refs.gather_refs.Goals as goal

pub pieces-init : goal.pieces-init
pieces-init c = refs_none c.args.units.now _ _ c.in_ok-origins.ensures refl

pub pieces-preserved : goal.pieces-preserved
pieces-preserved c =
    subst (RefsSay c.args.units.now _)
    (names_next c.args.units.now c.args.pieces.now c.args.held.now c.pieces.place _ c.at.result.now c.at.result.now _ _ (omega arith) c.requires (member_at c.args.held.now c.pieces.place c.at.result.now c.at.ensures) refl refl)
    (c.in_ok-add_copies.ensures (all_names c.args.units.now (take c.pieces.place c.args.pieces.now) (take c.pieces.place c.args.held.now)) c.pieces.invariant)
