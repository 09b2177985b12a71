use Rattle.std.proofs.Common.{refl, arith}
use Rattle.step_maps.proofs.OverlayLemmas.{merges_none, merges_first, merges_second, merges_all}
use Rattle.step_maps.proofs.overlays.merge.Goals as goal

pub turns-init : goal.turns-init
turns-init c = merges_none _ _ _ _ _ c.requires.first c.requires.second c.in_ok-both.ensures

pub returns : goal.returns
returns c = merges_all _ _ _ _ _ _ _ _ _ _ c.turns.invariant (omega arith)

pub turns-preserved : goal.turns-preserved
turns-preserved c =
    merges_second _ _ _ _ _ _ _ _ _ _ _ _ _ _ _ c.requires.second c.turns.invariant c.if-takes_first.ensures refl refl c.in_ok-set-2.ensures.at c.in_ok-set-2.ensures.last c.over-in-turns.ensures

pub turns-preserved-then-takes_first : goal.turns-preserved-then-takes_first
turns-preserved-then-takes_first c =
    merges_first _ _ _ _ _ _ _ _ _ _ _ _ _ _ _ c.requires.first c.turns.invariant c.if-takes_first.ensures refl refl c.in_ok-set.ensures.at c.in_ok-set.ensures.last c.over.ensures
