use Rattle.step_maps.proofs.OverlayLemmas.{Merges}
use Rattle.step_maps.proofs.overlays.merge.Given as goal

abbrev pub invariant-turns : goal.invariant-turns
invariant-turns l = Merges l.xs l.x_values l.ys l.y_values l.both l.turn l.i l.j l.x l.y
