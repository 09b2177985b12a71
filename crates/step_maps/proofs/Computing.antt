-- What a proof unfolds to compute the definitions of step_maps where the input is written out.
use Rattle.std.specs.Prelude.{⊤}
use Rattle.step_maps.specs.Stepping.{held_from}
use Rattle.step_maps.specs.Covers.{first_at, index_at, is_shared, first_item}
use Rattle.sym_edges.proofs.Shown.{shown}

unfoldable pub step_maps_computes : ⊤
unfolding held_from first_at index_at is_shared first_item shown
step_maps_computes = tt
