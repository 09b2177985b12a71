-- The definitions of func_flatten that a proof unfolds to compute a worked example.
use Rattle.std.specs.Prelude.{⊤}
use Rattle.sym_edges.proofs.Shown.{shown}
use Rattle.step_maps.specs.Stepping.{held_from}
use Rattle.die_names.proofs.Computing.{die_names_computes}
use Rattle.debug_units.specs.Owners.{owner, line}
use Rattle.func_flatten.specs.Pieces.{owner_place, is_many}
use Rattle.func_flatten.specs.LineRuns.{unit_number_line, unit_line, unit_paths}
use Rattle.func_flatten.specs.Publics.{with_number, ascending, addresses, public_at, publics_where, is_covered, publics}

unfoldable pub func_flatten_computes : ⊤
unfolding shown held_from die_names_computes owner line owner_place is_many unit_number_line unit_line unit_paths with_number ascending addresses public_at publics_where is_covered publics
func_flatten_computes = tt
