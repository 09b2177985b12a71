use Rattle.std.proofs.Common.{◌≤◌, List, [], ◌∷◌, ◌++◌}
use Rattle.step_maps.specs.declared.stretch.Stretch.{Stretch}
use Rattle.step_maps.specs.Covers.{AreStretches}

pub stretches_front : (xs ys : List Stretch) → AreStretches (xs ++ ys) → AreStretches xs
stretches_front [] ys all = tt
stretches_front (x ∷ xs) ys all = (all.0, stretches_front xs ys all.1)

pub stretches_back : (xs ys : List Stretch) → AreStretches (xs ++ ys) → AreStretches ys
stretches_back [] ys all = all
stretches_back (x ∷ xs) ys all = stretches_back xs ys all.1

-- One more stretch at the end.
pub stretches_push : (xs : List Stretch) (s : Stretch) → AreStretches xs → s.first ≤ s.last → AreStretches (xs ++ s ∷ [])
stretches_push [] s all some = (some, tt)
stretches_push (x ∷ xs) s all some = (all.0, stretches_push xs s all.1 some)
