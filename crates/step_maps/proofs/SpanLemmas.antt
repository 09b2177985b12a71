-- Stretches that are not empty and do not contain the last address (for `push_spans` and the code
-- that uses it).
use Rattle.std.proofs.Common.{◌+◌, ◌<◌, ◌≤◌, ◌^◌, List, [], ◌∷◌, ◌++◌}
use Rattle.step_maps.specs.declared.stretch.Stretch.{Stretch}
use Rattle.step_maps.specs.Covers.{AreStretches}
use Rattle.step_maps.specs.SpanStretches.{AreFit}

pub fit_joined : (xs : List Stretch) (s : Stretch) → AreFit xs → s.first ≤ s.last → s.last + 1 < 2 ^ 64 → AreFit (xs ++ s ∷ [])
fit_joined [] s fit order last = (order, last, tt)
fit_joined (x ∷ xs) s fit order last = (fit.0, fit.1, fit_joined xs s fit.2 order last)

pub fit_stretches : (xs : List Stretch) → AreFit xs → AreStretches xs
fit_stretches [] fit = tt
fit_stretches (x ∷ xs) fit = (fit.0, fit_stretches xs fit.2)
