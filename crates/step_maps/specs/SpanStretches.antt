-- Stretches made from the ranges of a set of addresses.
use Rattle.std.specs.Prelude.{ℕ, ◌+◌, ◌-◌, ◌<◌, ◌≤◌, ◌^◌, List, [], ◌∷◌}
use Rattle.sym_edges.specs.Addresses.{Range}
use Rattle.step_maps.specs.declared.stretch.Stretch.{Stretch}

-- the stretches of a set of addresses, with the index and the class of its item
abbrev pub span_stretches : ℕ → ℕ → List Range → List Stretch
span_stretches index class [] = []
span_stretches index class (r ∷ spans) = record { first = r.start; last = r.end - 1; index = index; class = class } ∷ span_stretches index class spans

-- no stretch is empty, and none contains the address 2^64 - 1
abbrev pub AreFit : List Stretch → Type 0
AreFit [] = Unit {0}
AreFit (s ∷ items) = (s.first ≤ s.last) × (s.last + 1 < 2 ^ 64) × AreFit items
