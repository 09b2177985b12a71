-- Worked examples of the module that counts: modules within one another, with equal starts, and
-- without addresses.
use Rattle.std.proofs.Common.{◌≡◌, ℕ, List, [], ◌∷◌, Option, Some, None, map, refl}
use Rattle.core_file.specs.declared.modules.Module.{Module}
use Rattle.module_stacks.specs.ModuleAt.{module_at}
use Rattle.module_stacks.proofs.Computing.{module_stacks_computes}

abbrev module_of : ℕ → ℕ → Module
module_of start end = record { start = start; end = end; base = start; name = []; build_id = None }

-- The module that counts, at each of these addresses.
abbrev at_each : List Module → List ℕ → List (Option ℕ)
at_each modules addresses = map (module_at modules) addresses

-- The inner module counts within its range. Before its start and from its end on, the outer one
-- counts.
nested : at_each (module_of 0x1000 0x9000 ∷ module_of 0x3000 0x5000 ∷ []) (0xfff ∷ 0x1000 ∷ 0x2fff ∷ 0x3000 ∷ 0x4fff ∷ 0x5000 ∷ 0x8fff ∷ 0x9000 ∷ [])
    ≡ None ∷ Some 0 ∷ Some 0 ∷ Some 1 ∷ Some 1 ∷ Some 0 ∷ Some 0 ∷ None ∷ []
unfolding module_stacks_computes
nested = refl

-- The same if the inner module comes first in the list.
inner_first : at_each (module_of 0x3000 0x5000 ∷ module_of 0x1000 0x9000 ∷ []) (0x2fff ∷ 0x3000 ∷ 0x5000 ∷ []) ≡ Some 1 ∷ Some 0 ∷ Some 1 ∷ []
unfolding module_stacks_computes
inner_first = refl

-- If the starts are equal, the later module counts, up to its end.
equal_starts : at_each (module_of 0x3000 0x5000 ∷ module_of 0x3000 0x4000 ∷ []) (0x3000 ∷ 0x3fff ∷ 0x4000 ∷ 0x5000 ∷ []) ≡ Some 1 ∷ Some 1 ∷ Some 0 ∷ None ∷ []
unfolding module_stacks_computes
equal_starts = refl

-- A module without addresses never counts.
no_addresses : at_each (module_of 0x1000 0x9000 ∷ module_of 0x3000 0x3000 ∷ []) (0x3000 ∷ []) ≡ Some 0 ∷ []
unfolding module_stacks_computes
no_addresses = refl
