-- The words that are printed for the faults of a pair and of a supplementary file.
use Rattle.std.specs.Prelude.{ℕ, List, codes}
use Rattle.debug_pair.specs.declared.fault.PairFault.{PairFault}
use Rattle.debug_pair.specs.declared.fault.PairFault.TheVariants.{NoBuildId, BuildId}
use Rattle.debug_pair.specs.declared.fault.SupFault.{SupFault}
use Rattle.debug_pair.specs.declared.fault.SupFault.TheVariants as sup

-- the word of a fault of a pair
abbrev pub pair_word : PairFault → List ℕ
pair_word NoBuildId = codes "no-build-id"
pair_word BuildId = codes "build-id"

-- the word of an id that is too short to name a file
abbrev pub short_id_word : List ℕ
short_id_word = codes "short-id"

-- the word of a fault of a supplementary file
abbrev pub sup_word : SupFault → List ℕ
sup_word sup.Link = codes "link"
sup_word sup.BuildId = codes "build-id"
