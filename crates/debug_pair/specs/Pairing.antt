-- Two files are a stripped binary and its debug file if both have a build id and the two ids are equal.
use Rattle.std.specs.Prelude.{ℕ, List, Option, Some, None, Result, Ok, Err}
use Rattle.std.specs.Str.{bytes_eq}
use Rattle.sym_edges.specs.Results.{unless}
use Rattle.elf_sections.specs.Image.{ImageParts}
use Rattle.elf_sections.specs.Pair.{paired}
use Rattle.debug_pair.specs.declared.fault.PairFault.{PairFault}
use Rattle.debug_pair.specs.declared.fault.PairFault.TheVariants.{NoBuildId, BuildId}

-- why files with these two build ids are no pair
abbrev pub pair_fault : Option (List ℕ) → Option (List ℕ) → Option PairFault
pair_fault None debug = Some NoBuildId
pair_fault (Some id) None = Some NoBuildId
pair_fault (Some id) (Some other) = unless (bytes_eq id other) BuildId

abbrev pub pair_by : Option PairFault → ImageParts → Result ImageParts PairFault
pair_by None both = Ok both
pair_by (Some fault) both = Err fault

-- the image of a binary with its debug file, or why they are no pair
abbrev pub pair_of : ImageParts → ImageParts → Result ImageParts PairFault
pair_of binary debug = pair_by (pair_fault binary.build_id debug.build_id) (paired binary debug)
