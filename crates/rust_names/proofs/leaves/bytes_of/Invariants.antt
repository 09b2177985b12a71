use Rattle.std.proofs.Common.{◌≡◌, length}
use Rattle.rust_names.specs.V0Texts.{bytes_of}
use Rattle.rust_names.proofs.LeafLemmas.{onto}
use Rattle.rust_names.proofs.leaves.bytes_of.Given as goal

abbrev pub invariant-pairs : goal.invariant-pairs
invariant-pairs l = bytes_of l.digits ≡ onto l.bytes.items (bytes_of l.rest)

abbrev pub decreases-pairs : goal.decreases-pairs
decreases-pairs l = length l.rest
