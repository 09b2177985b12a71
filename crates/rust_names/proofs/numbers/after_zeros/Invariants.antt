use Rattle.std.proofs.Common.{◌≡◌, ◌≤◌, length}
use Rattle.rust_names.specs.V0Numbers.{base_62_from}
use Rattle.rust_names.proofs.numbers.after_zeros.Given as goal

abbrev pub invariant-zeros : goal.invariant-zeros
invariant-zeros l = (base_62_from 0 l.rest ≡ base_62_from 0 l.bytes) × (length l.rest ≤ length l.bytes)

abbrev pub decreases-zeros : goal.decreases-zeros
decreases-zeros l = length l.rest
