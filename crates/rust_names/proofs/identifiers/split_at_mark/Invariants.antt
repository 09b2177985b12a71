use Rattle.std.proofs.Common.{◌≡◌, ◌+◌, ◌≤◌, not, ◌==◌, length, take}
use Rattle.std.specs.List.{suffix_len}
use Rattle.rust_names.proofs.identifiers.split_at_mark.Given as goal

abbrev pub invariant-marks : goal.invariant-marks
invariant-marks l =
    (l.after ≤ length l.bytes)
    × (l.after + suffix_len (λ b. not (b == 95)) l.bytes ≡ length l.bytes + suffix_len (λ b. not (b == 95)) (take l.after l.bytes))

abbrev pub decreases-marks : goal.decreases-marks
decreases-marks l = l.after
