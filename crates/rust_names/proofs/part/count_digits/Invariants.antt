use Rattle.std.proofs.Common.{◌≡◌, ◌+◌, length, drop}
use Rattle.rust_names.specs.internal.Reading.{digits_in_front}
use Rattle.rust_names.proofs.part.count_digits.Given as goal

abbrev pub invariant-loop-at : goal.invariant-loop-at
invariant-loop-at l = length (digits_in_front l.bytes) ≡ l.at + length (digits_in_front (drop l.at l.bytes))
