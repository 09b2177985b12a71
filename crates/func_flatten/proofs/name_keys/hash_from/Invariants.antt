use Rattle.std.proofs.Common.{◌≡◌, map, length}
use Rattle.clean_names.specs.Cleaning.{shown_byte}
use Rattle.func_flatten.specs.internal.NameKeys.{hash_from}
use Rattle.func_flatten.proofs.name_keys.hash_from.Given as goal

abbrev pub invariant-fours : goal.invariant-fours
invariant-fours l = hash_from l.whole (map shown_byte l.rest) ≡ hash_from l.hash (map shown_byte l.bytes)

abbrev pub decreases-fours : goal.decreases-fours
decreases-fours l = length l.rest

abbrev pub invariant-bytes : goal.invariant-bytes
invariant-bytes l = hash_from l.whole (map shown_byte l.rest) ≡ hash_from l.hash (map shown_byte l.bytes)

abbrev pub decreases-bytes : goal.decreases-bytes
decreases-bytes l = length l.rest
