use Rattle.std.proofs.Common.{◌≡◌, ◌^◌, ◌-◌, min, length, take}
use Rattle.std.specs.List.{flat_map}
use Rattle.sym_rules.specs.Rules.{spelled_token}
use Rattle.sym_rules.proofs.words.tokens_length.Given as goal

abbrev pub invariant-loop-token : goal.invariant-loop-token
invariant-loop-token l = l.total ≡ min (length (flat_map spelled_token (take l.token-index l.tokens))) (2 ^ 64 - 1)
