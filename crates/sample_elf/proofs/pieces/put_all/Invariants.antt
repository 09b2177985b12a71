use Rattle.std.proofs.Common.{◌≡◌, take, ◌++◌}
use Rattle.std.specs.List.{flat_map}
use Rattle.sample_elf.proofs.pieces.put_all.Given as goal

abbrev pub invariant-parts : goal.invariant-parts
invariant-parts l = l.bytes.items ≡ l.fn.bytes.items ++ flat_map (λ part. part.now) (take l.k l.parts)
