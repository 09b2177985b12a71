use Rattle.std.proofs.Common.{◌≡◌, drop}
use Rattle.sym_lookup.specs.Answers.{nearest_public}
use Rattle.sym_lookup.proofs.scans.nearest_public.Given as goal

abbrev pub invariant-lines : goal.invariant-lines
invariant-lines l = l.nearest ≡ nearest_public (drop l.at l.lines) l.address
