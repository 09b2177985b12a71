use Rattle.std.proofs.Common.{take}
use Rattle.func_records.specs.internal.Gathering.{has_path, Gathered}
use Rattle.func_records.proofs.paths.gather_paths.Given as goal

abbrev pub invariant-pieces : goal.invariant-pieces
invariant-pieces l = Gathered l.units (take l.place l.pieces) (take l.place l.held) (has_path l.units l.paths)
