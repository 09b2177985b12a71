use Rattle.std.proofs.Common.{take}
use Rattle.func_records.specs.internal.Gathering.{AreHeld}
use Rattle.func_records.proofs.finder.find_copies.Given as goal

abbrev pub invariant-pieces : goal.invariant-pieces
invariant-pieces l = AreHeld l.trees (take l.place l.pieces) l.held
