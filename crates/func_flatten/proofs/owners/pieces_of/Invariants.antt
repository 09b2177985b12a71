use Rattle.std.proofs.Common.{◌≡◌, ◌++◌, map, length}
use Rattle.func_flatten.specs.internal.Collecting.{AreCut, piece_of}
use Rattle.func_flatten.proofs.owners.pieces_of.Given as goal

abbrev pub invariant-covers : goal.invariant-covers
invariant-covers l = record { same : l.pieces.items ++ map (piece_of l.places) l.rest ≡ map (piece_of l.places) l.covers; cut : AreCut (length l.places) l.rest }

abbrev pub decreases-covers : goal.decreases-covers
decreases-covers l = length l.rest
