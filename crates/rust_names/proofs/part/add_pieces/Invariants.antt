use Rattle.std.proofs.Common.{◌≡◌, ◌++◌, length}
use Rattle.std.specs.Option.{option_map}
use Rattle.rust_names.specs.internal.Reading.{pieces_text}
use Rattle.rust_names.proofs.part.add_pieces.Given as goal

abbrev pub invariant-pieces : goal.invariant-pieces
invariant-pieces l = option_map (λ t. l.initial.text.items ++ t) (pieces_text l.fn.bytes) ≡ option_map (λ t. l.text.items ++ t) (pieces_text l.rest)

abbrev pub decreases-pieces : goal.decreases-pieces
decreases-pieces l = length l.rest
