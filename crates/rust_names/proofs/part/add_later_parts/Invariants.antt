use Rattle.std.proofs.Common.{◌≡◌, ◌++◌, length}
use Rattle.std.specs.Option.{option_map}
use Rattle.rust_names.specs.internal.Reading.{later_text}
use Rattle.rust_names.proofs.part.add_later_parts.Given as goal

abbrev pub invariant-parts : goal.invariant-parts
invariant-parts l = option_map (λ t. l.initial.text.items ++ t) (later_text l.fn.bytes) ≡ option_map (λ t. l.text.items ++ t) (later_text l.rest)

abbrev pub decreases-parts : goal.decreases-parts
decreases-parts l = length l.rest
