use Rattle.std.proofs.Common.{◌≡◌, ◌+◌, ◌-◌}
use Rattle.rust_names.specs.V0Texts.{say, lifetimes_from}
use Rattle.rust_names.proofs.texts.add_lifetimes.Given as goal

abbrev pub invariant-names : goal.invariant-names
invariant-names l = say l.initial.text.items (lifetimes_from l.count l.depth) ≡ say l.text.items (lifetimes_from (l.count - l.i) (l.depth + l.i))
