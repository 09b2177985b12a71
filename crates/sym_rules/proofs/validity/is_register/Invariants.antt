use Rattle.std.proofs.Common.{◌≡◌, drop}
use Rattle.std.specs.List.{list_any}
use Rattle.std.specs.Str.{bytes_eq}
use Rattle.sym_edges.specs.Abi.{register_names}
use Rattle.sym_rules.proofs.validity.is_register.Given as goal

abbrev pub invariant-loop-number : goal.invariant-loop-number
invariant-loop-number l = list_any (bytes_eq l.name) (drop l.number register_names) ≡ list_any (bytes_eq l.name) register_names
