use Rattle.std.proofs.Common.{take}
use Rattle.func_records.specs.internal.Gathering.{bytes_of}
use Rattle.func_records.specs.internal.Origins.{TextsSay}
use Rattle.func_records.proofs.made_names.distinct_names.Given as goal

abbrev pub invariant-names : goal.invariant-names
invariant-names l = TextsSay (bytes_of l.texts.items) l.places.items (take l.k l.names)
