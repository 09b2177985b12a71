use Rattle.std.proofs.Common.{◌≡◌, drop}
use Rattle.std.specs.List.{flat_map}
use Rattle.rust_names.specs.V0Texts.{say, escaped}
use Rattle.rust_names.proofs.texts.add_all_escaped.Given as goal

abbrev pub invariant-characters : goal.invariant-characters
invariant-characters l = say l.initial.text.items (flat_map (escaped l.quote) l.characters) ≡ say l.text.items (flat_map (escaped l.quote) (drop l.c-index l.characters))
