use Rattle.std.proofs.Common.{◌≡◌, None, map, take, ◌++◌}
use Rattle.sym_records.specs.Canon.{canon_text}
use Rattle.sym_records.specs.Spelled.{text_bytes}
use Rattle.sym_records.specs.Validity.{first_bad_from}
use Rattle.sym_records.specs.declared.place.Place.TheVariants.{Inside}
use Rattle.func_flatten.specs.Publics.{public_view}
use Rattle.dumpsyms_cmd.specs.commands.Dump.{public_line}
use Rattle.dumpsyms_cmd.proofs.dump.add_publics.Given as goal

abbrev pub invariant-addresses : goal.invariant-addresses
invariant-addresses l = record {
  text : text_bytes l.text ≡ text_bytes l.fn.text ++ canon_text (map (public_line l.base) (take l.k (map public_view l.found)));
  fit : first_bad_from 0 Inside (map (public_line l.base) (take l.k (map public_view l.found))) ≡ None;
}
