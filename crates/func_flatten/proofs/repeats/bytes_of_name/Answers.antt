use Rattle.std.proofs.Common.{sym, ap, ◌∙◌}
use Rattle.clean_names.specs.Cleaning.{cleaned}
use Rattle.die_names.proofs.TextLemmas.{slice_bytes}
use Rattle.func_flatten.specs.internal.Classes.{place_name}
use Rattle.func_flatten.proofs.repeats.bytes_of_name.Goals as goal

pub returns : goal.returns
returns c = ap (place_name c.args.units.now) (sym c.place_at-place.ensures) ∙ sym c.name_of-name.ensures.name ∙ ap cleaned (slice_bytes _ _ _ (sym c.in_ok-bytes.ensures))
