use Rattle.std.proofs.Common.{List, ap, ◌∙◌, ◌++◌}
use Rattle.abbrev_units.specs.declared.unit.Unit.{Unit}
use Rattle.debug_read.specs.ImageSections.{sections_of}
use Rattle.dumpsyms_cmd.specs.Refusals.{units_text}
use Rattle.dumpsyms_cmd.proofs.LeftLemmas.{all_left}
use Rattle.dumpsyms_cmd.proofs.omissions.list_left_out.Goals as goal

pub returns : goal.returns
returns c =
    c.of.ensures ∙ all_left c.args.full c.args.image.now c.args.debug.now c.args.omissions.now _ _ _ _ c.new-text.ensures.items
    (c.in_ok-add_own_units.ensures ∙ ap (λ (us : List Unit). c.new-text.result.items ++ units_text c.args.full (sections_of c.args.image.now) us) c.as_slice.ensures)
    c.in_ok-add_sup_units.ensures c.in_ok-add_omissions.ensures
