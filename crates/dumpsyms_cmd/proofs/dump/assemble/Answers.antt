use Rattle.std.proofs.Common.{◌∙◌, ap}
use Rattle.dumpsyms_cmd.specs.internal.LeftOut.{left_of}
use Rattle.dumpsyms_cmd.proofs.JudgedLemmas.{assembles}
use Rattle.dumpsyms_cmd.proofs.dump.assemble.Goals as goal

pub returns : goal.returns
returns g c =
    assembles c.args.full c.args.image.now c.args.name.now _ c.args.debug.now c.in_ok-text.text.file c.in_ok-text.text.omitted _ c.requires.found c.in_ok-text.ensures
    (c.in_ok-err.ensures ∙ ap (left_of c.args.full c.args.image.now c.args.debug.now) c.as_slice.ensures)
    c.len.ensures
