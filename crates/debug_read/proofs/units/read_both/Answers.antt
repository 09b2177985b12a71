use Rattle.std.proofs.Common.{◌∙◌, ap, refl}
use Rattle.debug_read.specs.ImageSections.{sup_sections_of}
use Rattle.debug_read.proofs.FileLemmas.{both_are_read, both_made, own_stop, sup_stopped}
use Rattle.debug_read.proofs.units.read_both.Goals as goal

pub join_files-requires : goal.join_files-requires
join_files-requires g c =
    both_are_read c.args.image.now _ _ _ _ c.in-Ok.file c.in-Ok-read_file.other c.in_ok-own.ensures (c.in_ok-sup.ensures ∙ ap sup_sections_of c.sup.ensures)
    c.in-Ok.ensures.small c.in-Ok-read_file.ensures.small c.in-Ok.ensures.says c.in-Ok-read_file.ensures.says

pub returns-in-Err : goal.returns-in-Err
returns-in-Err g c = own_stop _ _ c.args.image.now _ c.in-Err.stop c.dwarf_stop.result c.in_ok-own.ensures c.dwarf_stop.ensures c.in-Err.ensures.says

pub returns-in-Err-read_file : goal.returns-in-Err-read_file
returns-in-Err-read_file g c =
    sup_stopped _ _ c.args.image.now _ _ _ c.in-Ok.file c.in-Err-read_file.stop c.sup_stop.result c.in_ok-own.ensures (c.in_ok-sup.ensures ∙ ap sup_sections_of c.sup.ensures)
    c.sup_stop.ensures c.in-Ok.ensures.says c.in-Err-read_file.ensures.says

pub returns : goal.returns
returns g c =
    both_made c.args.image.now _ _ _ _ c.in-Ok.file c.in-Ok-read_file.other _ c.in_ok-own.ensures (c.in_ok-sup.ensures ∙ ap sup_sections_of c.sup.ensures)
    c.code.ensures.ranges c.code-2.ensures.ranges refl refl c.in_ok-units.ensures c.in-Ok.ensures.says c.in-Ok-read_file.ensures.says
