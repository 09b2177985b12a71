use Rattle.std.proofs.Common.{ℕ, List, ◌++◌, ◌∙◌, ap, sym}
use Rattle.sym_records.specs.Canon.{canon}
use Rattle.dumpsyms_cmd.specs.commands.Dump.{module_line}
use Rattle.clean_names.specs.Cleaning.{cleaned}
use Rattle.dumpsyms_cmd.proofs.RecordLemmas.{module_and_info}
use Rattle.dumpsyms_cmd.proofs.dump.put_identity.Goals as goal

pub returns-in_ok-put_info-clause-text : goal.returns-in_ok-put_info-clause-text
returns-in_ok-put_info-clause-text c =
    module_and_info c.args.image.now.identity (cleaned c.args.name.now) c.in-Some.id.now c.args.image.now.build_id c.args.text.now.items c.put_module.new.text.items c.put_info.new.text.items
    (sym c.in-Some.ensures.id) (c.in_ok-put_module.ensures.text ∙ ap (λ (i : List ℕ). c.args.text.now.items ++ canon (module_line i (cleaned c.args.name.now))) c.identity.ensures) c.in_ok-put_info.ensures.text
