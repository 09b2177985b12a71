use Rattle.std.proofs.Common.{◌∙◌}
use Rattle.module_stacks.proofs.NameLemmas.{path_good, path_bad}
use Rattle.module_stacks.proofs.names.path_by.Goals as goal

pub returns-in_ok-symbol_path-in-Ok : goal.returns-in_ok-symbol_path-in-Ok
returns-in_ok-symbol_path-in-Ok c =
    path_good c.args.folder.now c.args.name.now c.in-Ok.text.now c.args.identity c.of.result c.in-Ok.ensures.cases.1 c.in-Ok.ensures.cases.0 (c.of.ensures ∙ c.in_ok-symbol_path-in-Ok.ensures)

pub returns-in-Err : goal.returns-in-Err
returns-in-Err c = path_bad c.args.folder.now c.args.name.now c.args.identity c.in-Err.ensures.cases.0
