use Rattle.dumpsyms_cmd.specs.Words.{module_name}
use Rattle.dumpsyms_cmd.proofs.JudgedLemmas.{stop_judged}
use Rattle.dumpsyms_cmd.proofs.commands.judge_image.Goals as goal

pub returns-in_ok-debug_line-in-Err-Fault : goal.returns-in_ok-debug_line-in-Err-Fault
returns-in_ok-debug_line-in-Err-Fault g c =
    stop_judged c.refuse.result c.args.source.now.full c.args.image.now (module_name c.args.source.now.elf.now) _ _ _ _ c.in-Err-Fault.fault c.read_debug.ensures c.in-Err-Fault.is c.in-Err-Fault.field-0-is c.in_ok-debug_line-in-Err-Fault.ensures c.refuse.ensures
