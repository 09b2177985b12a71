use Rattle.dumpsyms_cmd.proofs.SampleLemmas.{stop_counted}
use Rattle.dumpsyms_cmd.proofs.sample.count_image.Goals as goal

pub returns-in_ok-debug_line-in-Err-Fault : goal.returns-in_ok-debug_line-in-Err-Fault
returns-in_ok-debug_line-in-Err-Fault g c =
    stop_counted c.refuse.result c.args.image.now _ _ _ _ c.in-Err-Fault.fault c.read_debug.ensures c.in-Err-Fault.is c.in-Err-Fault.field-0-is c.in_ok-debug_line-in-Err-Fault.ensures c.refuse.ensures
