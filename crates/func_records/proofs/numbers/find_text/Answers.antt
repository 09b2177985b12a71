use Rattle.func_records.proofs.TextLemmas.{found_text, none_there}
use Rattle.func_records.proofs.numbers.find_text.Goals as goal

pub returns-in-Ok-clause-found : goal.returns-in-Ok-clause-found
returns-in-Ok-clause-found c = found_text _ _ _ c.in-Ok.ensures.bound c.in-Ok.ensures.ok

pub returns-in-Err-clause-none : goal.returns-in-Err-clause-none
returns-in-Err-clause-none c = none_there _ c.args.text _ c.requires c.in-Err.ensures.position
