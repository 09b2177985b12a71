use Rattle.rust_names.proofs.StepLemmas.{kept_part}
use Rattle.rust_names.proofs.passing.keep.Goals as goal

pub returns-in_ok-insert-in-Some : goal.returns-in_ok-insert-in-Some
returns-in_ok-insert-in-Some c =
    kept_part c.args.name.now c.args.known.now c.insert.new.self c.key.result c.args.begun.from.place c.in-Some.code c.args.begun.from.opened c.args.begun.part c.args.end c.key.ensures c.in-Some.ensures.small c.in-Some.ensures.coded c.requires.known c.in_ok-insert-in-Some.ensures.updates c.requires.passes
