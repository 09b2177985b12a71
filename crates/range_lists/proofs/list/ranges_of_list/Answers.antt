use Rattle.std.proofs.Common.{Option, Ok, sym, ap, ◌∙◌}
use Rattle.range_lists.specs.declared.effect.Effect.{Effect}
use Rattle.range_lists.specs.ListPairs.{list_pairs}
use Rattle.range_lists.proofs.PairLemmas.{gather_more_from, gather_ends_from, gather_refused_from, items_shorter}
use Rattle.range_lists.proofs.list.ranges_of_list.Goals as goal

pub items-smaller : goal.items-smaller
items-smaller c =
    items_shorter c.args.version c.args.addresses.now c.in-Ok-Some.effect c.items.cursor c.read_effect.new.cursor
    (ap (λ (next : Option Effect). Ok (next, c.read_effect.new.cursor)) (sym c.in-Ok-Some.field-0-is) ∙ c.in-Ok-Some.ensures)

pub items-preserved : goal.items-preserved
items-preserved c = λ a.
    gather_more_from c.args.code.now c.items.gathering c.take.new.self c.args.version c.args.addresses.now c.items.base c.in_ok-base-in-Ok-Some.base c.in-Ok-Some.effect c.items.cursor c.read_effect.new.cursor
    (list_pairs c.args.version c.args.addresses.now c.args.base c.args.list) a (c.items.invariant a)
    (ap (λ (next : Option Effect). Ok (next, c.read_effect.new.cursor)) (sym c.in-Ok-Some.field-0-is) ∙ c.in-Ok-Some.ensures)
    c.in_ok-base-in-Ok-Some.ensures.base (c.in_ok-base-in-Ok-Some.ensures.members a)

pub returns-in-Err : goal.returns-in-Err
returns-in-Err c =
    gather_refused_from c.args.code.now c.items.gathering c.args.version c.args.addresses.now c.items.base c.items.cursor c.in-Err.fault
    (list_pairs c.args.version c.args.addresses.now c.args.base c.args.list) c.items.invariant c.in-Err.ensures

pub returns : goal.returns
returns c = λ a.
    gather_ends_from c.args.code.now c.items.gathering c.in_ok-finish.field-0 c.args.version c.args.addresses.now c.items.base c.items.cursor c.read_effect.new.cursor
    (list_pairs c.args.version c.args.addresses.now c.args.base c.args.list) a (c.items.invariant a)
    (ap (λ (next : Option Effect). Ok (next, c.read_effect.new.cursor)) (sym c.in-Ok-None.field-0-is) ∙ c.in-Ok-None.ensures)
    (c.in_ok-finish.ensures a)
