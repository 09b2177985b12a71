use Rattle.sym_records.specs.FieldReading.{ranges_at}
use Rattle.sym_grammar.proofs.FieldLemmas.{ranges_fault}
use Rattle.sym_grammar.proofs.NumberLemmas.{not_empty}
use Rattle.sym_grammar.proofs.RunLemmas.{pass_on}
use Rattle.sym_grammar.specs.internal.Runs.{range_run}
use Rattle.sym_grammar.proofs.fields.ranges_at.Goals as goal

pub returns-in-Err : goal.returns-in-Err
returns-in-Err c =
    pass_on c.in-Err.stop _ _ (range_run c.turns.rest.now) (ranges_at c.args.bytes.now)
    (λ kind read. ranges_fault c.args.bytes.now c.turns.rest.now c.turns.ranges.items kind c.turns.invariant.stays (not_empty _ c.turns-test.ensures) read c.turns.invariant.so_far)
    c.in-Err.ensures.range
