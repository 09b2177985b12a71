use Rattle.std.proofs.Common.{arith}
use Rattle.sym_records.specs.Fields.{spelled_range}
use Rattle.sym_rules.proofs.BufferLemmas.{hands_none, hands_all}
use Rattle.sym_records.proofs.HandingLemmas.{piece_at, broken_at}
use Rattle.sym_records.proofs.line_speller.put_ranges.Goals as goal

pub loop-range-init : goal.loop-range-init
loop-range-init g c = hands_none _ _ _

pub loop-range-preserved : goal.loop-range-preserved
loop-range-preserved g c = piece_at spelled_range c.args.ranges.now c.loop-range.range-index _ _ _ _ _ _ _ _ _ _ _ (omega arith) c.loop-range.invariant c.in-Ok.ensures

pub returns-in-Err : goal.returns-in-Err
returns-in-Err g c = broken_at spelled_range c.args.ranges.now c.loop-range.range-index _ _ _ _ _ _ _ _ _ _ _ _ _ (omega arith) c.loop-range.invariant c.in-Err.ensures

pub returns : goal.returns
returns g c = hands_all spelled_range c.args.ranges.now c.loop-range.range-index _ _ _ _ _ _ _ (omega arith) c.loop-range.invariant
