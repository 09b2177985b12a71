use Rattle.std.proofs.Common.{arith}
use Rattle.sym_records.specs.Listed.{said, spelled_field}
use Rattle.sym_rules.proofs.BufferLemmas.{hands_none, hands_piece, hands_broken, hands_all}
use Rattle.sym_records.proofs.line_speller.put_fields.Goals as goal

pub loop-field-init : goal.loop-field-init
loop-field-init g c = hands_none _ _ _

pub loop-field-preserved : goal.loop-field-preserved
loop-field-preserved g c =
    hands_piece (λ f. spelled_field (said f)) c.args.fields.now c.loop-field.field-index c.field-item.result _ _ _ _ _ _ _ _ _ _ (omega arith) c.field-item.is c.loop-field.invariant c.in-Ok.ensures

pub returns-in-Err : goal.returns-in-Err
returns-in-Err g c =
    hands_broken (λ f. spelled_field (said f)) c.args.fields.now c.loop-field.field-index c.field-item.result _ _ _ _ _ _ _ _ _ _ _ _ (omega arith) c.field-item.is c.loop-field.invariant c.in-Err.ensures

pub returns : goal.returns
returns g c = hands_all (λ f. spelled_field (said f)) c.args.fields.now c.loop-field.field-index _ _ _ _ _ _ _ (omega arith) c.loop-field.invariant
