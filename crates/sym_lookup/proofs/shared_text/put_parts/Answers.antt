use Rattle.std.proofs.Common.{◌<◌, length, get_or, arith}
use Rattle.std.proofs.lemmas.List.{get_or_default}
use Rattle.sym_rules.proofs.BufferLemmas.{hands_none, hands_piece, hands_broken, hands_all}
use Rattle.sym_lookup.specs.declared.shared_text.Part.{Part}
use Rattle.sym_lookup.specs.internal.SharedTexts.{part_text}
use Rattle.sym_lookup.proofs.SharedLemmas.{within_one}
use Rattle.sym_lookup.proofs.shared_text.put_parts.Goals as goal

pub loop-part-init : goal.loop-part-init
loop-part-init g c = hands_none _ _ _

pub part_of-requires : goal.part_of-requires
part_of-requires g c =
    let parts = c.args.parts.now in
    let none : Part = record { start = 0; end = 0 } in
    let inside : c.loop-part.part-index < length parts = omega arith in
    within_one _ parts c.loop-part.part-index (get_or parts c.loop-part.part-index none) inside (get_or_default parts c.loop-part.part-index none (get_or parts c.loop-part.part-index none) inside) c.requires

pub loop-part-preserved : goal.loop-part-preserved
loop-part-preserved g c =
    let parts = c.args.parts.now in
    let none : Part = record { start = 0; end = 0 } in
    let inside : c.loop-part.part-index < length parts = omega arith in
    hands_piece (part_text c.args.bytes.now) parts c.loop-part.part-index (get_or parts c.loop-part.part-index none) _ _ _ _ _ _ _ _ _ _ inside
    (get_or_default parts c.loop-part.part-index none (get_or parts c.loop-part.part-index none) inside) c.loop-part.invariant (rw c.part_of.ensures at c.in-Ok.ensures)

pub returns-in-Err : goal.returns-in-Err
returns-in-Err g c =
    let parts = c.args.parts.now in
    let none : Part = record { start = 0; end = 0 } in
    let inside : c.loop-part.part-index < length parts = omega arith in
    hands_broken (part_text c.args.bytes.now) parts c.loop-part.part-index (get_or parts c.loop-part.part-index none) _ _ _ _ _ _ _ _ _ _ _ _ inside
    (get_or_default parts c.loop-part.part-index none (get_or parts c.loop-part.part-index none) inside) c.loop-part.invariant (rw c.part_of.ensures at c.in-Err.ensures)

pub returns : goal.returns
returns g c = hands_all (part_text c.args.bytes.now) c.args.parts.now c.loop-part.part-index _ _ _ _ _ _ _ (omega arith) c.loop-part.invariant
