use Rattle.std.proofs.Common.{◌-◌, ◌+◌, ◌*◌, ◌/◌, ◌%◌, ◌<◌, length, get_or, arith}
use Rattle.core_file.proofs.JoinedLemmas.{held_before, behind_inside}
use Rattle.core_file.proofs.blocks.byte_in.Goals as goal

pub bounds-tail-at : goal.bounds-tail-at
bounds-tail-at c =
    behind_inside c.args.size c.args.held.now c.args.places.now c.args.tail.now c.args.at c.requires.inside c.if-at-full.true c.requires.within

pub overflow_mul-result : goal.overflow_mul-result
overflow_mul-result c =
    let h : c.args.size * (get_or c.args.places.now (c.args.at / c.args.size) 0 - 1) + c.args.at % c.args.size < length c.args.held.now =
    held_before c.args.size (length c.args.held.now) c.args.places.now c.args.at c.requires.some c.requires.inside c.if-at-full.false (omega arith) in
    omega arith

pub overflow_add-result : goal.overflow_add-result
overflow_add-result c =
    let h : c.args.size * (get_or c.args.places.now (c.args.at / c.args.size) 0 - 1) + c.args.at % c.args.size < length c.args.held.now =
    held_before c.args.size (length c.args.held.now) c.args.places.now c.args.at c.requires.some c.requires.inside c.if-at-full.false (omega arith) in
    omega arith

pub bounds-held-size : goal.bounds-held-size
bounds-held-size c = held_before c.args.size (length c.args.held.now) c.args.places.now c.args.at c.requires.some c.requires.inside c.if-at-full.false (omega arith)
