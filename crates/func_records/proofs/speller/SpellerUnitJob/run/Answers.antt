use Rattle.std.proofs.Common.{List, get_or, arith}
use Rattle.debug_units.specs.declared.unit_read.UnitRead.{UnitRead}
use Rattle.func_records.specs.declared.found.FoundShare.{FoundShare}
use Rattle.unit_workers.specs.Shares.{share}
use Rattle.func_records.specs.internal.Shares.{IsFound}
use Rattle.func_records.proofs.HoldLemmas.{held_short}
use Rattle.func_records.proofs.ShareLemmas.{split_count, split_at, share_numbers}
use Rattle.func_records.proofs.speller.SpellerUnitJob.run.Goals as goal

pub bounds-self-inside-k-2 : goal.bounds-self-inside-k-2
bounds-self-inside-k-2 c = omega (arith, c.if-k-self.false, split_count c.self.inside.writer.now.numbers c.self.inside.writer.now.units.now c.self.inside.shares.now c.self.inside.numbers.now c.self.invariant.numbered)

pub add_parts-requires-clause-numbered : goal.add_parts-requires-clause-numbered
add_parts-requires-clause-numbered c =
    let units : List UnitRead = c.self.inside.writer.now.units.now in
    let one : FoundShare = get_or c.self.inside.shares.now c.args.k c.index-self-k.result in
    let found : IsFound units (share 512 c.args.k c.self.inside.pieces.now) one = c.self.invariant.found.each c.args.k c.index-self-k.result (omega (arith, c.if-k-self.false)) in
    rw (c.as_slice-2.ensures.value, c.in_ok-origins.ensures, c.as_slice.ensures.value, c.share_of.ensures)
    (share_numbers c.self.inside.writer.now.numbers units (share 512 c.args.k c.self.inside.pieces.now) one _ found
    (split_at c.self.inside.writer.now.numbers units c.self.inside.shares.now c.self.inside.numbers.now c.args.k _ c.index-self-k.result (omega (arith, c.if-k-self.false)) c.self.invariant.numbered))

pub add_parts-requires-clause-short : goal.add_parts-requires-clause-short
add_parts-requires-clause-short c =
    let units : List UnitRead = c.self.inside.writer.now.units.now in
    let one : FoundShare = get_or c.self.inside.shares.now c.args.k c.index-self-k.result in
    let found : IsFound units (share 512 c.args.k c.self.inside.pieces.now) one = c.self.invariant.found.each c.args.k c.index-self-k.result (omega (arith, c.if-k-self.false)) in
    held_short units (share 512 c.args.k c.self.inside.pieces.now) one.held found.held
