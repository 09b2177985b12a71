use Rattle.std.proofs.Common.{false, arith, ◌∙◌}
use Rattle.sym_records.specs.Spelled.{text_bytes}
use Rattle.func_records.specs.internal.Origins.{name_number}
use Rattle.func_records.proofs.ListLemmas.{member_at}
use Rattle.func_records.proofs.HoldLemmas.{short_at}
use Rattle.func_records.proofs.OriginLemmas.{numbers_enough, numbers_here, numbers_later}
use Rattle.func_records.proofs.SpellLemmas.{parts_none, parts_next}
use Rattle.func_records.proofs.parts.add_parts.Goals as goal

pub pieces-init : goal.pieces-init
pieces-init c = record { adds = parts_none c.args.writer.now.base c.args.writer.now.numbers c.args.writer.now.units.now (text_bytes c.args.text.now); later = c.requires.numbered }

pub split_at-requires : goal.split_at-requires
split_at-requires c =
    numbers_enough (name_number c.args.writer.now.numbers c.args.writer.now.units.now) c.args.writer.now.units.now c.args.pieces.now c.args.held.now c.pieces.place (record { start = 0; end = 0; unit = 0; entry = 0; many = false }) c.at-copies.result.now c.at-copies.result.now c.pieces.rest.now (omega arith) c.requires.count (member_at c.args.held.now c.pieces.place c.at-copies.result.now c.at-copies.ensures) c.pieces.invariant.later

pub add_part-requires-clause-numbered : goal.add_part-requires-clause-numbered
add_part-requires-clause-numbered c =
    c.split_at.ensures.front
    ∙ numbers_here (name_number c.args.writer.now.numbers c.args.writer.now.units.now) c.args.writer.now.units.now c.args.pieces.now c.args.held.now c.pieces.place _ c.at-copies.result.now c.at-copies.result.now c.pieces.rest.now (omega arith) c.requires.count (member_at c.args.held.now c.pieces.place c.at-copies.result.now c.at-copies.ensures) c.pieces.invariant.later

pub add_part-requires-clause-short : goal.add_part-requires-clause-short
add_part-requires-clause-short c = short_at c.args.held.now c.pieces.place c.at-copies.result.now c.at-copies.result.now (omega (arith, c.requires.count)) (member_at c.args.held.now c.pieces.place c.at-copies.result.now c.at-copies.ensures) c.requires.short

pub pieces-preserved : goal.pieces-preserved
pieces-preserved c = record {
  adds = parts_next c.args.writer.now.base c.args.writer.now.numbers c.args.writer.now.units.now c.args.pieces.now c.args.held.now c.pieces.place _ c.at-copies.result.now c.at-copies.result.now _ _ _ (omega arith) c.requires.count (member_at c.args.held.now c.pieces.place c.at-copies.result.now c.at-copies.ensures) c.pieces.invariant.adds c.in_ok-add_part.ensures;
  later = c.split_at.ensures.back
      ∙ numbers_later (name_number c.args.writer.now.numbers c.args.writer.now.units.now) c.args.writer.now.units.now c.args.pieces.now c.args.held.now c.pieces.place (record { start = 0; end = 0; unit = 0; entry = 0; many = false }) c.at-copies.result.now c.at-copies.result.now c.pieces.rest.now (omega arith) c.requires.count (member_at c.args.held.now c.pieces.place c.at-copies.result.now c.at-copies.ensures) c.pieces.invariant.later;
}
