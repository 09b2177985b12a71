use Rattle.std.specs.List.{flat_map}
use Rattle.func_records.proofs.SpellLemmas.{part_added}
use Rattle.func_records.proofs.parts.add_part.Goals as goal

pub returns : goal.returns
returns c = part_added c.args.writer.now.base c.args.writer.now.numbers c.args.writer.now.units.now c.args.piece.now c.args.copies.now _ (flat_map (λ piece. piece) c.args.text.now.full.items) c.args.text.now.last.items _ _ _ _ c.in_ok-add_owner.ensures.text c.in_ok-add_copies.ensures.text (rw c.as_slice-runs.ensures.value at c.in_ok-add_runs.ensures.text) c.in_ok-turn.ensures c.in_ok-add_owner.ensures.fit c.in_ok-add_copies.ensures.fit (rw c.as_slice-runs.ensures.value at c.in_ok-add_runs.ensures.fit) c.in_ok-lines_of.ensures c.in_ok-add_owner.ensures.below
