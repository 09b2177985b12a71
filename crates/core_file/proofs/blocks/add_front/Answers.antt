use Rattle.std.proofs.Common.{refl}
use Rattle.std.proofs.lemmas.List.{take-append-drop}
use Rattle.core_file.proofs.KeepLemmas.{past_front, handed_on}
use Rattle.core_file.proofs.blocks.add_front.Goals as goal

pub returns-in-Err-clause-added : goal.returns-in-Err-clause-added
returns-in-Err-clause-added c =
    handed_on c.in-Err.stop _ _ _ _ c.in-Err.ensures.ended
    (past_front c.args.blocks.now (record c.args.blocks.now { tail = c.extend_from_slice.new.self })
    c.split_at.result.0.now c.split_at.result.1.now c.args.bytes.now c.requires.held.kept.some refl
    c.in_ok-extend_from_slice.ensures.items (rw (c.split_at.ensures.front, c.split_at.ensures.back) (take-append-drop _ _)))
