use Rattle.std.proofs.Common.{◌==◌, drop, get_or, sym, ◌∙◌, ap}
use Rattle.rust_names.specs.Legacy.{begins_with_dot}
use Rattle.rust_names.proofs.FrontLemmas.{not_empty, piece_plain, no_dots, no_dot}
use Rattle.rust_names.proofs.piece.piece_of.Goals as goal
use Rattle.rust_names.proofs.piece.piece_of.Goals.{else-b-eq46-via-then-b-eq46+else-begins_with_dot, else-b-eq46-via-else-b-eq46}

pub returns-clause-piece : goal.returns-clause-piece
returns-clause-piece c =
    let bytes = c.args.bytes.now in
    elim c.else-b-eq46.branch [
      | else-b-eq46-via-then-b-eq46+else-begins_with_dot w ↦
          c.plain_piece.ensures
          ∙ piece_plain bytes (not_empty bytes c.is_empty.ensures c.if-is_empty.false) c.if-b-eq36.false
          (no_dots (get_or bytes 0 0 == 46) (begins_with_dot (drop 1 bytes)) (ap begins_with_dot (sym w.split_at.ensures.back) ∙ sym w.begins_with_dot.ensures ∙ w.if-begins_with_dot.false))
      | else-b-eq46-via-else-b-eq46 w ↦
          c.plain_piece.ensures
          ∙ piece_plain bytes (not_empty bytes c.is_empty.ensures c.if-is_empty.false) c.if-b-eq36.false
          (no_dot (get_or bytes 0 0) (begins_with_dot (drop 1 bytes)) w.if-b-eq46.false)
    ]
