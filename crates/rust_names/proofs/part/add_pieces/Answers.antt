use Rattle.std.proofs.Common.{◌++◌, length, drop, List, ℕ, sym, ◌∙◌, ap}
use Rattle.std.specs.Option.{option_map}
use Rattle.rust_names.specs.Legacy.{written}
use Rattle.rust_names.specs.internal.Reading.{pieces_text}
use Rattle.rust_names.proofs.FrontLemmas.{not_empty, is_empty}
use Rattle.rust_names.proofs.PieceLemmas.{pieces_more, pieces_none, pieces_end, plain_added}
use Rattle.rust_names.proofs.part.add_pieces.Goals as goal

pub returns-then-is_empty : goal.returns-then-is_empty
returns-then-is_empty c =
    pieces_end c.split_at.result.1.now c.extend_from_slice.new.self.items _ (is_empty c.split_at.result.1.now c.is_empty-in-pieces.ensures c.if-is_empty.true)
    (plain_added c.pieces.rest.now c.split_at.result.0.now c.split_at.result.1.now c.pieces.text.items c.extend_from_slice.new.self.items c.count_plain.result _
    c.split_at.ensures.front c.split_at.ensures.back c.count_plain.ensures.plain c.in_ok-extend_from_slice.ensures.items c.pieces.invariant)

pub pieces-preserved : goal.pieces-preserved
pieces-preserved c =
    pieces_more c.split_at.result.1.now c.extend_from_slice.new.self.items c.in-Some.piece _ c.in-Some.ensures.piece
    (plain_added c.pieces.rest.now c.split_at.result.0.now c.split_at.result.1.now c.pieces.text.items c.extend_from_slice.new.self.items c.count_plain.result _
    c.split_at.ensures.front c.split_at.ensures.back c.count_plain.ensures.plain c.in_ok-extend_from_slice.ensures.items c.pieces.invariant)
    ∙ ap (λ (xs : List ℕ). option_map (λ t. xs ++ t) (pieces_text (drop (length (written c.in-Some.piece)) c.split_at.result.1.now))) (sym c.in_ok-add_shown-in-Some.ensures)
    ∙ ap (λ ys. option_map (λ t. c.add_shown.new.text.items ++ t) (pieces_text ys)) (sym (c.split_at-in-Some.ensures.back ∙ ap (λ n. drop n c.split_at.result.1.now) c.written_length.ensures))

pub returns-in-None : goal.returns-in-None
returns-in-None c =
    pieces_none c.split_at.result.1.now c.extend_from_slice.new.self.items _ (not_empty c.split_at.result.1.now c.is_empty-in-pieces.ensures c.if-is_empty.false) c.in-None.ensures.piece
    (plain_added c.pieces.rest.now c.split_at.result.0.now c.split_at.result.1.now c.pieces.text.items c.extend_from_slice.new.self.items c.count_plain.result _
    c.split_at.ensures.front c.split_at.ensures.back c.count_plain.ensures.plain c.in_ok-extend_from_slice.ensures.items c.pieces.invariant)

pub returns : goal.returns
returns c = pieces_end c.pieces.rest.now c.pieces.text.items _ (is_empty c.pieces.rest.now c.is_empty.ensures c.pieces-test.false) c.pieces.invariant
