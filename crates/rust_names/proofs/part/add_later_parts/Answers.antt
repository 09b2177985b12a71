use Rattle.std.proofs.Common.{true, false, sym}
use Rattle.rust_names.proofs.FrontLemmas.{not_empty, is_empty}
use Rattle.rust_names.proofs.PartLemmas.{later_end, later_none, later_bad, later_more, added}
use Rattle.rust_names.proofs.part.add_later_parts.Goals as goal

pub returns-then-not-branch : goal.returns-then-not-branch
returns-then-not-branch c =
    later_bad c.parts.rest.now c.parts.text.items c.in-Some.part.now c.in-Some.later.now _ (sym c.in-Some.ensures.cut)
    (added c.add_pieces.new.text.items c.in_ok-add_pieces-in-Some.field-0 false c.in_ok-extend_from_slice-in-Some.ensures.items c.undashed.ensures c.in_ok-add_pieces-in-Some.ensures c.if-not-branch.true) c.parts.invariant

pub parts-preserved : goal.parts-preserved
parts-preserved c =
    later_more c.parts.rest.now c.parts.text.items c.in-Some.part.now c.in-Some.later.now c.add_pieces.new.text.items _ (sym c.in-Some.ensures.cut)
    (added c.add_pieces.new.text.items c.in_ok-add_pieces-in-Some.field-0 true c.in_ok-extend_from_slice-in-Some.ensures.items c.undashed.ensures c.in_ok-add_pieces-in-Some.ensures c.if-not-branch.false) c.parts.invariant

pub returns-in-None : goal.returns-in-None
returns-in-None c = later_none c.parts.rest.now c.parts.text.items _ (not_empty c.parts.rest.now c.is_empty.ensures c.parts-test.true) (sym c.in-None.ensures.cut) c.parts.invariant

pub returns : goal.returns
returns c = later_end c.parts.rest.now c.parts.text.items _ (is_empty c.parts.rest.now c.is_empty.ensures c.parts-test.false) c.parts.invariant
