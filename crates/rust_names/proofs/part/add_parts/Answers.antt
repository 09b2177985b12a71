use Rattle.std.proofs.Common.{true, false, refl, sym, ◌∙◌}
use Rattle.rust_names.proofs.PartLemmas.{parts_none, parts_bad, parts_some, added}
use Rattle.rust_names.proofs.part.add_parts.Goals as goal

pub returns-then-not-branch : goal.returns-then-not-branch
returns-then-not-branch c =
    parts_bad c.args.bytes.now c.args.text.now.items c.in-Some.part.now c.in-Some.later.now (sym c.in-Some.ensures.cut)
    (added c.add_pieces.new.text.items c.in_ok-add_pieces-in-Some.field-0 false refl c.undashed.ensures c.in_ok-add_pieces-in-Some.ensures c.if-not-branch.true)

pub returns-in_ok-added-in-Some : goal.returns-in_ok-added-in-Some
returns-in_ok-added-in-Some c =
    parts_some c.args.bytes.now c.args.text.now.items c.in-Some.part.now c.in-Some.later.now c.add_pieces.new.text.items (sym c.in-Some.ensures.cut)
    (added c.add_pieces.new.text.items c.in_ok-add_pieces-in-Some.field-0 true refl c.undashed.ensures c.in_ok-add_pieces-in-Some.ensures c.if-not-branch.false)
    ∙ c.in_ok-added-in-Some.ensures

pub returns-in-None : goal.returns-in-None
returns-in-None c = parts_none c.args.bytes.now c.args.text.now.items (sym c.in-None.ensures.cut)
