use Rattle.std.proofs.Common.{true, false, Some, sym, ◌∙◌, ap}
use Rattle.rust_names.specs.Legacy.{is_shown_text}
use Rattle.rust_names.proofs.NameLemmas.{no_parts, no_text, some_text, filled}
use Rattle.rust_names.proofs.legacy.legacy_text.Goals as goal

pub returns-then-not-branch : goal.returns-then-not-branch
returns-then-not-branch c =
    no_parts c.args.name.now c.in-Some.middle.now (sym c.in-Some.ensures)
    (filled c.in-Some.middle.now c.add_parts.new.text.items c.in_ok-add_parts.field-0 false c.in_ok-text.ensures.items c.in_ok-add_parts.ensures c.if-not-branch.true)

pub returns-then-not-is_shown_text : goal.returns-then-not-is_shown_text
returns-then-not-is_shown_text c =
    no_text c.args.name.now c.in-Some.middle.now c.add_parts.new.text.items (sym c.in-Some.ensures)
    (filled c.in-Some.middle.now c.add_parts.new.text.items c.in_ok-add_parts.field-0 true c.in_ok-text.ensures.items c.in_ok-add_parts.ensures c.if-not-branch.false)
    (ap is_shown_text (sym c.as_slice.ensures.value) ∙ sym c.is_shown_text.ensures ∙ c.if-not-is_shown_text.true)

pub returns : goal.returns
returns c =
    ap Some c.of.ensures
    ∙ some_text c.args.name.now c.in-Some.middle.now c.add_parts.new.text.items (sym c.in-Some.ensures)
    (filled c.in-Some.middle.now c.add_parts.new.text.items c.in_ok-add_parts.field-0 true c.in_ok-text.ensures.items c.in_ok-add_parts.ensures c.if-not-branch.false)
    (ap is_shown_text (sym c.as_slice.ensures.value) ∙ sym c.is_shown_text.ensures ∙ c.if-not-is_shown_text.false)
