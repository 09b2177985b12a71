use Rattle.std.proofs.Common.{◌∙◌, sym, ap, arith}
use Rattle.std.specs.List.{list_any}
use Rattle.sym_records.specs.declared.line.Extent.{Extent}
use Rattle.sym_meaning.specs.TextNames.{is_within}
use Rattle.sym_lookup.proofs.FirstLemmas.{level_noted, not_covered}
use Rattle.sym_lookup.proofs.scans.note_inline.Goals as goal

pub returns-then-has_address : goal.returns-then-has_address
returns-then-has_address c =
    level_noted c.args.address c.args.place c.args.line.now c.in-Inline.level c.in-Inline.call_line c.in-Inline.call_file c.in-Inline.origin c.in-Inline.ranges c.args.firsts.now.items c.in-Inline.is (omega (arith, c.len.ensures))
    (ap (list_any (λ (r : Extent). is_within r.address r.size c.args.address)) (sym c.as_slice.ensures) ∙ sym c.if-has_address.ensures)

pub returns-else-has_address : goal.returns-else-has_address
returns-else-has_address c =
    not_covered c.args.address c.args.place c.args.line.now c.in-Inline.level c.in-Inline.call_line c.in-Inline.call_file c.in-Inline.origin c.in-Inline.ranges c.args.firsts.now.items c.in-Inline.is
    (ap (list_any (λ (r : Extent). is_within r.address r.size c.args.address)) (sym c.as_slice.ensures) ∙ sym c.if-has_address.ensures)
