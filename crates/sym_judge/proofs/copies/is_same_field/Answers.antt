use Rattle.std.proofs.Common.{sym, ap, ◌∙◌}
use Rattle.sym_records.specs.Listed.{said, ranges, rules}
use Rattle.sym_judge.specs.internal.Blocks.{same_extent}
use Rattle.sym_judge.proofs.BlockLemmas.{list_true, extent_true, rules_true}
use Rattle.sym_judge.proofs.CopyLemmas.{said_alike}
use Rattle.sym_judge.proofs.copies.is_same_field.Goals as goal

pub returns-in-Ranges-Ranges : goal.returns-in-Ranges-Ranges
returns-in-Ranges-Ranges c =
    said_alike c.are_same_extents.result ranges c.in-Ranges-Ranges.a.now c.in-Ranges-Ranges.b.now (said c.args.a.now) (said c.args.b.now) (ap said c.in-Ranges-Ranges.is-0) (ap said c.in-Ranges-Ranges.is-1)
    (λ is. list_true same_extent extent_true _ _ (sym c.are_same_extents.ensures ∙ is))

pub returns-in-Rules-Rules : goal.returns-in-Rules-Rules
returns-in-Rules-Rules c =
    said_alike c.are_same_rule_texts.result rules c.in-Rules-Rules.a.now c.in-Rules-Rules.b.now (said c.args.a.now) (said c.args.b.now) (ap said c.in-Rules-Rules.is-0) (ap said c.in-Rules-Rules.is-1)
    (λ is. rules_true _ _ (sym c.are_same_rule_texts.ensures ∙ is))
