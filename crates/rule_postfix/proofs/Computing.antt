-- The definitions of rule_postfix, and of the crates below it, that a proof unfolds to compute a
-- worked example.
use Rattle.std.specs.Prelude.{⊤}
use Rattle.sym_meaning.specs.Inits.{inits_at}
use Rattle.rule_postfix.specs.Covering.{entries_at}
use Rattle.rule_postfix.specs.FrameLines.{is_cut, first_cut, records_at, frame_lines}
use Rattle.range_union.specs.Ranges.{any_overlap}
use Rattle.rule_postfix.specs.RowParts.{column_part, part_of, is_unspecified, becomes_unspecified}
use Rattle.rule_postfix.specs.RowRules.{spelled, registers, rules_of, rules_by, if_ruled, if_changed, row_rules, changed_rules, some_unspecified_below, some_becomes_unspecified}
use Rattle.rule_postfix.specs.internal.Writing.{with_row, with_rows, lines_of}
use Rattle.rule_postfix.specs.Written.{has_range, rows_reason, is_code, reason_among, reason_behind, reason_of, with_entry, with_entries, decided_behind, decided_of, decided, written, omitted, entry_lines, written_lines}
use Rattle.rule_postfix.proofs.ComputingBelow.{frames_below_compute}

unfoldable pub rule_postfix_computes : ⊤
unfolding frames_below_compute inits_at entries_at is_cut first_cut records_at frame_lines any_overlap column_part part_of is_unspecified becomes_unspecified spelled registers rules_of rules_by if_ruled if_changed row_rules changed_rules some_unspecified_below some_becomes_unspecified with_row with_rows lines_of has_range rows_reason is_code reason_among reason_behind reason_of with_entry with_entries decided_behind decided_of decided written omitted entry_lines written_lines
rule_postfix_computes = tt
