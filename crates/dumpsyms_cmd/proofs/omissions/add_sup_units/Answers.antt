use Rattle.std.proofs.Common.{List, ℕ, length, take, subst, sym, ap, ◌∙◌, ◌++◌}
use Rattle.std.specs.List.{flat_map, list_any}
use Rattle.abbrev_units.specs.UnitPlaces.{read_units}
use Rattle.abbrev_units.specs.declared.unit.Unit.{Unit}
use Rattle.debug_read.specs.SupUnits.{AreTargets, entries_of}
use Rattle.dumpsyms_cmd.specs.internal.LeftOut.{is_skipped, kept_entries, sup_left}
use Rattle.dumpsyms_cmd.proofs.LeftLemmas.{none_added, lines_added}
use Rattle.dumpsyms_cmd.proofs.omissions.add_sup_units.Goals as goal

pub returns-then-not-has_skipped : goal.returns-then-not-has_skipped
returns-then-not-has_skipped c = none_added c.args.text.now.items (kept_entries c.args.debug.now) c.args.debug.now.sup_headers (ap (list_any is_skipped) (sym c.as_slice-units.ensures) ∙ sym c.has_skipped.ensures ∙ c.if-not-has_skipped.true)

pub returns : goal.returns
returns c =
    lines_added c.args.text.now.items _ (kept_entries c.args.debug.now) c.in_ok-targets.targets c.args.debug.now.sup_headers
    (subst (λ (n : ℕ). AreTargets (entries_of (take n c.args.debug.now.units)) c.in_ok-targets.targets) (c.count_read-count.ensures ∙ ap (λ (us : List Unit). length (read_units us)) c.as_slice.ensures) c.in_ok-targets.ensures)
    (c.in_ok-add_sup_lines.ensures ∙ ap (λ (us : List Unit). c.args.text.now.items ++ flat_map (sup_left c.in_ok-targets.targets) us) c.as_slice-units.ensures)
