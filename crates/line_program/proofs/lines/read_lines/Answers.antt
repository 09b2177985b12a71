use Rattle.std.proofs.Common.{◌≡◌, ◌≤◌, ℕ, List, length, take, drop, sym, ◌∙◌, ap, subst, arith}
use Rattle.abbrev_units.specs.DebugSections.{DebugSections}
use Rattle.line_program.specs.internal.KeptRows.{or_kept_lines}
use Rattle.line_program.proofs.LinesLemmas.{offset_inside, says_of}
use Rattle.line_program.proofs.lines.read_lines.Goals as goal

pub returns-in_ok-table-in-Ok : goal.returns-in_ok-table-in-Ok
returns-in_ok-table-in-Ok c =
    let line = ap (λ (s : DebugSections). s.line) c.sections.view_is in
    let inside : c.args.offset ≤ length c.args.sections.now.line = omega (arith, c.if-offset-sections.false, ap length line) in
    let same = offset_inside c.args.sections.now c.args.offset c.args.place c.args.comp_dir.now c.new-cursor.result inside
    (subst (λ (l : List ℕ). c.new-cursor.result ≡ record { bytes = drop c.args.offset (take (length l) l); at = c.args.offset }) line c.new-cursor.ensures) in
    says_of c.args.code.now _ c.in-Ok.lines c.in_ok-table-in-Ok.table (sym c.in-Ok.is ∙ c.in_ok-lines.ensures ∙ ap or_kept_lines (sym same)) c.in_ok-table-in-Ok.ensures.says c.in_ok-table-in-Ok.ensures.few
