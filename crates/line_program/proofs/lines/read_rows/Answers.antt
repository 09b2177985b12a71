use Rattle.std.proofs.Common.{sym, ◌∙◌, ap}
use Rattle.line_program.specs.HeaderFields.{HeaderFields}
use Rattle.line_program.specs.LineRows.{line_rows}
use Rattle.line_program.specs.LineTables.{lines_of, program_lines}
use Rattle.line_program.specs.internal.KeptRows.{or_kept_lines}
use Rattle.line_program.proofs.KeptLemmas.{lines_read}
use Rattle.line_program.proofs.lines.read_rows.Goals as goal

pub returns : goal.returns
returns c =
    lines_read c.args.comp_dir.now c.header.inside.program.version c.args.tables c.in-Ok.machine c.in_ok-lines.lines (line_rows c.header.inside.program c.header.inside.opcodes)
    (sym c.in-Ok.is ∙ c.in_ok-machine.ensures)
    (c.in_ok-lines.ensures ∙ ap (λ p. lines_of c.args.comp_dir.now p.version c.args.tables c.in-Ok.machine) c.program.view_is)
    ∙ ap (λ (h : HeaderFields). or_kept_lines (program_lines c.args.comp_dir.now h.program c.args.tables h.opcodes)) c.header.view_is
