use Rattle.std.proofs.Common.{◌∙◌, Ok, sym, ap}
use Rattle.std.proofs.lemmas.Result.{err_from_is_err_and}
use Rattle.std.specs.Option.{option_copied}
use Rattle.state_file.specs.StateText.{with_lines, with_line, numbered, line_read}
use Rattle.state_file.specs.internal.Parts.{state, lines_behind}
use Rattle.state_file.proofs.StateLemmas.{lines_more, lines_none, stopped}
use Rattle.state_file.proofs.state.read_state.Goals as goal

pub returns-in_err-said : goal.returns-in_err-said
returns-in_err-said c =
    let p = err_from_is_err_and c.from_residual.result c.from_residual.ensures.1 in
    let whole = sym c.lines.invariant ∙ ap (λ rest. with_lines c.lines.number (state c.lines.regs c.lines.runs.items) (lines_behind (option_copied rest))) c.in-Some.is ∙ ap (with_lines c.lines.number (state c.lines.regs c.lines.runs.items)) c.cut_line.ensures.lines in
    rw (p.1, p.2) (stopped c.lines.number c.saturating_add-number.result (state c.lines.regs c.lines.runs.items) c.cut_line.result.0.now (lines_behind (option_copied c.cut_line.result.1)) c.in_err-said.field-0.0 _ c.saturating_add-number.ensures c.in_err-said.ensures.line whole)

pub lines-preserved : goal.lines-preserved
lines-preserved c =
    ap (λ s. with_lines c.saturating_add-number.result s (lines_behind (option_copied c.cut_line.result.1))) c.in_ok-take_line.ensures
    ∙ ap (λ n. with_lines n (with_line c.in_ok-said.said (state c.lines.regs c.lines.runs.items)) (lines_behind (option_copied c.cut_line.result.1))) c.saturating_add-number.ensures
    ∙ sym (lines_more c.lines.number (state c.lines.regs c.lines.runs.items) c.cut_line.result.0.now (lines_behind (option_copied c.cut_line.result.1)) c.in_ok-said.said
    (ap (λ n. numbered n (line_read c.cut_line.result.0.now)) (sym c.saturating_add-number.ensures) ∙ c.in_ok-said.ensures.line))
    ∙ ap (with_lines c.lines.number (state c.lines.regs c.lines.runs.items)) (sym c.cut_line.ensures.lines)
    ∙ ap (λ rest. with_lines c.lines.number (state c.lines.regs c.lines.runs.items) (lines_behind (option_copied rest))) (sym c.in-Some.is)
    ∙ c.lines.invariant

pub returns : goal.returns
returns c =
    sym c.lines.invariant ∙ ap (λ rest. with_lines c.lines.number (state c.lines.regs c.lines.runs.items) (lines_behind (option_copied rest))) c.in_default.is
    ∙ lines_none c.lines.number (state c.lines.regs c.lines.runs.items) ∙ ap (λ runs. Ok (state c.lines.regs runs)) (sym c.in_ok-memory.ensures)
