use Rattle.std.proofs.Common.{not, arith, ap, take, drop, ◌∙◌}
use Rattle.clean_names.specs.Names.{is_space}
use Rattle.text_table.proofs.EndLemmas.{span_within}
use Rattle.text_table.proofs.SpaceLemmas.{held_is}
use Rattle.text_table.proofs.table.held_text.Goals as goal

pub split_at-requires : goal.split_at-requires
split_at-requires c =
    let within = span_within (λ b. not (is_space b)) c.args.text.now in
    omega (arith, c.count_spaces.ensures, c.saturating_sub-spaces.ensures, within)

pub returns : goal.returns
returns c =
    held_is c.args.text.now c.split_at.result.1.now c.split_at-2.result.0.now c.count_spaces.result c.count_spaces.ensures
    (c.split_at.ensures.back ∙ ap (λ n. drop n c.args.text.now) c.saturating_sub-spaces.ensures)
    (c.split_at-2.ensures.front ∙ ap (λ n. take n c.split_at.result.1.now) c.min.ensures)
