use Rattle.std.proofs.Common.{ap, ◌∙◌}
use Rattle.sym_records.specs.Canon.{canon_text}
use Rattle.rule_postfix.specs.Written.{omitted, written, written_lines}
use Rattle.dumpsyms_cmd.proofs.dump.spell_frames.Goals as goal

pub returns : goal.returns
returns g c = record {
  above = c.code.ensures.above;
  text_is = c.in_ok-frames.ensures.text
      ∙ ap (λ b. canon_text (written_lines b (written c.code.result.now c.args.debug.now.first c.args.debug.now.second))) c.base.ensures
      ∙ ap (λ code. canon_text (written_lines c.args.image.now.base (written code c.args.debug.now.first c.args.debug.now.second))) c.code.ensures.ranges;
  left_is = c.in_ok-frames.ensures.omitted ∙ ap (λ code. omitted code c.args.debug.now.first c.args.debug.now.second) c.code.ensures.ranges;
}
