use Rattle.std.proofs.Common.{◌∙◌, sym, ap}
use Rattle.sym_lookup.specs.AnswerTexts.{line_at}
use Rattle.sym_judge.specs.Alike.{same_option, same_line}
use Rattle.sym_judge.proofs.NameLemmas.{funcs_differ, lines_differ, same_both}
use Rattle.sym_judge.proofs.names.first_in_funcs.Goals as goal

pub returns-then-not-pair : goal.returns-then-not-pair
returns-then-not-pair c = funcs_differ c.args.both.now.own c.args.both.now.other c.args.address c.args.pair.now.met.own c.args.pair.now.met.other c.requires.own c.requires.other (sym c.requires.pair.named ∙ c.if-not-pair.true)

pub returns : goal.returns
returns c = c.line_alone.ensures ∙ lines_differ c.args.both.now.own c.args.both.now.other c.args.address c.args.pair.now.met.own c.args.pair.now.met.other c.is_same_line.result c.requires.own c.requires.other (sym c.requires.pair.named ∙ c.if-not-pair.false)
    c.requires.alike (sym (c.is_same_line.ensures ∙ same_both (same_option same_line) _ _ _ _ (ap (line_at c.args.both.now.own) c.requires.first) (ap (line_at c.args.both.now.other) c.requires.second)))
