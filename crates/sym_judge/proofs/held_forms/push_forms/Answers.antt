use Rattle.std.proofs.Common.{sym, ap, ◌∙◌, arith, Some}
use Rattle.std.proofs.lemmas.Option.{slice_get-get_or}
use Rattle.sym_judge.proofs.TableLemmas.{words_there}
use Rattle.sym_judge.proofs.held_forms.push_forms.Goals as goal

pub rules-preserved : goal.rules-preserved
rules-preserved c = λ lines is are. c.in_ok-push_form.ensures lines
    (words_there lines c.args.rules.now c.args.line c.rules.rule c.index-rules-rule.result is (slice_get-get_or c.args.rules.now c.rules.rule c.index-rules-rule.result (omega arith) ∙ ap Some (sym c.index-rules-rule.is)))
    (c.rules.invariant lines is are)

pub returns : goal.returns
returns c = λ lines is are. c.rules.invariant lines is are
