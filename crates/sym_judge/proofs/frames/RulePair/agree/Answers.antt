use Rattle.std.proofs.Common.{◌≡◌, true, subst}
use Rattle.sym_judge.specs.Forms.{form_by, same_form}
use Rattle.sym_judge.specs.internal.Blocks.{TwoFiles}
use Rattle.sym_judge.specs.internal.Tables.{words_in}
use Rattle.sym_judge.proofs.RuleAliasLemmas.{one_form}
use Rattle.sym_judge.proofs.frames.RulePair.agree.Goals as goal

pub returns-then-have_one_text : goal.returns-then-have_one_text
returns-then-have_one_text c =
    subst (λ (two : TwoFiles). true ≡ same_form (form_by c.args.target.now (words_in two.own c.args.a)) (form_by c.args.target.now (words_in two.other c.args.b))) c.self.view_is
    (one_form c.args.target.now _ _ (c.if-have_one_text.ensures c.self.inside.own c.self.inside.other c.self.invariant))
