use Rattle.std.proofs.Common.{◌∙◌, sym, ap, subst}
use Rattle.std.proofs.lemmas.List.Elements.{All-push}
use Rattle.sym_judge.specs.Forms.{form_of}
use Rattle.sym_judge.specs.internal.HeldForms.{IsHeldForm, AreHeldForms}
use Rattle.sym_judge.proofs.HeldFormLemmas.{form_held}
use Rattle.sym_judge.proofs.held_forms.push_form.Goals as goal

pub returns : goal.returns
returns c = λ lines there are. subst (AreHeldForms lines) (sym c.in_ok-push.ensures.items)
    (All-push (IsHeldForm lines) _ _ are (form_held lines _ c.args.rule.now.tokens there (c.in_ok-form.ensures ∙ ap (form_of c.is_cfa-inside.result) c.as_slice-2.ensures)))
