use Rattle.std.proofs.Common.{sym, subst, ◌∙◌}
use Rattle.code_table.specs.declared.kind.Kind.{Kind}
use Rattle.code_table.specs.declared.forms.FormClass.{FormClass}
use Rattle.code_table.specs.declared.forms.FormClass.TheVariants as form
use Rattle.abbrev_units.specs.declared.slots.Class.TheVariants as class
use Rattle.abbrev_units.specs.internal.Takes.{HasClass}
use Rattle.abbrev_units.proofs.KeepLemmas.{block_class, implicit_class, number_classes, other_class, present_class, signed_class, text_class}
use Rattle.abbrev_units.proofs.take.class_of.Goals as goal

pub returns-in-Signed-Sleb : goal.returns-in-Signed-Sleb
returns-in-Signed-Sleb c = subst (λ (f : FormClass). HasClass f c.args.layout class.Signed) (sym c.in-Signed-Sleb.is-0) (subst (λ (k : Kind). HasClass form.Signed k class.Signed) (sym c.in-Signed-Sleb.is-1) signed_class)

pub returns-in-Implicit-Nothing : goal.returns-in-Implicit-Nothing
returns-in-Implicit-Nothing c = subst (λ (f : FormClass). HasClass f c.args.layout class.Signed) (sym c.in-Implicit-Nothing.is-0) (subst (λ (k : Kind). HasClass form.Implicit k class.Signed) (sym c.in-Implicit-Nothing.is-1) implicit_class)

pub returns-in-Present-Nothing : goal.returns-in-Present-Nothing
returns-in-Present-Nothing c = subst (λ (f : FormClass). HasClass f c.args.layout class.Flag) (sym c.in-Present-Nothing.is-0) (subst (λ (k : Kind). HasClass form.Present k class.Flag) (sym c.in-Present-Nothing.is-1) present_class)

pub returns-in-InlineText-ZeroText : goal.returns-in-InlineText-ZeroText
returns-in-InlineText-ZeroText c = subst (λ (f : FormClass). HasClass f c.args.layout class.InlineText) (sym c.in-InlineText-ZeroText.is-0) (subst (λ (k : Kind). HasClass form.InlineText k class.InlineText) (sym c.in-InlineText-ZeroText.is-1) text_class)

pub returns-in-Block-default : goal.returns-in-Block-default
returns-in-Block-default c = subst (λ (f : FormClass). HasClass f c.args.layout class.Missing) (sym c.in-Block-default.is-0) (block_class c.args.layout)

pub returns-in-Other-default : goal.returns-in-Other-default
returns-in-Other-default c = subst (λ (f : FormClass). HasClass f c.args.layout class.Missing) (sym c.in-Other-default.is-0) (other_class c.args.layout)

pub returns-else-not-is_number : goal.returns-else-not-is_number
returns-else-not-is_number c = number_classes c.args.form c.args.layout c.number_class.result (sym c.is_number.ensures ∙ c.if-not-is_number.false) c.number_class.ensures
