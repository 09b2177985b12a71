use Rattle.std.proofs.Common.{◌∙◌, sym, ap, subst, Some}
use Rattle.std.proofs.lemmas.List.Elements.{All-push}
use Rattle.std.specs.Option.{option_copied}
use Rattle.sym_judge.specs.internal.RuleAliases.{IsRuleAlias, AreRuleAliases}
use Rattle.sym_judge.proofs.SameLemmas.{words_tell}
use Rattle.sym_judge.proofs.rule_aliases.push_alias.Goals as goal

pub returns : goal.returns
returns c = subst (AreRuleAliases c.args.own.now c.args.lines.now) (sym c.in_ok-push.ensures.items)
    (All-push (IsRuleAlias c.args.own.now c.args.lines.now) _ _ c.requires
    (sym c.words_of.ensures ∙ ap option_copied c.in-Some.is ∙ ap Some (words_tell.true_is _ _ (sym c.are_same_words.ensures ∙ c.if-not-are_same_words.false)) ∙ sym (ap option_copied c.in-Some-words_of.is) ∙ c.words_of-2.ensures))
