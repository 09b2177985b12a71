use Rattle.std.proofs.Common.{◌∙◌, sym, subst}
use Rattle.std.proofs.lemmas.List.Elements.{All-push}
use Rattle.std.specs.Str.{bytes_eq}
use Rattle.sym_judge.specs.Alike.{same_option}
use Rattle.sym_judge.specs.internal.Aliases.{IsAlias, AreAliases}
use Rattle.sym_judge.proofs.AliasLemmas.{texts_tell}
use Rattle.sym_judge.proofs.NameLemmas.{same_both}
use Rattle.sym_judge.proofs.aliases.push_alias.Goals as goal

pub returns : goal.returns
returns c = subst (AreAliases c.args.firsts.now.numbered c.args.firsts.now.own.now c.args.side.now) (sym c.in_ok-push.ensures.items)
    (record { all = All-push (IsAlias c.args.firsts.now.numbered c.args.firsts.now.own.now c.args.side.now) _ _ c.requires.all (texts_tell.true_is _ _ (sym (c.is_same_text.ensures ∙ same_both (same_option bytes_eq) _ _ _ _ c.name_of.ensures c.name_of-name.ensures) ∙ c.if-not-is_same_text.false)) })
