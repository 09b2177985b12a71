use Rattle.std.proofs.Common.{sym, subst}
use Rattle.std.proofs.lemmas.List.Elements.{All-push}
use Rattle.sym_judge.specs.internal.RuleMaps.{AreRuleMaps, AreAllRuleMaps}
use Rattle.sym_judge.proofs.rule_maps.push_maps.Goals as goal

pub returns : goal.returns
returns c = subst (AreAllRuleMaps c.args.lines.now) (sym c.in_ok-push.ensures.items) (All-push (AreRuleMaps c.args.lines.now) _ _ c.requires.maps c.in_ok-maps.ensures)
