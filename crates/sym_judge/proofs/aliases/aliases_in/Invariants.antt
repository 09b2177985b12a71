use Rattle.sym_judge.specs.internal.Aliases.{AreAliases}
use Rattle.sym_judge.proofs.aliases.aliases_in.Given as goal

abbrev pub invariant-numbers : goal.invariant-numbers
invariant-numbers l = AreAliases l.firsts.numbered l.firsts.own.now l.side l.aliases.items
