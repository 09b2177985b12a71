-- Which rules of two files have the same words.
use Rattle.std.specs.Prelude.{◌≡◌, List}
use Rattle.std.specs.List.{All}
use Rattle.sym_records.specs.declared.line.SymLine.{SymLine}
use Rattle.sym_judge.specs.declared.rule_aliases.RuleAlias.{RuleAlias}
use Rattle.sym_judge.specs.declared.rule_aliases.RuleAliases.{RuleAliases}
use Rattle.sym_judge.specs.internal.Tables.{words_at}

-- the words at `a.place` are those that the first file has at `a.first`
abbrev pub IsRuleAlias : List SymLine → List SymLine → RuleAlias → Type 0
IsRuleAlias own lines a = words_at own a.first ≡ words_at lines a.place

abbrev pub AreRuleAliases : List SymLine → List SymLine → List RuleAlias → Type 0
AreRuleAliases own lines aliases = All (IsRuleAlias own lines) aliases

pub record AreRuleAliasesOf (own other : List SymLine) (aliases : RuleAliases) : Type 0 where
  pub mine : AreRuleAliases own own aliases.mine.items
  pub theirs : AreRuleAliases own other aliases.theirs.items
