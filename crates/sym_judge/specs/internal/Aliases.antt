-- Which numbers of two files stand for the same name.
use Rattle.std.specs.Prelude.{◌≡◌, ℕ, List, Option}
use Rattle.std.specs.List.{All}
use Rattle.sym_records.specs.declared.line.SymLine.{SymLine}
use Rattle.sym_meaning.specs.TextNames.{text_path, text_origin}
use Rattle.sym_judge.specs.declared.aliases.Numbered.{Numbered}
use Rattle.sym_judge.specs.declared.aliases.Numbered.TheVariants.{Files, Origins}
use Rattle.sym_judge.specs.declared.aliases.Alias.{Alias}
use Rattle.sym_judge.specs.declared.aliases.Aliases.{Aliases}

-- the name under a number
abbrev pub name_of : Numbered → List SymLine → ℕ → Option (List ℕ)
name_of Files = text_path
name_of Origins = text_origin

-- the name under `a.number` is the name that the first file has under `a.first`
abbrev pub IsAlias : Numbered → List SymLine → List SymLine → Alias → Type 0
IsAlias numbered own lines a = name_of numbered own a.first ≡ name_of numbered lines a.number

pub record AreAliases (numbered : Numbered) (own lines : List SymLine) (aliases : List Alias) : Type 0 where
  pub all : All (IsAlias numbered own lines) aliases

pub record AreAliasesOf (numbered : Numbered) (own other : List SymLine) (aliases : Aliases) : Type 0 where
  pub mine : AreAliases numbered own own aliases.mine.items
  pub theirs : AreAliases numbered own other aliases.theirs.items
