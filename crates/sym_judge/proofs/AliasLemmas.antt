-- Lemmas about numbers that have one name.
use Rattle.std.proofs.Common.{◌≡◌, ℕ, nat_eq, Bool, true, false, List, sym, ap, subst, ◌∙◌}
use Rattle.std.specs.Bool.{OnTrue}
use Rattle.std.specs.Str.{bytes_eq}
use Rattle.sym_records.specs.declared.line.SymLine.{SymLine}
use Rattle.sym_meaning.specs.TextNames.{text_path, text_origin}
use Rattle.sym_judge.specs.Alike.{same_option}
use Rattle.sym_judge.specs.declared.aliases.Numbered.{Numbered}
use Rattle.sym_judge.specs.declared.aliases.Numbered.TheVariants.{Files, Origins}
use Rattle.sym_judge.specs.declared.aliases.Alias.{Alias}
use Rattle.sym_judge.specs.declared.aliases.Aliases.{Aliases}
use Rattle.sym_judge.specs.internal.Aliases.{name_of, AreAliases, AreAliasesOf}
use Rattle.sym_judge.specs.internal.Blocks.{same_name}
use Rattle.sym_judge.proofs.SameLemmas.{Tells, numbers, bytes_tell, options_tell}

pub texts_tell : Tells (same_option bytes_eq)
texts_tell = options_tell bytes_eq bytes_tell

same_by : (numbered : Numbered) (own other : List SymLine) (a b : ℕ) → name_of numbered own a ≡ name_of numbered other b → same_name numbered own other a b ≡ true
same_by Files own other a b is = ap (λ t. same_option bytes_eq t (text_path other b)) is ∙ texts_tell.self (text_path other b)
same_by Origins own other a b is = ap (λ t. same_option bytes_eq t (text_origin other b)) is ∙ texts_tell.self (text_origin other b)

pub one_name : (numbered : Numbered) (own other : List SymLine) (a b first second : ℕ) → name_of numbered own first ≡ name_of numbered own a → name_of numbered own second ≡ name_of numbered other b → first ≡ second → same_name numbered own other a b ≡ true
one_name numbered own other a b first second p q e = same_by numbered own other a b (sym p ∙ ap (name_of numbered own) e ∙ q)

pub both_named : (aliases : Aliases) (mine theirs : List Alias) (a b first second : ℕ) → mine ≡ aliases.mine.items → theirs ≡ aliases.theirs.items
    → ((numbered : Numbered) (own lines : List SymLine) → AreAliases numbered own lines mine → name_of numbered own first ≡ name_of numbered lines a)
    → ((numbered : Numbered) (own lines : List SymLine) → AreAliases numbered own lines theirs → name_of numbered own second ≡ name_of numbered lines b)
    → (e : Bool) → nat_eq first second ≡ e → OnTrue e ((numbered : Numbered) (own other : List SymLine) → AreAliasesOf numbered own other aliases → same_name numbered own other a b ≡ true)
both_named aliases mine theirs a b first second m t p q true is = λ numbered own other are.
    one_name numbered own other a b first second (p numbered own own (subst (AreAliases numbered own own) (sym m) are.mine)) (q numbered own other (subst (AreAliases numbered own other) (sym t) are.theirs)) (numbers first second is)
both_named aliases mine theirs a b first second m t p q false is = tt
