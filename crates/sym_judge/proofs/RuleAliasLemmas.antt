-- Lemmas about rules that have the same words.
use Rattle.std.proofs.Common.{◌≡◌, nat_eq, Bool, true, false, List, Option, Some, sym, ap, subst, ◌∙◌}
use Rattle.std.specs.Bool.{OnTrue}
use Rattle.sym_records.specs.declared.line.SymLine.{SymLine}
use Rattle.sym_rules.specs.declared.rules.Target.{Target}
use Rattle.sym_rules.specs.declared.rules.Token.{Token}
use Rattle.sym_judge.specs.Forms.{form_by, same_form}
use Rattle.sym_judge.specs.declared.rule_tables.RulePlace.{RulePlace}
use Rattle.sym_judge.specs.declared.rule_aliases.RuleAlias.{RuleAlias}
use Rattle.sym_judge.specs.declared.rule_aliases.RuleAliases.{RuleAliases}
use Rattle.sym_judge.specs.internal.RuleAliases.{AreRuleAliases, AreRuleAliasesOf}
use Rattle.sym_judge.specs.internal.Tables.{words_at, words_in}
use Rattle.sym_judge.proofs.SameLemmas.{forms_tell, numbers}

pub one_place : (a b : RulePlace) → a.line ≡ b.line → a.rule ≡ b.rule → a ≡ b
one_place a b line rule = ap (λ n. record { line = n; rule = a.rule }) line ∙ ap (λ n. record { line = b.line; rule = n }) rule

-- The rules at two places have the same words.
one_text : (aliases : RuleAliases) (mine theirs : List RuleAlias) (a b first second : RulePlace) → mine ≡ aliases.mine.items → theirs ≡ aliases.theirs.items
    → ((own lines : List SymLine) → AreRuleAliases own lines mine → words_at own first ≡ words_at lines a) → ((own lines : List SymLine) → AreRuleAliases own lines theirs → words_at own second ≡ words_at lines b)
    → first.line ≡ second.line → first.rule ≡ second.rule → (own other : List SymLine) → AreRuleAliasesOf own other aliases → words_at own a ≡ words_at other b
one_text aliases mine theirs a b first second m t p q line rule own other are =
    sym (p own own (subst (AreRuleAliases own own) (sym m) are.mine))
    ∙ ap (words_at own) (one_place first second line rule)
    ∙ q own other (subst (AreRuleAliases own other) (sym t) are.theirs)

pub both_told : (aliases : RuleAliases) (mine theirs : List RuleAlias) (c d : Option RulePlace) (a b first second : RulePlace) → c ≡ Some a → d ≡ Some b → mine ≡ aliases.mine.items → theirs ≡ aliases.theirs.items
    → ((own lines : List SymLine) → AreRuleAliases own lines mine → words_at own first ≡ words_at lines a) → ((own lines : List SymLine) → AreRuleAliases own lines theirs → words_at own second ≡ words_at lines b)
    → first.line ≡ second.line → (e : Bool) → nat_eq first.rule second.rule ≡ e → OnTrue e ((own other : List SymLine) → AreRuleAliasesOf own other aliases → words_in own c ≡ words_in other d)
both_told aliases mine theirs c d a b first second v w m t p q line true is = λ own other are. ap (words_in own) v ∙ one_text aliases mine theirs a b first second m t p q line (numbers first.rule second.rule is) own other are ∙ ap (words_in other) (sym w)
both_told aliases mine theirs c d a b first second v w m t p q line false is = tt

pub one_form : (t : Target) (a b : Option (List Token)) → a ≡ b → true ≡ same_form (form_by t a) (form_by t b)
one_form t a b is = sym (ap (λ words. same_form (form_by t words) (form_by t b)) is ∙ forms_tell.self (form_by t b))
