-- The lines of findings, for `add_findings` and `judge_records`.
use Rattle.std.proofs.Common.{◌≡◌, ℕ, ◌≤◌, arith, Bool, true, false, List, [], ◌∷◌, ◌++◌, length, take, refl, ap, sym, ◌∙◌, ◌==◌}
use Rattle.std.specs.List.{flat_map}
use Rattle.std.proofs.lemmas.Bool.Decides.{nat_tests}
use Rattle.std.proofs.lemmas.List.{take_all}
use Rattle.sym_records.specs.declared.line.SymLine.{SymLine}
use Rattle.sym_findings.specs.Findings.{findings}
use Rattle.sym_findings.specs.declared.kind.Finding.{Finding}
use Rattle.dumpsyms_cmd.specs.Verdict.{Verdict}
use Rattle.dumpsyms_cmd.specs.commands.Check.{finding_line, findings_text, no_findings_line, findings_verdict, records_checked}

-- After the last line.
pub findings_end : (before text : List ℕ) (found : List Finding) (i : ℕ) → length found ≤ i → text ≡ before ++ flat_map finding_line (take i found) → text ≡ before ++ findings_text found
unfolding findings_text
findings_end before text found i past is = is ∙ ap (λ l. before ++ flat_map finding_line l) (take_all i found past)

abbrev given : ℕ → List ℕ → List ℕ → Verdict
given status out err = record { status = status; out = out; err = err }

never : ◌≡◌ {A = Bool} false true → ⊥
never is = cc

no_findings : (found : List Finding) → (length found == 0) ≡ true → findings_verdict found ≡ given 0 no_findings_line []
no_findings [] none = refl
no_findings (f ∷ found) none = let some : (length (f ∷ found) == 0) ≡ false = grind (arith, nat_tests) in absurd (never (sym some ∙ none))

some_findings : (found : List Finding) → (length found == 0) ≡ false → findings_verdict found ≡ given 1 (findings_text found) []
some_findings [] some = absurd (never (sym some))
some_findings (f ∷ found) some = refl

pub none_found : (lines : List SymLine) (found : List Finding) (out : List ℕ) (empty : Bool) → found ≡ findings lines → empty ≡ (length found == 0) → empty ≡ true → out ≡ no_findings_line → given 0 out [] ≡ records_checked lines
none_found lines found out empty is none holds line = ap (λ o. given 0 o []) line ∙ sym (no_findings found (sym none ∙ holds)) ∙ ap findings_verdict is

pub some_found : (lines : List SymLine) (found : List Finding) (out : List ℕ) (empty : Bool) → found ≡ findings lines → empty ≡ (length found == 0) → empty ≡ false → out ≡ findings_text found → given 1 out [] ≡ records_checked lines
some_found lines found out empty is some fails text = ap (λ o. given 1 o []) text ∙ sym (some_findings found (sym some ∙ fails)) ∙ ap findings_verdict is
