-- The loop over the records (for `found_in`).
use Rattle.std.proofs.Common.{◌≡◌, ℕ, ◌+◌, ◌<◌, ◌≤◌, suc, List, [], ◌∷◌, ◌++◌, length, take, drop, reverse, get_or, ap, sym, ◌∙◌, subst, append_assoc, append-nil, add-one, drop-cons}
use Rattle.std.proofs.lemmas.List.{take_more, drop_all, reverse-append}
use Rattle.sym_records.specs.declared.line.SymLine.{SymLine}
use Rattle.sym_findings.specs.declared.kind.Finding.{Finding}
use Rattle.sym_findings.specs.declared.records_before.Preceding.{Preceding}
use Rattle.sym_findings.specs.Findings.{findings_at, findings_from, findings}
use Rattle.sym_findings.specs.internal.Preceding.{Keeps, Judged, preceding_at}

-- The invariant of the loop: what is stored of the records so far, and the findings at them.
pub record Lists (lines : List SymLine) (i : ℕ) (out : List Finding) (p : Preceding) : Type 0 where
  pub keeps : Keeps (preceding_at i lines) p
  pub found : out ++ findings_from lines (preceding_at i lines) i (drop i lines) ≡ findings lines

pub lists_none : (lines : List SymLine) (out : List Finding) (p : Preceding) → out ≡ [] → Keeps [] p → Lists lines 0 out p
unfolding findings preceding_at
lists_none lines out p none keeps = record {
  keeps = keeps;
  found = ap (λ l. l ++ findings_from lines [] 0 lines) none;
}

preceding_more : (lines : List SymLine) (i : ℕ) (s : SymLine) → i < length lines → s ≡ get_or lines i s → preceding_at (i + 1) lines ≡ s ∷ preceding_at i lines
unfolding preceding_at
preceding_more lines i s there is = ap reverse (take_more lines i s there ∙ ap (λ x. take i lines ++ x ∷ []) (sym is)) ∙ reverse-append (take i lines) (s ∷ [])

left_more : (lines : List SymLine) (i : ℕ) (s : SymLine) → i < length lines → s ≡ get_or lines i s → drop i lines ≡ s ∷ drop (i + 1) lines
left_more lines i s there is = drop-cons lines i s there ∙ ap (λ x. x ∷ drop (suc i) lines) (sym is) ∙ ap (λ k. s ∷ drop k lines) (sym (add-one i))

pub lists_more : (lines : List SymLine) (i : ℕ) (s : SymLine) (out new : List Finding) (p q : Preceding) → i < length lines → s ≡ get_or lines i s → Lists lines i out p → Judged lines (preceding_at i lines) i s out new q → Lists lines (i + 1) new q
unfolding findings_from
lists_more lines i s out new p q there is lists judged = record {
  keeps = subst (λ (b : List SymLine). Keeps b q) (sym (preceding_more lines i s there is)) judged.keeps;
  found =
      ap (λ b. new ++ findings_from lines b (i + 1) (drop (i + 1) lines)) (preceding_more lines i s there is)
      ∙ ap (λ l. l ++ findings_from lines (s ∷ preceding_at i lines) (i + 1) (drop (i + 1) lines)) judged.found
      ∙ append_assoc out (findings_at lines (preceding_at i lines) i s) (findings_from lines (s ∷ preceding_at i lines) (i + 1) (drop (i + 1) lines))
      ∙ ap (λ l. out ++ findings_from lines (preceding_at i lines) i l) (sym (left_more lines i s there is))
      ∙ lists.found;
}

pub lists_all : (lines : List SymLine) (i : ℕ) (out : List Finding) (p : Preceding) → length lines ≤ i → Lists lines i out p → out ≡ findings lines
unfolding findings_from
lists_all lines i out p whole lists = sym (append-nil out) ∙ ap (λ l. out ++ findings_from lines (preceding_at i lines) i l) (sym (drop_all i lines whole)) ∙ lists.found
