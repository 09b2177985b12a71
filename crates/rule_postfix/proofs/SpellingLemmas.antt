-- What is spelled at the end of a text; for `close`, `write_change_line`.
use Rattle.std.proofs.Common.{◌≡◌, ◌≢◌, ℕ, List, [], ◌∷◌, ◌++◌, length, ap, sym, ◌∙◌, arith, append_assoc, append-nil, length-append}
use Rattle.std.specs.List.{flat_map}
use Rattle.std.proofs.lemmas.List.Concat.{flat_map-append}
use Rattle.sym_rules.specs.declared.rules.RuleText.{RuleText}
use Rattle.sym_rules.specs.Rules.{spelled_rule, spelled_rules}
use Rattle.sym_records.specs.Canon.{canon, canon_text, change_front}
use Rattle.sym_records.proofs.AddingLemmas.{change_line}
use Rattle.sym_records.specs.declared.line.SymLine.{SymLine}
use Rattle.sym_records.specs.declared.line.SymLine.TheVariants.{Change}
use Rattle.rule_postfix.specs.FrameLines.{change}

-- The text of two lists of records, one after the other.
pub canon_append : (xs ys : List SymLine) → canon_text (xs ++ ys) ≡ canon_text xs ++ canon_text ys
unfolding canon_text
canon_append xs ys = flat_map-append canon xs ys

pub canon_one : (s : SymLine) → canon_text (s ∷ []) ≡ canon s
unfolding canon_text
canon_one s = append-nil (canon s)

pub more : (front old new : List ℕ) (xs ys : List SymLine) → old ≡ front ++ canon_text xs → new ≡ old ++ canon_text ys → new ≡ front ++ canon_text (xs ++ ys)
more front old new xs ys was is =
    is ∙ ap (λ t. t ++ canon_text ys) was ∙ append_assoc front (canon_text xs) (canon_text ys) ∙ ap (λ t. front ++ t) (sym (canon_append xs ys))

-- If no rule differs, there is no record of changes.
pub no_change : (address n : ℕ) (rules : List RuleText) (none end new line : List ℕ) → none ≡ [] → end ≡ 10 ∷ none → new ≡ spelled_rules rules ++ end → n ≡ length new → n ≡ 1 → line ≡ [] → line ≡ canon_text (change address rules)
unfolding canon_text spelled_rules spelled_rule
no_change address n [] none end new line empty last is size one cleared = cleared
no_change address n (r ∷ rules) none end new line empty last is size one cleared =
    absurd (omega (arith, ap length is, ap length last, length-append (flat_map spelled_rule (r ∷ rules)) end, size, one))

pub some_change : (address n : ℕ) (rules : List RuleText) (none end new line : List ℕ) → none ≡ [] → end ≡ 10 ∷ none → new ≡ spelled_rules rules ++ end → n ≡ length new → n ≢ 1 → line ≡ change_front address ++ new → line ≡ canon_text (change address rules)
unfolding spelled_rules
some_change address n [] none end new line empty last is size some front =
    absurd (omega (arith, ap length is, ap length last, ap length empty, size, some))
some_change address n (r ∷ rules) none end new line empty last is size some front =
    front ∙ ap (λ l. change_front address ++ l) (is ∙ ap (λ l. flat_map spelled_rule (r ∷ rules) ++ l) (last ∙ ap (λ l. 10 ∷ l) empty))
    ∙ change_line address (r ∷ rules) ∙ sym (canon_one (Change address (r ∷ rules)))

-- An INIT that ends: its line, and the text after that.
pub init_closed : (front body old none a b new : List ℕ) → none ≡ [] → a ≡ front ++ none → b ≡ old ++ a → new ≡ b ++ body → new ≡ old ++ (front ++ body)
init_closed front body old none a b new empty written first second =
    second ∙ ap (λ l. l ++ body) (first ∙ ap (λ l. old ++ l) (written ∙ ap (λ l. front ++ l) empty ∙ append-nil front)) ∙ append_assoc old front body
