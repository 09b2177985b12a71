-- Rules that are added to a text, one after the other; for `add_expression`, `add_column`,
-- `add_changes`, `add_row_rules` and others.
use Rattle.std.proofs.Common.{◌≡◌, ℕ, ◌+◌, ◌==◌, false, List, [], ◌∷◌, ◌++◌, map, length, Option, None, Some, refl, ap, sym, ◌∙◌, arith, append_assoc, append-nil, length-append}
use Rattle.std.specs.List.{flat_map, range_with_len}
use Rattle.std.proofs.lemmas.Bool.{eqb-false}
use Rattle.std.proofs.lemmas.List.{map-append}
use Rattle.std.proofs.lemmas.List.Concat.{flat_map-append}
use Rattle.frame_entries.specs.FdeFields.{FdeFields}
use Rattle.frame_rows.specs.declared.row.Row.{Row}
use Rattle.frame_rows.specs.Rows.{empty_row}
use Rattle.sym_rules.specs.declared.rules.Target.{Target}
use Rattle.sym_rules.specs.declared.rules.Target.TheVariants.{Cfa, Ra, Reg}
use Rattle.sym_rules.specs.declared.rules.Token.{Token}
use Rattle.sym_rules.specs.declared.rules.RuleText.{RuleText}
use Rattle.sym_rules.specs.Rules.{spelled_rule, spelled_rules}
use Rattle.sym_records.specs.Canon.{canon_text, change_front}
use Rattle.sym_records.proofs.AddingLemmas.{change_line}
use Rattle.sym_records.specs.declared.line.SymLine.TheVariants.{Change}
use Rattle.rule_postfix.specs.FrameLines.{change}
use Rattle.rule_postfix.specs.RowParts.{cfa_part, column_part, rule_at, part_of}
use Rattle.rule_postfix.specs.RowRules.{rules_of, rules_by, registers, if_other, if_changed, row_rules, changed_rules, some_unspecified_below}
use Rattle.rule_postfix.specs.internal.Backward.{rule_text}
use Rattle.rule_postfix.proofs.RulesLemmas.{one_rule, rules_append, range_more, rules_from_empty}
use Rattle.rule_postfix.proofs.SpellingLemmas.{canon_one}

-- The rule of a target, which was written into a line or is an expression.
pub line_added : (t : Target) (words : Option (List Token)) (old none line new : List ℕ) → none ≡ [] → line ≡ rule_text t words ++ none → new ≡ old ++ line → new ≡ old ++ rule_text t words
line_added t words old none line new empty written is = is ∙ ap (λ l. old ++ l) (written ∙ ap (λ l. rule_text t words ++ l) empty ∙ append-nil (rule_text t words))

pub expression_added : (t : Target) (words made : Option (List Token)) (old new : List ℕ) → words ≡ made → new ≡ old ++ rule_text t made → new ≡ old ++ rule_text t words
expression_added t words made old new same is = is ∙ ap (λ o. old ++ rule_text t o) (sym same)

pub words_added : (rule : RuleText) (rules : List RuleText) (spelled old new : List ℕ) → rules ≡ rule ∷ [] → spelled ≡ spelled_rules rules → new ≡ old ++ spelled → new ≡ old ++ rule_text rule.target (Some rule.tokens)
unfolding rule_text
words_added rule rules spelled old new one made is = is ∙ ap (λ l. old ++ l) (made ∙ ap spelled_rules one)

pub no_words_added : (t : Target) (words : Option (List Token)) (old : List ℕ) → words ≡ None → old ≡ old ++ rule_text t words
unfolding rule_text spelled_rules
no_words_added t words old none = sym (append-nil old) ∙ ap (λ o. old ++ rule_text t o) (sym none)

-- One target more, in order.
next : (tokens : Target → Option (List Token)) (ts : List Target) (t : Target) (old text new : List ℕ) → text ≡ old ++ spelled_rules (rules_of tokens ts) → new ≡ text ++ rule_text t (tokens t) → new ≡ old ++ spelled_rules (rules_of tokens (ts ++ t ∷ []))
unfolding rule_text spelled_rules
next tokens ts t old text new was is =
    is ∙ ap (λ l. l ++ rule_text t (tokens t)) was ∙ append_assoc old (spelled_rules (rules_of tokens ts)) (rule_text t (tokens t))
    ∙ ap (λ l. old ++ l)
    (ap (λ rules. spelled_rules (rules_of tokens ts) ++ spelled_rules rules) (sym (one_rule tokens t))
    ∙ sym (flat_map-append spelled_rule (rules_of tokens ts) (rules_of tokens (t ∷ [])))
    ∙ ap spelled_rules (sym (rules_append tokens ts (t ∷ []))))

registers_next : (n : ℕ) → registers (n + 1) ≡ registers n ++ Reg n ∷ []
unfolding registers
registers_next n = ap (map Reg) (range_more n) ∙ map-append Reg (range_with_len 0 n) (n ∷ [])

pub first_two : (fde : FdeFields) (before after : Row) (old first second : List ℕ) → first ≡ old ++ rule_text Cfa (if_other fde Cfa (cfa_part before.cfa) (cfa_part after.cfa)) → second ≡ first ++ rule_text Ra (if_other fde Ra (column_part 16 (rule_at before 16)) (column_part 16 (rule_at after 16))) → second ≡ old ++ spelled_rules (rules_of (if_changed fde before after) (Cfa ∷ Ra ∷ registers 0))
unfolding rules_of if_changed part_of registers spelled_rules
first_two fde before after old first second a b =
    let tokens : Target → Option (List Token) = if_changed fde before after in
    next tokens (Cfa ∷ []) Ra old first second (next tokens [] Cfa old old first (sym (append-nil old)) a) b

pub one_added : (fde : FdeFields) (before after : Row) (n : ℕ) (old text new : List ℕ) → text ≡ old ++ spelled_rules (rules_of (if_changed fde before after) (Cfa ∷ Ra ∷ registers n)) → new ≡ text ++ rule_text (Reg n) (if_other fde (Reg n) (column_part n (rule_at before n)) (column_part n (rule_at after n))) → new ≡ old ++ spelled_rules (rules_of (if_changed fde before after) (Cfa ∷ Ra ∷ registers (n + 1)))
unfolding if_changed part_of
one_added fde before after n old text new was is =
    let tokens : Target → Option (List Token) = if_changed fde before after in
    next tokens (Cfa ∷ Ra ∷ registers n) (Reg n) old text new was is ∙ ap (λ ts. old ++ spelled_rules (rules_of tokens (Cfa ∷ Ra ∷ ts))) (sym (registers_next n))

pub all_added : (fde : FdeFields) (before after : Row) (n : ℕ) (old text : List ℕ) → n ≡ 16 → text ≡ old ++ spelled_rules (rules_of (if_changed fde before after) (Cfa ∷ Ra ∷ registers n)) → text ≡ old ++ spelled_rules (changed_rules fde before after)
unfolding changed_rules rules_by
all_added fde before after n old text all is = is ∙ ap (λ k. old ++ spelled_rules (rules_of (if_changed fde before after) (Cfa ∷ Ra ∷ registers k))) all

-- The rules of a row are the changes from a row without rules.
pub row_added : (fde : FdeFields) (empty row : Row) (old text new : List ℕ) → empty ≡ empty_row → text ≡ old ++ spelled_rules (changed_rules fde empty row) → new ≡ text ++ 10 ∷ [] → new ≡ old ++ (spelled_rules (row_rules fde row) ++ 10 ∷ [])
row_added fde empty row old text new e was is =
    is ∙ ap (λ l. l ++ 10 ∷ []) (was ∙ ap (λ l. old ++ spelled_rules l) (ap (λ r. changed_rules fde r row) e ∙ rules_from_empty fde row))
    ∙ append_assoc old (spelled_rules (row_rules fde row)) (10 ∷ [])

-- A record of changes, if there are any.
pub no_record : (address : ℕ) (rules : List RuleText) (none changes old : List ℕ) → none ≡ [] → changes ≡ none ++ spelled_rules rules → length changes ≡ 0 → old ≡ old ++ canon_text (change address rules)
unfolding canon_text spelled_rules spelled_rule
no_record address [] none changes old empty made nothing = sym (append-nil old)
no_record address (r ∷ rules) none changes old empty made nothing =
    absurd (omega (arith, ap length made, length-append none (flat_map spelled_rule (r ∷ rules)), nothing))

pub record_added : (address : ℕ) (rules : List RuleText) (none changes nothing line old front text new : List ℕ) → none ≡ [] → changes ≡ none ++ spelled_rules rules → (length changes == 0) ≡ false → nothing ≡ [] → line ≡ change_front address ++ nothing → front ≡ old ++ line → text ≡ front ++ changes → new ≡ text ++ 10 ∷ [] → new ≡ old ++ canon_text (change address rules)
unfolding spelled_rules
record_added address [] none changes nothing line old front text new empty made some blank written a b c =
    absurd (eqb-false (length changes) 0 some (ap length (made ∙ append-nil none ∙ empty)))
record_added address (r ∷ rules) none changes nothing line old front text new empty made some blank written a b c =
    let body : List ℕ = flat_map spelled_rule (r ∷ rules) in
    c ∙ ap (λ l. l ++ 10 ∷ []) (b ∙ ap (λ l. l ++ changes) (a ∙ ap (λ l. old ++ l) (written ∙ ap (λ l. change_front address ++ l) blank ∙ append-nil (change_front address)))
    ∙ ap (λ l. (old ++ change_front address) ++ l) (made ∙ ap (λ l. l ++ body) empty)
    ∙ append_assoc old (change_front address) body)
    ∙ append_assoc old (change_front address ++ body) (10 ∷ [])
    ∙ ap (λ l. old ++ l) (append_assoc (change_front address) body (10 ∷ []) ∙ change_line address (r ∷ rules) ∙ sym (canon_one (Change address (r ∷ rules))))

-- No column has become unspecified yet.
pub none_lost_yet : (before after : Row) → some_unspecified_below before after 0 ≡ false
unfolding some_unspecified_below
none_lost_yet before after = refl
