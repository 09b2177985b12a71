-- The words of the rules of a row have the values of the rules; for the lemmas of MeaningLemmas.
use Rattle.std.proofs.Common.{◌≡◌, ℕ, ◌+◌, ◌%◌, ◌^◌, ◌==◌, ◌&&◌, not, nat_lt, ℤ, Bool, true, false, cond, List, [], ◌∷◌, Option, Some, None, is_some, Result, Ok, Err, refl, ap, sym, ◌∙◌, arith}
use Rattle.std.specs.Option.{option_or}
use Rattle.std.specs.Int.{w64, cast_unsigned}
use Rattle.std.specs.List.{slice_index_or}
use Rattle.std.proofs.lemmas.Bool.{eqb-true}
use Rattle.std.proofs.lemmas.Bool.Decides.{nat_tests}
use Rattle.sym_edges.specs.Abi.{Default, KeepsValue, IsCfa, Unspecified, default_of, is_kept}
use Rattle.frame_entries.specs.FdeFields.{FdeFields}
use Rattle.frame_rows.specs.declared.row.Row.{Row}
use Rattle.frame_rows.specs.declared.row.Rule.{Rule}
use Rattle.frame_rows.specs.declared.row.Rule.TheVariants as rule
use Rattle.frame_rows.specs.declared.row.CfaRule.{CfaRule}
use Rattle.frame_rows.specs.declared.row.CfaRule.TheVariants as cfa
use Rattle.expr_postfix.specs.ExprTokens.{expr_tokens, with_fetch, rule_tokens}
use Rattle.expr_postfix.specs.ExprValue.{expr_value}
use Rattle.expr_postfix.proofs.WholeLemmas.{value_with_cfa, value_free, value_in_memory}
use Rattle.frame_rows.specs.Steps.{has_cfa}
use Rattle.frame_rows.specs.Rows.{expr_bytes, is_sound_rule, is_sound_cfa, IsSound}
use Rattle.sym_rules.specs.declared.rules.Target.TheVariants.{Cfa, Ra, Reg}
use Rattle.sym_rules.specs.declared.rules.Token.{Token}
use Rattle.sym_rules.specs.declared.rules.Token.TheVariants as token
use Rattle.sym_rules.specs.declared.rules.RuleText.{RuleText}
use Rattle.cfi_eval.specs.declared.registers.Regs.{Regs}
use Rattle.cfi_eval.specs.declared.memory.MemRun.{MemRun}
use Rattle.cfi_eval.specs.declared.outcome.Cause.{Cause}
use Rattle.cfi_eval.specs.declared.outcome.Outcome.{Outcome}
use Rattle.cfi_eval.specs.declared.outcome.Outcome.TheVariants.{Value, Undefined, Failed}
use Rattle.cfi_eval.specs.Bytes.{word_at}
use Rattle.cfi_eval.specs.Postfix.{known_or_missing, register_value, word_or_unreadable, word_value, with_token, postfix_from, rule_value}
use Rattle.cfi_eval.specs.TextRules.{rule_for}
use Rattle.cfi_eval.specs.TextValue.{outcome_of, cfa_by, text_cfa, ra_by, text_ra, default_value, register_by, text_register}
use Rattle.rule_postfix.specs.RowParts.{by_group, column_part, cfa_part, rule_at, part_of, is_unspecified, leaves_unspecified}
use Rattle.rule_postfix.specs.RowRules.{default_tokens, spelled}
use Rattle.rule_postfix.specs.RowValue.{known_value, value_now, known_word, at_cfa, cfa_value, value_at_rest, value_or_word, column_value, value_in_row}
use Rattle.rule_postfix.specs.FrameMeaning.{is_undefined, is_lost}
use Rattle.rule_postfix.proofs.ShownLemmas.{Shows}
use Rattle.rule_postfix.proofs.ExprLemmas.{IsTold, words_there, rule_there, expr_told}

-- A register, in both definitions.
now_by : (register : ℕ) (o : Option ℕ) → outcome_of (known_or_missing register o) ≡ known_value register o
now_by register None = refl
now_by register (Some v) = refl

now_is : (regs : Regs) (register : ℕ) → outcome_of (register_value regs register) ≡ value_now regs register
unfolding register_value value_now
now_is regs register = now_by register (slice_index_or regs.values register None)

word_by : (a : ℕ) (o : Option ℕ) → outcome_of (word_or_unreadable a o) ≡ known_word a o
word_by a None = refl
word_by a (Some w) = refl

word_is : (memory : List MemRun) (a : ℕ) → outcome_of (word_value memory a) ≡ known_word a (word_at memory a)
unfolding word_value
word_is memory a = word_by a (word_at memory a)

-- One register.
register_by_result : (regs : Regs) (memory : List MemRun) (cfa : Option Outcome) (r : ℕ) (v : Result ℕ Cause) → register_value regs r ≡ v → rule_value regs memory cfa (token.Reg r ∷ []) ≡ outcome_of v
unfolding rule_value postfix_from with_token
register_by_result regs memory cfa r (Ok v) is = rw is refl
register_by_result regs memory cfa r (Err why) is = rw is refl

one_register : (regs : Regs) (memory : List MemRun) (cfa : Option Outcome) (r : ℕ) → rule_value regs memory cfa (token.Reg r ∷ []) ≡ value_now regs r
one_register regs memory cfa r = register_by_result regs memory cfa r (register_value regs r) refl ∙ now_is regs r

-- The CFA itself, if it has a value or has failed.
one_cfa : (regs : Regs) (memory : List MemRun) (cfa : Outcome) → IsTold cfa → rule_value regs memory (Some cfa) (token.Cfa ∷ []) ≡ cfa
unfolding rule_value postfix_from with_token
one_cfa regs memory (Value v) told = refl
one_cfa regs memory Undefined told = absurd told
one_cfa regs memory (Failed why) told = refl

-- The CFA plus an offset.
plus_cfa : (regs : Regs) (memory : List MemRun) (cfa : Outcome) (n : ℤ) → rule_value regs memory (Some cfa) (token.Cfa ∷ token.Number n ∷ token.Add ∷ []) ≡ at_cfa cfa n Value
unfolding rule_value postfix_from with_token
plus_cfa regs memory (Value v) n = refl
plus_cfa regs memory Undefined n = refl
plus_cfa regs memory (Failed why) n = refl

-- The word at the CFA plus an offset.
fetched : (regs : Regs) (memory : List MemRun) (v : ℕ) (n : ℤ) (w : Result ℕ Cause) → word_value memory ((v + cast_unsigned w64 n) % 2 ^ 64) ≡ w → rule_value regs memory (Some (Value v)) (token.Cfa ∷ token.Number n ∷ token.Add ∷ token.Fetch ∷ []) ≡ outcome_of w
unfolding rule_value postfix_from with_token
fetched regs memory v n (Ok w) is = rw is refl
fetched regs memory v n (Err why) is = rw is refl

word_cfa : (regs : Regs) (memory : List MemRun) (cfa : Outcome) (n : ℤ) → rule_value regs memory (Some cfa) (token.Cfa ∷ token.Number n ∷ token.Add ∷ token.Fetch ∷ []) ≡ at_cfa cfa n (λ a. known_word a (word_at memory a))
unfolding rule_value postfix_from with_token
word_cfa regs memory (Value v) n =
    let a : ℕ = (v + cast_unsigned w64 n) % 2 ^ 64 in
    fetched regs memory v n (word_value memory a) refl ∙ word_is memory a
word_cfa regs memory Undefined n = refl
word_cfa regs memory (Failed why) n = refl

-- The rule of the CFA: the value of a register plus an offset.
base_by : (regs : Regs) (memory : List MemRun) (r : ℕ) (n : ℤ) (v : Result ℕ Cause) → register_value regs r ≡ v → rule_value regs memory None (token.Reg r ∷ token.Number n ∷ token.Add ∷ []) ≡ at_cfa (outcome_of v) n Value
unfolding rule_value postfix_from with_token
base_by regs memory r n (Ok v) is = rw is refl
base_by regs memory r n (Err why) is = rw is refl

base_is : (regs : Regs) (memory : List MemRun) (register : ℕ) (offset : ℤ) → rule_value regs memory None (token.Reg register ∷ token.Number offset ∷ token.Add ∷ []) ≡ at_cfa (value_now regs register) offset Value
base_is regs memory register offset =
    base_by regs memory register offset (register_value regs register) refl ∙ ap (λ v. at_cfa v offset Value) (now_is regs register)

told_by : (o : Option ℕ) (r : ℕ) (n : ℤ) → IsTold (at_cfa (known_value r o) n Value)
told_by None r n = tt
told_by (Some v) r n = tt

cfa_told : (fde : FdeFields) (regs : Regs) (memory : List MemRun) (c : Option CfaRule) → is_some c ≡ true → IsTold (cfa_value fde regs memory c)
unfolding value_now
cfa_told fde regs memory None some = cc
cfa_told fde regs memory (Some (cfa.Base register offset)) some = told_by (slice_index_or regs.values register None) register offset
cfa_told fde regs memory (Some (cfa.Expr place)) some = expr_told regs memory Undefined false (expr_bytes fde place)

-- An expression that rule text can express has the value of its words, or that of the word at its
-- address.
expr_words : (regs : Regs) (memory : List MemRun) (cfa : Outcome) (fetch : Bool) (bytes : List ℕ) (words : List Token) → rule_tokens true fetch bytes ≡ Some words → rule_value regs memory (Some cfa) words ≡ value_or_word fetch memory (expr_value regs memory cfa true bytes)
unfolding rule_tokens
expr_words regs memory cfa true bytes words are = value_in_memory true bytes words regs memory cfa are
expr_words regs memory cfa false bytes words are = value_with_cfa true bytes words regs memory cfa (unfetched (expr_tokens true bytes) words are)
  where
    unfetched : (o : Option (List Token)) (ws : List Token) → with_fetch false o ≡ Some ws → o ≡ Some ws
    unfetched None ws is = cc
    unfetched (Some given) ws is = is

by_words : (regs : Regs) (memory : List MemRun) (cfa v : Outcome) (k : ℕ) (o : Option (List Token)) → is_some o ≡ true → ((words : List Token) → o ≡ Some words → rule_value regs memory (Some cfa) words ≡ v) → register_by regs memory cfa k o ≡ v
by_words regs memory cfa v k None some gives = cc
by_words regs memory cfa v k (Some words) some gives = gives words refl

ra_by_words : (regs : Regs) (memory : List MemRun) (cfa v : Outcome) (o : Option (List Token)) → is_some o ≡ true → ((words : List Token) → o ≡ Some words → rule_value regs memory (Some cfa) words ≡ v) → ra_by regs memory cfa o ≡ v
ra_by_words regs memory cfa v None some gives = cc
ra_by_words regs memory cfa v (Some words) some gives = gives words refl

cfa_by_words : (regs : Regs) (memory : List MemRun) (v : Outcome) (o : Option (List Token)) → is_some o ≡ true → ((words : List Token) → o ≡ Some words → rule_value regs memory None words ≡ v) → cfa_by regs memory o ≡ v
cfa_by_words regs memory v None some gives = cc
cfa_by_words regs memory v (Some words) some gives = gives words refl

-- A register without a rule has the value of the words that say so.
by_default : (regs : Regs) (memory : List MemRun) (cfa : Outcome) (k : ℕ) (d : Default) → IsTold cfa → default_of k ≡ d → default_value regs cfa d k ≡ register_by regs memory cfa k (default_tokens d k)
by_default regs memory cfa k KeepsValue told is = now_is regs k ∙ sym (one_register regs memory (Some cfa) k)
by_default regs memory cfa k IsCfa told is = sym (one_cfa regs memory cfa told)
by_default regs memory cfa k Unspecified told is = sym (ap (λ d. default_value regs cfa d k) is)

or_default : (regs : Regs) (memory : List MemRun) (cfa : Outcome) (k : ℕ) (o : Option (List Token)) → IsTold cfa → register_by regs memory cfa k o ≡ register_by regs memory cfa k (option_or o (default_tokens (default_of k) k))
or_default regs memory cfa k None told = by_default regs memory cfa k (default_of k) told refl
or_default regs memory cfa k (Some words) told = refl

rest_by : (regs : Regs) (cfa : Outcome) (k : ℕ) (d : Default) → default_value regs cfa d k ≡ value_at_rest regs cfa d k
rest_by regs cfa k KeepsValue = now_is regs k
rest_by regs cfa k IsCfa = refl
rest_by regs cfa k Unspecified = refl

at_rest : (regs : Regs) (memory : List MemRun) (cfa : Outcome) (k : ℕ) → IsTold cfa → register_by regs memory cfa k (default_tokens (default_of k) k) ≡ value_at_rest regs cfa (default_of k) k
at_rest regs memory cfa k told = sym (by_default regs memory cfa k (default_of k) told refl) ∙ rest_by regs cfa k (default_of k)

undefined_by : (regs : Regs) (memory : List MemRun) (cfa : Outcome) (k : ℕ) (d : Default) → default_of k ≡ d → not (leaves_unspecified d) ≡ false → register_by regs memory cfa k (default_tokens d k) ≡ Undefined
undefined_by regs memory cfa k KeepsValue is shown = cc
undefined_by regs memory cfa k IsCfa is shown = cc
undefined_by regs memory cfa k Unspecified is shown = ap (λ d. default_value regs cfa d k) is

kept_by : (fde : FdeFields) (regs : Regs) (memory : List MemRun) (cfa : Outcome) (k : ℕ) (kept : Bool) → is_kept k ≡ kept → register_by regs memory cfa k (spelled fde (Reg k) (by_group kept rule.Same)) ≡ value_now regs k
unfolding spelled default_of
kept_by fde regs memory cfa k true is = ap (λ t. register_by regs memory cfa k (default_tokens (cond t KeepsValue (cond (k == 7) IsCfa Unspecified)) k)) is ∙ one_register regs memory (Some cfa) k
kept_by fde regs memory cfa k false is = one_register regs memory (Some cfa) k

other_by : (fde : FdeFields) (regs : Regs) (memory : List MemRun) (cfa : Outcome) (k s : ℕ) (own : Bool) → (s == k) ≡ own → register_by regs memory cfa k (spelled fde (Reg k) (by_group (is_kept k) (cond own rule.Same (rule.Register s)))) ≡ value_now regs s
unfolding spelled
other_by fde regs memory cfa k s true is = kept_by fde regs memory cfa k (is_kept k) refl ∙ ap (value_now regs) (sym (eqb-true s k is))
other_by fde regs memory cfa k s false is = one_register regs memory (Some cfa) s

-- A register, given its rule.
register_is : (fde : FdeFields) (regs : Regs) (memory : List MemRun) (cfa : Outcome) (k : ℕ) (r : Rule) → is_sound_rule fde k r ≡ true → IsTold cfa → (is_undefined r && not (is_unspecified k)) ≡ false → register_by regs memory cfa k (spelled fde (Reg k) (column_part k r)) ≡ column_value fde regs memory cfa k r
unfolding spelled column_part is_unspecified
register_is fde regs memory cfa k rule.Rest sound told shown = at_rest regs memory cfa k told
register_is fde regs memory cfa k rule.Undefined sound told shown = undefined_by regs memory cfa k (default_of k) refl shown
register_is fde regs memory cfa k rule.Same sound told shown = kept_by fde regs memory cfa k (is_kept k) refl
register_is fde regs memory cfa k (rule.Offset n) sound told shown = word_cfa regs memory cfa n
register_is fde regs memory cfa k (rule.ValOffset n) sound told shown = plus_cfa regs memory cfa n
register_is fde regs memory cfa k (rule.Expr fetch place) sound told shown =
    by_words regs memory cfa _ k (rule_tokens true fetch (expr_bytes fde place)) (rule_there true fetch (expr_bytes fde place) sound) (expr_words regs memory cfa fetch (expr_bytes fde place))
register_is fde regs memory cfa k (rule.Register s) sound told shown = other_by fde regs memory cfa k s (s == k) refl

-- The return address, given its rule.
ra_other : (fde : FdeFields) (regs : Regs) (memory : List MemRun) (cfa : Outcome) (s : ℕ) (own : Bool) → (s == 16) ≡ own → nat_lt s 16 ≡ true → ra_by regs memory cfa (spelled fde Ra (by_group (is_kept 16) (cond own rule.Same (rule.Register s)))) ≡ value_now regs s
unfolding spelled
ra_other fde regs memory cfa s true is below = let same : s ≡ 16 = eqb-true s 16 is in absurd (grind (arith, nat_tests))
ra_other fde regs memory cfa s false is below = one_register regs memory (Some cfa) s

ra_is : (fde : FdeFields) (regs : Regs) (memory : List MemRun) (cfa : Outcome) (r : Rule) → is_sound_rule fde 16 r ≡ true → ra_by regs memory cfa (spelled fde Ra (column_part 16 r)) ≡ column_value fde regs memory cfa 16 r
unfolding spelled column_part default_of is_kept
ra_is fde regs memory cfa rule.Rest sound = refl
ra_is fde regs memory cfa rule.Undefined sound = refl
ra_is fde regs memory cfa rule.Same sound = cc
ra_is fde regs memory cfa (rule.Offset n) sound = word_cfa regs memory cfa n
ra_is fde regs memory cfa (rule.ValOffset n) sound = plus_cfa regs memory cfa n
ra_is fde regs memory cfa (rule.Expr fetch place) sound =
    ra_by_words regs memory cfa _ (rule_tokens true fetch (expr_bytes fde place)) (rule_there true fetch (expr_bytes fde place) sound) (expr_words regs memory cfa fetch (expr_bytes fde place))
ra_is fde regs memory cfa (rule.Register s) sound = ra_other fde regs memory cfa s (s == 16) refl sound

or_none : {A : Type 0} (o : Option A) → option_or o None ≡ o
or_none None = refl
or_none (Some x) = refl

-- Rules that show a row have its values.
cfa_by_part : (fde : FdeFields) (regs : Regs) (memory : List MemRun) (c : Option CfaRule) → is_sound_cfa fde c ≡ true → cfa_by regs memory (spelled fde Cfa (cfa_part c)) ≡ cfa_value fde regs memory c
unfolding spelled
cfa_by_part fde regs memory None sound = refl
cfa_by_part fde regs memory (Some (cfa.Base register offset)) sound = base_is regs memory register offset
cfa_by_part fde regs memory (Some (cfa.Expr place)) sound =
    cfa_by_words regs memory _ (expr_tokens false (expr_bytes fde place)) (words_there false (expr_bytes fde place) sound) (λ words are. value_free (expr_bytes fde place) words regs memory None Undefined are)

pub cfa_shown : (fde : FdeFields) (regs : Regs) (memory : List MemRun) (rules : List RuleText) (row : Row) → IsSound fde row → Shows fde rules row Cfa → text_cfa regs memory rules ≡ cfa_value fde regs memory row.cfa
unfolding text_cfa part_of
cfa_shown fde regs memory rules row sound shows = ap (cfa_by regs memory) (sym (or_none (rule_for Cfa rules)) ∙ shows) ∙ cfa_by_part fde regs memory row.cfa sound.cfa

pub ra_shown : (fde : FdeFields) (regs : Regs) (memory : List MemRun) (rules : List RuleText) (row : Row) → IsSound fde row → Shows fde rules row Cfa → Shows fde rules row Ra → text_ra regs memory rules ≡ value_in_row fde regs memory row 16
unfolding text_ra part_of value_in_row
ra_shown fde regs memory rules row sound first shows =
    ap (λ cfa. ra_by regs memory cfa (rule_for Ra rules)) (cfa_shown fde regs memory rules row sound first)
    ∙ ap (ra_by regs memory (cfa_value fde regs memory row.cfa)) (sym (or_none (rule_for Ra rules)) ∙ shows)
    ∙ ra_is fde regs memory (cfa_value fde regs memory row.cfa) (rule_at row 16) (sound.columns 16)

pub register_shown : (fde : FdeFields) (regs : Regs) (memory : List MemRun) (rules : List RuleText) (row : Row) (k : ℕ) → IsSound fde row → has_cfa row ≡ true → is_lost row k ≡ false → Shows fde rules row Cfa → Shows fde rules row (Reg k) → text_register regs memory rules k ≡ value_in_row fde regs memory row k
unfolding text_register part_of value_in_row is_lost
register_shown fde regs memory rules row k sound has shown first shows =
    let cfa : Outcome = cfa_value fde regs memory row.cfa in
    let told : IsTold cfa = cfa_told fde regs memory row.cfa has in
    ap (λ c. register_by regs memory c k (rule_for (Reg k) rules)) (cfa_shown fde regs memory rules row sound first)
    ∙ or_default regs memory cfa k (rule_for (Reg k) rules) told
    ∙ ap (register_by regs memory cfa k) shows
    ∙ register_is fde regs memory cfa k (rule_at row k) (sound.columns k) told shown
