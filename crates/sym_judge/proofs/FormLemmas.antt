-- The words of a rule give the value of its form.
use Rattle.std.proofs.Common.{◌≡◌, ℕ, ◌+◌, ◌-◌, ◌%◌, ◌^◌, ◌<◌, Bool, true, false, List, [], ◌∷◌, Option, None, Some, Result, Ok, Err, refl, sym, ap, ◌∙◌, arith, add-zero}
use Rattle.std.proofs.Math.Nat.{add-mod-mod, mod-add-mod, mod-eq_of_lt}
use Rattle.std.specs.Int.{cast_unsigned, w64}
use Rattle.std.specs.Option.{option_map, option_and_then}
use Rattle.sym_edges.specs.Results.{◌>>=◌}
use Rattle.sym_edges.specs.Abi.{Default, KeepsValue, IsCfa, Unspecified, default_of}
use Rattle.sym_rules.specs.declared.rules.Token.{Token}
use Rattle.sym_rules.specs.declared.rules.Token.TheVariants as token
use Rattle.sym_rules.specs.declared.rules.Target.TheVariants as target
use Rattle.cfi_eval.specs.declared.registers.Regs.{Regs}
use Rattle.cfi_eval.specs.declared.memory.MemRun.{MemRun}
use Rattle.cfi_eval.specs.declared.outcome.Cause.{Cause}
use Rattle.cfi_eval.specs.declared.outcome.Outcome.{Outcome}
use Rattle.cfi_eval.specs.declared.outcome.Outcome.TheVariants.{Value, Undefined, Failed}
use Rattle.cfi_eval.specs.Postfix.{register_value, cfa_value, word_value, pushed, on_two, sum_of, difference_of, with_token, one_value, or_failed, postfix_from, rule_value}
use Rattle.cfi_eval.specs.TextValue.{outcome_of, default_value, cfa_by, ra_by, register_by}
use Rattle.sym_judge.specs.declared.terms.Base.{Base}
use Rattle.sym_judge.specs.declared.terms.Base.TheVariants as base
use Rattle.sym_judge.specs.declared.terms.Sum.{Sum}
use Rattle.sym_judge.specs.declared.terms.Term.{Term}
use Rattle.sym_judge.specs.declared.terms.Term.TheVariants.{Plain, Fetched}
use Rattle.sym_judge.specs.Forms.{sum, joined_base, taken_base, with_word, terms_after, one_term, term_of, or_words, form_of, default_form, form_by}
use Rattle.cfi_eval.specs.Known.{AreWords, IsKnown}
use Rattle.sym_judge.specs.FormValues.{moved, sum_value, term_value, form_value}

-- If the CFA that a word names has a value, the value is below 2^64.
abbrev IsWordCfa : Option Outcome → Type 0
IsWordCfa cfa = (v : ℕ) → cfa_value cfa ≡ Ok v → v < 2 ^ 64

-- The values of terms, of which the last is on top of the stack.
abbrev terms_value : Regs → List MemRun → Option Outcome → List Term → Result (List ℕ) Cause
terms_value regs memory cfa [] = Ok []
terms_value regs memory cfa (t ∷ terms) = terms_value regs memory cfa terms >>= pushed (term_value regs memory cfa t)

-- Numbers modulo 2^64.
moved_none : (r : Result ℕ Cause) → ((v : ℕ) → r ≡ Ok v → v < 2 ^ 64) → r ≡ moved 0 r
moved_none (Err why) small = refl
moved_none (Ok v) small = ap Ok (sym (ap (λ n. n % 2 ^ 64) (add-zero v) ∙ mod-eq_of_lt (small v refl)))

on_top : (rest : Result (List ℕ) Cause) (r : Result ℕ Cause) (word : List ℕ → Result (List ℕ) Cause) (next : Result ℕ Cause) → ((stack : List ℕ) → (pushed r stack >>= word) ≡ pushed next stack) → ((rest >>= pushed r) >>= word) ≡ (rest >>= pushed next)
on_top (Err why) r word next step = refl
on_top (Ok stack) r word next step = step stack

on_top_two : (rest : Result (List ℕ) Cause) (a b : Result ℕ Cause) (word : List ℕ → Result (List ℕ) Cause) (next : Result ℕ Cause) → ((stack : List ℕ) → ((pushed a stack >>= pushed b) >>= word) ≡ pushed next stack)
    → (((rest >>= pushed a) >>= pushed b) >>= word) ≡ (rest >>= pushed next)
on_top_two (Err why) a b word next step = refl
on_top_two (Ok stack) a b word next step = step stack

-- A word that is a number.
number_word : (n : ℕ) (rest : Result (List ℕ) Cause) → (rest >>= λ stack. Ok (n ∷ stack)) ≡ (rest >>= pushed (Ok n))
number_word n (Err why) = refl
number_word n (Ok stack) = refl

-- Two values that are added, of which one is a number.
add_number : (n : ℕ) (r : Result ℕ Cause) (m : ℕ) (stack : List ℕ) → ((pushed (moved m r) stack >>= pushed (Ok n)) >>= on_two sum_of) ≡ pushed (moved ((m + n) % 2 ^ 64) r) stack
add_number n (Err why) m stack = refl
add_number n (Ok v) m stack = ap (λ k. Ok (k ∷ stack)) (mod-add-mod (v + m) (2 ^ 64) n ∙ ap (λ k. k % 2 ^ 64) (omega arith) ∙ sym (add-mod-mod v (m + n) (2 ^ 64)))

add_to_number : (n : ℕ) (r : Result ℕ Cause) (m : ℕ) (stack : List ℕ) → ((pushed (Ok n) stack >>= pushed (moved m r)) >>= on_two sum_of) ≡ pushed (moved ((n + m) % 2 ^ 64) r) stack
add_to_number n (Err why) m stack = refl
add_to_number n (Ok v) m stack = ap (λ k. Ok (k ∷ stack)) (add-mod-mod n (v + m) (2 ^ 64) ∙ ap (λ k. k % 2 ^ 64) (omega arith) ∙ sym (add-mod-mod v (n + m) (2 ^ 64)))

take_number : (n : ℕ) (r : Result ℕ Cause) (m : ℕ) (stack : List ℕ) → ((pushed (moved m r) stack >>= pushed (Ok n)) >>= on_two difference_of) ≡ pushed (moved ((m + (2 ^ 64 - n)) % 2 ^ 64) r) stack
take_number n (Err why) m stack = refl
take_number n (Ok v) m stack = add_number (2 ^ 64 - n) (Ok v) m stack

-- If a step has a result, this holds of the result.
abbrev Gives : {A : Type 0} → Option A → (A → Type 0) → Type 0
Gives None P = Unit {0}
Gives (Some a) P = P a

added_bases : (regs : Regs) (cfa : Option Outcome) (p q : Base) (m n : ℕ) (stack : List ℕ)
    → Gives (joined_base p q) (λ c. ((pushed (sum_value regs cfa p m) stack >>= pushed (sum_value regs cfa q n)) >>= on_two sum_of) ≡ pushed (sum_value regs cfa c ((m + n) % 2 ^ 64)) stack)
added_bases regs cfa base.Nothing base.Nothing m n stack = refl
added_bases regs cfa (base.Register r) base.Nothing m n stack = add_number n (register_value regs r) m stack
added_bases regs cfa base.Cfa base.Nothing m n stack = add_number n (cfa_value cfa) m stack
added_bases regs cfa base.Nothing (base.Register r) m n stack = add_to_number m (register_value regs r) n stack
added_bases regs cfa base.Nothing base.Cfa m n stack = add_to_number m (cfa_value cfa) n stack
added_bases regs cfa (base.Register r) (base.Register q) m n stack = tt
added_bases regs cfa (base.Register r) base.Cfa m n stack = tt
added_bases regs cfa base.Cfa (base.Register q) m n stack = tt
added_bases regs cfa base.Cfa base.Cfa m n stack = tt

taken_bases : (regs : Regs) (cfa : Option Outcome) (p q : Base) (m n : ℕ) (stack : List ℕ)
    → Gives (taken_base p q) (λ c. ((pushed (sum_value regs cfa p m) stack >>= pushed (sum_value regs cfa q n)) >>= on_two difference_of) ≡ pushed (sum_value regs cfa c ((m + (2 ^ 64 - n)) % 2 ^ 64)) stack)
taken_bases regs cfa base.Nothing base.Nothing m n stack = refl
taken_bases regs cfa (base.Register r) base.Nothing m n stack = take_number n (register_value regs r) m stack
taken_bases regs cfa base.Cfa base.Nothing m n stack = take_number n (cfa_value cfa) m stack
taken_bases regs cfa p (base.Register r) m n stack = tt
taken_bases regs cfa p base.Cfa m n stack = tt

-- The terms after a word have the values that the word computes from the values before it.
abbrev StepsTo : Regs → List MemRun → Option Outcome → Token → List Term → List Term → Type 0
StepsTo regs memory cfa word terms next = (terms_value regs memory cfa terms >>= with_token regs memory cfa word) ≡ terms_value regs memory cfa next

two_step : (regs : Regs) (memory : List MemRun) (cfa : Option Outcome) (word : Token) (sign : ℕ → ℕ → Result ℕ Cause) (a b : Sum) (terms : List Term) (of : Option Base) (n : ℕ)
    → with_token regs memory cfa word ≡ on_two sign
    → ((stack : List ℕ) → Gives of (λ c. ((pushed (sum_value regs cfa a.base a.offset) stack >>= pushed (sum_value regs cfa b.base b.offset)) >>= on_two sign) ≡ pushed (sum_value regs cfa c n) stack))
    → Gives (option_map (λ s. Plain s ∷ terms) (option_map (λ c. sum c n) of)) (StepsTo regs memory cfa word (Plain b ∷ Plain a ∷ terms))
two_step regs memory cfa word sign a b terms None n is holds = tt
two_step regs memory cfa word sign a b terms (Some c) n is holds =
    ap (λ w. ((terms_value regs memory cfa terms >>= pushed (sum_value regs cfa a.base a.offset)) >>= pushed (sum_value regs cfa b.base b.offset)) >>= w) is
    ∙ on_top_two (terms_value regs memory cfa terms) (sum_value regs cfa a.base a.offset) (sum_value regs cfa b.base b.offset) (on_two sign) (sum_value regs cfa c n) holds

one_step : (regs : Regs) (memory : List MemRun) (cfa : Option Outcome) (a : Sum) (terms : List Term) → StepsTo regs memory cfa token.Fetch (Plain a ∷ terms) (Fetched a ∷ terms)
unfolding with_token
one_step regs memory cfa a terms = on_top (terms_value regs memory cfa terms) (sum_value regs cfa a.base a.offset) (with_token regs memory cfa token.Fetch) (term_value regs memory cfa (Fetched a)) (λ stack. go (sum_value regs cfa a.base a.offset) stack)
  where
    go : (r : Result ℕ Cause) (stack : List ℕ) → (pushed r stack >>= with_token regs memory cfa token.Fetch) ≡ pushed (r >>= word_value memory) stack
    go (Err why) stack = refl
    go (Ok v) stack = refl

alone_step : (rest : Result (List ℕ) Cause) (r : Result ℕ Cause) → ((v : ℕ) → r ≡ Ok v → v < 2 ^ 64) → (rest >>= pushed r) ≡ (rest >>= pushed (moved 0 r))
alone_step rest r small = ap (λ v. rest >>= pushed v) (moved_none r small)

word_step : (regs : Regs) (memory : List MemRun) (cfa : Option Outcome) (inside : Bool) → AreWords regs → IsWordCfa cfa → (word : Token) (terms : List Term) → Gives (with_word inside word terms) (StepsTo regs memory cfa word terms)
unfolding with_word with_token
word_step regs memory cfa inside words small (token.Number n) terms = number_word (cast_unsigned w64 n) (terms_value regs memory cfa terms)
word_step regs memory cfa inside words small (token.Reg r) terms = alone_step (terms_value regs memory cfa terms) (register_value regs r) (words r)
word_step regs memory cfa true words small token.Cfa terms = tt
word_step regs memory cfa false words small token.Cfa terms = alone_step (terms_value regs memory cfa terms) (cfa_value cfa) small
word_step regs memory cfa inside words small token.Add [] = tt
word_step regs memory cfa inside words small token.Add (Plain b ∷ []) = tt
word_step regs memory cfa inside words small token.Add (Plain b ∷ Fetched a ∷ terms) = tt
word_step regs memory cfa inside words small token.Add (Fetched b ∷ terms) = tt
word_step regs memory cfa inside words small token.Add (Plain b ∷ Plain a ∷ terms) = two_step regs memory cfa token.Add sum_of a b terms (joined_base a.base b.base) ((a.offset + b.offset) % 2 ^ 64) refl (added_bases regs cfa a.base b.base a.offset b.offset)
word_step regs memory cfa inside words small token.Sub [] = tt
word_step regs memory cfa inside words small token.Sub (Plain b ∷ []) = tt
word_step regs memory cfa inside words small token.Sub (Plain b ∷ Fetched a ∷ terms) = tt
word_step regs memory cfa inside words small token.Sub (Fetched b ∷ terms) = tt
word_step regs memory cfa inside words small token.Sub (Plain b ∷ Plain a ∷ terms) = two_step regs memory cfa token.Sub difference_of a b terms (taken_base a.base b.base) ((a.offset + (2 ^ 64 - b.offset)) % 2 ^ 64) refl (taken_bases regs cfa a.base b.base a.offset b.offset)
word_step regs memory cfa inside words small token.Fetch [] = tt
word_step regs memory cfa inside words small token.Fetch (Fetched a ∷ terms) = tt
word_step regs memory cfa inside words small token.Fetch (Plain a ∷ terms) = one_step regs memory cfa a terms
word_step regs memory cfa inside words small token.Undef terms = tt
word_step regs memory cfa inside words small (token.Other name) terms = tt
word_step regs memory cfa inside words small token.Mul terms = tt
word_step regs memory cfa inside words small token.Div terms = tt
word_step regs memory cfa inside words small token.Rem terms = tt
word_step regs memory cfa inside words small token.Align terms = tt

-- Several words.
abbrev RunsTo : Regs → List MemRun → Option Outcome → List Token → List Term → List Term → Type 0
RunsTo regs memory cfa words terms last = or_failed (terms_value regs memory cfa terms) (postfix_from regs memory cfa words) ≡ or_failed (terms_value regs memory cfa last) one_value

one_by_one : (r : Result (List ℕ) Cause) (word : List ℕ → Result (List ℕ) Cause) (go : List ℕ → Outcome) → or_failed r (λ stack. or_failed (word stack) go) ≡ or_failed (r >>= word) go
one_by_one (Err why) word go = refl
one_by_one (Ok stack) word go = refl

run_later : (regs : Regs) (memory : List MemRun) (cfa : Option Outcome) (word : Token) (words : List Token) (terms next : List Term) → StepsTo regs memory cfa word terms next → (last : Option (List Term)) → Gives last (RunsTo regs memory cfa words next)
    → Gives last (RunsTo regs memory cfa (word ∷ words) terms)
unfolding postfix_from
run_later regs memory cfa word words terms next step None runs = tt
run_later regs memory cfa word words terms next step (Some last) runs =
    one_by_one (terms_value regs memory cfa terms) (with_token regs memory cfa word) (postfix_from regs memory cfa words) ∙ ap (λ r. or_failed r (postfix_from regs memory cfa words)) step ∙ runs

run_step : (regs : Regs) (memory : List MemRun) (cfa : Option Outcome) (inside : Bool) (word : Token) (words : List Token) (terms : List Term) → ((next : List Term) → Gives (terms_after inside words next) (RunsTo regs memory cfa words next))
    → (o : Option (List Term)) → Gives o (StepsTo regs memory cfa word terms) → Gives (option_and_then (terms_after inside words) o) (RunsTo regs memory cfa (word ∷ words) terms)
run_step regs memory cfa inside word words terms later None step = tt
run_step regs memory cfa inside word words terms later (Some next) step = run_later regs memory cfa word words terms next step (terms_after inside words next) (later next)

words_run : (regs : Regs) (memory : List MemRun) (cfa : Option Outcome) (inside : Bool) → AreWords regs → IsWordCfa cfa → (words : List Token) (terms : List Term) → Gives (terms_after inside words terms) (RunsTo regs memory cfa words terms)
unfolding terms_after postfix_from
words_run regs memory cfa inside bounded small [] terms = refl
words_run regs memory cfa inside bounded small (word ∷ words) terms =
    run_step regs memory cfa inside word words terms (words_run regs memory cfa inside bounded small words) (with_word inside word terms) (word_step regs memory cfa inside bounded small word terms)

-- The only term that is left.
one_left : (regs : Regs) (memory : List MemRun) (cfa : Option Outcome) (words : List Token) (o : Option (List Term)) → Gives o (RunsTo regs memory cfa words []) → Gives (one_term o) (λ t. postfix_from regs memory cfa words [] ≡ outcome_of (term_value regs memory cfa t))
one_left regs memory cfa words None runs = tt
one_left regs memory cfa words (Some []) runs = tt
one_left regs memory cfa words (Some (t ∷ u ∷ terms)) runs = tt
one_left regs memory cfa words (Some (t ∷ [])) runs = runs ∙ alone (term_value regs memory cfa t)
  where
    alone : (r : Result ℕ Cause) → or_failed (pushed r []) one_value ≡ outcome_of r
    alone (Err why) = refl
    alone (Ok v) = refl

term_left : (regs : Regs) (memory : List MemRun) (cfa : Option Outcome) (inside : Bool) → AreWords regs → IsWordCfa cfa → (words : List Token) → Gives (term_of inside words) (λ t. postfix_from regs memory cfa words [] ≡ outcome_of (term_value regs memory cfa t))
unfolding term_of
term_left regs memory cfa inside bounded small words = one_left regs memory cfa words (terms_after inside words []) (words_run regs memory cfa inside bounded small words [])

said : (regs : Regs) (memory : List MemRun) (cfa : Option Outcome) (words : List Token) (o : Option Term) → Gives o (λ t. postfix_from regs memory cfa words [] ≡ outcome_of (term_value regs memory cfa t)) → rule_value regs memory cfa words ≡ postfix_from regs memory cfa words []
    → rule_value regs memory cfa words ≡ form_value regs memory cfa (or_words words o)
said regs memory cfa words None left is = refl
said regs memory cfa words (Some t) left is = is ∙ left

-- The words of a rule give what its form gives.
words_value : (regs : Regs) (memory : List MemRun) (cfa : Option Outcome) (inside : Bool) → AreWords regs → IsWordCfa cfa → (words : List Token) → rule_value regs memory cfa words ≡ form_value regs memory cfa (form_of inside words)
unfolding form_of rule_value
words_value regs memory cfa inside bounded small (token.Undef ∷ []) = refl
words_value regs memory cfa inside bounded small words = said regs memory cfa words (term_of inside words) (term_left regs memory cfa inside bounded small words) refl

-- A rule, or a missing one.
known_word : (cfa : Outcome) → IsKnown cfa → IsWordCfa (Some cfa)
known_word (Value w) known v is = let same : w ≡ v = cc in omega arith
known_word Undefined known v is = absurd known
known_word (Failed why) known v is = absurd (cc)

pub cfa_gives : (regs : Regs) (memory : List MemRun) (rule : Option (List Token)) → AreWords regs → cfa_by regs memory rule ≡ form_value regs memory None (form_by target.Cfa rule)
cfa_gives regs memory None bounded = refl
cfa_gives regs memory (Some words) bounded = words_value regs memory None true bounded (λ v is. absurd (cc)) words

pub ra_gives : (regs : Regs) (memory : List MemRun) (cfa : Outcome) (rule : Option (List Token)) → AreWords regs → IsKnown cfa → ra_by regs memory cfa rule ≡ form_value regs memory (Some cfa) (form_by target.Ra rule)
ra_gives regs memory cfa None bounded known = refl
ra_gives regs memory cfa (Some words) bounded known = words_value regs memory (Some cfa) false bounded (known_word cfa known) words

default_gives : (regs : Regs) (memory : List MemRun) (cfa : Outcome) (register : ℕ) → AreWords regs → IsKnown cfa → (d : Default) → default_value regs cfa d register ≡ form_value regs memory (Some cfa) (default_form d register)
default_gives regs memory cfa register bounded known KeepsValue = ap outcome_of (moved_none (register_value regs register) (bounded register))
default_gives regs memory (Value v) register bounded known IsCfa = ap outcome_of (moved_none (Ok v) (known_word (Value v) known))
default_gives regs memory Undefined register bounded known IsCfa = absurd known
default_gives regs memory (Failed why) register bounded known IsCfa = refl
default_gives regs memory cfa register bounded known Unspecified = refl

pub register_gives : (regs : Regs) (memory : List MemRun) (cfa : Outcome) (register : ℕ) (rule : Option (List Token)) → AreWords regs → IsKnown cfa → register_by regs memory cfa register rule ≡ form_value regs memory (Some cfa) (form_by (target.Reg register) rule)
register_gives regs memory cfa register None bounded known = default_gives regs memory cfa register bounded known (default_of register)
register_gives regs memory cfa register (Some words) bounded known = words_value regs memory (Some cfa) false bounded (known_word cfa known) words

-- Rules of one form give one outcome.
pub same_cfa : (regs : Regs) (memory : List MemRun) (a b : Option (List Token)) → AreWords regs → form_by target.Cfa a ≡ form_by target.Cfa b → cfa_by regs memory a ≡ cfa_by regs memory b
same_cfa regs memory a b bounded same = cfa_gives regs memory a bounded ∙ ap (form_value regs memory None) same ∙ sym (cfa_gives regs memory b bounded)

pub same_ra : (regs : Regs) (memory : List MemRun) (cfa : Outcome) (a b : Option (List Token)) → AreWords regs → IsKnown cfa → form_by target.Ra a ≡ form_by target.Ra b → ra_by regs memory cfa a ≡ ra_by regs memory cfa b
same_ra regs memory cfa a b bounded known same = ra_gives regs memory cfa a bounded known ∙ ap (form_value regs memory (Some cfa)) same ∙ sym (ra_gives regs memory cfa b bounded known)

pub same_register : (regs : Regs) (memory : List MemRun) (cfa : Outcome) (register : ℕ) (a b : Option (List Token)) → AreWords regs → IsKnown cfa → form_by (target.Reg register) a ≡ form_by (target.Reg register) b → register_by regs memory cfa register a ≡ register_by regs memory cfa register b
same_register regs memory cfa register a b bounded known same =
    register_gives regs memory cfa register a bounded known ∙ ap (form_value regs memory (Some cfa)) same ∙ sym (register_gives regs memory cfa register b bounded known)
