-- The INIT whose rules apply at an address.
use Rattle.std.proofs.Common.{◌≡◌, ◌+◌, ◌<◌, ◌≤◌, ℕ, zero, suc, ltb, cond, Bool, true, false, not, inl, inr, List, [], ◌∷◌, ◌++◌, length, get_or, drop, None, Some, Result, Ok, Err, refl, sym, ap, ◌∙◌, arith}
use Rattle.std.proofs.lemmas.Bool.{cases_lt, lt-ltb}
use Rattle.std.proofs.lemmas.List.Quantifiers.{position-Some}
use Rattle.std.specs.List.{position_or_len}
use Rattle.std.specs.Option.{option_map}
use Rattle.std.specs.Result.{IfOk}
use Rattle.sym_edges.specs.declared.fault.OutOfMemory.{OutOfMemory}
use Rattle.sym_records.specs.declared.line.SymLine.{SymLine}
use Rattle.sym_records.specs.declared.line.SymLine.TheVariants.{Init, Change}
use Rattle.sym_rules.specs.declared.rules.RuleText.{RuleText}
use Rattle.cfi_eval.specs.declared.registers.Regs.{Regs}
use Rattle.cfi_eval.specs.declared.memory.MemRun.{MemRun}
use Rattle.cfi_eval.specs.declared.outcome.Frame.{Frame}
use Rattle.cfi_eval.specs.TextValue.{frame_of, text_frame}
use Rattle.cfi_eval.specs.TextRules.{covers, text_rules, changes_until}
use Rattle.cfi_eval.specs.Inits.{is_init_at, init_place}

-- A record that is not an INIT that covers the address is skipped.
pub passed_over : (x : ℕ) (line : SymLine) (lines : List SymLine) → is_init_at x line ≡ false → text_rules (line ∷ lines) x ≡ text_rules lines x
unfolding text_rules
passed_over x (Init address size rules) lines h = rw h refl
passed_over x _ lines h = refl

-- An INIT that covers the address.
pub counted : (x : ℕ) (line : SymLine) (lines : List SymLine) (address size : ℕ) (rules : List RuleText) → line ≡ Init address size rules → is_init_at x line ≡ true
    → text_rules (line ∷ lines) x ≡ Some (rules ++ changes_until x lines)
unfolding text_rules
counted x line lines address size rules e h =
    let test : covers x address size ≡ true = ap (is_init_at x) (sym e) ∙ h in
    rw (e, test) refl

rules_at : (x : ℕ) (lines : List SymLine) (i : ℕ) (d : SymLine) (address size : ℕ) (rules : List RuleText) → i < length lines → is_init_at x (get_or lines i d) ≡ true
    → ((k : ℕ) → k < i → is_init_at x (get_or lines k d) ≡ false) → get_or lines i d ≡ Init address size rules → text_rules lines x ≡ Some (rules ++ changes_until x (drop (suc i) lines))
rules_at x [] i d address size rules l h before e = absurd (omega arith)
rules_at x (line ∷ lines) zero d address size rules l h before e = counted x line lines address size rules e h
rules_at x (line ∷ lines) (suc i) d address size rules l h before e =
    passed_over x line lines (before 0 (omega arith)) ∙ rules_at x lines i d address size rules (omega arith) h (λ k lt. before (suc k) (omega arith)) e

-- The rules are those of the first INIT that covers the address.
pub init_rules : (lines : List SymLine) (x i : ℕ) (line : SymLine) (address size : ℕ) (rules : List RuleText) → init_place lines x ≡ Some i → line ≡ get_or lines i line → line ≡ Init address size rules
    → text_rules lines x ≡ Some (rules ++ changes_until x (drop (i + 1) lines))
unfolding init_place
init_rules lines x i line address size rules h e c =
    let facts = position-Some (is_init_at x) lines i line h in
    let one : suc i ≡ i + 1 = omega arith in
    rules_at x lines i line address size rules facts.0 facts.1 facts.2 (sym e ∙ c) ∙ ap (λ n. Some (rules ++ changes_until x (drop n lines))) one

pub init_within : (file lines : List SymLine) (x i : ℕ) → lines ≡ file → init_place file x ≡ Some i → i < length lines
unfolding init_place
init_within file lines x i same h =
    let d : SymLine = Change 0 [] in
    let within : i < length file = (position-Some (is_init_at x) file i d h).0 in
    let long : length lines ≡ length file = ap length same in
    omega arith

-- The record is not an INIT.
abbrev pub IsNoInit : SymLine → Type 0
IsNoInit line = (address size : ℕ) (rules : List RuleText) → line ≡ Init address size rules → ⊥

no_init : (x : ℕ) (line : SymLine) → IsNoInit line → is_init_at x line ≡ true → ⊥
no_init x (Init address size rules) h e = h address size rules refl
no_init x _ h e = cc

pub init_is_init : (lines : List SymLine) (x i : ℕ) (line : SymLine) → init_place lines x ≡ Some i → line ≡ get_or lines i line → IsNoInit line → ⊥
unfolding init_place
init_is_init lines x i line h e none = no_init x line none (ap (is_init_at x) e ∙ (position-Some (is_init_at x) lines i line h).1)

-- Without an INIT that covers the address there are no rules.
none_first : (x : ℕ) (line : SymLine) (lines : List SymLine) (b : Bool) → is_init_at x line ≡ b → length (line ∷ lines) ≤ cond (not b) (1 + position_or_len (is_init_at x) lines) 0
    → (length lines ≤ position_or_len (is_init_at x) lines → text_rules lines x ≡ None) → text_rules (line ∷ lines) x ≡ None
none_first x line lines true e h later = absurd (omega arith)
none_first x line lines false e h later = passed_over x line lines e ∙ later (omega arith)

none_at : (x : ℕ) (lines : List SymLine) → length lines ≤ position_or_len (is_init_at x) lines → text_rules lines x ≡ None
unfolding text_rules
none_at x [] h = refl
none_at x (line ∷ lines) h = none_first x line lines (is_init_at x line) refl h (none_at x lines)

none_some : (n m : ℕ) → n < m → cond (ltb n m) (Some n) None ≡ None → m ≤ n
none_some n m l h = let clash : Some n ≡ None = rw (lt-ltb n m l) at h in cc

none_there : (x : ℕ) (lines : List SymLine) (n : ℕ) → cond (ltb n (length lines)) (Some n) None ≡ None → length lines ≤ n
none_there x lines n h = elim (cases_lt n (length lines)) [ inl l ↦ none_some n (length lines) l h | inr le ↦ le ]

pub no_rules : (lines : List SymLine) (x : ℕ) → init_place lines x ≡ None → text_rules lines x ≡ None
unfolding init_place
no_rules lines x h = none_at x lines (none_there x lines (position_or_len (is_init_at x) lines) h)

-- The frame at an address, given its rules.
pub frame_is : (lines file : List SymLine) (x : ℕ) (regs : Regs) (memory : List MemRun) (rules : List RuleText) (r : Result Frame OutOfMemory) → lines ≡ file → text_rules lines x ≡ Some rules
    → IfOk r (λ frame. frame ≡ frame_of regs memory rules) → IfOk r (λ frame. text_frame file x regs memory ≡ Some frame)
unfolding text_frame
frame_is lines file x regs memory rules (Ok frame) same h e = ap (λ ls. option_map (frame_of regs memory) (text_rules ls x)) (sym same) ∙ ap (option_map (frame_of regs memory)) h ∙ ap Some (sym e)
frame_is lines file x regs memory rules (Err none) same h e = tt
