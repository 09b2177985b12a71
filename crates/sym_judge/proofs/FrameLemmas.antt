-- Lemmas about the frame rules of two files at an address.
use Rattle.std.proofs.Common.{◌≡◌, ℕ, zero, suc, ◌+◌, ◌-◌, ◌<◌, ◌≤◌, Bool, true, false, List, [], ◌∷◌, ◌++◌, map, get_or, drop, Option, None, Some, Result, Ok, Err, refl, sym, ap, ◌∙◌, arith}
use Rattle.std.specs.List.{find, range_with_len}
use Rattle.std.specs.Result.{IfOk}
use Rattle.std.specs.Option.{MatchOption}
use Rattle.sym_records.specs.declared.line.SymLine.{SymLine}
use Rattle.sym_records.specs.declared.line.SymLine.TheVariants.{Init as init_line, Change as change_line}
use Rattle.sym_rules.specs.declared.rules.Target.{Target}
use Rattle.sym_rules.specs.declared.rules.Target.TheVariants as target
use Rattle.sym_rules.specs.declared.rules.Token.{Token}
use Rattle.sym_rules.specs.declared.rules.RuleText.{RuleText}
use Rattle.cfi_eval.specs.Inits.{is_init_at, init_place}
use Rattle.cfi_eval.proofs.InitLemmas.{init_rules, no_rules}
use Rattle.std.proofs.lemmas.List.{get_or_default}
use Rattle.std.proofs.lemmas.List.Quantifiers.{position-Some}
use Rattle.cfi_eval.specs.TextRules.{rule_for, changes_until, text_rules}
use Rattle.sym_judge.specs.declared.ruling.Aspect.{Aspect}
use Rattle.sym_judge.specs.declared.ruling.Aspect.TheVariants.{Func, Chain, Line, Init, Cfa, Ra, Reg}
use Rattle.sym_judge.specs.declared.rule_tables.RuleTable.{RuleTable}
use Rattle.sym_judge.specs.Forms.{form_by, rule_form, same_words, same_form}
use Rattle.sym_judge.specs.Alike.{same_option, same_rules, both, agrees, differs, rule_aspects, frame_aspects}
use Rattle.sym_judge.specs.declared.ruling.Half.TheVariants.{Frames}
use Rattle.sym_judge.specs.internal.Stops.{first_in}
use Rattle.sym_judge.specs.internal.Tables.{words_in, IsTableAt}
use Rattle.sym_judge.proofs.SameLemmas.{words_tell, forms_tell}

pub same_words_same_form : (t : Target) (a b : List Token) → same_words a b ≡ true → same_form (form_by t (Some a)) (form_by t (Some b)) ≡ true
same_words_same_form t a b is = ap (λ words. same_form (form_by t (Some a)) (form_by t (Some words))) (sym (words_tell.true_is a b is)) ∙ forms_tell.self (form_by t (Some a))

-- Whether the rules of a target agree, given their words.
abbrev AgreeBy : List SymLine → List SymLine → ℕ → Target → Aspect → Option (List Token) → Option (List Token) → Type 0
AgreeBy own other x t aspect a b = agrees own other x aspect ≡ same_form (form_by t a) (form_by t b)

both_have : (own other : List SymLine) (x : ℕ) (t : Target) (rules others : List RuleText) → text_rules own x ≡ Some rules → text_rules other x ≡ Some others
    → same_option (same_rules t) (text_rules own x) (text_rules other x) ≡ same_form (form_by t (rule_for t rules)) (form_by t (rule_for t others))
unfolding rule_form
both_have own other x t rules others p q = ap (λ r. same_option (same_rules t) r (text_rules other x)) p ∙ ap (same_option (same_rules t) (Some rules)) q

agree_by : (own other : List SymLine) (x : ℕ) (t : Target) (rules others : List RuleText) (a b : Option (List Token)) → text_rules own x ≡ Some rules → text_rules other x ≡ Some others → a ≡ rule_for t rules → b ≡ rule_for t others
    → same_option (same_rules t) (text_rules own x) (text_rules other x) ≡ same_form (form_by t a) (form_by t b)
agree_by own other x t rules others a b p q e f = both_have own other x t rules others p q ∙ ap (λ w. same_form (form_by t w) (form_by t (rule_for t others))) (sym e) ∙ ap (λ w. same_form (form_by t a) (form_by t w)) (sym f)

cfa_agree : (own other : List SymLine) (x : ℕ) (a b : RuleTable) → IsTableAt own x a → IsTableAt other x b → AgreeBy own other x target.Cfa Cfa (words_in own a.cfa) (words_in other b.cfa)
unfolding agrees
cfa_agree own other x a b p q = agree_by own other x target.Cfa p.rules q.rules (words_in own a.cfa) (words_in other b.cfa) p.is q.is p.table_is.cfa q.table_is.cfa

ra_agree : (own other : List SymLine) (x : ℕ) (a b : RuleTable) → IsTableAt own x a → IsTableAt other x b → AgreeBy own other x target.Ra Ra (words_in own a.ra) (words_in other b.ra)
unfolding agrees
ra_agree own other x a b p q = agree_by own other x target.Ra p.rules q.rules (words_in own a.ra) (words_in other b.ra) p.is q.is p.table_is.ra q.table_is.ra

pub register_agree : (own other : List SymLine) (x : ℕ) (a b : RuleTable) (k : ℕ) → k < 16 → IsTableAt own x a → IsTableAt other x b
    → AgreeBy own other x (target.Reg k) (Reg k) (words_in own (get_or a.registers k None)) (words_in other (get_or b.registers k None))
unfolding agrees
register_agree own other x a b k l p q =
    agree_by own other x (target.Reg k) p.rules q.rules (words_in own (get_or a.registers k None)) (words_in other (get_or b.registers k None)) p.is q.is (p.table_is.registers k l) (q.table_is.registers k l)

-- The first aspect that differs, found one aspect after another.
pub passed : (own other : List SymLine) (x : ℕ) (aspect : Aspect) (later : List Aspect) (b : Bool) → agrees own other x aspect ≡ b → b ≡ true → find (differs own other x) (aspect ∷ later) ≡ find (differs own other x) later
passed own other x aspect later b is holds = rw (is ∙ holds) refl

pub met : (own other : List SymLine) (x : ℕ) (aspect : Aspect) (later : List Aspect) (b : Bool) → agrees own other x aspect ≡ b → b ≡ false → find (differs own other x) (aspect ∷ later) ≡ Some aspect
met own other x aspect later b is fails = rw (is ∙ fails) refl

-- The first register that differs, from one register on.
abbrev pub registers_from : List SymLine → List SymLine → ℕ → ℕ → Option Aspect
registers_from own other x k = find (differs own other x) (map Reg (range_with_len k (16 - k)))

registers_more : (own other : List SymLine) (x k : ℕ) → k < 16 → registers_from own other x k ≡ find (differs own other x) (Reg k ∷ map Reg (range_with_len (k + 1) (16 - (k + 1))))
registers_more own other x k l = let more : 16 - k ≡ suc (16 - (k + 1)) = omega arith in ap (λ n. find (differs own other x) (map Reg (range_with_len k n))) more

pub register_passed : (own other : List SymLine) (x k : ℕ) (a b : RuleTable) (same : Bool) → k < 16 → IsTableAt own x a → IsTableAt other x b
    → same ≡ same_form (form_by (target.Reg k) (words_in own (get_or a.registers k None))) (form_by (target.Reg k) (words_in other (get_or b.registers k None))) → same ≡ true → registers_from own other x k ≡ registers_from own other x (k + 1)
register_passed own other x k a b same l p q is holds = registers_more own other x k l ∙ passed own other x (Reg k) (map Reg (range_with_len (k + 1) (16 - (k + 1)))) same (register_agree own other x a b k l p q ∙ sym is) holds

pub register_met : (own other : List SymLine) (x k : ℕ) (a b : RuleTable) (same : Bool) → k < 16 → IsTableAt own x a → IsTableAt other x b
    → same ≡ same_form (form_by (target.Reg k) (words_in own (get_or a.registers k None))) (form_by (target.Reg k) (words_in other (get_or b.registers k None))) → same ≡ false → Some (Reg k) ≡ registers_from own other x k
register_met own other x k a b same l p q is fails = sym (registers_more own other x k l ∙ met own other x (Reg k) (map Reg (range_with_len (k + 1) (16 - (k + 1)))) same (register_agree own other x a b k l p q ∙ sym is) fails)

pub registers_end : (own other : List SymLine) (x k : ℕ) → 16 ≤ k → None ≡ registers_from own other x k
registers_end own other x k l = let none : 0 ≡ 16 - k = omega arith in ap (λ n. find (differs own other x) (map Reg (range_with_len k n))) none

-- The CFA is compared, then the return address, and then the registers.
pub cfa_met : (own other : List SymLine) (x : ℕ) (a b : RuleTable) (same : Bool) → IsTableAt own x a → IsTableAt other x b → same ≡ same_form (form_by target.Cfa (words_in own a.cfa)) (form_by target.Cfa (words_in other b.cfa)) → same ≡ false
    → Some Cfa ≡ find (differs own other x) rule_aspects
unfolding rule_aspects
cfa_met own other x a b same p q is fails = sym (met own other x Cfa (Ra ∷ map Reg (range_with_len 0 16)) same (cfa_agree own other x a b p q ∙ sym is) fails)

cfa_passed : (own other : List SymLine) (x : ℕ) (a b : RuleTable) (same : Bool) → IsTableAt own x a → IsTableAt other x b → same ≡ same_form (form_by target.Cfa (words_in own a.cfa)) (form_by target.Cfa (words_in other b.cfa)) → same ≡ true
    → find (differs own other x) rule_aspects ≡ find (differs own other x) (Ra ∷ map Reg (range_with_len 0 16))
unfolding rule_aspects
cfa_passed own other x a b same p q is holds = passed own other x Cfa (Ra ∷ map Reg (range_with_len 0 16)) same (cfa_agree own other x a b p q ∙ sym is) holds

pub ra_met : (own other : List SymLine) (x : ℕ) (a b : RuleTable) (same then : Bool) → IsTableAt own x a → IsTableAt other x b → same ≡ same_form (form_by target.Cfa (words_in own a.cfa)) (form_by target.Cfa (words_in other b.cfa)) → same ≡ true
    → then ≡ same_form (form_by target.Ra (words_in own a.ra)) (form_by target.Ra (words_in other b.ra)) → then ≡ false → Some Ra ≡ find (differs own other x) rule_aspects
ra_met own other x a b same then p q is holds e fails = sym (cfa_passed own other x a b same p q is holds ∙ met own other x Ra (map Reg (range_with_len 0 16)) then (ra_agree own other x a b p q ∙ sym e) fails)

pub registers_behind : (own other : List SymLine) (x : ℕ) (a b : RuleTable) (same then : Bool) → IsTableAt own x a → IsTableAt other x b → same ≡ same_form (form_by target.Cfa (words_in own a.cfa)) (form_by target.Cfa (words_in other b.cfa)) → same ≡ true
    → then ≡ same_form (form_by target.Ra (words_in own a.ra)) (form_by target.Ra (words_in other b.ra)) → then ≡ true → registers_from own other x 0 ≡ find (differs own other x) rule_aspects
registers_behind own other x a b same then p q is holds e also = sym (cfa_passed own other x a b same p q is holds ∙ passed own other x Ra (map Reg (range_with_len 0 16)) then (ra_agree own other x a b p q ∙ sym e) also)

-- Whether an INIT covers the address.
abbrev pub IsOfFrames : Aspect → Type 0
IsOfFrames Func = ⊥
IsOfFrames Chain = ⊥
IsOfFrames Line = ⊥
IsOfFrames _ = Unit {0}

abbrev pub AreOfFrames : List Aspect → Type 0
AreOfFrames [] = Unit {0}
AreOfFrames (aspect ∷ aspects) = IsOfFrames aspect × AreOfFrames aspects

no_rules_agree : {A : Type 0} (same : A → A → Bool) (a b : Option A) → a ≡ None → b ≡ None → same_option same a b ≡ true
no_rules_agree same a b p q = ap (λ r. same_option same r b) p ∙ ap (same_option same None) q

of_frames : (own other : List SymLine) (x : ℕ) → text_rules own x ≡ None → text_rules other x ≡ None → (aspect : Aspect) → IsOfFrames aspect → agrees own other x aspect ≡ true
unfolding agrees
of_frames own other x p q Func is = absurd is
of_frames own other x p q Chain is = absurd is
of_frames own other x p q Line is = absurd is
of_frames own other x p q Init is = no_rules_agree both (text_rules own x) (text_rules other x) p q
of_frames own other x p q Cfa is = no_rules_agree (same_rules target.Cfa) (text_rules own x) (text_rules other x) p q
of_frames own other x p q Ra is = no_rules_agree (same_rules target.Ra) (text_rules own x) (text_rules other x) p q
of_frames own other x p q (Reg k) is = no_rules_agree (same_rules (target.Reg k)) (text_rules own x) (text_rules other x) p q

none_agree : (own other : List SymLine) (x : ℕ) → text_rules own x ≡ None → text_rules other x ≡ None → (aspects : List Aspect) → AreOfFrames aspects → find (differs own other x) aspects ≡ None
none_agree own other x p q [] all = refl
none_agree own other x p q (aspect ∷ aspects) all = passed own other x aspect aspects true (of_frames own other x p q aspect all.0) refl ∙ none_agree own other x p q aspects all.1

pub registers_of_frames : (k n : ℕ) → AreOfFrames (map Reg (range_with_len k n))
registers_of_frames k zero = tt
registers_of_frames k (suc n) = (tt, registers_of_frames (k + 1) n)

pub nowhere : (own other : List SymLine) (x : ℕ) → init_place own x ≡ None → init_place other x ≡ None → None ≡ first_in Frames own other x
unfolding first_in frame_aspects rule_aspects
nowhere own other x p q = sym (none_agree own other x (no_rules own x p) (no_rules other x q) (Init ∷ Cfa ∷ Ra ∷ map Reg (range_with_len 0 16)) (tt, (tt, (tt, registers_of_frames 0 16))))

pub both_covered : (own other : List SymLine) (x : ℕ) (a b : RuleTable) (found : Option Aspect) → IsTableAt own x a → IsTableAt other x b → found ≡ find (differs own other x) rule_aspects → found ≡ first_in Frames own other x
unfolding first_in frame_aspects agrees
both_covered own other x a b found p q is = is ∙ sym (passed own other x Init rule_aspects true (ap (λ r. same_option both r (text_rules other x)) p.is ∙ ap (same_option both (Some p.rules)) q.is) refl)

one_covered : (own other : List SymLine) (x : ℕ) → same_option both (text_rules own x) (text_rules other x) ≡ false → Some Init ≡ first_in Frames own other x
unfolding first_in frame_aspects agrees
one_covered own other x is = sym (met own other x Init rule_aspects false is refl)

rules_of_init : (lines : List SymLine) (x init : ℕ) (line : SymLine) → init_place lines x ≡ Some init → line ≡ get_or lines init line → is_init_at x line ≡ true → (rules : List RuleText) × (text_rules lines x ≡ Some rules)
rules_of_init lines x init (init_line address size rules) h e is = (rules ++ changes_until x (drop (init + 1) lines), init_rules lines x init (init_line address size rules) address size rules h e refl)
rules_of_init lines x init _ h e is = absurd (cc)

has_rules : (lines : List SymLine) (x init : ℕ) → init_place lines x ≡ Some init → (rules : List RuleText) × (text_rules lines x ≡ Some rules)
unfolding init_place
has_rules lines x init h =
    let d : SymLine = change_line 0 [] in
    let line : SymLine = get_or lines init d in
    let facts = position-Some (is_init_at x) lines init d h in
    rules_of_init lines x init line h (get_or_default lines init d line facts.0) facts.1

pub own_alone : (own other : List SymLine) (x init : ℕ) → init_place own x ≡ Some init → init_place other x ≡ None → Some Init ≡ first_in Frames own other x
own_alone own other x init p q = let has = has_rules own x init p in one_covered own other x (ap (λ r. same_option both r (text_rules other x)) has.1 ∙ ap (same_option both (Some has.0)) (no_rules other x q))

pub other_alone : (own other : List SymLine) (x init : ℕ) → init_place own x ≡ None → init_place other x ≡ Some init → Some Init ≡ first_in Frames own other x
other_alone own other x init p q = let has = has_rules other x init q in one_covered own other x (ap (λ r. same_option both r (text_rules other x)) (no_rules own x p) ∙ ap (same_option both None) has.1)

pub then_behind : {E : Type 0} {a b : Option Aspect} (found : Result (Option Aspect) E) → IfOk found (λ f. f ≡ a) → a ≡ b → IfOk found (λ f. f ≡ b)
then_behind (Ok f) is same = is ∙ same
then_behind (Err e) is same = tt

pub alone_is : (own other : List SymLine) (x : ℕ) (init : Option ℕ) (found : Option Aspect) → init_place own x ≡ None → init ≡ init_place other x → MatchOption init (found ≡ None) (λ place. found ≡ Some Init) → found ≡ first_in Frames own other x
alone_is own other x None found p q is = is ∙ nowhere own other x p (sym q)
alone_is own other x (Some place) found p q is = is ∙ other_alone own other x place p (sym q)

pub covered_is : {E : Type 0} (own other : List SymLine) (x : ℕ) (a b : RuleTable) (found : Result (Option Aspect) E) → IsTableAt own x a → IsTableAt other x b
    → ((x : ℕ) → IsTableAt own x a → IsTableAt other x b → IfOk found (λ f. f ≡ find (differs own other x) rule_aspects)) → IfOk found (λ f. f ≡ first_in Frames own other x)
covered_is own other x a b found here there finds = then_behind found (finds x here there) (both_covered own other x a b (find (differs own other x) rule_aspects) here there refl)
