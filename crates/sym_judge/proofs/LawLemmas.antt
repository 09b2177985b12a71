-- What a ruling of yes means, and that a file says the same as itself.
use Rattle.std.proofs.Common.{◌≡◌, ℕ, zero, suc, ◌+◌, ◌^◌, ◌<◌, Bool, true, false, not, cond, List, [], ◌∷◌, ◌++◌, map, Option, None, Some, refl, sym, ap, subst, ◌∙◌}
use Rattle.std.specs.List.{find, range_with_len}
use Rattle.std.specs.Option.{option_map}
use Rattle.std.specs.Str.{bytes_eq}
use Rattle.sym_records.specs.declared.line.SymLine.{SymLine}
use Rattle.sym_rules.specs.declared.rules.Target.{Target}
use Rattle.sym_rules.specs.declared.rules.Target.TheVariants as target
use Rattle.sym_rules.specs.declared.rules.RuleText.{RuleText}
use Rattle.sym_meaning.specs.TextNames.{Call, text_owner, text_chain, text_line}
use Rattle.sym_lookup.specs.AnswerTexts.{call_name}
use Rattle.cfi_eval.specs.declared.registers.Regs.{Regs}
use Rattle.cfi_eval.specs.declared.memory.MemRun.{MemRun}
use Rattle.cfi_eval.specs.declared.outcome.Frame.{Frame}
use Rattle.cfi_eval.specs.TextRules.{rule_for, text_rules}
use Rattle.cfi_eval.specs.TextValue.{ra_by, register_by, text_cfa, text_ra, text_register, frame_of, text_frame}
use Rattle.sym_judge.specs.declared.ruling.Aspect.{Aspect}
use Rattle.sym_judge.specs.declared.ruling.Aspect.TheVariants.{Func, Chain, Line, Init, Cfa, Ra, Reg}
use Rattle.sym_judge.specs.declared.ruling.Ruling.{Ruling}
use Rattle.sym_judge.specs.declared.ruling.Ruling.TheVariants.{Yes, No}
use Rattle.sym_judge.specs.Forms.{rule_form}
use Rattle.cfi_eval.specs.Known.{AreWords, IsKnown}
use Rattle.sym_judge.specs.Alike.{same_option, same_list, same_line, same_call, same_rules, both, agrees, differs, name_aspects, frame_aspects, rule_aspects, first_unlike}
use Rattle.sym_judge.specs.Rulings.{IsRuling}
use Rattle.sym_judge.specs.SameMeaning.{said, NameTheSame, UnwindTheSame}
use Rattle.sym_judge.proofs.FormLemmas.{same_cfa, same_ra, same_register}
use Rattle.sym_judge.proofs.SameLemmas.{and_left, and_right, and_both, bytes_tell, options_tell, lines_tell, forms_tell}

-- If two files differ in none of several aspects, they agree in the first one and in the others.
agreed : (own other : List SymLine) (x : ℕ) (aspect : Aspect) (later : List Aspect) → find (differs own other x) (aspect ∷ later) ≡ None → (agrees own other x aspect ≡ true) × (find (differs own other x) later ≡ None)
agreed own other x aspect later none = go (agrees own other x aspect) refl none
  where
    go : (b : Bool) → agrees own other x aspect ≡ b → cond (not b) (Some aspect) (find (differs own other x) later) ≡ None → (agrees own other x aspect ≡ true) × (find (differs own other x) later ≡ None)
    go true is h = (is, h)
    go false is h = absurd (cc)

-- Calls.
call_said : (a b : Call) → same_call a b ≡ true → said a ≡ said b
call_said a b is =
    let name : call_name a ≡ call_name b = bytes_tell.true_is (call_name a) (call_name b) (and_left _ _ is) in
    let spot : (a.path, a.line) ≡ (b.path, b.line) = lines_tell.true_is (a.path, a.line) (b.path, b.line) (and_right _ _ is) in
    ap (λ n. record { name = n; path = a.path; line = a.line }) name ∙ ap (λ (s : Option (List ℕ) × ℕ). record { name = call_name b; path = s.0; line = s.1 }) spot

calls_said : (front back : List Call) → same_list same_call front back ≡ true → map said front ≡ map said back
calls_said [] [] is = refl
calls_said [] (b ∷ back) is = absurd (cc)
calls_said (a ∷ front) [] is = absurd (cc)
calls_said (a ∷ front) (b ∷ back) is = ap (λ c. c ∷ map said front) (call_said a b (and_left _ _ is)) ∙ ap (λ cs. said b ∷ cs) (calls_said front back (and_right _ _ is))

calls_self : (calls : List Call) → same_list same_call calls calls ≡ true
calls_self [] = refl
calls_self (a ∷ calls) = and_both _ _ (and_both _ _ (bytes_tell.self (call_name a)) (lines_tell.self (a.path, a.line))) (calls_self calls)

names_same : (own other : List SymLine) (x : ℕ) → agrees own other x Func ≡ true → agrees own other x Chain ≡ true → agrees own other x Line ≡ true → NameTheSame own other x
unfolding agrees
names_same own other x func chain line = record {
  owner = (options_tell bytes_eq bytes_tell).true_is (text_owner own x) (text_owner other x) func;
  chain = calls_said (text_chain own x) (text_chain other x) chain;
  line = (options_tell same_line lines_tell).true_is (text_line own x) (text_line other x) line;
}

-- Rules.
some_both : (a b : Option (List RuleText)) → same_option both a b ≡ true → a ≡ None → b ≡ None
some_both None None is none = refl
some_both None (Some b) is none = absurd (cc)
some_both (Some a) b is none = absurd (cc)

nowhere_both : (own other : List SymLine) (x : ℕ) (regs : Regs) (memory : List MemRun) → agrees own other x Init ≡ true → text_frame own x regs memory ≡ None → text_frame other x regs memory ≡ None
unfolding agrees text_frame
nowhere_both own other x regs memory is none = ap (option_map (frame_of regs memory)) (some_both (text_rules own x) (text_rules other x) is (no_frame (text_rules own x) none))
  where
    no_frame : (a : Option (List RuleText)) → option_map (frame_of regs memory) a ≡ None → a ≡ None
    no_frame None e = refl
    no_frame (Some a) e = absurd (cc)

form_same : (t : Target) (a b : List RuleText) → same_rules t a b ≡ true → rule_form t a ≡ rule_form t b
form_same t a b is = forms_tell.true_is (rule_form t a) (rule_form t b) is

-- If both files have rules at an address, the rules of each target have one form.
at_both : (own other : List SymLine) (x : ℕ) (t : Target) (a b : List RuleText) → text_rules own x ≡ Some a → text_rules other x ≡ Some b → same_option (same_rules t) (text_rules own x) (text_rules other x) ≡ true → rule_form t a ≡ rule_form t b
at_both own other x t a b p q is = form_same t a b (sym (ap (λ r. same_option (same_rules t) r (text_rules other x)) p ∙ ap (same_option (same_rules t) (Some a)) q) ∙ is)

cfas_same : (a b : List RuleText) (regs : Regs) (memory : List MemRun) → AreWords regs → rule_form target.Cfa a ≡ rule_form target.Cfa b → text_cfa regs memory a ≡ text_cfa regs memory b
unfolding text_cfa rule_form
cfas_same a b regs memory words is = same_cfa regs memory (rule_for target.Cfa a) (rule_for target.Cfa b) words is

ras_same : (a b : List RuleText) (regs : Regs) (memory : List MemRun) → AreWords regs → IsKnown (text_cfa regs memory a) → text_cfa regs memory a ≡ text_cfa regs memory b → rule_form target.Ra a ≡ rule_form target.Ra b → text_ra regs memory a ≡ text_ra regs memory b
unfolding text_ra rule_form
ras_same a b regs memory words known cfa is =
    same_ra regs memory (text_cfa regs memory a) (rule_for target.Ra a) (rule_for target.Ra b) words known is ∙ ap (λ c. ra_by regs memory c (rule_for target.Ra b)) cfa

register_same : (a b : List RuleText) (regs : Regs) (memory : List MemRun) (k : ℕ) → AreWords regs → IsKnown (text_cfa regs memory a) → text_cfa regs memory a ≡ text_cfa regs memory b → rule_form (target.Reg k) a ≡ rule_form (target.Reg k) b
    → text_register regs memory a k ≡ text_register regs memory b k
unfolding text_register rule_form
register_same a b regs memory k words known cfa is =
    same_register regs memory (text_cfa regs memory a) k (rule_for (target.Reg k) a) (rule_for (target.Reg k) b) words known is ∙ ap (λ c. register_by regs memory c k (rule_for (target.Reg k) b)) cfa

registers_same : (own other : List SymLine) (x : ℕ) (a b : List RuleText) (regs : Regs) (memory : List MemRun) → text_rules own x ≡ Some a → text_rules other x ≡ Some b → AreWords regs → IsKnown (text_cfa regs memory a) → text_cfa regs memory a ≡ text_cfa regs memory b
    → (k n : ℕ) → find (differs own other x) (map Reg (range_with_len k n)) ≡ None → map (text_register regs memory a) (range_with_len k n) ≡ map (text_register regs memory b) (range_with_len k n)
unfolding agrees
registers_same own other x a b regs memory p q words known cfa k zero none = refl
registers_same own other x a b regs memory p q words known cfa k (suc n) none =
    let here = agreed own other x (Reg k) (map Reg (range_with_len (k + 1) n)) none in
    let first : text_register regs memory a k ≡ text_register regs memory b k = register_same a b regs memory k words known cfa (at_both own other x (target.Reg k) a b p q here.0) in
    ap (λ r. r ∷ map (text_register regs memory a) (range_with_len (k + 1) n)) first ∙ ap (λ rs. text_register regs memory b k ∷ rs) (registers_same own other x a b regs memory p q words known cfa (k + 1) n here.1)

frames_by : (own other : List SymLine) (x : ℕ) (a b : List RuleText) (regs : Regs) (memory : List MemRun) → text_rules own x ≡ Some a → text_rules other x ≡ Some b → AreWords regs → IsKnown (text_cfa regs memory a) → find (differs own other x) rule_aspects ≡ None
    → frame_of regs memory a ≡ frame_of regs memory b
unfolding frame_of rule_aspects agrees
frames_by own other x a b regs memory p q words known none =
    let one = agreed own other x Cfa (Ra ∷ map Reg (range_with_len 0 16)) none in
    let two = agreed own other x Ra (map Reg (range_with_len 0 16)) one.1 in
    let cfa : text_cfa regs memory a ≡ text_cfa regs memory b = cfas_same a b regs memory words (at_both own other x target.Cfa a b p q one.0) in
    let ra : text_ra regs memory a ≡ text_ra regs memory b = ras_same a b regs memory words known cfa (at_both own other x target.Ra a b p q two.0) in
    let registers : map (text_register regs memory a) (range_with_len 0 16) ≡ map (text_register regs memory b) (range_with_len 0 16) = registers_same own other x a b regs memory p q words known cfa 0 16 two.1 in
    ap (λ c. record { cfa = c; ra = text_ra regs memory a; regs = map (text_register regs memory a) (range_with_len 0 16) }) cfa
    ∙ ap (λ r. record { cfa = text_cfa regs memory b; ra = r; regs = map (text_register regs memory a) (range_with_len 0 16) }) ra
    ∙ ap (λ rs. record { cfa = text_cfa regs memory b; ra = text_ra regs memory b; regs = rs }) registers

frame_cases : (own other : List SymLine) (x : ℕ) (regs : Regs) (memory : List MemRun) (f : Frame) (p q : Option (List RuleText)) → text_rules own x ≡ p → text_rules other x ≡ q → same_option both p q ≡ true → AreWords regs → IsKnown f.cfa
    → find (differs own other x) rule_aspects ≡ None → option_map (frame_of regs memory) p ≡ Some f → option_map (frame_of regs memory) q ≡ Some f
unfolding frame_of
frame_cases own other x regs memory f None q e g is words known none h = absurd (cc)
frame_cases own other x regs memory f (Some a) None e g is words known none h = absurd (cc)
frame_cases own other x regs memory f (Some a) (Some b) e g is words known none h =
    let made : frame_of regs memory a ≡ f = some_is h in
    let cfa : IsKnown (text_cfa regs memory a) = subst (λ (w : Frame). IsKnown w.cfa) (sym made) known in
    ap Some (sym (frames_by own other x a b regs memory e g words cfa none) ∙ made)
  where
    some_is : {u w : Frame} → Some u ≡ Some w → u ≡ w
    some_is e = cc

frame_both : (own other : List SymLine) (x : ℕ) (regs : Regs) (memory : List MemRun) (f : Frame) → agrees own other x Init ≡ true → find (differs own other x) rule_aspects ≡ None → AreWords regs → IsKnown f.cfa → text_frame own x regs memory ≡ Some f
    → text_frame other x regs memory ≡ Some f
unfolding agrees text_frame
frame_both own other x regs memory f is none words known h = frame_cases own other x regs memory f (text_rules own x) (text_rules other x) refl refl is words known none h

-- All that a ruling of yes promises.
pub names_kept : (own other : List SymLine) (x : ℕ) → first_unlike own other x ≡ None → NameTheSame own other x
unfolding first_unlike
names_kept own other x none =
    let one = agreed own other x Func (Chain ∷ Line ∷ frame_aspects) none in
    let two = agreed own other x Chain (Line ∷ frame_aspects) one.1 in
    let three = agreed own other x Line frame_aspects two.1 in
    names_same own other x one.0 two.0 three.0

pub frames_kept : (own other : List SymLine) (x : ℕ) → first_unlike own other x ≡ None → UnwindTheSame own other x
unfolding first_unlike frame_aspects
frames_kept own other x none =
    let one = agreed own other x Func (Chain ∷ Line ∷ frame_aspects) none in
    let two = agreed own other x Chain (Line ∷ frame_aspects) one.1 in
    let three = agreed own other x Line frame_aspects two.1 in
    let four = agreed own other x Init rule_aspects three.1 in
    record {
      nowhere = λ regs memory h. nowhere_both own other x regs memory four.0 h;
      frame = λ regs memory f words known h. frame_both own other x regs memory f four.0 four.1 words known h;
    }

pub yes_names : (own other : List SymLine) (x : ℕ) → IsRuling own other Yes → x < 2 ^ 64 → NameTheSame own other x
yes_names own other x is fits = names_kept own other x (is x fits)

pub yes_frames : (own other : List SymLine) (x : ℕ) → IsRuling own other Yes → x < 2 ^ 64 → UnwindTheSame own other x
yes_frames own other x is fits = frames_kept own other x (is x fits)

-- A file compared with itself.
rules_self : (t : Target) (a : Option (List RuleText)) → same_option (same_rules t) a a ≡ true
rules_self t None = refl
rules_self t (Some a) = forms_tell.self (rule_form t a)

aspect_self : (lines : List SymLine) (x : ℕ) (aspect : Aspect) → agrees lines lines x aspect ≡ true
unfolding agrees
aspect_self lines x Func = (options_tell bytes_eq bytes_tell).self (text_owner lines x)
aspect_self lines x Chain = calls_self (text_chain lines x)
aspect_self lines x Line = (options_tell same_line lines_tell).self (text_line lines x)
aspect_self lines x Init = covered_self (text_rules lines x)
  where
    covered_self : (a : Option (List RuleText)) → same_option both a a ≡ true
    covered_self None = refl
    covered_self (Some a) = refl
aspect_self lines x Cfa = rules_self target.Cfa (text_rules lines x)
aspect_self lines x Ra = rules_self target.Ra (text_rules lines x)
aspect_self lines x (Reg k) = rules_self (target.Reg k) (text_rules lines x)

aspects_self : (lines : List SymLine) (x : ℕ) (aspects : List Aspect) → find (differs lines lines x) aspects ≡ None
aspects_self lines x [] = refl
aspects_self lines x (aspect ∷ aspects) = rw (aspect_self lines x aspect) (aspects_self lines x aspects)

self_by : (lines : List SymLine) (ruling : Ruling) → IsRuling lines lines ruling → ruling ≡ Yes
unfolding first_unlike
self_by lines Yes is = refl
self_by lines (No a p) is = let none = aspects_self lines a (name_aspects ++ frame_aspects) in let met = is.differ in absurd (cc)

pub yes_of_itself : (lines : List SymLine) → IsRuling lines lines Yes
unfolding first_unlike
yes_of_itself lines = λ x l. aspects_self lines x (name_aspects ++ frame_aspects)

pub itself : (lines : List SymLine) (ruling : Ruling) → IsRuling lines lines ruling → ruling ≡ Yes
itself lines ruling is = self_by lines ruling is
