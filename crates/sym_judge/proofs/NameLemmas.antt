-- Two answers name differently what the files do.
use Rattle.std.proofs.Common.{◌≡◌, ℕ, Bool, true, false, cond, List, map, Option, None, Some, refl, sym, ap, ◌∙◌}
use Rattle.std.specs.List.{find}
use Rattle.std.specs.Option.{unwrap_or}
use Rattle.std.specs.Prelude.{codes}
use Rattle.std.specs.Str.{bytes_eq}
use Rattle.sym_judge.proofs.SameLemmas.{never, bytes_tell}
use Rattle.sym_records.specs.declared.line.SymLine.{SymLine}
use Rattle.sym_lookup.specs.declared.answers.Answer.{Answer}
use Rattle.sym_lookup.specs.declared.answers.Answer.TheVariants as answer
use Rattle.sym_lookup.specs.Answers.{answer_of, func_place, chain_places, line_place}
use Rattle.sym_lookup.specs.AnswerTexts.{owner_of, calls_of, line_of, func_name_at, call_at, line_at}
use Rattle.sym_lookup.proofs.IndexLemmas.{answer_function}
use Rattle.sym_lookup.proofs.NameLemmas.{owner_named, line_named, chain_named}
use Rattle.sym_judge.specs.Alike.{same_option, same_list, same_line, same_call, agrees, name_aspects, differs}
use Rattle.sym_judge.specs.declared.ruling.Aspect.{Aspect}
use Rattle.sym_judge.specs.declared.ruling.Aspect.TheVariants.{Func, Chain, Line}
use Rattle.sym_judge.specs.declared.ruling.Half.TheVariants.{Names}
use Rattle.sym_meaning.specs.TextNames.{text_origin}
use Rattle.sym_judge.specs.internal.Stops.{first_in}
use Rattle.sym_judge.specs.internal.Spots.{first_named}

-- Three tests, one after another.
in_turn : (own other : List SymLine) (x : ℕ) (a b c : Bool) → agrees own other x Func ≡ a → agrees own other x Chain ≡ b → agrees own other x Line ≡ c
    → cond a (cond b (cond c None (Some Line)) (Some Chain)) (Some Func) ≡ find (differs own other x) name_aspects
in_turn own other x true true true p q r = rw (p, q, r) refl
in_turn own other x true true false p q r = rw (p, q, r) refl
in_turn own other x true false c p q r = rw (p, q) refl
in_turn own other x false b c p q r = rw p refl

pub same_both : {A : Type 0} (same : A → A → Bool) (a b c d : A) → a ≡ c → b ≡ d → same a b ≡ same c d
same_both same a b c d p q = ap (λ v. same v b) p ∙ ap (same c) q

named : (own other : List SymLine) (x : ℕ) → first_named own (answer_of own x) other (answer_of other x) ≡ first_in Names own other x
unfolding first_named first_in agrees
named own other x =
    in_turn own other x (same_option bytes_eq (owner_of own (answer_of own x)) (owner_of other (answer_of other x))) (same_list same_call (calls_of own (answer_of own x)) (calls_of other (answer_of other x))) (same_option same_line (line_of own (answer_of own x)) (line_of other (answer_of other x)))
    (same_both (same_option bytes_eq) _ _ _ _ (owner_named own x) (owner_named other x))
    (same_both (same_list same_call) _ _ _ _ (chain_named own x) (chain_named other x))
    (same_both (same_option same_line) _ _ _ _ (line_named own x) (line_named other x))

pub names_differ : (own other : List SymLine) (x : ℕ) (a b : Answer) (found : Option Aspect) → a ≡ answer_of own x → b ≡ answer_of other x → found ≡ first_named own a other b → found ≡ first_in Names own other x
names_differ own other x a b found p q is = is ∙ ap (λ c. first_named own c other b) p ∙ ap (first_named own (answer_of own x) other) q ∙ named own other x

-- The cases of what two answers name differently.
pub func_met : (own other : List SymLine) (a b : Answer) → same_option bytes_eq (owner_of own a) (owner_of other b) ≡ false → first_named own a other b ≡ Some Func
unfolding first_named
func_met own other a b p = rw p refl

pub chain_met : (own other : List SymLine) (a b : Answer) → same_option bytes_eq (owner_of own a) (owner_of other b) ≡ true → same_list same_call (calls_of own a) (calls_of other b) ≡ false → first_named own a other b ≡ Some Chain
unfolding first_named
chain_met own other a b p q = rw (p, q) refl

pub line_met : (own other : List SymLine) (a b : Answer) → same_option bytes_eq (owner_of own a) (owner_of other b) ≡ true → same_list same_call (calls_of own a) (calls_of other b) ≡ true → same_option same_line (line_of own a) (line_of other b) ≡ false
    → first_named own a other b ≡ Some Line
unfolding first_named
line_met own other a b p q r = rw (p, q, r) refl

pub none_met : (own other : List SymLine) (a b : Answer) → same_option bytes_eq (owner_of own a) (owner_of other b) ≡ true → same_list same_call (calls_of own a) (calls_of other b) ≡ true → same_option same_line (line_of own a) (line_of other b) ≡ true
    → first_named own a other b ≡ None
unfolding first_named
none_met own other a b p q r = rw (p, q, r) refl

owner_at : (lines : List SymLine) (x i : ℕ) → func_place lines x ≡ Some i → owner_of lines (answer_of lines x) ≡ Some (func_name_at lines i)
unfolding owner_of
owner_at lines x i h = ap (owner_of lines) (answer_function lines x i h)

-- Whether two functions have one name.
pub owners_at : (own other : List SymLine) (x i j : ℕ) (same : Bool) → func_place own x ≡ Some i → func_place other x ≡ Some j → same ≡ bytes_eq (func_name_at own i) (func_name_at other j)
    → same ≡ same_option bytes_eq (owner_of own (answer_of own x)) (owner_of other (answer_of other x))
owners_at own other x i j same h k is = is ∙ sym (same_both (same_option bytes_eq) _ _ _ _ (owner_at own x i h) (owner_at other x j k))

-- Two functions: their names, their chains and their lines are compared, one after another.
told_in_turn : (own other : List SymLine) (i j : ℕ) (c d : List ℕ) (l m : Option ℕ) (p q r : Bool) → bytes_eq (func_name_at own i) (func_name_at other j) ≡ p → same_list same_call (map (call_at own) c) (map (call_at other) d) ≡ q
    → same_option same_line (line_at own l) (line_at other m) ≡ r → cond p (cond q (cond r None (Some Line)) (Some Chain)) (Some Func) ≡ first_named own (answer.Function i c l) other (answer.Function j d m)
unfolding first_named owner_of calls_of line_of
told_in_turn own other i j c d l m p q r e f g = rw (e, f, g) refl

by_funcs : (own other : List SymLine) (x i j : ℕ) (p q r : Bool) → func_place own x ≡ Some i → func_place other x ≡ Some j → bytes_eq (func_name_at own i) (func_name_at other j) ≡ p
    → same_list same_call (map (call_at own) (chain_places own i x)) (map (call_at other) (chain_places other j x)) ≡ q → same_option same_line (line_at own (line_place own i x)) (line_at other (line_place other j x)) ≡ r
    → cond p (cond q (cond r None (Some Line)) (Some Chain)) (Some Func) ≡ first_in Names own other x
by_funcs own other x i j p q r h k e f g =
    told_in_turn own other i j (chain_places own i x) (chain_places other j x) (line_place own i x) (line_place other j x) p q r e f g
    ∙ ap (λ a. first_named own a other (answer.Function j (chain_places other j x) (line_place other j x))) (sym (answer_function own x i h))
    ∙ ap (first_named own (answer_of own x) other) (sym (answer_function other x j k))
    ∙ named own other x

pub funcs_differ : (own other : List SymLine) (x i j : ℕ) → func_place own x ≡ Some i → func_place other x ≡ Some j → bytes_eq (func_name_at own i) (func_name_at other j) ≡ false → Some Func ≡ first_in Names own other x
funcs_differ own other x i j h k e = by_funcs own other x i j false _ _ h k e refl refl

pub lines_differ : (own other : List SymLine) (x i j : ℕ) (line : Bool) → func_place own x ≡ Some i → func_place other x ≡ Some j → bytes_eq (func_name_at own i) (func_name_at other j) ≡ true
    → same_list same_call (map (call_at own) (chain_places own i x)) (map (call_at other) (chain_places other j x)) ≡ true → same_option same_line (line_at own (line_place own i x)) (line_at other (line_place other j x)) ≡ line
    → cond line None (Some Line) ≡ first_in Names own other x
lines_differ own other x i j line h k e f g = by_funcs own other x i j true true line h k e f g

-- Origins that have one name.
same_option_same : (a b : Option (List ℕ)) (d : List ℕ) → same_option bytes_eq a b ≡ true → bytes_eq (unwrap_or a d) (unwrap_or b d) ≡ true
same_option_same None None d is = bytes_tell.self d
same_option_same (Some a) (Some b) d is = is
same_option_same None (Some b) d is = never is
same_option_same (Some a) None d is = never is

pub one_origin : (own other : List SymLine) (a b : ℕ) (same : Bool) → same ≡ same_option bytes_eq (text_origin own a) (text_origin other b) → same ≡ true → true ≡ bytes_eq (unwrap_or (text_origin own a) (codes "<name omitted>")) (unwrap_or (text_origin other b) (codes "<name omitted>"))
one_origin own other a b same is e = sym (same_option_same (text_origin own a) (text_origin other b) (codes "<name omitted>") (sym is ∙ e))
