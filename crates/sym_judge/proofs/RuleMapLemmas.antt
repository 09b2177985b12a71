-- Lemmas about the last rule of each target at each address.
use Rattle.std.proofs.Common.{◌≡◌, ◌+◌, ◌<◌, ◌≤◌, ◌^◌, ◌-◌, ℕ, zero, suc, nat_le, Bool, true, false, cond, List, [], ◌∷◌, ◌++◌, length, get_or, set, take, drop, reverse, Option, None, Some, refl, sym, ap, subst, ◌∙◌, arith, append_assoc, append-nil, inl, inr, length-set}
use Rattle.std.specs.List.{find, slice_get}
use Rattle.std.specs.Option.{option_map, option_and_then}
use Rattle.std.proofs.lemmas.Bool.{le-leb, cases_lt}
use Rattle.std.proofs.lemmas.List.{reverse-append, take_more, drop_more, drop_all, get_or_default, get_or-set_same, get_or-set_other}
use Rattle.std.proofs.lemmas.List.Quantifiers.{position-Some}
use Rattle.std.proofs.lemmas.Option.{slice_get-get_or}
use Rattle.sym_records.specs.declared.line.SymLine.{SymLine}
use Rattle.sym_records.specs.declared.line.SymLine.TheVariants.{Init, Change}
use Rattle.sym_rules.specs.declared.rules.Target.{Target}
use Rattle.sym_rules.specs.declared.rules.Target.TheVariants as target
use Rattle.sym_rules.specs.declared.rules.RuleText.{RuleText}
use Rattle.cfi_eval.specs.Inits.{is_init_at, init_place}
use Rattle.cfi_eval.specs.TextRules.{same_target, rule_for, changes_until, text_rules}
use Rattle.cfi_eval.proofs.RuleLemmas.{rule_push}
use Rattle.cfi_eval.proofs.InitLemmas.{init_rules}
use Rattle.step_maps.specs.declared.stretch.Stretch.{Stretch}
use Rattle.step_maps.specs.declared.stretch.FirstItem.{FirstItem}
use Rattle.step_maps.specs.Covers.{reaches, first_at, first_item, AreStretches}
use Rattle.step_maps.specs.Stepping.{Stepping, value_at}
use Rattle.step_maps.proofs.StretchLemmas.{stretches_push}
use Rattle.sym_judge.specs.declared.rule_tables.RulePlace.{RulePlace}
use Rattle.sym_judge.specs.declared.rule_maps.RuleMaps.{RuleMaps}
use Rattle.sym_judge.specs.internal.Tables.{rules_of, rules_or, rules_at, words_at, words_in, IsTableAt}
use Rattle.sym_judge.specs.internal.RuleMaps.{place_of, place_in, rule_in, last_rule, with_rule, with_rules, AreLast, counted, IsRuleMap, register_rule, AreRegisterMaps, AreRegisterRules, AreRuleMaps}
use Rattle.sym_judge.proofs.TableLemmas.{words_there, change_there, no_change, record_there}

abbrev Maps : Type 0
Maps = List (Stepping (Option FirstItem))

-- One more rule.
last_pushed : (items : List Stretch) (s : Stretch) (x : ℕ) (b : Bool) → reaches s x ≡ b → last_rule (items ++ s ∷ []) x ≡ cond b (Some (place_of s)) (last_rule items x)
unfolding last_rule
last_pushed items s x true is = ap (λ all. option_map place_of (find (λ t. reaches t x) all)) (reverse-append items (s ∷ [])) ∙ rw is refl
last_pushed items s x false is = ap (λ all. option_map place_of (find (λ t. reaches t x) all)) (reverse-append items (s ∷ [])) ∙ rw is refl

reaches_to_end : (s : Stretch) (x : ℕ) → s.last ≡ 2 ^ 64 - 1 → x < 2 ^ 64 → (b : Bool) → nat_le s.first x ≡ b → reaches s x ≡ b
reaches_to_end s x end fits true is = let low : nat_le x s.last ≡ true = le-leb x s.last (omega arith) in rw (is, low) refl
reaches_to_end s x end fits false is = rw is refl

told_by : (lines : List SymLine) (t : Target) (items : List Stretch) (s : Stretch) (rule : RuleText) (done : List RuleText) (x : ℕ) (b : Bool) → nat_le s.first x ≡ b → last_rule (items ++ s ∷ []) x ≡ cond b (Some (place_of s)) (last_rule items x)
    → same_target rule.target t ≡ true → words_at lines (place_of s) ≡ Some rule.tokens → words_in lines (last_rule items x) ≡ rule_for t done → words_in lines (last_rule (items ++ s ∷ []) x) ≡ rule_for t (done ++ cond b (rule ∷ []) [])
told_by lines t items s rule done x true is last same words before = ap (words_in lines) last ∙ words ∙ sym (rule_push t done rule ∙ rw same refl)
told_by lines t items s rule done x false is last same words before = ap (words_in lines) last ∙ before ∙ sym (ap (rule_for t) (append-nil done))

pub rule_told : (lines : List SymLine) (t : Target) (items : List Stretch) (s : Stretch) (rule : RuleText) (done : ℕ → List RuleText) → s.last ≡ 2 ^ 64 - 1 → same_target rule.target t ≡ true → words_at lines (place_of s) ≡ Some rule.tokens
    → AreLast lines t items done → AreLast lines t (items ++ s ∷ []) (with_rule s.first rule done)
rule_told lines t items s rule done end same words before = λ x fits.
    told_by lines t items s rule (done x) x (nat_le s.first x) refl (last_pushed items s x (nat_le s.first x) (reaches_to_end s x end fits (nat_le s.first x) refl)) same words (before x fits)

kept_by : (t : Target) (rule : RuleText) (done : List RuleText) (b : Bool) → same_target rule.target t ≡ false → rule_for t done ≡ rule_for t (done ++ cond b (rule ∷ []) [])
kept_by t rule done true same = sym (rule_push t done rule ∙ rw same refl)
kept_by t rule done false same = sym (ap (rule_for t) (append-nil done))

pub rule_passed : (lines : List SymLine) (t : Target) (items : List Stretch) (start : ℕ) (rule : RuleText) (done : ℕ → List RuleText) → same_target rule.target t ≡ false → AreLast lines t items done → AreLast lines t items (with_rule start rule done)
rule_passed lines t items start rule done same before = λ x fits. before x fits ∙ kept_by t rule (done x) (nat_le start x) same

pub last_is : (lines : List SymLine) (t : Target) (items : List Stretch) (f g : ℕ → List RuleText) → ((x : ℕ) → f x ≡ g x) → AreLast lines t items f → AreLast lines t items g
last_is lines t items f g same before = λ x fits. before x fits ∙ ap (rule_for t) (same x)

-- The rules of a record, one after another.
some_more : (done rules : List RuleText) (place : ℕ) (rule : RuleText) (b : Bool) → place < length rules → rule ≡ get_or rules place rule → (done ++ cond b (take place rules) []) ++ cond b (rule ∷ []) [] ≡ done ++ cond b (take (place + 1) rules) []
some_more done rules place rule true l e = append_assoc done (take place rules) (rule ∷ []) ∙ sym (ap (λ rs. done ++ rs) (take_more rules place rule l ∙ ap (λ r. take place rules ++ r ∷ []) (sym e)))
some_more done rules place rule false l e = append-nil (done ++ [])

pub rules_more : (lines : List SymLine) (t : Target) (rules : List RuleText) (line place start : ℕ) (rule : RuleText) (old new : List Stretch) (done : ℕ → List RuleText) → place < length rules → rule ≡ get_or rules place rule
    → ((lines : List SymLine) (done : ℕ → List RuleText) → words_at lines (record { line = line; rule = place }) ≡ Some rule.tokens → AreLast lines t old done → AreLast lines t new (with_rule start rule done))
    → rules_at lines line ≡ rules → AreLast lines t old (with_rules start (take place rules) done) → AreLast lines t new (with_rules start (take (place + 1) rules) done)
rules_more lines t rules line place start rule old new done l e puts is before =
    let there : slice_get rules place ≡ Some rule = slice_get-get_or rules place rule l ∙ ap Some (sym e) in
    last_is lines t new (with_rule start rule (with_rules start (take place rules) done)) (with_rules start (take (place + 1) rules) done) (λ x. some_more (done x) rules place rule (nat_le start x) l e)
    (puts lines (with_rules start (take place rules) done) (words_there lines rules line place rule is there) before)

none_yet : (done : List RuleText) (b : Bool) → done ≡ done ++ cond b [] []
none_yet done true = sym (append-nil done)
none_yet done false = sym (append-nil done)

pub rules_begin : (lines : List SymLine) (t : Target) (items : List Stretch) (rules : List RuleText) (start : ℕ) (done : ℕ → List RuleText) → AreLast lines t items done → AreLast lines t items (with_rules start (take 0 rules) done)
rules_begin lines t items rules start done before = last_is lines t items done (with_rules start [] done) (λ x. none_yet (done x) (nat_le start x)) before

-- The rules of the INIT, and then those of its changes.
pub record AreLastUpTo (lines : List SymLine) (t : Target) (init place : ℕ) (items : List Stretch) : Type 0 where
  pub done : ℕ → List RuleText
  pub is : (x : ℕ) → done x ++ changes_until x (drop place lines) ≡ counted lines init x
  pub last : AreLast lines t items done
  pub fit : AreStretches items

abbrev no_rules_yet : ℕ → List RuleText
no_rules_yet x = []

from_zero : (rules : List RuleText) (x : ℕ) → with_rules 0 rules no_rules_yet x ≡ rules
from_zero rules x = let low : nat_le 0 x ≡ true = le-leb 0 x (omega arith) in rw low refl

none_last : (lines : List SymLine) (t : Target) → AreLast lines t [] no_rules_yet
unfolding last_rule rule_for
none_last lines t = λ x fits. refl

pub init_told : (lines : List SymLine) (t : Target) (init : ℕ) (line : SymLine) (rules : List RuleText) (old items : List Stretch) → old ≡ [] → init < length lines → line ≡ get_or lines init line → rules ≡ rules_of line
    → ((lines : List SymLine) (done : ℕ → List RuleText) → rules_at lines init ≡ rules → AreLast lines t old done → AreLast lines t items (with_rules 0 rules done)) → AreStretches items → AreLastUpTo lines t init (init + 1) items
init_told lines t init line rules old items empty l e is puts fit =
    let there : rules_at lines init ≡ rules = ap rules_or (record_there lines init line l e) ∙ sym is in
    record { done = with_rules 0 rules no_rules_yet; is = λ x. ap (λ rs. rs ++ changes_until x (drop (init + 1) lines)) (from_zero rules x ∙ sym there); last = puts lines no_rules_yet there (subst (λ all. AreLast lines t all no_rules_yet) (sym empty) (none_last lines t)); fit = fit }

change_counts : (lines : List SymLine) (place start x : ℕ) (line : SymLine) (rules done : List RuleText) (b : Bool) → place < length lines → line ≡ get_or lines place line → line ≡ Change start rules → nat_le start x ≡ b
    → (done ++ cond b rules []) ++ changes_until x (drop (place + 1) lines) ≡ done ++ changes_until x (drop place lines)
unfolding changes_until
change_counts lines place start x line rules done b l e is test =
    append_assoc done (cond b rules []) (changes_until x (drop (place + 1) lines)) ∙ ap (λ c. done ++ (cond c rules [] ++ changes_until x (drop (place + 1) lines))) (sym test) ∙ ap (λ rest. done ++ changes_until x rest) (sym (change_there lines place start line rules l e is))

pub change_told : (lines : List SymLine) (t : Target) (init place start : ℕ) (line : SymLine) (rules given : List RuleText) (old new : List Stretch) → place < length lines → line ≡ get_or lines place line → line ≡ Change start rules → given ≡ rules
    → ((lines : List SymLine) (done : ℕ → List RuleText) → rules_at lines place ≡ given → AreLast lines t old done → AreLast lines t new (with_rules start given done)) → AreStretches new
    → AreLastUpTo lines t init place old → AreLastUpTo lines t init (place + 1) new
change_told lines t init place start line rules given old new l e is same puts fit before =
    let there : rules_at lines place ≡ given = ap rules_or (record_there lines place line l e ∙ ap Some is) ∙ sym same in
    record {
      done = with_rules start given before.done;
      is = λ x. ap (λ rs. (before.done x ++ cond (nat_le start x) rs []) ++ changes_until x (drop (place + 1) lines)) same ∙ change_counts lines place start x line rules (before.done x) (nat_le start x) l e is refl ∙ before.is x;
      last = puts lines before.done there before.last;
      fit = fit;
    }

told_all : (lines : List SymLine) (t : Target) (init place : ℕ) (items : List Stretch) (map : Stepping (Option FirstItem)) → ((x : ℕ) → changes_until x (drop place lines) ≡ []) → ((x : ℕ) → x < 2 ^ 64 → rule_in map x ≡ last_rule items x)
    → AreLastUpTo lines t init place items → IsRuleMap lines init t map
told_all lines t init place items map none is before = record {
  rules = λ x fits. ap (words_in lines) (is x fits) ∙ before.last x fits ∙ ap (rule_for t) (sym (append-nil (before.done x)) ∙ ap (λ rs. before.done x ++ rs) (sym (none x)) ∙ before.is x);
}

pub changes_stop : (lines : List SymLine) (t : Target) (init place : ℕ) (line : SymLine) (items : List Stretch) (map : Stepping (Option FirstItem)) → place < length lines → line ≡ get_or lines place line → ((address : ℕ) (rules : List RuleText) → line ≡ Change address rules → ⊥)
    → ((x : ℕ) → x < 2 ^ 64 → rule_in map x ≡ last_rule items x) → AreLastUpTo lines t init place items → IsRuleMap lines init t map
changes_stop lines t init place line items map l e none is before =
    told_all lines t init place items map (λ x. ap (changes_until x) (drop_more lines place line l ∙ ap (λ s. s ∷ drop (place + 1) lines) (sym e)) ∙ no_change x line (drop (place + 1) lines) none) is before

pub changes_end : (lines : List SymLine) (t : Target) (init place : ℕ) (items : List Stretch) (map : Stepping (Option FirstItem)) → length lines ≤ place → ((x : ℕ) → x < 2 ^ 64 → rule_in map x ≡ last_rule items x) → AreLastUpTo lines t init place items → IsRuleMap lines init t map
unfolding changes_until
changes_end lines t init place items map l is before = told_all lines t init place items map (λ x. ap (changes_until x) (drop_all place lines l)) is before

-- The first item in reverse order is the last one.
pub fit_back : (items : List Stretch) → AreStretches items → AreStretches (reverse items)
fit_back [] fit = tt
fit_back (s ∷ items) fit = subst AreStretches (sym (reverse-append (s ∷ []) items)) (stretches_push (reverse items) s (fit_back items fit.1) fit.0)

item_place : (found : Option Stretch) (shared : Stretch → Bool) → option_map place_in (option_map (λ s. record { index = s.index; class = s.class; shared = shared s }) found) ≡ option_map place_of found
item_place None shared = refl
item_place (Some s) shared = refl

pub last_found : (items back : List Stretch) (map : Stepping (Option FirstItem)) → back ≡ reverse items → ((x : ℕ) → x < 2 ^ 64 → value_at None map x ≡ first_item back x) → (x : ℕ) → x < 2 ^ 64 → rule_in map x ≡ last_rule items x
unfolding first_item first_at last_rule
last_found items back map is found x fits = ap (option_map place_in) (found x fits) ∙ item_place (find (λ s. reaches s x) back) _ ∙ ap (λ all. option_map place_of (find (λ s. reaches s x) all)) is

-- The maps of the registers.
below_kept : (maps : Maps) (map : Stepping (Option FirstItem)) (k : ℕ) → k < length maps → slice_get (maps ++ map ∷ []) k ≡ slice_get maps k
below_kept [] map k l = absurd (omega arith)
below_kept (m ∷ maps) map zero l = refl
below_kept (m ∷ maps) map (suc k) l = below_kept maps map k (omega arith)

last_there : (maps : Maps) (map : Stepping (Option FirstItem)) (k : ℕ) → k ≡ length maps → slice_get (maps ++ map ∷ []) k ≡ Some map
last_there [] map zero e = refl
last_there [] map (suc k) e = absurd (omega arith)
last_there (m ∷ maps) map zero e = absurd (omega arith)
last_there (m ∷ maps) map (suc k) e = last_there maps map k (omega arith)

pub length_more : (maps : Maps) (map : Stepping (Option FirstItem)) → length (maps ++ map ∷ []) ≡ length maps + 1
length_more [] map = refl
length_more (m ∷ maps) map = let more : length (maps ++ map ∷ []) ≡ length maps + 1 = length_more maps map in omega arith

pub register_pushed : (lines : List SymLine) (init : ℕ) (maps next : Maps) (map : Stepping (Option FirstItem)) (k : ℕ) → length maps ≡ k → next ≡ maps ++ map ∷ [] → IsRuleMap lines init (target.Reg k) map → AreRegisterMaps lines init maps → AreRegisterMaps lines init next
unfolding register_rule
register_pushed lines init maps next map k many n is before = record {
  rules = λ j l x fits. elim (cases_lt j (length maps)) [
    | inl less ↦ ap (λ ms. words_in lines (option_and_then (λ (m : Stepping (Option FirstItem)). rule_in m x) (slice_get ms j))) n ∙ ap (λ m. words_in lines (option_and_then (λ (m : Stepping (Option FirstItem)). rule_in m x) m)) (below_kept maps map j less) ∙ before.rules j less x fits
    | inr more ↦
        let long : length next ≡ length maps + 1 = ap length n ∙ length_more maps map in
        let here : j ≡ length maps = omega arith in
        let same : k ≡ j = omega arith in
        ap (λ ms. words_in lines (option_and_then (λ (m : Stepping (Option FirstItem)). rule_in m x) (slice_get ms j))) n ∙ ap (λ m. words_in lines (option_and_then (λ (m : Stepping (Option FirstItem)). rule_in m x) m)) (last_there maps map j here) ∙ is.rules x fits ∙ ap (λ n. rule_for (target.Reg n) (counted lines init x)) same
  ];
}

pub register_put : (maps : Maps) (x count : ℕ) (registers : List (Option RulePlace)) (rule : Option RulePlace) → count < 16 → rule ≡ register_rule maps count x → AreRegisterRules maps x count registers → AreRegisterRules maps x (count + 1) (set registers count rule)
register_put maps x count registers rule few is before = record {
  many = length-set registers count rule ∙ before.many;
  rules = λ k l. elim (cases_lt k count) [
    | inl less ↦ get_or-set_other registers count k rule None (λ e. omega arith) ∙ before.rules k less
    | inr more ↦
        let here : k ≡ count = omega arith in
        ap (λ n. get_or (set registers count rule) n None) here ∙ get_or-set_same registers count rule None (omega (arith, before.many)) ∙ is ∙ ap (λ n. register_rule maps n x) (sym here)
  ];
}

pub no_maps : (lines : List SymLine) (init : ℕ) → AreRegisterMaps lines init []
no_maps lines init = record { rules = λ k l. absurd (omega arith) }

pub registers_begin : (maps : Maps) (x : ℕ) (registers : List (Option RulePlace)) → length registers ≡ 16 → AreRegisterRules maps x 0 registers
registers_begin maps x registers many = record { many = many; rules = λ k l. absurd (omega arith) }

pub registers_told : (maps : Maps) (x count : ℕ) (registers : List (Option RulePlace)) → 16 ≤ count → AreRegisterRules maps x count registers → AreRegisterRules maps x 16 registers
registers_told maps x count registers l before = record { many = before.many; rules = λ k m. before.rules k (omega arith) }

-- The rules that count at an address.
counted_of : (lines : List SymLine) (x init : ℕ) (line : SymLine) → init_place lines x ≡ Some init → init < length lines → line ≡ get_or lines init line → is_init_at x line ≡ true → text_rules lines x ≡ Some (counted lines init x)
counted_of lines x init (Init address size rules) h l e is =
    let there : rules_at lines init ≡ rules = ap rules_or (record_there lines init (Init address size rules) l e) in
    init_rules lines x init (Init address size rules) address size rules h e refl ∙ ap (λ rs. Some (rs ++ changes_until x (drop (init + 1) lines))) (sym there)
counted_of lines x init _ h l e is = absurd (cc)

counted_is : (lines : List SymLine) (x init : ℕ) → init_place lines x ≡ Some init → text_rules lines x ≡ Some (counted lines init x)
unfolding init_place
counted_is lines x init h =
    let d : SymLine = Change 0 [] in
    let line : SymLine = get_or lines init d in
    let facts = position-Some (is_init_at x) lines init d h in
    counted_of lines x init line h facts.0 (get_or_default lines init d line facts.0) facts.1

pub table_held : (lines : List SymLine) (x : ℕ) (maps : RuleMaps) (cfa ra : Option RulePlace) (registers : List (Option RulePlace)) → x < 2 ^ 64 → cfa ≡ rule_in maps.cfa x → ra ≡ rule_in maps.ra x → AreRegisterRules maps.registers.items x 16 registers
    → AreRuleMaps lines maps → init_place lines x ≡ Some maps.init → IsTableAt lines x (record { cfa = cfa; ra = ra; registers = registers })
table_held lines x maps cfa ra registers fits c r regs are first = record {
  rules = counted lines maps.init x;
  is = counted_is lines x maps.init first;
  table_is = record {
    cfa = ap (words_in lines) c ∙ are.cfa.rules x fits;
    ra = ap (words_in lines) r ∙ are.ra.rules x fits;
    many = regs.many;
    registers = λ k l. ap (words_in lines) (regs.rules k l) ∙ are.registers.rules k (omega (arith, are.many)) x fits;
  };
}

-- The maps of all INITs.
