-- Frame rules that were read can be spelled (for `sym_records`).
use Rattle.std.proofs.Common.{◌≡◌, ℕ, ◌-◌, ◌+◌, ◌<◌, ◌≤◌, ◌==◌, ◌&&◌, ◌||◌, cond, zero, suc, Bool, true, false, not, ℤ, pos, neg_ℤ, List, [], ◌∷◌, length, take, drop, get_or, codes, Option, Some, None, ok_or, Result, Ok, Err, nat_lt, refl, sym, ◌∙◌, ap, arith, subst, ⊎_elim}
use Rattle.std.specs.List.{list_all, list_any, prefix_len}
use Rattle.std.specs.Option.{option_or, option_map, option_map_or}
use Rattle.std.specs.Str.{bytes_eq}
use Rattle.std.specs.Str.Parse.{digits_value}
use Rattle.std.proofs.lemmas.Bool.{lt-ltb}
use Rattle.std.proofs.lemmas.Bool.Decides.{nat_tests}
use Rattle.std.proofs.lemmas.List.Quantifiers.{position-Some}
use Rattle.sym_rules.proofs.BoolLemmas.{and_true, both, not_false, elim_bool, chosen, bind_ok}
use Rattle.sym_rules.proofs.EndLemmas.{last_later}
use Rattle.sym_rules.proofs.WordLemmas.{words_sound, groups_sound, ok_same, each_all, each_last, each_cons}
use Rattle.sym_edges.specs.Results.{◌>>=◌}
use Rattle.sym_rules.specs.Cuts.{is_cr, is_margin, is_within_line, is_within_field, last_is}
use Rattle.sym_edges.specs.Abi.{register_names}
use Rattle.sym_edges.specs.Integers.{fits_i64}
use Rattle.sym_rules.specs.RuleReading.{words, groups, ends_in_colon, is_symbol, register_of, named_target, but_last, target_at, are_digits, in_i64, integer_of, sign_of, named_token, token_at, each, some_of, rule_at, rules_at}
use Rattle.sym_rules.specs.RuleValidity.{is_other, target_names, token_names, is_target, is_token, is_rule, ends_in_cr, end_in_cr, are_rules}
use Rattle.sym_rules.specs.declared.rules.Target.{Target}
use Rattle.sym_rules.specs.declared.rules.Target.TheVariants as target
use Rattle.sym_rules.specs.declared.rules.Token.{Token}
use Rattle.sym_rules.specs.declared.rules.Token.TheVariants as token
use Rattle.sym_rules.specs.declared.rules.RuleText.{RuleText}
use Rattle.sym_rules.specs.declared.text_fault.TextKind.{TextKind}
use Rattle.sym_rules.specs.declared.text_fault.TextKind.TheVariants.{Rule}

some_found : (p : List ℕ → Bool) (known : List (List ℕ)) → prefix_len (λ x. not (p x)) known ≡ length known → list_any p known ≡ false
some_found p [] none = refl
some_found p (x ∷ known) none =
    elim_bool (p x) (λ t. cond (not t) (1 + prefix_len (λ y. not (p y)) known) 0 ≡ length (x ∷ known) → (t || list_any p known) ≡ false)
    (λ _ h. absurd (omega (arith, h)))
    (λ _ h. some_found p known (let same : prefix_len (λ y. not (p y)) known ≡ length known = omega (arith, h) in same))
    none

prefix_within : (q : List ℕ → Bool) (known : List (List ℕ)) → prefix_len q known ≤ length known
prefix_within q [] = omega arith
prefix_within q (x ∷ known) = elim_bool (q x) (λ t. cond t (1 + prefix_len q known) 0 ≤ length (x ∷ known)) (λ _. omega (arith, prefix_within q known)) (λ _. omega arith)

not_less : (a b : ℕ) → nat_lt a b ≡ false → a ≤ b → a ≡ b
not_less a b is within = grind (arith, nat_tests)

no_register_found : (name : List ℕ) → register_of name ≡ None → list_any (bytes_eq name) register_names ≡ false
unfolding register_of
no_register_found name none =
    let n : ℕ = prefix_len (λ x. not (bytes_eq name x)) register_names in
    elim_bool (nat_lt n (length register_names)) (λ t. nat_lt n (length register_names) ≡ t → cond t (Some n) None ≡ None → list_any (bytes_eq name) register_names ≡ false)
    (λ _ _ h. cc)
    (λ _ less _. some_found (bytes_eq name) register_names (not_less n (length register_names) less (prefix_within (λ x. not (bytes_eq name x)) register_names)))
    refl none

register_below : (name : List ℕ) (number : ℕ) → register_of name ≡ Some number → nat_lt number 16 ≡ true
unfolding register_of register_names
register_below name number is = lt-ltb number 16 (position-Some (bytes_eq name) register_names number [] is).0

other_is : (known : List (List ℕ)) (name : List ℕ) → list_all is_within_field name ≡ true → is_symbol name ≡ true → list_any (bytes_eq name) known ≡ false → is_other known name ≡ true
unfolding is_other
other_is known name within symbol none = both (both within symbol) (not_false none)

none_of : (a b : Bool) → a ≡ false → b ≡ false → (a || b) ≡ false
none_of true b first second = cc
none_of false b first second = second

register_target : (name : List ℕ) (o : Option ℕ) → register_of name ≡ o → list_all is_within_field name ≡ true → is_symbol name ≡ true → bytes_eq name (codes ".cfa") ≡ false → bytes_eq name (codes ".ra") ≡ false → is_target (option_map_or target.Reg o (target.Other name)) ≡ true
register_target name None is within symbol first second =
    other_is target_names name within symbol (none_of (bytes_eq name (codes ".cfa")) _ first (none_of (bytes_eq name (codes ".ra")) _ second (no_register_found name is)))
register_target name (Some number) is within symbol first second = register_below name number is

target_named : (name : List ℕ) → list_all is_within_field name ≡ true → is_symbol name ≡ true → is_target (named_target name) ≡ true
unfolding named_target
target_named name within symbol =
    let last : Target = option_map_or target.Reg (register_of name) (target.Other name) in
    elim_bool (bytes_eq name (codes ".cfa")) (λ t. is_target (cond t target.Cfa (cond (bytes_eq name (codes ".ra")) target.Ra last)) ≡ true)
    (λ _. refl)
    (λ first. elim_bool (bytes_eq name (codes ".ra")) (λ t. is_target (cond t target.Ra last) ≡ true)
    (λ _. refl)
    (λ second. register_target name (register_of name) refl within symbol first second))

all_taken : (p : ℕ → Bool) (n : ℕ) (xs : List ℕ) → list_all p xs ≡ true → list_all p (take n xs) ≡ true
all_taken p zero xs all = refl
all_taken p (suc n) [] all = refl
all_taken p (suc n) (x ∷ xs) all = both (and_true all).0 (all_taken p n xs (and_true all).1)

abbrev refuses : {A : Type 0} → Result A TextKind
refuses = Err Rule

abbrev gives : {A : Type 0} → A → Result A TextKind
gives x = Ok x

target_sound : (w : List ℕ) (t : Target) → list_all is_within_field w ≡ true → target_at w ≡ Ok t → is_target t ≡ true
unfolding target_at
target_sound w t within is =
    ⊎_elim
    (λ h. ap is_target (ok_same (named_target (but_last w)) t h.1) ∙ target_named (but_last w) (all_taken is_within_field (length w - 1) w within) (and_true {a = ends_in_colon w} h.0).1)
    (λ h. cc)
    (chosen (ends_in_colon w && is_symbol (but_last w)) (gives (named_target (but_last w))) refuses (Ok t) is)

-- A token that was read, and the last byte of its word.
pub record ReadToken (w : List ℕ) (t : Token) : Type 0 where
  pub is : is_token t ≡ true
  pub ends : last_is is_cr w ≡ false → ends_in_cr t ≡ false

register_read : (name : List ℕ) (o : Option ℕ) → register_of name ≡ o → list_all is_within_field name ≡ true → is_symbol name ≡ true → bytes_eq name (codes ".cfa") ≡ false → bytes_eq name (codes ".undef") ≡ false → ReadToken name (option_map_or token.Reg o (token.Other name))
register_read name None is within symbol first second = record {
  is = other_is token_names name within symbol (none_of (bytes_eq name (codes ".cfa")) _ first (none_of (bytes_eq name (codes ".undef")) _ second (no_register_found name is)));
  ends = λ ends. ends;
}
register_read name (Some number) is within symbol first second = record { is = register_below name number is; ends = λ _. refl }

token_named : (name : List ℕ) → list_all is_within_field name ≡ true → is_symbol name ≡ true → ReadToken name (named_token name)
unfolding named_token
token_named name within symbol =
    let last : Token = option_map_or token.Reg (register_of name) (token.Other name) in
    elim_bool (bytes_eq name (codes ".cfa")) (λ t. ReadToken name (cond t token.Cfa (cond (bytes_eq name (codes ".undef")) token.Undef last)))
    (λ _. record { is = refl; ends = λ _. refl })
    (λ first. elim_bool (bytes_eq name (codes ".undef")) (λ t. ReadToken name (cond t token.Undef last))
    (λ _. record { is = refl; ends = λ _. refl })
    (λ second. register_read name (register_of name) refl within symbol first second))

-- If an operator was read, it is a token; otherwise the word is read in another way.
abbrev IfRead : List ℕ → Option Token → Type 0
IfRead w None = Unit {0}
IfRead w (Some t) = ReadToken w t

sign_step : (w : List ℕ) (b : Bool) (t : Token) (rest : Option Token) → is_token t ≡ true → ends_in_cr t ≡ false → IfRead w rest → IfRead w (cond b (Some t) rest)
sign_step w true t rest is ends later = record { is = is; ends = λ _. ends }
sign_step w false t rest is ends later = later

sign_read : (w : List ℕ) → IfRead w (sign_of w)
unfolding sign_of
sign_read w =
    sign_step w (bytes_eq w (codes "+")) token.Add _ refl refl
    (sign_step w (bytes_eq w (codes "-")) token.Sub _ refl refl
    (sign_step w (bytes_eq w (codes "*")) token.Mul _ refl refl
    (sign_step w (bytes_eq w (codes "/")) token.Div _ refl refl
    (sign_step w (bytes_eq w (codes "%")) token.Rem _ refl refl
    (sign_step w (bytes_eq w (codes "@")) token.Align _ refl refl
    (sign_step w (bytes_eq w (codes "^")) token.Fetch None refl refl tt))))))

-- If an integer was read, it is in the range of i64.
abbrev IfFits : Option ℤ → Type 0
IfFits None = Unit {0}
IfFits (Some z) = fits_i64 z ≡ true

in_fits : (z : ℤ) → IfFits (in_i64 z)
in_fits z = elim_bool (fits_i64 z) (λ t. fits_i64 z ≡ t → IfFits (cond t (Some z) None)) (λ _ is. is) (λ _ _. tt) refl

if_fits : (b : Bool) (o p : Option ℤ) → IfFits o → IfFits p → IfFits (cond b o p)
if_fits true o p first second = first
if_fits false o p first second = second

integer_fits : (w : List ℕ) → IfFits (integer_of w)
unfolding integer_of
integer_fits w =
    if_fits (get_or w 0 0 == 45) _ _
    (if_fits (are_digits (drop 1 w)) _ None (in_fits (neg_ℤ (pos (digits_value 10 (drop 1 w))))) tt)
    (if_fits (are_digits w) _ None (in_fits (pos (digits_value 10 w))) tt)

read_some : (w : List ℕ) (o : Option Token) (t : Token) → IfRead w o → ok_or o Rule ≡ gives t → ReadToken w t
read_some w None t read is = cc
read_some w (Some u) t read is = subst (λ (x : Token). ReadToken w x) (sym (ok_same u t is)) read

number_or : (w : List ℕ) (o : Option ℤ) → IfFits o → IfRead w (sign_of w) → IfRead w (option_or (option_map token.Number o) (sign_of w))
number_or w None fits sign = sign
number_or w (Some z) fits sign = record { is = fits; ends = λ _. refl }

token_sound : (w : List ℕ) (t : Token) → list_all is_within_field w ≡ true → token_at w ≡ Ok t → ReadToken w t
unfolding token_at
token_sound w t within is =
    ⊎_elim
    (λ h. subst (λ (x : Token). ReadToken w x) (sym (ok_same (named_token w) t h.1)) (token_named w within h.0))
    (λ h. read_some w _ t (number_or w (integer_of w) (integer_fits w) (sign_read w)) h.1)
    (chosen (is_symbol w) (gives (named_token w)) (ok_or (option_or (option_map token.Number (integer_of w)) (sign_of w)) Rule) (Ok t) is)

abbrev within : List ℕ → Bool
within w = list_all is_within_field w

-- Whether a word ends in CR or is empty.
abbrev bad_end : List ℕ → Bool
bad_end w = last_is is_cr w || not (within w)

-- A rule that was read.
pub record ReadRule (group : List (List ℕ)) (r : RuleText) : Type 0 where
  pub is : is_rule r ≡ true
  pub ends : last_is bad_end group ≡ false → last_is ends_in_cr r.tokens ≡ false

not_not : (b : Bool) → not b ≡ false → b ≡ true
not_not true is = refl
not_not false is = cc

bad_not : (w : List ℕ) → bad_end w ≡ false → (last_is is_cr w ≡ false) × (within w ≡ true)
bad_not w is = elim_bool (last_is is_cr w) (λ t. (t || not (within w)) ≡ false → (t ≡ false) × (within w ≡ true)) (λ _ h. cc) (λ _ h. (refl, not_not (within w) h)) is

some_members : (given : List (List ℕ)) (ws : List (List ℕ)) → some_of given ≡ gives ws → (0 < length given) × (ws ≡ given)
some_members [] ws is = cc
some_members (w ∷ given) ws is = (omega arith, ok_same (w ∷ given) ws is)

some_read : (ws : List (List ℕ)) (ts : List Token) → 0 < length ws → each token_at ws ≡ Ok ts → nat_lt 0 (length ts) ≡ true
some_read [] ts some is = absurd (omega arith)
some_read (w ∷ ws) ts some is = ap (λ l. nat_lt 0 (length l)) (each_cons token_at w ws ts is).is ∙ lt-ltb 0 _ (omega arith)

token_end : (w : List ℕ) (t : Token) → token_at w ≡ Ok t → bad_end w ≡ false → ends_in_cr t ≡ false
token_end w t is good = let parts = bad_not w good in (token_sound w t parts.1 is).ends parts.0

later_end : (word : List ℕ) (later : List (List ℕ)) → 0 < length later → last_is bad_end (word ∷ later) ≡ last_is bad_end later
later_end word [] some = absurd (omega arith)
later_end word (w ∷ later) some = last_later bad_end word w later

rule_sound : (group : List (List ℕ)) (r : RuleText) → rule_at group ≡ Ok r → list_all within group ≡ true → ReadRule group r
unfolding rule_at is_rule
rule_sound [] r is all = cc
rule_sound (word ∷ later) r is all =
    let first = bind_ok (target_at word) _ r is in
    let second = bind_ok (some_of later) _ r first.2 in
    let third = bind_ok (each token_at second.0) _ r second.2 in
    let given = some_members later second.0 second.1 in
    let reads : each token_at later ≡ Ok third.0 = ap (each token_at) (sym given.1) ∙ third.1 in
    let made : RuleText = record { target = first.0; tokens = third.0 } in
    let parts = and_true {a = within word} {b = list_all within later} all in
    subst (λ (x : RuleText). ReadRule (word ∷ later) x) (sym (ok_same made r third.2)) (record {
      is = both (both (target_sound word first.0 parts.0 first.1) (some_read later third.0 given.0 reads))
          (each_all token_at within is_token (λ w t read in_field. (token_sound w t in_field read).is) later third.0 reads parts.1);
      ends = λ ends. each_last token_at bad_end ends_in_cr token_end later third.0 reads (sym (later_end word later given.0) ∙ ends);
    })

-- The last word does not end in CR and is not empty.
good_ends : (ws : List (List ℕ)) → list_all within ws ≡ true → last_is (last_is is_cr) ws ≡ false → last_is bad_end ws ≡ false
unfolding last_is
good_ends [] all ends = refl
good_ends (w ∷ []) all ends = ap (λ t. t || not (within w)) ends ∙ ap not (and_true all).0
good_ends (w ∷ v ∷ ws) all ends = good_ends (v ∷ ws) (and_true {a = within w} {b = list_all within (v ∷ ws)} all).1 ends

abbrev bad_group : List (List ℕ) → Bool
bad_group group = last_is bad_end group || not (list_all within group)

group_not : (group : List (List ℕ)) → bad_group group ≡ false → (last_is bad_end group ≡ false) × (list_all within group ≡ true)
group_not group is = elim_bool (last_is bad_end group) (λ t. (t || not (list_all within group)) ≡ false → (t ≡ false) × (list_all within group ≡ true)) (λ _ h. cc) (λ _ h. (refl, not_not (list_all within group) h)) is

good_groups : (gs : List (List (List ℕ))) → list_all (list_all within) gs ≡ true → last_is (last_is bad_end) gs ≡ false → last_is bad_group gs ≡ false
unfolding last_is
good_groups [] all ends = refl
good_groups (g ∷ []) all ends = ap (λ t. t || not (list_all within g)) ends ∙ ap not (and_true all).0
good_groups (g ∷ h ∷ gs) all ends = good_groups (h ∷ gs) (and_true {a = list_all within g} {b = list_all (list_all within) (h ∷ gs)} all).1 ends

abbrev cr_last : RuleText → Bool
cr_last rule = last_is ends_in_cr rule.tokens

rule_end : (g : List (List ℕ)) (r : RuleText) → rule_at g ≡ Ok r → bad_group g ≡ false → cr_last r ≡ false
rule_end g r is good = let parts = group_not g good in (rule_sound g r is parts.1).ends parts.0

some_rules : (g : List (List ℕ)) (gs : List (List (List ℕ))) (rules : List RuleText) → each rule_at (g ∷ gs) ≡ Ok rules → nat_lt 0 (length rules) ≡ true
some_rules g gs rules is = ap (λ l. nat_lt 0 (length l)) (each_cons rule_at g gs rules is).is ∙ lt-ltb 0 _ (omega arith)

groups_read : (gs : List (List (List ℕ))) (g : List (List ℕ)) (rules : List RuleText) → each rule_at (g ∷ gs) ≡ Ok rules → list_all (list_all within) (g ∷ gs) ≡ true → last_is (last_is bad_end) (g ∷ gs) ≡ false → are_rules rules ≡ true
unfolding are_rules end_in_cr
groups_read gs g rules is all ends =
    both (both (some_rules g gs rules is) (each_all rule_at (list_all within) is_rule (λ h r read in_fields. (rule_sound h r read in_fields).is) (g ∷ gs) rules is all))
    (not_false (each_last rule_at bad_group cr_last rule_end (g ∷ gs) rules is (good_groups (g ∷ gs) all ends)))

some_groups : (gs made : List (List (List ℕ))) → some_of gs ≡ gives made → made ≡ gs
some_groups [] made is = cc
some_groups (g ∷ gs) made is = ok_same (g ∷ gs) made is

words_nothing : words [] ≡ []
unfolding words
words_nothing = refl

groups_nothing : groups [] ≡ []
unfolding groups
groups_nothing = refl

nothing_read : (rules : List RuleText) → (some_of (groups (words [])) >>= each rule_at) ≡ gives rules → are_rules rules ≡ true
nothing_read rules is =
    let none : groups (words []) ≡ [] = ap groups words_nothing ∙ groups_nothing in
    let refused : (some_of {A = List (List ℕ)} [] >>= each rule_at) ≡ gives rules = sym (ap (λ gs. some_of gs >>= each rule_at) none) ∙ is in
    cc

-- Rules that were read from bytes without LF that do not end in a space or CR.
pub rules_sound : (bytes : List ℕ) (rules : List RuleText) → list_all is_within_line bytes ≡ true → last_is is_margin bytes ≡ false → rules_at bytes ≡ Ok rules → are_rules rules ≡ true
unfolding rules_at
rules_sound [] rules line ends is = nothing_read rules is
rules_sound (x ∷ bytes) rules line ends is =
    let found = words_sound x bytes line ends in
    let made = groups_sound (found.first ∷ found.word) found.later in
    let given = bind_ok (some_of (groups (words (x ∷ bytes)))) _ rules is in
    let same : given.0 ≡ (made.first ∷ made.group) ∷ made.later = some_groups _ given.0 given.1 ∙ ap groups found.is ∙ made.is in
    groups_read made.later (made.first ∷ made.group) rules (ap (each rule_at) (sym same) ∙ given.2)
    (made.within within found.within)
    (made.ends bad_end ∙ good_ends ((found.first ∷ found.word) ∷ found.later) found.within found.ends)
