-- The spelling of a number, a target, a token or a rule is no longer than the bytes from which it
-- was read.
use Rattle.std.proofs.Common.{◌≡◌, ◌≢◌, ℕ, ◌+◌, ◌-◌, ◌*◌, ◌/◌, ◌%◌, ◌^◌, ◌<◌, ◌≤◌, ◌==◌, ◌&&◌, cond, zero, suc, Bool, true, false, ℤ, pos, negsuc, neg_ℤ, List, [], ◌∷◌, length, drop, get_or, codes, Option, Some, None, ok_or, Result, Ok, Err, nat_lt, nat_le, refl, sym, ◌∙◌, ap, arith, subst, ⊎_elim, append-nil, length-append, length-drop}
use Rattle.std.specs.List.{list_all, flat_map}
use Rattle.std.specs.Option.{option_or, option_map, option_map_or, option_and_then}
use Rattle.std.specs.Char.{digit_value}
use Rattle.std.specs.Fmt.{decimal, signed_decimal, digit_glyph}
use Rattle.std.specs.Str.{bytes_eq}
use Rattle.std.specs.Str.Parse.{AllDigits, digits_value}
use Rattle.std.proofs.Math.Nat.{pow-suc}
use Rattle.std.proofs.lemmas.Fmt.{length-decimal-le}
use Rattle.std.proofs.lemmas.Int.Digits.{digits_value-lt}
use Rattle.std.proofs.lemmas.List.{length-take}
use Rattle.std.proofs.lemmas.List.Concat.{flat_map-append}
use Rattle.std.proofs.lemmas.List.Quantifiers.{position-Some}
use Rattle.std.proofs.lemmas.Bool.{ltb-true}
use Rattle.std.proofs.lemmas.Bool.Decides.{nat_tests}
use Rattle.std.proofs.lemmas.Slice.Eq.{bytes_eq-Decides}
use Rattle.sym_edges.specs.Abi.{register_names, register_name}
use Rattle.sym_edges.specs.Results.{◌>>=◌}
use Rattle.sym_rules.proofs.BoolLemmas.{and_true, elim_bool, chosen, bind_ok, no_bytes}
use Rattle.sym_rules.proofs.DigitsLemmas.{hex_left, hex_first}
use Rattle.sym_rules.proofs.EndLemmas.{last_nothing}
use Rattle.sym_rules.proofs.LengthLemmas.{length_rule}
use Rattle.sym_rules.proofs.WordLemmas.{parted, ok_same, each_cons}
use Rattle.sym_rules.specs.Cuts.{onto}
use Rattle.sym_rules.specs.RuleReading.{words, groups, begins_rule, ends_in_colon, is_symbol, register_of, named_target, but_last, target_at, is_digit, are_digits, in_i64, integer_of, sign_of, named_token, token_at, each, some_of, rule_at, rules_at}
use Rattle.sym_rules.specs.Rules.{target_name, token_word, spelled_token, spelled_rule, spelled_rules}
use Rattle.sym_rules.specs.declared.rules.Target.{Target}
use Rattle.sym_rules.specs.declared.rules.Target.TheVariants as target
use Rattle.sym_rules.specs.declared.rules.Token.{Token}
use Rattle.sym_rules.specs.declared.rules.Token.TheVariants as token
use Rattle.sym_rules.specs.declared.rules.RuleText.{RuleText}
use Rattle.sym_rules.specs.declared.text_fault.TextKind.{TextKind}
use Rattle.sym_rules.specs.declared.text_fault.TextKind.TheVariants.{Rule}
use Rattle.sym_records.specs.FieldReading.{hex_digit, hex_onto, hex_value, decimal_value}
use Rattle.sym_records.specs.Fields.{hex}
use Rattle.sym_grammar.proofs.NumberLemmas.{hex_grows}

-- Numbers.

left_last : (count n : ℕ) (acc : List ℕ) → n / 16 ≡ 0 → hex_left (suc count) n acc ≡ digit_glyph false (n % 16) ∷ acc
unfolding hex_left
left_last count n acc none = grind (arith, nat_tests)

-- The number of digits of a number.
left_short : (count k n : ℕ) (acc : List ℕ) → n < 16 ^ suc k → length (hex_left count n acc) ≤ suc k + length acc
unfolding hex_left
left_short zero k n acc small = omega arith
left_short (suc count) zero n acc small =
    let none : n / 16 ≡ 0 = omega arith in
    omega (arith, ap length (left_last count n acc none))
left_short (suc count) (suc k) n acc small =
    let power : 16 ^ suc (suc k) ≡ 16 ^ suc k * 16 = pow-suc 16 (suc k) in
    let less : n / 16 < 16 ^ suc k = (let whole : n < 16 ^ suc k * 16 = subst (λ (p : ℕ). n < p) power small in omega (arith, whole)) in
    elim_bool (n / 16 == 0) (λ t. length (cond t (digit_glyph false (n % 16) ∷ acc) (hex_left count (n / 16) (digit_glyph false (n % 16) ∷ acc))) ≤ suc (suc k) + length acc)
    (λ _. omega arith)
    (λ _. omega (arith, left_short count k (n / 16) (digit_glyph false (n % 16) ∷ acc) less))

hex_few : (k n : ℕ) → n < 16 ^ suc k → length (hex n) ≤ suc k
hex_few k n small = omega (arith, left_short 64 k n [] small, ap length (hex_first n [] ∙ append-nil (hex n)))

digit_below : (d v : ℕ) → hex_digit d ≡ Some v → v < 16
unfolding hex_digit
digit_below d v is =
    elim_bool (nat_lt (digit_value d) 16) (λ t. nat_lt (digit_value d) 16 ≡ t → cond t (Some (digit_value d)) None ≡ Some v → v < 16)
    (λ _ low h. (let same : digit_value d ≡ v = cc in omega (arith, same, ltb-true (digit_value d) 16 low))) (λ _ _ h. cc) refl is

next_some : (f : ℕ → Option ℕ) (o : Option ℕ) (n : ℕ) → option_and_then f o ≡ Some n → (v : ℕ) × (o ≡ Some v) × (f v ≡ Some n)
next_some f None n is = cc
next_some f (Some v) n is = (v, refl, is)

onto_below : (m n j : ℕ) (ds : List ℕ) → hex_onto m ds ≡ Some n → m < 16 ^ j → n < 16 ^ (j + length ds)
unfolding hex_onto
onto_below m n j [] is less =
    let same : m ≡ n = cc in
    let all : j ≡ j + length {A = ℕ} [] = omega arith in
    subst (λ (k : ℕ). n < 16 ^ k) all (subst (λ (x : ℕ). x < 16 ^ j) same less)
onto_below m n j (d ∷ ds) is less =
    let step = next_some (λ v. hex_onto (m * 16 + v) ds) (hex_digit d) n is in
    let all : (j + 1) + length ds ≡ j + length (d ∷ ds) = omega arith in
    subst (λ (k : ℕ). n < 16 ^ k) all (onto_below (m * 16 + step.0) n (j + 1) ds step.2 (hex_grows m step.0 j less (digit_below d step.0 step.1)))

value_onto : (ds : List ℕ) (n : ℕ) → hex_value ds ≡ Some n → hex_onto 0 ds ≡ Some n
unfolding hex_value
value_onto ds n is = ⊎_elim (λ h. cc) (λ h. h.1) (chosen (nat_lt 16 (length ds)) None (hex_onto 0 ds) (Some n) is)

pub hex_short : (ds : List ℕ) (n : ℕ) → 0 < length ds → hex_value ds ≡ Some n → length (hex n) ≤ length ds
hex_short ds n some is =
    let less : n < 16 ^ (0 + length ds) = onto_below 0 n 0 ds (value_onto ds n is) (omega arith) in
    let size : 0 + length ds ≡ suc (length ds - 1) = omega arith in
    omega (arith, hex_few (length ds - 1) n (subst (λ (k : ℕ). n < 16 ^ k) size less))

all_ten : (ds : List ℕ) → list_all is_digit ds ≡ true → AllDigits 10 ds
all_ten [] all = tt
all_ten (d ∷ ds) all = (ltb-true (digit_value d) 10 (and_true all).0, all_ten ds (and_true {a = is_digit d} all).1)

digits_short : (ds : List ℕ) → are_digits ds ≡ true → digits_value 10 ds < 2 ^ 64 → length (decimal (digits_value 10 ds)) ≤ length ds
unfolding are_digits
digits_short ds are small =
    let parts = and_true {a = nat_lt 0 (length ds) && nat_le (length ds) 20} are in
    length-decimal-le (length ds) (digits_value 10 ds) (no_bytes ds (and_true parts.0).0) (digits_value-lt 10 ds (all_ten ds parts.1)) small

digits_some : (ds : List ℕ) → are_digits ds ≡ true → 0 < length ds
unfolding are_digits
digits_some ds are = no_bytes ds (and_true (and_true {a = nat_lt 0 (length ds) && nat_le (length ds) 20} are).0).0

pub decimal_short : (ds : List ℕ) (n : ℕ) → decimal_value ds ≡ Some n → length (decimal n) ≤ length ds
unfolding decimal_value
decimal_short ds n is = ⊎_elim
    (λ h. (let parts = and_true {a = are_digits ds} h.0 in
    let same : digits_value 10 ds ≡ n = cc in
    let low : digits_value 10 ds < 2 ^ 32 = ltb-true (digits_value 10 ds) (2 ^ 32) parts.1 in
    subst (λ (v : ℕ). length (decimal v) ≤ length ds) same (digits_short ds parts.0 (omega arith))))
    (λ h. cc)
    (chosen (are_digits ds && nat_lt (digits_value 10 ds) (2 ^ 32)) (Some (digits_value 10 ds)) None (Some n) is)

-- Names.

same_long : (xs ys : List ℕ) → bytes_eq xs ys ≡ true → length ys ≤ length xs
same_long xs ys is = omega (arith, ap length ((bytes_eq-Decides xs ys).0 is))

register_long : (name : List ℕ) (number : ℕ) → register_of name ≡ Some number → length (register_name number) ≤ length name
unfolding register_of register_name
register_long name number is = same_long name (get_or register_names number []) (position-Some (bytes_eq name) register_names number [] is).1

target_register : (name : List ℕ) (o : Option ℕ) → register_of name ≡ o → length (target_name (option_map_or target.Reg o (target.Other name))) ≤ length name
target_register name None is = omega arith
target_register name (Some number) is = register_long name number is

target_long : (name : List ℕ) → length (target_name (named_target name)) ≤ length name
unfolding named_target
target_long name =
    let last : Target = option_map_or target.Reg (register_of name) (target.Other name) in
    elim_bool (bytes_eq name (codes ".cfa")) (λ t. bytes_eq name (codes ".cfa") ≡ t → length (target_name (cond t target.Cfa (cond (bytes_eq name (codes ".ra")) target.Ra last))) ≤ length name)
    (λ _ is. same_long name (codes ".cfa") is)
    (λ _ _. elim_bool (bytes_eq name (codes ".ra")) (λ t. bytes_eq name (codes ".ra") ≡ t → length (target_name (cond t target.Ra last)) ≤ length name)
    (λ _ is. same_long name (codes ".ra") is)
    (λ _ _. target_register name (register_of name) refl) refl) refl

token_register : (name : List ℕ) (o : Option ℕ) → register_of name ≡ o → length (token_word (option_map_or token.Reg o (token.Other name))) ≤ length name
token_register name None is = omega arith
token_register name (Some number) is = register_long name number is

token_long : (name : List ℕ) → length (token_word (named_token name)) ≤ length name
unfolding named_token
token_long name =
    let last : Token = option_map_or token.Reg (register_of name) (token.Other name) in
    elim_bool (bytes_eq name (codes ".cfa")) (λ t. bytes_eq name (codes ".cfa") ≡ t → length (token_word (cond t token.Cfa (cond (bytes_eq name (codes ".undef")) token.Undef last))) ≤ length name)
    (λ _ is. same_long name (codes ".cfa") is)
    (λ _ _. elim_bool (bytes_eq name (codes ".undef")) (λ t. bytes_eq name (codes ".undef") ≡ t → length (token_word (cond t token.Undef last)) ≤ length name)
    (λ _ is. same_long name (codes ".undef") is)
    (λ _ _. token_register name (register_of name) refl) refl) refl

-- Targets and tokens.

colon_some : (w : List ℕ) → ends_in_colon w ≡ true → 0 < length w
colon_some [] is = (let none = last_nothing (λ (b : ℕ). b == 58) in cc)
colon_some (x ∷ w) is = omega arith

abbrev gives : {A : Type 0} → A → Result A TextKind
gives x = Ok x

abbrev refuses : {A : Type 0} → Result A TextKind
refuses = Err Rule

target_short : (w : List ℕ) (t : Target) → target_at w ≡ Ok t → length (target_name t) + 1 ≤ length w
unfolding target_at
target_short w t is = ⊎_elim
    (λ h. (let some = colon_some w (and_true {a = ends_in_colon w} h.0).0 in
    let same : t ≡ named_target (but_last w) = ok_same (named_target (but_last w)) t h.1 in
    omega (arith, some, ap (λ u. length (target_name u)) same, target_long (but_last w), length-take (length w - 1) w)))
    (λ h. cc)
    (chosen (ends_in_colon w && is_symbol (but_last w)) (gives (named_target (but_last w))) refuses (Ok t) is)

-- If an operator was read, its spelling is as long; otherwise the word is read in another way.
abbrev IfShort : List ℕ → Option Token → Type 0
IfShort w None = Unit {0}
IfShort w (Some t) = length (token_word t) ≤ length w

sign_step : (w : List ℕ) (b : Bool) (t : Token) (rest : Option Token) → (b ≡ true → length (token_word t) ≤ length w) → IfShort w rest → IfShort w (cond b (Some t) rest)
sign_step w true t rest is later = is refl
sign_step w false t rest is later = later

sign_short : (w : List ℕ) → IfShort w (sign_of w)
unfolding sign_of
sign_short w =
    sign_step w (bytes_eq w (codes "+")) token.Add _ (same_long w (codes "+"))
    (sign_step w (bytes_eq w (codes "-")) token.Sub _ (same_long w (codes "-"))
    (sign_step w (bytes_eq w (codes "*")) token.Mul _ (same_long w (codes "*"))
    (sign_step w (bytes_eq w (codes "/")) token.Div _ (same_long w (codes "/"))
    (sign_step w (bytes_eq w (codes "%")) token.Rem _ (same_long w (codes "%"))
    (sign_step w (bytes_eq w (codes "@")) token.Align _ (same_long w (codes "@"))
    (sign_step w (bytes_eq w (codes "^")) token.Fetch None (same_long w (codes "^")) tt))))))

abbrev IfInteger : List ℕ → Option ℤ → Type 0
IfInteger w None = Unit {0}
IfInteger w (Some z) = length (signed_decimal z) ≤ length w

positive_short : (w : List ℕ) (v : ℕ) → (v < 2 ^ 64 → length (decimal v) ≤ length w) → IfInteger w (in_i64 (pos v))
positive_short w v short = elim_bool (nat_lt v (2 ^ 63)) (λ t. nat_lt v (2 ^ 63) ≡ t → IfInteger w (cond t (Some (pos v)) None))
    (λ _ low. (let less : v < 2 ^ 63 = ltb-true v (2 ^ 63) low in short (omega arith))) (λ _ _. tt) refl

negative_short : (w ds : List ℕ) (v : ℕ) → (v < 2 ^ 64 → length (decimal v) ≤ length ds) → length ds + 1 ≤ length w → IfInteger w (in_i64 (neg_ℤ (pos v)))
negative_short w ds zero short within = (let size : length (decimal zero) ≤ length ds = short (omega arith) in omega (arith, size))
negative_short w ds (suc m) short within = elim_bool (nat_lt m (2 ^ 63)) (λ t. nat_lt m (2 ^ 63) ≡ t → IfInteger w (cond t (Some (negsuc m)) None))
    (λ _ low. (let less : m < 2 ^ 63 = ltb-true m (2 ^ 63) low in
    let size : length (decimal (suc m)) ≤ length ds = short (omega arith) in omega (arith, size))) (λ _ _. tt) refl

integer_short : (w : List ℕ) → IfInteger w (integer_of w)
unfolding integer_of
integer_short w =
    elim_bool (get_or w 0 0 == 45) (λ t. IfInteger w (cond t (cond (are_digits (drop 1 w)) (in_i64 (neg_ℤ (pos (digits_value 10 (drop 1 w))))) None) (cond (are_digits w) (in_i64 (pos (digits_value 10 w))) None)))
    (λ _. elim_bool (are_digits (drop 1 w)) (λ t. are_digits (drop 1 w) ≡ t → IfInteger w (cond t (in_i64 (neg_ℤ (pos (digits_value 10 (drop 1 w))))) None))
    (λ _ are. negative_short w (drop 1 w) (digits_value 10 (drop 1 w)) (λ small. digits_short (drop 1 w) are small) (omega (arith, digits_some (drop 1 w) are, length-drop 1 w)))
    (λ _ _. tt) refl)
    (λ _. elim_bool (are_digits w) (λ t. are_digits w ≡ t → IfInteger w (cond t (in_i64 (pos (digits_value 10 w))) None))
    (λ _ are. positive_short w (digits_value 10 w) (λ small. digits_short w are small)) (λ _ _. tt) refl)

number_or : (w : List ℕ) (o : Option ℤ) → IfInteger w o → IfShort w (sign_of w) → IfShort w (option_or (option_map token.Number o) (sign_of w))
number_or w None integer sign = sign
number_or w (Some z) integer sign = integer

some_short : (w : List ℕ) (o : Option Token) (t : Token) → IfShort w o → ok_or o Rule ≡ gives t → length (token_word t) ≤ length w
some_short w None t short is = cc
some_short w (Some u) t short is = omega (arith, short, ap (λ x. length (token_word x)) (ok_same u t is))

token_short : (w : List ℕ) (t : Token) → token_at w ≡ Ok t → length (token_word t) ≤ length w
unfolding token_at
token_short w t is = ⊎_elim
    (λ h. omega (arith, token_long w, ap (λ x. length (token_word x)) (ok_same (named_token w) t h.1)))
    (λ h. some_short w _ t (number_or w (integer_of w) (integer_short w) (sign_short w)) h.1)
    (chosen (is_symbol w) (gives (named_token w)) (ok_or (option_or (option_map token.Number (integer_of w)) (sign_of w)) Rule) (Ok t) is)

-- Rules.

none_read : (ts : List Token) → each token_at [] ≡ gives ts → ts ≡ []
unfolding each
none_read ts is = ok_same [] ts is

tokens_short : (ws : List (List ℕ)) (ts : List Token) → each token_at ws ≡ Ok ts → length (flat_map spelled_token ts) ≤ length (parted ws)
tokens_short [] ts is = omega (arith, ap (λ l. length (flat_map spelled_token l)) (none_read ts is))
tokens_short (w ∷ ws) ts is =
    let parts = each_cons token_at w ws ts is in
    omega (arith, ap (λ l. length (flat_map spelled_token l)) parts.is, length-append (spelled_token parts.head) (flat_map spelled_token parts.tail), length-append (32 ∷ w) (parted ws), token_short w parts.head parts.reads, tokens_short ws parts.tail parts.later)

given_is : (given ws : List (List ℕ)) → some_of given ≡ gives ws → ws ≡ given
given_is [] ws is = cc
given_is (w ∷ given) ws is = ok_same (w ∷ given) ws is

rule_short : (g : List (List ℕ)) (r : RuleText) → rule_at g ≡ Ok r → length (spelled_rule r) ≤ length (parted g)
unfolding rule_at
rule_short [] r is = cc
rule_short (w ∷ later) r is =
    let first = bind_ok (target_at w) _ r is in
    let second = bind_ok (some_of later) _ r first.2 in
    let third = bind_ok (each token_at second.0) _ r second.2 in
    let reads : each token_at later ≡ Ok third.0 = ap (each token_at) (sym (given_is later second.0 second.1)) ∙ third.1 in
    let made : RuleText = record { target = first.0; tokens = third.0 } in
    omega (arith, ap (λ x. length (spelled_rule x)) (ok_same made r third.2), length_rule made, length-append (32 ∷ w) (parted later), target_short w first.0 first.1, tokens_short later third.0 reads)

abbrev flat : List (List (List ℕ)) → List (List ℕ)
flat gs = flat_map (λ g. g) gs

no_rules : (rules : List RuleText) → each rule_at [] ≡ gives rules → rules ≡ []
unfolding each
no_rules rules is = ok_same [] rules is

each_short : (gs : List (List (List ℕ))) (rules : List RuleText) → each rule_at gs ≡ Ok rules → length (flat_map spelled_rule rules) ≤ length (parted (flat gs))
each_short [] rules is = omega (arith, ap (λ l. length (flat_map spelled_rule l)) (no_rules rules is))
each_short (g ∷ gs) rules is =
    let parts = each_cons rule_at g gs rules is in
    omega (arith, ap (λ l. length (flat_map spelled_rule l)) parts.is, length-append (spelled_rule parts.head) (flat_map spelled_rule parts.tail), ap length (flat_map-append (λ f. 32 ∷ f) g (flat gs)), length-append (parted g) (parted (flat gs)), rule_short g parts.head parts.reads, each_short gs parts.tail parts.later)

flat_onto : (w : List ℕ) (gs : List (List (List ℕ))) → flat (onto w gs) ≡ w ∷ flat gs
flat_onto w [] = refl
flat_onto w (g ∷ gs) = refl

-- The groups of words together have all words.
groups_flat : (ws : List (List ℕ)) → flat (groups ws) ≡ ws
unfolding groups
groups_flat [] = refl
groups_flat (w ∷ later) =
    elim_bool (begins_rule later) (λ t. flat (cond t ((w ∷ []) ∷ groups later) (onto w (groups later))) ≡ w ∷ later)
    (λ _. ap (λ l. w ∷ l) (groups_flat later)) (λ _. flat_onto w (groups later) ∙ ap (λ l. w ∷ l) (groups_flat later))

some_groups : (gs made : List (List (List ℕ))) → some_of gs ≡ gives made → made ≡ gs
some_groups [] made is = cc
some_groups (g ∷ gs) made is = ok_same (g ∷ gs) made is

pub rules_short : (bytes : List ℕ) (rules : List RuleText) → rules_at bytes ≡ Ok rules → length (spelled_rules rules) ≤ length (parted (words bytes))
unfolding rules_at spelled_rules
rules_short bytes rules is =
    let given = bind_ok (some_of (groups (words bytes))) _ rules is in
    let reads : each rule_at (groups (words bytes)) ≡ Ok rules = ap (each rule_at) (sym (some_groups (groups (words bytes)) given.0 given.1)) ∙ given.2 in
    omega (arith, each_short (groups (words bytes)) rules reads, ap (λ l. length (parted l)) (groups_flat (words bytes)))

groups_nothing : groups [] ≡ []
unfolding groups
groups_nothing = refl

-- If no word is left, there are no rules.
pub rules_some : (bytes : List ℕ) (rules : List RuleText) → rules_at bytes ≡ Ok rules → words bytes ≢ []
unfolding rules_at
rules_some bytes rules is none =
    let refused : (some_of {A = List (List ℕ)} [] >>= each rule_at) ≡ gives rules = sym (ap (λ ws. some_of ws >>= each rule_at) (ap groups none ∙ groups_nothing)) ∙ is in
    cc
