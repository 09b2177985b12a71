-- Targets and tokens are read from the words that spell them.
use Rattle.std.proofs.Common.{◌≡◌, ℕ, ◌+◌, ◌-◌, ◌^◌, ◌<◌, ◌≤◌, ◌==◌, ◌&&◌, ◌||◌, cond, suc, Bool, true, false, not, ℤ, pos, negsuc, neg_ℤ, List, [], ◌∷◌, ◌++◌, length, take, drop, get_or, codes, Some, None, ok_or, Ok, Err, nat_lt, nat_le, refl, ◌∙◌, ap, arith, length-append}
use Rattle.std.specs.List.{list_all, list_any, prefix_len}
use Rattle.std.specs.Option.{option_or, option_map, option_map_or}
use Rattle.std.specs.Char.{digit_value}
use Rattle.std.specs.Str.{bytes_eq}
use Rattle.std.specs.Str.Parse.{AllDigits, digits_value}
use Rattle.std.specs.Fmt.{decimal}
use Rattle.std.proofs.Math.Seq.{take-append_seam}
use Rattle.std.proofs.lemmas.Fmt.{decimal_is_IsNumeral, length-decimal-le}
use Rattle.std.proofs.lemmas.Str.Parse.{digit_from_value}
use Rattle.std.proofs.lemmas.Bool.{lt-ltb, le-leb, ltb-true}
use Rattle.std.proofs.lemmas.Bool.Decides.{nat_tests}
use borrow.Author.Count.{below_none, below_more}
use Rattle.sym_rules.proofs.BoolLemmas.{and_true, both, not_false, not_true}
use Rattle.sym_rules.proofs.EndLemmas.{end_behind, last_one, last_none}
use Rattle.sym_rules.proofs.WordLemmas.{is_word, goes_on}
use Rattle.sym_rules.specs.Cuts.{is_cr, is_margin, is_within_field, last_is}
use Rattle.sym_edges.specs.Abi.{register_names, register_name}
use Rattle.sym_rules.specs.Rules.{target_name, token_word, target_word}
use Rattle.sym_edges.specs.Integers.{fits_i64}
use Rattle.sym_rules.specs.RuleReading.{ends_in_colon, begins_symbol, is_symbol, register_of, named_target, but_last, target_at, is_digit, are_digits, in_i64, integer_of, sign_of, named_token, token_at}
use Rattle.sym_rules.specs.RuleValidity.{is_other, target_names, token_names, is_target, is_token, ends_in_cr}
use Rattle.sym_rules.specs.declared.rules.Target.{Target}
use Rattle.sym_rules.specs.declared.rules.Target.TheVariants as target
use Rattle.sym_rules.specs.declared.rules.Token.{Token}
use Rattle.sym_rules.specs.declared.rules.Token.TheVariants as token
use Rattle.sym_rules.specs.declared.text_fault.TextKind.TheVariants.{Rule}

-- Facts about the name of a register.
pub record RegisterParts (number : ℕ) : Type 0 where
  pub symbol : is_symbol (register_name number) ≡ true
  pub within : list_all is_within_field (register_name number) ≡ true
  pub is_target : named_target (register_name number) ≡ target.Reg number
  pub is_token : named_token (register_name number) ≡ token.Reg number
  pub ends : last_is is_margin (register_name number) ≡ false
  pub short : nat_le (length (register_name number)) 4 ≡ true

register_parts_0 : RegisterParts 0
unfolding is_symbol register_names register_name register_of named_target named_token last_is
register_parts_0 = record { symbol = refl; within = refl; is_target = refl; is_token = refl; ends = refl; short = refl }

register_parts_1 : RegisterParts 1
unfolding is_symbol register_names register_name register_of named_target named_token last_is
register_parts_1 = record { symbol = refl; within = refl; is_target = refl; is_token = refl; ends = refl; short = refl }

register_parts_2 : RegisterParts 2
unfolding is_symbol register_names register_name register_of named_target named_token last_is
register_parts_2 = record { symbol = refl; within = refl; is_target = refl; is_token = refl; ends = refl; short = refl }

register_parts_3 : RegisterParts 3
unfolding is_symbol register_names register_name register_of named_target named_token last_is
register_parts_3 = record { symbol = refl; within = refl; is_target = refl; is_token = refl; ends = refl; short = refl }

register_parts_4 : RegisterParts 4
unfolding is_symbol register_names register_name register_of named_target named_token last_is
register_parts_4 = record { symbol = refl; within = refl; is_target = refl; is_token = refl; ends = refl; short = refl }

register_parts_5 : RegisterParts 5
unfolding is_symbol register_names register_name register_of named_target named_token last_is
register_parts_5 = record { symbol = refl; within = refl; is_target = refl; is_token = refl; ends = refl; short = refl }

register_parts_6 : RegisterParts 6
unfolding is_symbol register_names register_name register_of named_target named_token last_is
register_parts_6 = record { symbol = refl; within = refl; is_target = refl; is_token = refl; ends = refl; short = refl }

register_parts_7 : RegisterParts 7
unfolding is_symbol register_names register_name register_of named_target named_token last_is
register_parts_7 = record { symbol = refl; within = refl; is_target = refl; is_token = refl; ends = refl; short = refl }

register_parts_8 : RegisterParts 8
unfolding is_symbol register_names register_name register_of named_target named_token last_is
register_parts_8 = record { symbol = refl; within = refl; is_target = refl; is_token = refl; ends = refl; short = refl }

register_parts_9 : RegisterParts 9
unfolding is_symbol register_names register_name register_of named_target named_token last_is
register_parts_9 = record { symbol = refl; within = refl; is_target = refl; is_token = refl; ends = refl; short = refl }

register_parts_10 : RegisterParts 10
unfolding is_symbol register_names register_name register_of named_target named_token last_is
register_parts_10 = record { symbol = refl; within = refl; is_target = refl; is_token = refl; ends = refl; short = refl }

register_parts_11 : RegisterParts 11
unfolding is_symbol register_names register_name register_of named_target named_token last_is
register_parts_11 = record { symbol = refl; within = refl; is_target = refl; is_token = refl; ends = refl; short = refl }

register_parts_12 : RegisterParts 12
unfolding is_symbol register_names register_name register_of named_target named_token last_is
register_parts_12 = record { symbol = refl; within = refl; is_target = refl; is_token = refl; ends = refl; short = refl }

register_parts_13 : RegisterParts 13
unfolding is_symbol register_names register_name register_of named_target named_token last_is
register_parts_13 = record { symbol = refl; within = refl; is_target = refl; is_token = refl; ends = refl; short = refl }

register_parts_14 : RegisterParts 14
unfolding is_symbol register_names register_name register_of named_target named_token last_is
register_parts_14 = record { symbol = refl; within = refl; is_target = refl; is_token = refl; ends = refl; short = refl }

register_parts_15 : RegisterParts 15
unfolding is_symbol register_names register_name register_of named_target named_token last_is
register_parts_15 = record { symbol = refl; within = refl; is_target = refl; is_token = refl; ends = refl; short = refl }

pub register_parts : (number : ℕ) → number < 16 → RegisterParts number
register_parts = below_more RegisterParts 15 (below_more RegisterParts 14 (below_more RegisterParts 13 (below_more RegisterParts 12 (below_more RegisterParts 11 (below_more RegisterParts 10 (below_more RegisterParts 9 (below_more RegisterParts 8 (below_more RegisterParts 7 (below_more RegisterParts 6 (below_more RegisterParts 5 (below_more RegisterParts 4 (below_more RegisterParts 3 (below_more RegisterParts 2 (below_more RegisterParts 1 (below_more RegisterParts 0 (below_none RegisterParts) register_parts_0) register_parts_1) register_parts_2) register_parts_3) register_parts_4) register_parts_5) register_parts_6) register_parts_7) register_parts_8) register_parts_9) register_parts_10) register_parts_11) register_parts_12) register_parts_13) register_parts_14) register_parts_15

below_16 : (n : ℕ) → nat_lt n 16 ≡ true → n < 16
below_16 n is = ltb-true n 16 is

pub or_false : (a b : Bool) → (a || b) ≡ false → (a ≡ false) × (b ≡ false)
or_false true b is = cc
or_false false b is = (refl, is)

one_more : (n : ℕ) → 1 + n ≡ suc n
one_more n = omega arith

none_found : (p : List ℕ → Bool) (known : List (List ℕ)) → list_any p known ≡ false → prefix_len (λ x. not (p x)) known ≡ length known
none_found p [] none = refl
none_found p (x ∷ known) none =
    let parts = or_false (p x) (list_any p known) none in
    ap (λ t. cond (not t) (1 + prefix_len (λ y. not (p y)) known) 0) parts.0 ∙ ap (λ n. 1 + n) (none_found p known parts.1) ∙ one_more (length known)

not_below : (n : ℕ) → nat_lt n n ≡ false
not_below n = grind (arith, nat_tests)

no_register : (name : List ℕ) → list_any (bytes_eq name) register_names ≡ false → register_of name ≡ None
unfolding register_of register_names
no_register name none =
    let n : ℕ = prefix_len (λ x. not (bytes_eq name x)) register_names in
    let same : n ≡ length register_names = none_found (bytes_eq name) register_names none in
    ap (λ k. cond (nat_lt k (length register_names)) (Some k) None) same

-- Facts about a name without a variant of its own.
pub record OtherParts (known : List (List ℕ)) (name : List ℕ) : Type 0 where
  pub within : list_all is_within_field name ≡ true
  pub symbol : is_symbol name ≡ true
  pub other : list_any (bytes_eq name) known ≡ false

pub other_parts : (known : List (List ℕ)) (name : List ℕ) → is_other known name ≡ true → OtherParts known name
unfolding is_other
other_parts known name is = record { within = (and_true (and_true is).0).0; symbol = (and_true (and_true is).0).1; other = not_true (and_true is).1 }

other_target : (name : List ℕ) → list_any (bytes_eq name) target_names ≡ false → named_target name ≡ target.Other name
unfolding named_target
other_target name none =
    let first = or_false (bytes_eq name (codes ".cfa")) (list_any (bytes_eq name) (codes ".ra" ∷ register_names)) none in
    let second = or_false (bytes_eq name (codes ".ra")) (list_any (bytes_eq name) register_names) first.1 in
    ap (λ t. cond t target.Cfa (cond (bytes_eq name (codes ".ra")) target.Ra (option_map_or target.Reg (register_of name) (target.Other name)))) first.0
    ∙ ap (λ t. cond t target.Ra (option_map_or target.Reg (register_of name) (target.Other name))) second.0
    ∙ ap (λ o. option_map_or target.Reg o (target.Other name)) (no_register name second.1)

other_token : (name : List ℕ) → list_any (bytes_eq name) token_names ≡ false → named_token name ≡ token.Other name
unfolding named_token
other_token name none =
    let first = or_false (bytes_eq name (codes ".cfa")) (list_any (bytes_eq name) (codes ".undef" ∷ register_names)) none in
    let second = or_false (bytes_eq name (codes ".undef")) (list_any (bytes_eq name) register_names) first.1 in
    ap (λ t. cond t token.Cfa (cond (bytes_eq name (codes ".undef")) token.Undef (option_map_or token.Reg (register_of name) (token.Other name)))) first.0
    ∙ ap (λ t. cond t token.Undef (option_map_or token.Reg (register_of name) (token.Other name))) second.0
    ∙ ap (λ o. option_map_or token.Reg o (token.Other name)) (no_register name second.1)

-- Facts about the name of a target.
pub record TargetParts (t : Target) : Type 0 where
  pub within : list_all is_within_field (target_name t) ≡ true
  pub symbol : is_symbol (target_name t) ≡ true
  pub named : named_target (target_name t) ≡ t

pub target_parts : (t : Target) → is_target t ≡ true → TargetParts t
unfolding is_symbol named_target last_is
target_parts target.Cfa is = record { within = refl; symbol = refl; named = refl }
target_parts target.Ra is = record { within = refl; symbol = refl; named = refl }
target_parts (target.Reg number) is = let parts = register_parts number (below_16 number is) in record { within = parts.within; symbol = parts.symbol; named = parts.is_target }
target_parts (target.Other name) is = let parts = other_parts target_names name is in record { within = parts.within; symbol = parts.symbol; named = other_target name parts.other }

all_behind : (p : ℕ → Bool) (xs ys : List ℕ) → list_all p xs ≡ true → list_all p ys ≡ true → list_all p (xs ++ ys) ≡ true
all_behind p [] ys first second = second
all_behind p (x ∷ xs) ys first second = both (and_true first).0 (all_behind p xs ys (and_true first).1 second)

front_kept : (name : List ℕ) → but_last (name ++ 58 ∷ []) ≡ name
front_kept name =
    let count : length (name ++ 58 ∷ []) - 1 ≡ length name = omega (arith, length-append name (58 ∷ [])) in
    ap (λ n. take n (name ++ 58 ∷ [])) count ∙ take-append_seam name (58 ∷ [])

pub target_ends : (t : Target) → ends_in_colon (target_word t) ≡ true
target_ends t = end_behind (λ b. b == 58) (target_name t) 58 [] ∙ last_one (λ b. b == 58) 58

pub target_reads : (t : Target) → is_target t ≡ true → target_at (target_word t) ≡ Ok t
unfolding target_at
target_reads t is =
    let parts = target_parts t is in
    ap (λ c. cond (c && is_symbol (but_last (target_word t))) (Ok (named_target (but_last (target_word t)))) (Err Rule)) (target_ends t)
    ∙ ap (λ n. cond (is_symbol n) (Ok (named_target n)) (Err Rule)) (front_kept (target_name t))
    ∙ ap (λ c. cond c (Ok (named_target (target_name t))) (Err Rule)) parts.symbol
    ∙ ap Ok parts.named

word_of : (w : List ℕ) → 0 < length w → list_all is_within_field w ≡ true → is_word w ≡ true
word_of [] some within = absurd (omega arith)
word_of (x ∷ w) some within = within

symbol_some : (name : List ℕ) → is_symbol name ≡ true → 0 < length name
unfolding is_symbol
symbol_some [] is = cc
symbol_some (x ∷ name) is = omega arith

pub target_is_word : (t : Target) → is_target t ≡ true → is_word (target_word t) ≡ true
target_is_word t is =
    let parts = target_parts t is in
    let some : 0 < length (target_word t) = omega (arith, length-append (target_name t) (58 ∷ [])) in
    word_of (target_word t) some (all_behind is_within_field (target_name t) (58 ∷ []) parts.within refl)

digit_byte : (p : ℕ → Bool) → ((c : ℕ) → 48 ≤ c → c ≤ 57 → p c ≡ true) → (ds : List ℕ) → AllDigits 10 ds → list_all p ds ≡ true
digit_byte p one [] all = refl
digit_byte p one (d ∷ ds) all = let range = digit_from_value d all.0 in both (one d range.0 range.1) (digit_byte p one ds all.1)

abbrev pub is_ten : ℕ → Bool
is_ten c = nat_le 48 c && nat_le c 57

ten_is : (c : ℕ) → 48 ≤ c → c ≤ 57 → is_ten c ≡ true
ten_is c low high = grind (arith, nat_tests)

ten_low : (c : ℕ) → is_ten c ≡ true → 48 ≤ c
ten_low c is = grind (arith, nat_tests)

ten_high : (c : ℕ) → is_ten c ≡ true → c ≤ 57
ten_high c is = grind (arith, nat_tests)

within_ten : (c : ℕ) → 48 ≤ c → c ≤ 57 → is_within_field c ≡ true
within_ten c low high = grind (arith, nat_tests)

digit_ten : (c : ℕ) → 48 ≤ c → c ≤ 57 → begins_symbol c ≡ false
digit_ten c low high = grind (arith, nat_tests)

value_is : (d : ℕ) → digit_value d < 10 → is_digit d ≡ true
value_is d below = grind (arith, nat_tests)

are_all_digits : (ds : List ℕ) → AllDigits 10 ds → list_all is_digit ds ≡ true
are_all_digits [] all = refl
are_all_digits (d ∷ ds) all = both (value_is d all.0) (are_all_digits ds all.1)

no_colon : (c : ℕ) → is_ten c ≡ true → (c == 58) ≡ false
no_colon c is = let high = ten_high c is in grind (arith, nat_tests)

no_margin : (c : ℕ) → is_ten c ≡ true → is_margin c ≡ false
no_margin c is = let low = ten_low c is in grind (arith, nat_tests)

minus_not : (c : ℕ) → 48 ≤ c → (c == 45) ≡ false
minus_not c low = grind (arith, nat_tests)

-- Facts about the digits of a number.
pub record DecimalParts (n : ℕ) (ds : List ℕ) : Type 0 where
  pub some : 0 < length ds
  pub few : length ds ≤ 19
  pub ten : list_all is_ten ds ≡ true
  pub within : list_all is_within_field ds ≡ true
  pub digits : are_digits ds ≡ true
  pub first : (48 ≤ get_or ds 0 0) × (get_or ds 0 0 ≤ 57)
  pub value : digits_value 10 ds ≡ n

first_ten : (ds : List ℕ) → 0 < length ds → AllDigits 10 ds → (48 ≤ get_or ds 0 0) × (get_or ds 0 0 ≤ 57)
first_ten [] some all = absurd (omega arith)
first_ten (d ∷ ds) some all = let range = digit_from_value d all.0 in (range.0, range.1)

pub decimal_parts : (n : ℕ) → n ≤ 2 ^ 63 → DecimalParts n (decimal n)
unfolding are_digits
decimal_parts n small =
    let numeral = decimal_is_IsNumeral n (omega arith) in
    let few : length (decimal n) ≤ 19 = length-decimal-le 19 n (omega arith) (omega arith) (omega arith) in
    record {
      some = numeral.0.0;
      few = few;
      ten = digit_byte is_ten ten_is (decimal n) numeral.0.1;
      within = digit_byte is_within_field within_ten (decimal n) numeral.0.1;
      digits = both (both (lt-ltb 0 (length (decimal n)) numeral.0.0) (le-leb (length (decimal n)) 20 (omega arith))) (are_all_digits (decimal n) numeral.0.1);
      first = first_ten (decimal n) numeral.0.0 numeral.0.1;
      value = numeral.1;
    }

-- Facts about the word of a token.
pub record TokenParts (t : Token) : Type 0 where
  pub reads : token_at (token_word t) ≡ Ok t
  pub is : is_word (token_word t) ≡ true
  pub on : goes_on (token_word t) ≡ true
  pub ends : ends_in_cr t ≡ false → last_is is_margin (token_word t) ≡ false

named_reads : (name : List ℕ) (t : Token) → is_symbol name ≡ true → named_token name ≡ t → token_at name ≡ Ok t
unfolding token_at
named_reads name t symbol named =
    ap (λ c. cond c (Ok (named_token name)) (ok_or (option_or (option_map token.Number (integer_of name)) (sign_of name)) Rule)) symbol ∙ ap Ok named

symbol_on : (name : List ℕ) → is_symbol name ≡ true → goes_on name ≡ true
unfolding is_symbol
symbol_on name is = (and_true {a = begins_symbol (get_or name 0 0)} is).1

no_symbol : (w : List ℕ) → begins_symbol (get_or w 0 0) ≡ false → is_symbol w ≡ false
unfolding is_symbol
no_symbol w is = ap (λ t. t && not (ends_in_colon w)) is

integer_reads : (w : List ℕ) (z : ℤ) → is_symbol w ≡ false → integer_of w ≡ Some z → token_at w ≡ Ok (token.Number z)
unfolding token_at
integer_reads w z symbol is =
    ap (λ c. cond c (Ok (named_token w)) (ok_or (option_or (option_map token.Number (integer_of w)) (sign_of w)) Rule)) symbol
    ∙ ap (λ o. ok_or (option_or (option_map token.Number o) (sign_of w)) Rule) is

in_is : (z : ℤ) → fits_i64 z ≡ true → in_i64 z ≡ Some z
in_is z fits = ap (λ t. cond t (Some z) None) fits

pos_is : (n : ℕ) (ds : List ℕ) → DecimalParts n ds → fits_i64 (pos n) ≡ true → integer_of ds ≡ Some (pos n)
unfolding integer_of
pos_is n ds parts fits =
    ap (λ t. cond t (cond (are_digits (drop 1 ds)) (in_i64 (neg_ℤ (pos (digits_value 10 (drop 1 ds))))) None) (cond (are_digits ds) (in_i64 (pos (digits_value 10 ds))) None)) (minus_not (get_or ds 0 0) parts.first.0)
    ∙ ap (λ t. cond t (in_i64 (pos (digits_value 10 ds))) None) parts.digits
    ∙ ap (λ k. in_i64 (pos k)) parts.value ∙ in_is (pos n) fits

neg_is : (n : ℕ) (ds : List ℕ) → DecimalParts (suc n) ds → fits_i64 (negsuc n) ≡ true → integer_of (45 ∷ ds) ≡ Some (negsuc n)
unfolding integer_of
neg_is n ds parts fits =
    ap (λ t. cond t (in_i64 (neg_ℤ (pos (digits_value 10 ds)))) None) parts.digits
    ∙ ap (λ k. in_i64 (neg_ℤ (pos k))) parts.value ∙ in_is (negsuc n) fits

digits_on : (ds : List ℕ) → list_all is_ten ds ≡ true → goes_on ds ≡ true
digits_on ds all = not_false (last_none (λ b. b == 58) is_ten no_colon ds all)

minus_on : (d : ℕ) (ds : List ℕ) → goes_on (d ∷ ds) ≡ true → goes_on (45 ∷ d ∷ ds) ≡ true
unfolding last_is
minus_on d ds is = is

behind_minus : (ds : List ℕ) → 0 < length ds → goes_on ds ≡ true → goes_on (45 ∷ ds) ≡ true
behind_minus [] some is = absurd (omega arith)
behind_minus (d ∷ ds) some is = minus_on d ds is

minus_ends : (ds : List ℕ) → 0 < length ds → last_is is_margin ds ≡ false → last_is is_margin (45 ∷ ds) ≡ false
unfolding last_is
minus_ends [] some is = absurd (omega arith)
minus_ends (d ∷ ds) some is = is

number_parts : (z : ℤ) → fits_i64 z ≡ true → TokenParts (token.Number z)
number_parts (pos n) fits =
    let parts = decimal_parts n (let small = ltb-true n (2 ^ 63) fits in omega arith) in
    record {
      reads = integer_reads (decimal n) (pos n) (no_symbol (decimal n) (digit_ten (get_or (decimal n) 0 0) parts.first.0 parts.first.1)) (pos_is n (decimal n) parts fits);
      is = word_of (decimal n) parts.some parts.within;
      on = digits_on (decimal n) parts.ten;
      ends = λ _. last_none is_margin is_ten no_margin (decimal n) parts.ten;
    }
number_parts (negsuc n) fits =
    let ds : List ℕ = decimal (suc n) in
    let parts = decimal_parts (suc n) (let small = ltb-true n (2 ^ 63) fits in omega arith) in
    record {
      reads = integer_reads (45 ∷ ds) (negsuc n) (no_symbol (45 ∷ ds) refl) (neg_is n ds parts fits);
      is = parts.within;
      on = behind_minus ds parts.some (digits_on ds parts.ten);
      ends = λ _. minus_ends ds parts.some (last_none is_margin is_ten no_margin ds parts.ten);
    }

-- A byte of a field that is not CR is neither a space nor CR.
field_margin : (b : ℕ) → is_within_field b ≡ true → is_cr b ≡ false → is_margin b ≡ false
field_margin b within is = ap (λ t. t || is_cr b) (not_true (and_true {a = not (b == 32)} within).0) ∙ is

margin_last : (name : List ℕ) → list_all is_within_field name ≡ true → last_is is_cr name ≡ false → last_is is_margin name ≡ false
unfolding last_is
margin_last [] within ends = refl
margin_last (x ∷ []) within ends = field_margin x (and_true within).0 ends
margin_last (x ∷ y ∷ ys) within ends = margin_last (y ∷ ys) (and_true {a = is_within_field x} {b = list_all is_within_field (y ∷ ys)} within).1 ends

register_token : (number : ℕ) → RegisterParts number → TokenParts (token.Reg number)
register_token number parts = record {
  reads = named_reads (register_name number) (token.Reg number) parts.symbol parts.is_token;
  is = word_of (register_name number) (symbol_some (register_name number) parts.symbol) parts.within;
  on = symbol_on (register_name number) parts.symbol;
  ends = λ _. parts.ends;
}

other_is : (name : List ℕ) → OtherParts token_names name → TokenParts (token.Other name)
other_is name parts = record {
  reads = named_reads name (token.Other name) parts.symbol (other_token name parts.other);
  is = word_of name (symbol_some name parts.symbol) parts.within;
  on = symbol_on name parts.symbol;
  ends = λ ends. margin_last name parts.within ends;
}

pub token_parts : (t : Token) → is_token t ≡ true → TokenParts t
unfolding token_at is_symbol named_token integer_of sign_of are_digits last_is
token_parts (token.Number z) is = number_parts z is
token_parts (token.Reg number) is = register_token number (register_parts number (below_16 number is))
token_parts (token.Other name) is = other_is name (other_parts token_names name is)
token_parts token.Cfa is = record { reads = refl; is = refl; on = refl; ends = λ _. refl }
token_parts token.Undef is = record { reads = refl; is = refl; on = refl; ends = λ _. refl }
token_parts token.Add is = record { reads = refl; is = refl; on = refl; ends = λ _. refl }
token_parts token.Sub is = record { reads = refl; is = refl; on = refl; ends = λ _. refl }
token_parts token.Mul is = record { reads = refl; is = refl; on = refl; ends = λ _. refl }
token_parts token.Div is = record { reads = refl; is = refl; on = refl; ends = λ _. refl }
token_parts token.Rem is = record { reads = refl; is = refl; on = refl; ends = λ _. refl }
token_parts token.Align is = record { reads = refl; is = refl; on = refl; ends = λ _. refl }
token_parts token.Fetch is = record { reads = refl; is = refl; on = refl; ends = λ _. refl }
