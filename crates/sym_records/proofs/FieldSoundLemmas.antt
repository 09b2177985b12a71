-- A line can carry the fields that were read from it.
use Rattle.std.proofs.Common.{◌≡◌, ℕ, ◌+◌, ◌-◌, ◌*◌, ◌^◌, ◌<◌, ◌≤◌, ◌==◌, ◌&&◌, cond, Bool, true, false, not, List, [], ◌∷◌, length, get_or, codes, Option, Some, None, ok_or, Result, Ok, nat_lt, refl, sym, ◌∙◌, ap, arith, subst, ⊎_elim}
use Rattle.std.specs.List.{list_all}
use Rattle.std.specs.Option.{option_and_then}
use Rattle.std.specs.Char.{digit_value}
use Rattle.std.specs.Str.{bytes_eq}
use Rattle.std.specs.Str.Parse.{AllDigits, digits_value, digits_value_after}
use Rattle.std.proofs.lemmas.Int.Digits.{digits_value-lt}
use Rattle.std.proofs.lemmas.Bool.{lt-ltb}
use Rattle.std.proofs.lemmas.Bool.Decides.{nat_tests}
use Rattle.std.proofs.Math.Nat.{pow-le-pow_right}
use Rattle.sym_rules.proofs.BoolLemmas.{and_true, both, not_false, elim_bool, chosen, bind_ok}
use Rattle.sym_rules.proofs.EndLemmas.{ends_at, skip_ends, from_ends, all_skip, all_from, Begins, begins_skip}
use Rattle.sym_rules.proofs.RuleSoundLemmas.{rules_sound}
use Rattle.sym_records.specs.FieldReading.{word_at, name_at, name_of, field_of, hex_digit, hex_onto, hex_value, hex_at, mark_at, decimal_value, decimal_at, marked_at, middle_at, hex_of, pairs_of, some_ranges, ranges_at, at_end, last_at, values_at, is_end}
use Rattle.sym_records.specs.Fields.{is_field, is_name, Middle, Word, Hex, Marked, Decimal, Shape, Name, Rules, Ranges, Last, Then, Held, Values, fits_middle, is_range, are_ranges, fit}
use Rattle.sym_rules.specs.Cuts.{is_space, is_cr, is_within_line, is_within_field, before, from, skip, last_is}
use Rattle.sym_rules.specs.RuleReading.{are_digits, words}
use Rattle.sym_rules.specs.declared.text_fault.TextKind.{TextKind}
use Rattle.sym_rules.specs.declared.text_fault.TextKind.TheVariants as fault
use Rattle.sym_records.specs.declared.line.Extent.{Extent}

abbrev gives : {A : Type 0} → A → Result A TextKind
gives x = Ok x

pub ok_is : {A : Type 0} (x y : A) → gives x ≡ gives y → x ≡ y
ok_is x y is = cc

-- Facts about the bytes that are left of others.
pub record Behind (bytes rest : List ℕ) : Type 0 where
  pub all : (p : ℕ → Bool) → list_all p bytes ≡ true → list_all p rest ≡ true
  pub ends : (p : ℕ → Bool) → last_is p bytes ≡ false → last_is p rest ≡ false

pub behind_same : (bytes : List ℕ) → Behind bytes bytes
behind_same bytes = record { all = λ p all. all; ends = λ p ends. ends }

pub behind_word : (bytes : List ℕ) → Behind bytes (from 32 (skip is_space bytes))
behind_word bytes = record {
  all = λ p all. all_from p 32 (skip is_space bytes) (all_skip p is_space bytes all);
  ends = λ p ends. from_ends p 32 (skip is_space bytes) (skip_ends p is_space bytes ends);
}

pub behind_both : (a b c : List ℕ) → Behind a b → Behind b c → Behind a c
behind_both a b c first second = record { all = λ p all. second.all p (first.all p all); ends = λ p ends. second.ends p (first.ends p ends) }

-- Facts about a field that was read.
record Taken (bytes : List ℕ) (x : List ℕ × List ℕ) : Type 0 where
  some : 0 < length x.0
  word : x.0 ≡ before 32 (skip is_space bytes)
  rest : x.1 ≡ from 32 (skip is_space bytes)

before_some : (x : ℕ) (xs : List ℕ) → (x == 32) ≡ false → 0 < length (before 32 (x ∷ xs))
unfolding before
before_some x xs is = elim_bool (x == 32) (λ t. t ≡ false → 0 < length (cond t [] (x ∷ before 32 xs))) (λ _ h. cc) (λ _ _. omega arith) is

record TakenOf (z : List ℕ) (x : List ℕ × List ℕ) : Type 0 where
  some : 0 < length x.0
  word : x.0 ≡ before 32 z
  rest : x.1 ≡ from 32 z

field_taken : (z : List ℕ) (x : List ℕ × List ℕ) → Begins z → field_of z ≡ Ok x → TakenOf z x
field_taken [] x begins is = cc
field_taken (b ∷ z) x begins is =
    subst (λ (y : List ℕ × List ℕ). TakenOf (b ∷ z) y) (ok_is (before 32 (b ∷ z), from 32 (b ∷ z)) x is) (record { some = before_some b z begins; word = refl; rest = refl })

word_taken : (bytes : List ℕ) (x : List ℕ × List ℕ) → word_at bytes ≡ Ok x → Taken bytes x
unfolding word_at
word_taken bytes x is = let of = field_taken (skip is_space bytes) x (begins_skip bytes) is in record { some = of.some; word = of.word; rest = of.rest }

before_within : (xs : List ℕ) → list_all is_within_line xs ≡ true → list_all is_within_field (before 32 xs) ≡ true
unfolding before
before_within [] all = refl
before_within (x ∷ xs) all =
    elim_bool (x == 32) (λ t. (x == 32) ≡ t → list_all is_within_field (cond t [] (x ∷ before 32 xs)) ≡ true)
    (λ _ _. refl) (λ _ other. both (both (not_false other) (and_true all).0) (before_within xs (and_true all).1)) refl

-- Facts about a middle field that was read, and about the bytes after it.
pub record Good (m : Middle) (bytes : List ℕ) (x : Held m × List ℕ) : Type 0 where
  pub fits : fits_middle m x.0 ≡ true
  pub rest : Behind bytes x.1

left_behind : (bytes : List ℕ) (x : List ℕ × List ℕ) → Taken bytes x → Behind bytes x.1
left_behind bytes x taken = subst (λ (l : List ℕ). Behind bytes l) (sym taken.rest) (behind_word bytes)

word_good : (bytes : List ℕ) (x : List ℕ × List ℕ) → list_all is_within_line bytes ≡ true → word_at bytes ≡ Ok x → Good Word bytes x
unfolding is_field
word_good bytes x line is =
    let taken = word_taken bytes x is in
    record {
      fits = both (lt-ltb 0 (length x.0) taken.some) (ap (list_all is_within_field) taken.word ∙ before_within (skip is_space bytes) (all_skip is_within_line is_space bytes line));
      rest = left_behind bytes x taken;
    }

digit_sound : (d v : ℕ) → hex_digit d ≡ Some v → (digit_value d < 16) × (v ≡ digit_value d)
unfolding hex_digit
digit_sound d v is = ⊎_elim (λ h. (grind (arith, nat_tests), cc)) (λ h. cc) (chosen (nat_lt (digit_value d) 16) (Some (digit_value d)) None (Some v) is)

and_then_some : {A B : Type 0} (f : A → Option B) (o : Option A) (y : B) → option_and_then f o ≡ Some y → (x : A) × (o ≡ Some x) × (f x ≡ Some y)
and_then_some f None y is = cc
and_then_some f (Some x) y is = (x, refl, is)

onto_sound : (m n : ℕ) (ds : List ℕ) → hex_onto m ds ≡ Some n → AllDigits 16 ds × (n ≡ digits_value_after 16 m ds)
unfolding hex_onto
onto_sound m n [] is = (tt, cc)
onto_sound m n (d ∷ ds) is =
    let step = and_then_some (λ v. hex_onto (m * 16 + v) ds) (hex_digit d) n is in
    let digit = digit_sound d step.0 step.1 in
    let rest = onto_sound (m * 16 + step.0) n ds step.2 in
    ((digit.0, rest.0), rest.1 ∙ ap (λ v. digits_value_after 16 (m * 16 + v) ds) digit.1)

value_sound : (ds : List ℕ) (n : ℕ) → hex_value ds ≡ Some n → nat_lt n (2 ^ 64) ≡ true
unfolding hex_value
value_sound ds n is = ⊎_elim (λ h. cc) (λ h.
    let short : length ds ≤ 16 = grind (arith, nat_tests) in
    let digits = onto_sound 0 n ds h.1 in
    let few = pow-le-pow_right {n = 16} (omega arith) {i = length ds} {j = 16} short in
    let below : n < 2 ^ 64 = omega (arith, digits.1, digits_value-lt 16 ds digits.0, few) in
    grind (arith, nat_tests)) (chosen (nat_lt 16 (length ds)) None (hex_onto 0 ds) (Some n) is)

or_some : {A : Type 0} (o : Option A) (e : TextKind) (x : A) → ok_or o e ≡ Ok x → o ≡ Some x
or_some None e x is = cc
or_some (Some y) e x is = cc

hex_good : (bytes : List ℕ) (x : ℕ × List ℕ) → hex_at bytes ≡ Ok x → Good Hex bytes x
unfolding hex_at
hex_good bytes x is =
    let word = bind_ok (word_at bytes) _ x is in
    let value = bind_ok (ok_or (hex_value word.0.0) fault.Hex) _ x word.2 in
    subst (λ (y : ℕ × List ℕ). Good Hex bytes y) (ok_is _ x value.2)
    (record { fits = value_sound word.0.0 value.0 (or_some (hex_value word.0.0) fault.Hex value.0 value.1); rest = left_behind bytes word.0 (word_taken bytes word.0 word.1) })

mark_behind : (bytes : List ℕ) → Behind bytes (mark_at bytes).1
unfolding mark_at
mark_behind bytes =
    elim_bool (bytes_eq (before 32 (skip is_space bytes)) (codes "m")) (λ t. Behind bytes (cond {A = Bool × List ℕ} t (true, from 32 (skip is_space bytes)) (false, bytes)).1)
    (λ _. behind_word bytes) (λ _. behind_same bytes)

marked_good : (bytes : List ℕ) (x : (Bool × ℕ) × List ℕ) → marked_at bytes ≡ Ok x → Good Marked bytes x
unfolding marked_at
marked_good bytes x is =
    let n = bind_ok (hex_at (mark_at bytes).1) _ x is in
    let good = hex_good (mark_at bytes).1 n.0 n.1 in
    subst (λ (y : (Bool × ℕ) × List ℕ). Good Marked bytes y) (ok_is (((mark_at bytes).0, n.0.0), n.0.1) x n.2)
    (record { fits = good.fits; rest = behind_both bytes (mark_at bytes).1 n.0.1 (mark_behind bytes) good.rest })

decimal_sound : (ds : List ℕ) (n : ℕ) → decimal_value ds ≡ Some n → nat_lt n (2 ^ 32) ≡ true
unfolding decimal_value
decimal_sound ds n is = ⊎_elim
    (λ h. (let same : digits_value 10 ds ≡ n = cc in ap (λ v. nat_lt v (2 ^ 32)) (sym same) ∙ (and_true {a = are_digits ds} h.0).1))
    (λ h. cc)
    (chosen (are_digits ds && nat_lt (digits_value 10 ds) (2 ^ 32)) (Some (digits_value 10 ds)) None (Some n) is)

decimal_good : (bytes : List ℕ) (x : ℕ × List ℕ) → decimal_at bytes ≡ Ok x → Good Decimal bytes x
unfolding decimal_at
decimal_good bytes x is =
    let word = bind_ok (word_at bytes) _ x is in
    let value = bind_ok (ok_or (decimal_value word.0.0) fault.Decimal) _ x word.2 in
    subst (λ (y : ℕ × List ℕ). Good Decimal bytes y) (ok_is _ x value.2)
    (record { fits = decimal_sound word.0.0 value.0 (or_some (decimal_value word.0.0) fault.Decimal value.0 value.1); rest = left_behind bytes word.0 (word_taken bytes word.0 word.1) })

-- A middle field that was read.
pub middle_good : (m : Middle) (bytes : List ℕ) (x : Held m × List ℕ) → list_all is_within_line bytes ≡ true → middle_at m bytes ≡ Ok x → Good m bytes x
middle_good Word bytes x line is = word_good bytes x line is
middle_good Hex bytes x line is = hex_good bytes x is
middle_good Marked bytes x line is = marked_good bytes x is
middle_good Decimal bytes x line is = decimal_good bytes x is

-- A name that was read.
name_fits : (z name : List ℕ) → Begins z → list_all is_within_line z ≡ true → last_is is_cr z ≡ false → name_of z ≡ Ok name → is_name name ≡ true
unfolding is_name
name_fits [] name begins line ends is = cc
name_fits (b ∷ z) name begins line ends is =
    subst (λ (l : List ℕ). (nat_lt 0 (length l) && not (get_or l 0 0 == 32) && not (get_or l (length l - 1) 0 == 13) && list_all is_within_line l) ≡ true) (ok_is (b ∷ z) name is)
    (both (both (both (lt-ltb 0 (length (b ∷ z)) (omega arith)) (not_false begins)) (not_false (sym (ends_at b z) ∙ ends))) line)

name_good : (bytes name : List ℕ) → list_all is_within_line bytes ≡ true → last_is is_cr bytes ≡ false → name_at bytes ≡ Ok name → is_name name ≡ true
unfolding name_at
name_good bytes name line ends is = name_fits (skip is_space bytes) name (begins_skip bytes) (all_skip is_within_line is_space bytes line) (skip_ends is_cr is_space bytes ends) is

-- Ranges that were read.
abbrev AllRanges : List Extent → Type 0
AllRanges ranges = list_all is_range ranges ≡ true

pairs_good : (ws : List (List ℕ)) (ranges : List Extent) → pairs_of ws ≡ Ok ranges → AllRanges ranges
unfolding pairs_of
pairs_good [] ranges is = ap (list_all is_range) (sym (ok_is [] ranges is))
pairs_good (a ∷ []) ranges is = (let first = bind_ok (hex_of a) _ ranges is in let none = first.2 in cc)
pairs_good (a ∷ b ∷ later) ranges is =
    let address = bind_ok (hex_of a) _ ranges is in
    let size = bind_ok (hex_of b) _ ranges address.2 in
    let rest = bind_ok (pairs_of later) _ ranges size.2 in
    subst AllRanges (ok_is (record { address = address.0; size = size.0 } ∷ rest.0) ranges rest.2)
    (both (both (value_sound a address.0 (or_some (hex_value a) fault.Hex address.0 address.1)) (value_sound b size.0 (or_some (hex_value b) fault.Hex size.0 size.1)))
    (pairs_good later rest.0 rest.1))

some_good : (xs ranges : List Extent) → AllRanges xs → some_ranges xs ≡ Ok ranges → are_ranges ranges ≡ true
unfolding are_ranges
some_good [] ranges all is = cc
some_good (x ∷ xs) ranges all is =
    subst (λ (l : List Extent). (nat_lt 0 (length l) && list_all is_range l) ≡ true) (ok_is (x ∷ xs) ranges is) (both (lt-ltb 0 (length (x ∷ xs)) (omega arith)) all)

ranges_good : (bytes : List ℕ) (ranges : List Extent) → ranges_at bytes ≡ Ok ranges → are_ranges ranges ≡ true
unfolding ranges_at
ranges_good bytes ranges is =
    let pairs = bind_ok (pairs_of (words bytes)) some_ranges ranges is in
    some_good pairs.0 ranges (pairs_good (words bytes) pairs.0 pairs.1) pairs.2

end_is : (n : ℕ) (z : List ℕ) (m : ℕ) → at_end n z ≡ gives m → n ≡ m
end_is n [] m is = ok_is n m is
end_is n (b ∷ z) m is = cc

last_good : (bytes : List ℕ) (n : ℕ) → last_at bytes ≡ Ok n → nat_lt n (2 ^ 32) ≡ true
unfolding last_at
last_good bytes n is =
    let first = bind_ok (decimal_at bytes) _ n is in
    ap (λ v. nat_lt v (2 ^ 32)) (sym (end_is first.0.0 (skip is_space first.0.1) n first.2)) ∙ (decimal_good bytes first.0 first.1).fits

-- All fields that were read.
pub values_good : (shape : Shape) (bytes : List ℕ) (v : Values shape) → list_all is_within_line bytes ≡ true → last_is (is_end shape) bytes ≡ false → values_at shape bytes ≡ Ok v → fit shape v ≡ true
values_good Name bytes name line ends is = name_good bytes name line ends is
values_good Rules bytes rules line ends is = rules_sound bytes rules line ends is
values_good Ranges bytes ranges line ends is = ranges_good bytes ranges is
values_good Last bytes n line ends is = last_good bytes n is
values_good (Then m rest) bytes v line ends is =
    let first = bind_ok (middle_at m bytes) _ v is in
    let later = bind_ok (values_at rest first.0.1) _ v first.2 in
    let good = middle_good m bytes first.0 line first.1 in
    subst (λ (w : Values (Then m rest)). fit (Then m rest) w ≡ true) (ok_is {A = Values (Then m rest)} (first.0.0, later.0) v later.2)
    (both good.fits (values_good rest first.0.1 later.0 (good.rest.all is_within_line line) (good.rest.ends (is_end rest) ends) later.1))
