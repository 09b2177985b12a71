use Rattle.std.proofs.Common.{◌≡◌, ℕ, ◌+◌, ◌-◌, ◌*◌, ◌^◌, ◌<◌, ◌≤◌, ◌==◌, ◌&&◌, Bool, true, false, not, cond, nat_le, List, [], ◌∷◌, Option, Some, None, length, drop, get_or, refl, sym, ◌∙◌, ap, arith, subst}
use Rattle.std.proofs.lemmas.Bool.Decides.{nat_tests}
use Rattle.std.specs.Char.{digit_value}
use Rattle.std.specs.List.{list_all}
use Rattle.std.specs.Option.{option_map}
use Rattle.std.specs.Str.Parse.{AllDigits, IsNumeral, digits_value, digits_value_after, without_leading_plus}
use Rattle.sym_rules.specs.RuleReading.{is_digit}
use Rattle.sym_records.specs.FieldReading.{hex_value}
use Rattle.std.proofs.lemmas.Str.{digit_value_digit}
use Rattle.std.proofs.lemmas.Str.Parse.{digit_from_value}
use Rattle.sym_rules.proofs.BoolLemmas.{both, and_true, if_both}
use Rattle.std.proofs.lemmas.List.Sums.{suffix_len_is}
use Rattle.memchr.specs.Find.{IsLastByte, is_byte}
use Rattle.std.specs.List.{suffix_len}
use Rattle.dumpsyms_cmd.specs.Words.{Asked, dump, judge, lookup, frame, sample_of, address_of, is_number, number_upto, alone, dump_usual, debug_words, dump_words, judge_by, judge_words, two_words, three_words, four_words, five_words, six_words, HasWorkers, is_slash, module_name}
use Rattle.dumpsyms_cmd.specs.ElfInput.{ElfSource}

passes_not : (t : Bool) → ((t ≡ true) → ⊥) → not t ≡ true
passes_not t never = elim t as (λ v. ((v ≡ true) → ⊥) → not v ≡ true) [ true ↦ λ h. absurd (h refl) | false ↦ λ h. refl ] never

-- An empty argument is no address. Any other is the address that its digits write.
pub no_address : (word : List ℕ) → (length word == 0) ≡ true → None ≡ address_of word
unfolding address_of
no_address word none = sym (ap (λ t. cond t None (hex_value word)) none)

pub some_address : (word : List ℕ) (o : Option ℕ) → (length word == 0) ≡ false → o ≡ hex_value word → o ≡ address_of word
unfolding address_of
some_address word o some is = is ∙ sym (ap (λ t. cond t None (hex_value word)) some)

-- What follows the last slash.
pub last_slash : (path : List ℕ) (last : ℕ) → IsLastByte (is_byte 47) path (Some last) → module_name path ≡ drop (last + 1) path
unfolding module_name
last_slash path last found =
    let high = found.0.high in
    let tail = suffix_len_is (λ x. not (is_slash x)) path (last + 1) 0 (omega arith)
    (λ k low below. passes_not (get_or path k 0 == 47) (found.0.after k low below))
    (λ some. (let e : (last + 1) - 1 ≡ last = omega arith in ap (λ i. not (get_or path i 0 == 47)) e) ∙ ap not found.1) in
    let cut : length path - suffix_len (λ x. not (is_slash x)) path ≡ last + 1 = omega (arith, tail) in
    ap (λ n. drop n path) cut

pub no_slash : (path : List ℕ) → IsLastByte (is_byte 47) path None → module_name path ≡ path
unfolding module_name
no_slash path none =
    let tail = suffix_len_is (λ x. not (is_slash x)) path 0 0 (omega arith)
    (λ k low below. passes_not (get_or path k 0 == 47) (none k low below)) (λ some. absurd (omega arith)) in
    let cut : length path - suffix_len (λ x. not (is_slash x)) path ≡ 0 = omega (arith, tail) in
    ap (λ n. drop n path) cut

-- The definition of a digit agrees with that of the standard library.
value_is : (d : ℕ) → digit_value d < 10 → is_digit d ≡ true
value_is d below = grind (arith, nat_tests)

is_value : (d : ℕ) → is_digit d ≡ true → digit_value d < 10
is_value d is = grind (arith, nat_tests)

all_are : (ds : List ℕ) → AllDigits 10 ds → list_all is_digit ds ≡ true
all_are [] all = refl
all_are (d ∷ ds) all = both (value_is d all.0) (all_are ds all.1)

are_all : (ds : List ℕ) → list_all is_digit ds ≡ true → AllDigits 10 ds
are_all [] all = tt
are_all (d ∷ ds) all = let parts = and_true {a = is_digit d} all in (is_value d parts.0, are_all ds parts.1)

-- An argument whose first byte is no plus sign.
no_plus : (word : List ℕ) → 49 ≤ get_or word 0 0 → without_leading_plus word ≡ word
no_plus word low =
    let no : (get_or word 0 0 == 43) ≡ false = grind (arith, nat_tests) in
    ap (λ t. drop (cond t 1 0) word) no

-- An argument of digits, of which the first is above 0, is a number.
is_number_by : (word : List ℕ) → 49 ≤ get_or word 0 0 → AllDigits 10 word → is_number word ≡ true
is_number_by [] low all = absurd (omega arith)
is_number_by (d ∷ ds) low all =
    let no : (d == 48) ≡ false = grind (arith, nat_tests) in
    both (ap not no) (all_are (d ∷ ds) all)

number_digits : (word : List ℕ) → is_number word ≡ true → IsNumeral 10 word
number_digits [] is = cc
number_digits (d ∷ ds) is = (omega arith, are_all (d ∷ ds) (and_true {a = not (d == 48)} is).1)

chosen : (t : Bool) (n : ℕ) → (t ≡ true → ⊥) → None ≡ cond t (Some n) None
chosen true n never = absurd (never refl)
chosen false n never = refl

-- A number that is read, and may be at most `most` or more.
pub number_fits : (most n : ℕ) (word : List ℕ) → 49 ≤ get_or word 0 0 → IsNumeral 10 (without_leading_plus word) × (digits_value 10 (without_leading_plus word) < 2 ^ 64) → n ≡ digits_value 10 (without_leading_plus word) → n ≤ most → Some n ≡ number_upto most word
unfolding number_upto
number_fits most n word low numeral is few =
    let same = no_plus word low in
    let P : List ℕ → Type 0 = λ w. AllDigits 10 w in
    let value : n ≡ digits_value 10 word = is ∙ ap (digits_value 10) same in
    let le : nat_le (digits_value 10 word) most ≡ true = grind (arith, nat_tests) in
    ap Some value ∙ sym (ap (λ t. cond t (Some (digits_value 10 word)) None) (both (is_number_by word low (subst P same numeral.0.1)) le))

pub number_passes : (most n : ℕ) (word : List ℕ) → 49 ≤ get_or word 0 0 → n ≡ digits_value 10 (without_leading_plus word) → most < n → None ≡ number_upto most word
unfolding number_upto
number_passes most n word low is more =
    let value : n ≡ digits_value 10 word = is ∙ ap (digits_value 10) (no_plus word low) in
    chosen (is_number word && nat_le (digits_value 10 word) most) (digits_value 10 word) (λ t.
    let le = (and_true {a = is_number word} t).1 in
    let few : digits_value 10 word ≤ most = grind (arith, nat_tests) in omega arith)

pub number_fails : (most : ℕ) (word : List ℕ) → most < 2 ^ 64 → 49 ≤ get_or word 0 0 → (IsNumeral 10 (without_leading_plus word) × (digits_value 10 (without_leading_plus word) < 2 ^ 64) → ⊥) → None ≡ number_upto most word
unfolding number_upto
number_fails most word wide low bad =
    let Q : List ℕ → Type 0 = λ w. IsNumeral 10 w × (digits_value 10 w < 2 ^ 64) → ⊥ in
    let never = subst Q (no_plus word low) bad in
    chosen (is_number word && nat_le (digits_value 10 word) most) (digits_value 10 word) (λ t.
    let parts = and_true {a = is_number word} t in
    let le = parts.1 in
    let few : digits_value 10 word ≤ most = grind (arith, nat_tests) in
    never (number_digits word parts.0, omega arith))

-- A number begins with a digit from 1 to 9.
first_range : (word : List ℕ) → is_number word ≡ true → (49 ≤ get_or word 0 0) × (get_or word 0 0 ≤ 57)
first_range [] is = cc
first_range (d ∷ ds) is =
    let parts = and_true {a = not (d == 48)} is in
    let range = digit_from_value d (is_value d (and_true {a = is_digit d} parts.1).0) in
    let other = parts.0 in
    let low : 48 ≤ d = range.0 in
    let above : 49 ≤ d = grind (arith, nat_tests) in
    (above, range.1)

pub number_other : (most : ℕ) (word : List ℕ) → ((49 ≤ get_or word 0 0) × (get_or word 0 0 ≤ 57) → ⊥) → None ≡ number_upto most word
unfolding number_upto
number_other most word other =
    chosen (is_number word && nat_le (digits_value 10 word) most) (digits_value 10 word) (λ t. other (first_range word (and_true {a = is_number word} t).0))

-- More digits do not make a number smaller.
after_le : (n : ℕ) (ds : List ℕ) → n ≤ digits_value_after 10 n ds
after_le n [] = omega arith
after_le n (d ∷ ds) = omega (arith, after_le (n * 10 + digit_value d) ds)

positive : (word : List ℕ) → is_number word ≡ true → 1 ≤ digits_value 10 word
positive [] is = cc
positive (d ∷ ds) is =
    let range = first_range (d ∷ ds) is in
    omega (arith, range.0, range.1, digit_value_digit d (omega arith, range.1), after_le (0 * 10 + digit_value d) ds)

-- A dump has from one to 64 workers.
workers_by : (t : Bool) (source : ElfSource) (n : ℕ) → (t ≡ true → (1 ≤ n) × (n ≤ 64)) → HasWorkers (option_map (dump source) (cond t (Some n) None))
workers_by true source n has = has refl
workers_by false source n has = tt

-- A number is at least 1 and at most `most`.
abbrev Within : ℕ → Option ℕ → Type 0
Within most None = Prim.Unit {0}
Within most (Some n) = (1 ≤ n) × (n ≤ most)

within_by : (t : Bool) (most n : ℕ) → (t ≡ true → (1 ≤ n) × (n ≤ most)) → Within most (cond t (Some n) None)
within_by true most n has = has refl
within_by false most n has = tt

number_workers : (source : ElfSource) (word : List ℕ) → HasWorkers (option_map (dump source) (number_upto 64 word))
unfolding number_upto
number_workers source word =
    workers_by (is_number word && nat_le (digits_value 10 word) 64) source (digits_value 10 word) (λ t.
    let parts = and_true {a = is_number word} t in
    let le = parts.1 in
    let few : digits_value 10 word ≤ 64 = grind (arith, nat_tests) in
    (positive word parts.0, few))

-- A sample has from one to 64 workers, and not too many units.
number_within : (most : ℕ) (word : List ℕ) → Within most (number_upto most word)
unfolding number_upto
number_within most word =
    within_by (is_number word && nat_le (digits_value 10 word) most) most (digits_value 10 word) (λ t.
    let parts = and_true {a = is_number word} t in
    let le = parts.1 in
    let few : digits_value 10 word ≤ most = grind (arith, nat_tests) in
    (positive word parts.0, few))

sample_workers : (units workers : Option ℕ) → Within 20000 units → Within 64 workers → HasWorkers (sample_of units workers)
sample_workers None workers few some = tt
sample_workers (Some units) None few some = tt
sample_workers (Some units) (Some workers) few some = (few.1, some)

usual_few : (source : ElfSource) → HasWorkers (Some (dump source 4))
usual_few source = (omega arith, omega arith)

usual_all : (o : Option ElfSource) → HasWorkers (option_map dump_usual o)
usual_all None = tt
usual_all (Some source) = usual_few source

judge_all : (sym : List ℕ) (o : Option ElfSource) → HasWorkers (option_map (judge_by sym) o)
judge_all sym None = tt
judge_all sym (Some source) = tt

-- The number of workers with two arguments after an ELF file, and with two after a symbol file.
behind_elf : (full : Bool) (elf word value : List ℕ) → HasWorkers (dump_words full elf word value)
behind_elf full elf word value = search (if_both HasWorkers, number_workers (alone full elf) value, usual_all (debug_words full elf word value)) depth 40

behind_sym : (full : Bool) (elf sym word value : List ℕ) → HasWorkers (judge_words full elf sym word value)
behind_sym full elf sym word value = judge_all sym (debug_words full elf word value)

units_few : (units : List ℕ) → HasWorkers (sample_of (number_upto 20000 units) (Some 4))
units_few units = sample_workers (number_upto 20000 units) (Some 4) (number_within 20000 units) (omega arith, omega arith)

two_workers : (word name : List ℕ) → HasWorkers (two_words word name)
two_workers word name = search (if_both HasWorkers, usual_few (alone false name), units_few name) depth 40

lookup_workers : (name : List ℕ) (o : Option ℕ) → HasWorkers (option_map (lookup name) o)
lookup_workers name None = tt
lookup_workers name (Some address) = tt

three_workers : (word name third : List ℕ) → HasWorkers (three_words word name third)
three_workers word name third = search (if_both HasWorkers, lookup_workers name (address_of third), usual_few (alone true third)) depth 40

address_workers : (name state : List ℕ) (o : Option ℕ) → HasWorkers (option_map (λ address. frame name address state) o)
address_workers name state None = tt
address_workers name state (Some address) = tt

both_few : (units workers : List ℕ) → HasWorkers (sample_of (number_upto 20000 units) (number_upto 64 workers))
both_few units workers = sample_workers (number_upto 20000 units) (number_upto 64 workers) (number_within 20000 units) (number_within 64 workers)

four_workers : (word name third fourth : List ℕ) → HasWorkers (four_words word name third fourth)
four_workers word name third fourth =
    search (if_both HasWorkers, behind_elf false name third fourth, both_few name fourth, address_workers name fourth (address_of third)) depth 40

five_workers : (word name third fourth fifth : List ℕ) → HasWorkers (five_words word name third fourth fifth)
five_workers word name third fourth fifth = search (if_both HasWorkers, behind_elf true third fourth fifth, behind_sym false name third fourth fifth) depth 40

six_workers : (word name third fourth fifth sixth : List ℕ) → HasWorkers (six_words word name third fourth fifth sixth)
six_workers word name third fourth fifth sixth = search (if_both HasWorkers, behind_sym true third fourth fifth sixth) depth 40

pub two_few : (view : Option Asked) (word name : List ℕ) → view ≡ two_words word name → HasWorkers view
two_few view word name is = subst HasWorkers (sym is) (two_workers word name)

pub three_few : (view : Option Asked) (word name third : List ℕ) → view ≡ three_words word name third → HasWorkers view
three_few view word name third is = subst HasWorkers (sym is) (three_workers word name third)

pub four_few : (view : Option Asked) (word name third fourth : List ℕ) → view ≡ four_words word name third fourth → HasWorkers view
four_few view word name third fourth is = subst HasWorkers (sym is) (four_workers word name third fourth)

pub five_few : (view : Option Asked) (word name third fourth fifth : List ℕ) → view ≡ five_words word name third fourth fifth → HasWorkers view
five_few view word name third fourth fifth is = subst HasWorkers (sym is) (five_workers word name third fourth fifth)

pub six_few : (view : Option Asked) (word name third fourth fifth sixth : List ℕ) → view ≡ six_words word name third fourth fifth sixth → HasWorkers view
six_few view word name third fourth fifth sixth is = subst HasWorkers (sym is) (six_workers word name third fourth fifth sixth)
