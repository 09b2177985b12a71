-- Each field is read from its own spelling.
use Rattle.std.proofs.Common.{◌≡◌, ℕ, ◌^◌, ◌<◌, ◌≤◌, ◌==◌, ◌&&◌, ◌||◌, cond, Bool, true, false, List, [], ◌∷◌, ◌++◌, length, codes, Some, None, Ok, nat_lt, refl, sym, ◌∙◌, ap, arith, subst, append_assoc, append-nil}
use Rattle.std.specs.List.{list_all, flat_map}
use Rattle.std.specs.Fmt.{decimal}
use Rattle.std.specs.Char.{digit_value}
use Rattle.std.specs.Str.{bytes_eq}
use Rattle.std.specs.Str.Parse.{AllDigits, digits_value}
use Rattle.std.proofs.lemmas.Fmt.{digits_is_IsNumeral}
use Rattle.std.proofs.lemmas.Slice.Eq.{bytes_eq-Decides}
use Rattle.std.proofs.lemmas.Bool.{lt-ltb, ltb-true, eqb-true}
use Rattle.std.proofs.lemmas.Bool.Decides.{nat_tests}
use Rattle.sym_rules.proofs.BoolLemmas.{and_true, both, not_true, elim_bool}
use Rattle.sym_rules.proofs.EndLemmas.{ends_at, end_behind, last_none, last_later, trim_kept}
use Rattle.sym_records.proofs.TextLemmas.{NameParts, name_parts, name_is, below, skip_one, skip_field, skip_all, hex_field, hex_value_is, wide}
use Rattle.sym_rules.proofs.WordLemmas.{parted, is_word, words_are}
use Rattle.sym_rules.proofs.RuleLemmas.{decimal_parts, is_ten}
use Rattle.sym_rules.proofs.RuleListLemmas.{rules_parts, rules_read, cr_none}
use Rattle.sym_rules.proofs.LengthLemmas.{rules_spelled}
use Rattle.sym_edges.specs.Results.{◌>>=◌}
use Rattle.sym_records.specs.FieldReading.{word_at, field_of, hex_at, mark_at, decimal_value, decimal_at, marked_at, middle_at, pairs_of, some_ranges, ranges_at, at_end, last_at, values_at, is_named, is_end, fields_at}
use Rattle.sym_records.specs.Fields.{hex, is_field, Middle, Word, Hex, Marked, Decimal, Shape, Name, Rules, Ranges, Last, Then, Held, Values, mark, spelled_middle, range_words, spelled_range, spelled, fits_middle, is_range, are_ranges, fit}
use Rattle.sym_rules.specs.Cuts.{is_space, is_cr, is_margin, is_within_field, before, from, skip, last_is}
use Rattle.sym_rules.specs.RuleReading.{words, rules_at}
use Rattle.sym_rules.specs.RuleValidity.{are_rules}
use Rattle.sym_rules.specs.Rules.{spelled_rule, spelled_rules}
use Rattle.sym_rules.specs.declared.rules.RuleText.{RuleText}
use Rattle.sym_records.specs.declared.line.Extent.{Extent}

-- A field ends before these bytes.
abbrev pub Parted : List ℕ → Type 0
Parted [] = Unit {0}
Parted (x ∷ xs) = (x == 32) ≡ true

-- Another field begins with these bytes, or the line ends.
abbrev pub Opened : List ℕ → Type 0
Opened [] = ⊥
Opened (x ∷ xs) = (x == 32) ≡ true

pub opened_parted : (xs : List ℕ) → Opened xs → Parted xs
opened_parted [] is = absurd is
opened_parted (x ∷ xs) is = is

not_space : (x : ℕ) → is_within_field x ≡ true → (x == 32) ≡ false
not_space x is = not_true (and_true is).0

pub before_parted : (w rest : List ℕ) → list_all is_within_field w ≡ true → Parted rest → before 32 (w ++ rest) ≡ w
unfolding before
before_parted [] [] all parted = refl
before_parted [] (x ∷ rest) all parted = ap (λ t. cond t [] (x ∷ before 32 rest)) parted
before_parted (x ∷ w) rest all parted =
    ap (λ t. cond t [] (x ∷ before 32 (w ++ rest))) (not_space x (and_true all).0) ∙ ap (λ l. x ∷ l) (before_parted w rest (and_true all).1 parted)

pub from_parted : (w rest : List ℕ) → list_all is_within_field w ≡ true → Parted rest → from 32 (w ++ rest) ≡ rest
unfolding from
from_parted [] [] all parted = refl
from_parted [] (x ∷ rest) all parted = ap (λ t. cond t (x ∷ rest) (from 32 rest)) parted
from_parted (x ∷ w) rest all parted =
    ap (λ t. cond t (x ∷ (w ++ rest)) (from 32 (w ++ rest))) (not_space x (and_true all).0) ∙ from_parted w rest (and_true all).1 parted

-- A word is read from its spelling.
word_back : (w rest : List ℕ) → is_field w ≡ true → Parted rest → word_at (32 ∷ (w ++ rest)) ≡ Ok (w, rest)
unfolding word_at is_field
word_back [] rest is parted = cc
word_back (x ∷ w) rest is parted =
    ap field_of (skip_one ((x ∷ w) ++ rest) ∙ skip_field x (w ++ rest) (not_space x (and_true (and_true is).1).0))
    ∙ ap (λ l. Ok (l, from 32 ((x ∷ w) ++ rest))) (before_parted (x ∷ w) rest (and_true is).1 parted)
    ∙ ap (λ l. Ok (x ∷ w, l)) (from_parted (x ∷ w) rest (and_true is).1 parted)

-- A hexadecimal number is read from its spelling.
hex_back : (n : ℕ) (rest : List ℕ) → n < 2 ^ 64 → Parted rest → hex_at (32 ∷ (hex n ++ rest)) ≡ Ok (n, rest)
unfolding hex_at
hex_back n rest small parted = rw (word_back (hex n) rest (hex_field n small) parted, hex_value_is n small) refl

all_digits : (ds : List ℕ) → AllDigits 16 ds → list_all (λ b. nat_lt (digit_value b) 16) ds ≡ true
all_digits [] all = refl
all_digits (d ∷ ds) all = both (let below : digit_value d < 16 = all.0 in grind (arith, nat_tests)) (all_digits ds all.1)

pub hex_digits : (n : ℕ) → n < 2 ^ 64 → list_all (λ b. nat_lt (digit_value b) 16) (hex n) ≡ true
hex_digits n small = all_digits (hex n) (digits_is_IsNumeral 16 false (omega arith) (omega arith) n (wide n small)).0.1

-- A word with a byte that is not a hexadecimal digit is not the spelling of a number.
pub hex_not : (n : ℕ) (w : List ℕ) → n < 2 ^ 64 → list_all (λ b. nat_lt (digit_value b) 16) w ≡ false → bytes_eq (hex n) w ≡ false
hex_not n w small other =
    elim_bool (bytes_eq (hex n) w) (λ t. t ≡ false)
    (λ is. (let same : hex n ≡ w = (bytes_eq-Decides (hex n) w).0 is in let all : list_all (λ b. nat_lt (digit_value b) 16) w ≡ true = ap (list_all (λ b. nat_lt (digit_value b) 16)) (sym same) ∙ hex_digits n small in cc))
    (λ _. refl)

pub next_hex : (n : ℕ) (rest : List ℕ) → n < 2 ^ 64 → Parted rest → before 32 (skip is_space (32 ∷ (hex n ++ rest))) ≡ hex n
unfolding is_field
next_hex n rest small parted =
    ap (before 32) (skip_one (hex n ++ rest) ∙ skip_all (hex n) rest (hex_field n small)) ∙ before_parted (hex n) rest (and_true (hex_field n small)).1 parted

-- An optional mark is read from its spelling.
mark_back : (many : Bool) (n : ℕ) (rest : List ℕ) → n < 2 ^ 64 → Parted rest → mark_at (mark many ++ 32 ∷ (hex n ++ rest)) ≡ (many, 32 ∷ (hex n ++ rest))
unfolding mark_at before from skip
mark_back true n rest small parted = refl
mark_back false n rest small parted =
    ap (λ w. cond (bytes_eq w (codes "m")) (true, from 32 (skip is_space (32 ∷ (hex n ++ rest)))) (false, 32 ∷ (hex n ++ rest))) (next_hex n rest small parted)
    ∙ ap (λ t. cond t (true, from 32 (skip is_space (32 ∷ (hex n ++ rest)))) (false, 32 ∷ (hex n ++ rest))) (hex_not n (codes "m") small refl)

marked_back : (many : Bool) (n : ℕ) (rest : List ℕ) → n < 2 ^ 64 → Parted rest → marked_at ((mark many ++ 32 ∷ hex n) ++ rest) ≡ Ok ((many, n), rest)
unfolding marked_at
marked_back many n rest small parted =
    rw (append_assoc (mark many) (32 ∷ hex n) rest, mark_back many n rest small parted, hex_back n rest small parted) refl

-- A decimal number is read from its spelling.
below_32 : {n : ℕ} → nat_lt n (2 ^ 32) ≡ true → n ≤ 2 ^ 63
below_32 is = grind (arith, nat_tests)

pub decimal_field : (n : ℕ) → nat_lt n (2 ^ 32) ≡ true → is_field (decimal n) ≡ true
unfolding is_field
decimal_field n small =
    let parts = decimal_parts n (below_32 small) in
    both (lt-ltb 0 (length (decimal n)) parts.some) parts.within

decimal_value_is : (n : ℕ) → nat_lt n (2 ^ 32) ≡ true → decimal_value (decimal n) ≡ Some n
unfolding decimal_value
decimal_value_is n small =
    let parts = decimal_parts n (below_32 small) in
    ap (λ t. cond (t && nat_lt (digits_value 10 (decimal n)) (2 ^ 32)) (Some (digits_value 10 (decimal n))) None) parts.digits
    ∙ ap (λ v. cond (nat_lt v (2 ^ 32)) (Some v) None) parts.value
    ∙ ap (λ t. cond t (Some n) None) small

decimal_back : (n : ℕ) (rest : List ℕ) → nat_lt n (2 ^ 32) ≡ true → Parted rest → decimal_at (32 ∷ (decimal n ++ rest)) ≡ Ok (n, rest)
unfolding decimal_at
decimal_back n rest small parted = rw (word_back (decimal n) rest (decimal_field n small) parted, decimal_value_is n small) refl

-- A middle field is read from its spelling.
pub middle_back : (m : Middle) (x : Held m) (rest : List ℕ) → fits_middle m x ≡ true → Parted rest → middle_at m (spelled_middle m x ++ rest) ≡ Ok (x, rest)
middle_back Word w rest fits parted = word_back w rest fits parted
middle_back Hex n rest fits parted = hex_back n rest (below fits) parted
middle_back Marked x rest fits parted = marked_back x.0 x.1 rest (below fits) parted
middle_back Decimal n rest fits parted = decimal_back n rest fits parted

-- Ranges are read from their spelling.
pub ranges_spelled : (ranges : List Extent) → parted (flat_map range_words ranges) ≡ flat_map spelled_range ranges
unfolding spelled_range
ranges_spelled [] = refl
ranges_spelled (r ∷ ranges) =
    ap (λ l. (32 ∷ hex r.address) ++ ((32 ∷ hex r.size) ++ l)) (ranges_spelled ranges)
    ∙ sym (append_assoc (32 ∷ hex r.address) (32 ∷ hex r.size) (flat_map spelled_range ranges))

field_word : (w : List ℕ) → is_field w ≡ true → is_word w ≡ true
unfolding is_field
field_word [] is = cc
field_word (x ∷ w) is = (and_true is).1

pub hex_word : (n : ℕ) → nat_lt n (2 ^ 64) ≡ true → is_word (hex n) ≡ true
hex_word n small = field_word (hex n) (hex_field n (below small))

ranges_words : (ranges : List Extent) → list_all is_range ranges ≡ true → list_all is_word (flat_map range_words ranges) ≡ true
ranges_words [] all = refl
ranges_words (r ∷ ranges) all = both (hex_word r.address (and_true (and_true all).0).0) (both (hex_word r.size (and_true (and_true all).0).1) (ranges_words ranges (and_true all).1))

pairs_back : (ranges : List Extent) → list_all is_range ranges ≡ true → pairs_of (flat_map range_words ranges) ≡ Ok ranges
unfolding pairs_of
pairs_back [] all = refl
pairs_back (r ∷ ranges) all =
    let parts = and_true {a = is_range r} {b = list_all is_range ranges} all in
    let sizes = and_true {a = nat_lt r.address (2 ^ 64)} {b = nat_lt r.size (2 ^ 64)} parts.0 in
    rw (hex_value_is r.address (below sizes.0), hex_value_is r.size (below sizes.1), pairs_back ranges parts.1) refl

some_back : (ranges : List Extent) → nat_lt 0 (length ranges) ≡ true → some_ranges ranges ≡ Ok ranges
some_back [] some = cc
some_back (r ∷ ranges) some = refl

ranges_back : (ranges : List Extent) → are_ranges ranges ≡ true → ranges_at (flat_map spelled_range ranges) ≡ Ok ranges
unfolding ranges_at are_ranges
ranges_back ranges good =
    ap (λ l. pairs_of (words l) >>= some_ranges) (sym (ranges_spelled ranges))
    ∙ ap (λ l. pairs_of l >>= some_ranges) (words_are (flat_map range_words ranges) (ranges_words ranges (and_true good).1))
    ∙ ap (λ l. l >>= some_ranges) (pairs_back ranges (and_true good).1)
    ∙ some_back ranges (and_true good).0

rules_back : (rules : List RuleText) → are_rules rules ≡ true → rules_at (spelled_rules rules) ≡ Ok rules
rules_back rules good = ap rules_at (sym (rules_spelled rules)) ∙ rules_read rules good

skip_nothing : skip is_space [] ≡ []
unfolding skip
skip_nothing = refl

last_back : (n : ℕ) → nat_lt n (2 ^ 32) ≡ true → last_at (32 ∷ decimal n) ≡ Ok n
unfolding last_at
last_back n small =
    ap (λ l. decimal_at (32 ∷ l) >>= λ x. at_end x.0 (skip is_space x.1)) (sym (append-nil (decimal n)))
    ∙ ap (λ r. r >>= λ x. at_end x.0 (skip is_space x.1)) (decimal_back n [] small tt)
    ∙ ap (at_end n) skip_nothing

-- The spelling of fields begins with a space.
opened_behind : (xs ys : List ℕ) → Opened xs → Opened (xs ++ ys)
opened_behind [] ys is = absurd is
opened_behind (x ∷ xs) ys is = is

middle_opened : (m : Middle) (x : Held m) → Opened (spelled_middle m x)
middle_opened Word w = refl
middle_opened Hex n = refl
middle_opened Marked (true, n) = refl
middle_opened Marked (false, n) = refl
middle_opened Decimal n = refl

ranges_opened : (ranges : List Extent) → are_ranges ranges ≡ true → Opened (flat_map spelled_range ranges)
unfolding are_ranges spelled_range
ranges_opened [] good = cc
ranges_opened (r ∷ ranges) good = refl

rules_opened : (rules : List RuleText) → are_rules rules ≡ true → Opened (spelled_rules rules)
unfolding are_rules spelled_rules spelled_rule
rules_opened [] good = cc
rules_opened (r ∷ rules) good = refl

pub opened : (shape : Shape) (v : Values shape) → fit shape v ≡ true → Opened (spelled shape v)
opened Name name fits = refl
opened Rules rules fits = rules_opened rules fits
opened Ranges ranges fits = ranges_opened ranges fits
opened Last n fits = refl
opened (Then m rest) v fits = opened_behind (spelled_middle m v.0) (spelled rest v.1) (middle_opened m v.0)

-- All fields are read from their spelling.
pub values_back : (shape : Shape) (v : Values shape) → fit shape v ≡ true → values_at shape (spelled shape v) ≡ Ok v
values_back Name name fits = name_is name (name_parts name fits)
values_back Rules rules fits = rules_back rules fits
values_back Ranges ranges fits = ranges_back ranges fits
values_back Last n fits = last_back n fits
values_back (Then m rest) v fits =
    ap (λ r. r >>= λ x. values_at rest x.1 >>= λ later. Ok (x.0, later))
    (middle_back m v.0 (spelled rest v.1) (and_true fits).0 (opened_parted (spelled rest v.1) (opened rest v.1 (and_true {a = fits_middle m v.0} fits).1)))
    ∙ ap (λ r. r >>= λ later. Ok (v.0, later)) (values_back rest v.1 (and_true {a = fits_middle m v.0} fits).1)

-- The end of a line.

none_of : (a b : Bool) → a ≡ false → b ≡ false → (a || b) ≡ false
none_of true b first second = cc
none_of false b first second = second

digit_below : (d : ℕ) → nat_lt (digit_value d) 16 ≡ true → digit_value d < 16
digit_below d is = ltb-true (digit_value d) 16 is

no_space : digit_value 32 < 16 → ⊥
no_space h = omega (arith, h)

no_cr : digit_value 13 < 16 → ⊥
no_cr h = omega (arith, h)

-- A hexadecimal digit is neither a space nor CR.
pub digit_inner : (d : ℕ) → nat_lt (digit_value d) 16 ≡ true → is_margin d ≡ false
digit_inner d is = none_of (d == 32) (d == 13)
    (elim_bool (d == 32) (λ t. t ≡ false) (λ same. absurd (no_space (subst (λ (x : ℕ). digit_value x < 16) (eqb-true d 32 same) (digit_below d is)))) (λ _. refl))
    (elim_bool (d == 13) (λ t. t ≡ false) (λ same. absurd (no_cr (subst (λ (x : ℕ). digit_value x < 16) (eqb-true d 13 same) (digit_below d is)))) (λ _. refl))

ten_inner : (d : ℕ) → is_ten d ≡ true → is_margin d ≡ false
ten_inner d is = let low : 48 ≤ d = grind (arith, nat_tests) in grind (arith, nat_tests)

word_ends : (p : ℕ → Bool) (w : List ℕ) → is_field w ≡ true → last_is p (32 ∷ w) ≡ last_is p w
unfolding is_field
word_ends p [] is = cc
word_ends p (x ∷ w) is = last_later p 32 x w

hex_ends : (n : ℕ) → n < 2 ^ 64 → last_is is_margin (32 ∷ hex n) ≡ false
hex_ends n small = word_ends is_margin (hex n) (hex_field n small) ∙ last_none is_margin (λ b. nat_lt (digit_value b) 16) digit_inner (hex n) (hex_digits n small)

decimal_ends : (n : ℕ) → nat_lt n (2 ^ 32) ≡ true → last_is is_margin (32 ∷ decimal n) ≡ false
decimal_ends n small = word_ends is_margin (decimal n) (decimal_field n small) ∙ last_none is_margin is_ten ten_inner (decimal n) (decimal_parts n (below_32 small)).ten

pub behind : (p : ℕ → Bool) (xs ys : List ℕ) → Opened ys → last_is p (xs ++ ys) ≡ last_is p ys
behind p xs [] is = absurd is
behind p xs (y ∷ ys) is = end_behind p xs y ys

range_ends : (r : Extent) → is_range r ≡ true → last_is is_margin (spelled_range r) ≡ false
unfolding spelled_range
range_ends r good = behind is_margin (32 ∷ hex r.address) (32 ∷ hex r.size) refl ∙ hex_ends r.size (below (and_true good).1)

more_opened : (r : Extent) (ranges : List Extent) → Opened (flat_map spelled_range (r ∷ ranges))
unfolding spelled_range
more_opened r ranges = refl

ranges_end : (r : Extent) (ranges : List Extent) → list_all is_range (r ∷ ranges) ≡ true → last_is is_margin (flat_map spelled_range (r ∷ ranges)) ≡ false
ranges_end r [] all = ap (last_is is_margin) (append-nil (spelled_range r)) ∙ range_ends r (and_true all).0
ranges_end r (q ∷ ranges) all =
    behind is_margin (spelled_range r) (flat_map spelled_range (q ∷ ranges)) (more_opened q ranges) ∙ ranges_end q ranges (and_true {a = is_range r} {b = list_all is_range (q ∷ ranges)} all).1

all_ranges_end : (ranges : List Extent) → are_ranges ranges ≡ true → last_is is_margin (flat_map spelled_range ranges) ≡ false
unfolding are_ranges
all_ranges_end [] good = cc
all_ranges_end (r ∷ ranges) good = ranges_end r ranges (and_true {a = nat_lt 0 (length (r ∷ ranges))} good).1

rules_end : (rules : List RuleText) → are_rules rules ≡ true → last_is is_margin (spelled_rules rules) ≡ false
rules_end rules good = ap (last_is is_margin) (sym (rules_spelled rules)) ∙ (rules_parts rules good).ends

name_ends : (name : List ℕ) → NameParts name → last_is is_cr (32 ∷ name) ≡ false
name_ends [] parts = absurd (omega (arith, parts.some))
name_ends (x ∷ name) parts = last_later is_cr 32 x name ∙ ends_at x name ∙ parts.ends

-- The last byte of a spelling is not ignored.
pub shape_ends : (shape : Shape) (v : Values shape) → fit shape v ≡ true → last_is (is_end shape) (spelled shape v) ≡ false
shape_ends Name name fits = name_ends name (name_parts name fits)
shape_ends Rules rules fits = rules_end rules fits
shape_ends Ranges ranges fits = all_ranges_end ranges fits
shape_ends Last n fits = decimal_ends n fits
shape_ends (Then m rest) v fits =
    let later = (and_true {a = fits_middle m v.0} fits).1 in
    behind (is_end rest) (spelled_middle m v.0) (spelled rest v.1) (opened rest v.1 later) ∙ shape_ends rest v.1 later

end_cr : (b : Bool) (xs : List ℕ) → last_is (λ c. cond b (is_cr c) (is_margin c)) xs ≡ false → last_is is_cr xs ≡ false
end_cr true xs is = is
end_cr false xs is = cr_none xs is

pub ends_cr : (shape : Shape) (xs : List ℕ) → last_is (is_end shape) xs ≡ false → last_is is_cr xs ≡ false
ends_cr shape xs is = end_cr (is_named shape) xs is

-- The fields after a keyword are read from their spelling.
pub fields_back : (shape : Shape) (v : Values shape) → fit shape v ≡ true → fields_at shape (spelled shape v) ≡ Ok v
unfolding fields_at
fields_back shape v fits = ap (values_at shape) (trim_kept (is_end shape) (spelled shape v) (shape_ends shape v fits)) ∙ values_back shape v fits
