-- Which records pass the test, for code that makes them. `JoiningLemmas` has the lemmas on lists.
pub use Rattle.sym_records.proofs.JoiningLemmas.{first_fits, push_fits, join_fits, join_behind, push_behind, behind_pushed, frame_fits}
use Rattle.std.proofs.Common.{◌≡◌, ℕ, ◌+◌, ◌-◌, ◌*◌, ◌^◌, ◌<◌, ◌≤◌, ◌==◌, cond, Bool, true, false, List, [], ◌∷◌, ◌++◌, length, get_or, codes, nat_lt, nat_le, refl, ap, arith, subst, length-append}
use Rattle.std.specs.List.{list_all, flat_map}
use Rattle.std.specs.Char.{digit_value}
use Rattle.std.specs.Fmt.{decimal}
use Rattle.std.specs.Str.Parse.{AllDigits}
use Rattle.std.proofs.lemmas.Bool.{lt-ltb, le-leb, ltb-true}
use Rattle.std.proofs.lemmas.Bool.Decides.{nat_tests}
use Rattle.std.proofs.lemmas.Fmt.{length-decimal-le}
use Rattle.std.proofs.lemmas.List.Recursion.{and_at}
use Rattle.sym_rules.proofs.BoolLemmas.{and_true, both, elim_bool}
use Rattle.sym_rules.proofs.PlainLemmas.{rules_short, rules_are}
use Rattle.sym_records.proofs.LengthLemmas.{length_module, length_info, length_file, length_origin, length_func, length_inline, length_line, length_public, length_init, length_change}
use Rattle.sym_rules.proofs.DigitsLemmas.{length_hex}
use Rattle.sym_records.proofs.TextLemmas.{digits_within}
use Rattle.clean_names.proofs.CleaningLemmas.{is_shown, named}
use Rattle.sym_rules.specs.RuleValidity.{is_plain_rule}
use Rattle.sym_rules.specs.declared.rules.RuleText.{RuleText}
use Rattle.sym_records.specs.Canon.{body}
use Rattle.sym_records.specs.Fields.{hex, is_field, is_name, mark, is_range, are_ranges, spelled_range}
use Rattle.sym_records.specs.Validity.{has_fields, fields_fit}
use Rattle.sym_records.specs.declared.line.Binary.{Binary}
use Rattle.sym_records.specs.declared.line.Extent.{Extent}
use Rattle.sym_records.specs.declared.line.SymLine.{SymLine}
use Rattle.sym_records.specs.declared.line.SymLine.TheVariants.{Module, Info, File, Origin, Func, Inline, Line, Public, Init, Change}

-- A record passes the test if its fields fit and its line is short.
fits_both : (s : SymLine) → has_fields s ≡ true → length (body s) ≤ 2 ^ 20 → fields_fit s ≡ true
unfolding fields_fit
fits_both s fits short = both fits (le-leb (length (body s)) (2 ^ 20) short)

small : (n : ℕ) → n < 2 ^ 64 → nat_lt n (2 ^ 64) ≡ true
small n is = lt-ltb n (2 ^ 64) is

little : (n : ℕ) → n < 2 ^ 32 → nat_lt n (2 ^ 32) ≡ true
little n is = lt-ltb n (2 ^ 32) is

-- A decimal number below 2^32 has at most 10 digits.
length_decimal : (n : ℕ) → n < 2 ^ 32 → length (decimal n) ≤ 10
length_decimal n is = length-decimal-le 10 n (omega arith) (omega (arith, is)) (omega (arith, is))

length_mark : (many : Bool) → length (mark many) ≤ 2
length_mark true = omega arith
length_mark false = omega arith

-- MODULE with three fields and a name.
pub module_fits : (binary : Binary) → is_field binary.os ≡ true → is_field binary.arch ≡ true → is_field binary.id ≡ true → is_name binary.name ≡ true → 10 + length binary.os + length binary.arch + length binary.id + length binary.name ≤ 2 ^ 20 → fields_fit (Module binary) ≡ true
module_fits binary first second third last short =
    fits_both (Module binary) (both first (both second (both third last))) (omega (arith, length_module binary))

-- INFO with a text that is a name.
pub info_fits : (text : List ℕ) → is_name text ≡ true → 5 + length text ≤ 2 ^ 20 → fields_fit (Info text) ≡ true
info_fits text last short = fits_both (Info text) last (omega (arith, length_info text))

-- FILE and INLINE_ORIGIN with a number and a name: all other bytes are at most 25.
pub file_fits : (number : ℕ) (name : List ℕ) → number < 2 ^ 32 → is_name name ≡ true → 25 + length name ≤ 2 ^ 20 → fields_fit (File number name) ≡ true
file_fits number name first last short =
    fits_both (File number name) (both (little number first) last) (omega (arith, length_file number name, length_decimal number first))

pub origin_fits : (number : ℕ) (name : List ℕ) → number < 2 ^ 32 → is_name name ≡ true → 25 + length name ≤ 2 ^ 20 → fields_fit (Origin number name) ≡ true
origin_fits number name first last short =
    fits_both (Origin number name) (both (little number first) last) (omega (arith, length_origin number name, length_decimal number first))

-- FUNC with three numbers and a name: all other bytes are at most 58.
pub func_fits : (many : Bool) (address size params : ℕ) (name : List ℕ) → address < 2 ^ 64 → size < 2 ^ 64 → params < 2 ^ 64 → is_name name ≡ true → 58 + length name ≤ 2 ^ 20 → fields_fit (Func many address size params name) ≡ true
func_fits many address size params name first second third last short =
    fits_both (Func many address size params name) (both (small address first) (both (small size second) (both (small params third) last)))
    (omega (arith, length_func many address size params name, length_mark many, length_hex address first, length_hex size second, length_hex params third))

range_short : (r : Extent) → is_range r ≡ true → length (spelled_range r) ≤ 34
unfolding spelled_range
range_short r good =
    let parts = and_true {a = nat_lt r.address (2 ^ 64)} {b = nat_lt r.size (2 ^ 64)} good in
    omega (arith, length-append (32 ∷ hex r.address) (32 ∷ hex r.size), length_hex r.address (ltb-true r.address (2 ^ 64) parts.0), length_hex r.size (ltb-true r.size (2 ^ 64) parts.1))

ranges_short : (ranges : List Extent) → list_all is_range ranges ≡ true → length (flat_map spelled_range ranges) ≤ 34 * length ranges
ranges_short [] all = omega arith
ranges_short (r ∷ ranges) all =
    let parts = and_true {a = is_range r} {b = list_all is_range ranges} all in
    omega (arith, length-append (spelled_range r) (flat_map spelled_range ranges), range_short r parts.0, ranges_short ranges parts.1)

ranges_are : (ranges : List Extent) → list_all is_range ranges ≡ true → 0 < length ranges → are_ranges ranges ≡ true
unfolding are_ranges
ranges_are ranges all some = both (lt-ltb 0 (length ranges) some) all

-- INLINE with four numbers and one to 30,000 ranges.
pub inline_fits : (level call_line call_file origin : ℕ) (ranges : List Extent) → level < 2 ^ 32 → call_line < 2 ^ 32 → call_file < 2 ^ 32 → origin < 2 ^ 32 → list_all is_range ranges ≡ true → 0 < length ranges → length ranges ≤ 30000 → fields_fit (Inline level call_line call_file origin ranges) ≡ true
inline_fits level call_line call_file origin ranges first second third fourth all some few =
    fits_both (Inline level call_line call_file origin ranges)
    (both (little level first) (both (little call_line second) (both (little call_file third) (both (little origin fourth) (ranges_are ranges all some)))))
    (omega (arith, length_inline level call_line call_file origin ranges, length_decimal level first, length_decimal call_line second, length_decimal call_file third, length_decimal origin fourth, ranges_short ranges all))

-- A line record with four numbers.
pub line_fits : (address size number file : ℕ) → address < 2 ^ 64 → size < 2 ^ 64 → number < 2 ^ 32 → file < 2 ^ 32 → fields_fit (Line address size number file) ≡ true
line_fits address size number file first second third fourth =
    fits_both (Line address size number file) (both (small address first) (both (small size second) (both (little number third) (little file fourth))))
    (omega (arith, length_line address size number file, length_hex address first, length_hex size second, length_decimal number third, length_decimal file fourth))

-- PUBLIC with two numbers and a name: all other bytes are at most 43.
pub public_fits : (many : Bool) (address params : ℕ) (name : List ℕ) → address < 2 ^ 64 → params < 2 ^ 64 → is_name name ≡ true → 43 + length name ≤ 2 ^ 20 → fields_fit (Public many address params name) ≡ true
public_fits many address params name first second last short =
    fits_both (Public many address params name) (both (small address first) (both (small params second) last))
    (omega (arith, length_public many address params name, length_mark many, length_hex address first, length_hex params second))

-- Hexadecimal digits in either case are a field.
pub digits_field : (ds : List ℕ) → 0 < length ds → AllDigits 16 ds → is_field ds ≡ true
unfolding is_field
digits_field ds some all = both (lt-ltb 0 (length ds) some) (digits_within ds all)

-- Printable bytes without a space in front are a name.
pub shown_name : (x : ℕ) (xs : List ℕ) → (x == 32) ≡ false → list_all is_shown (x ∷ xs) ≡ true → is_name (x ∷ xs) ≡ true
shown_name x xs begins all = named (x ∷ xs) all begins

low_digit : (d : ℕ) → nat_le 32 d ≡ false → digit_value d < 16 → ⊥
low_digit d low below = let small : nat_lt d 48 ≡ true = grind (arith, nat_tests) in omega (arith, subst (λ (v : ℕ). v < 16) (ap (λ t. cond t 36 (cond (nat_lt d 58) (d - 48) (cond (nat_lt d 65) 36 (cond (nat_lt d 91) (d - 55) (cond (nat_lt d 97) 36 (cond (nat_lt d 123) (d - 87) 36)))))) small) below)

is_digit : ℕ → Bool
is_digit c = nat_lt (digit_value c) 16

digit_true : (c : ℕ) → is_digit c ≡ true → digit_value c < 16
unfolding is_digit
digit_true c is = grind (arith, nat_tests)

digit_shown : (d : ℕ) → digit_value d < 16 → is_shown d ≡ true
digit_shown d below = elim_bool (nat_le 32 d) (λ t. nat_le 32 d ≡ t → t ≡ true) (λ _ _. refl) (λ _ low. absurd (low_digit d low below)) refl

digits_shown : (ds : List ℕ) → AllDigits 16 ds → list_all is_shown ds ≡ true
digits_shown [] all = refl
digits_shown (d ∷ ds) all = both (digit_shown d all.0) (digits_shown ds all.1)

-- `CODE_ID ` and hexadecimal digits are a name.
pub code_id_name : (ds : List ℕ) → AllDigits 16 ds → is_name (codes "CODE_ID " ++ ds) ≡ true
code_id_name ds all = named (codes "CODE_ID " ++ ds) (digits_shown ds all) refl

pub upper_digit : (d : ℕ) → d < 16 → digit_value (get_or (codes "0123456789ABCDEF") d 0) < 16
unfolding is_digit
upper_digit d below = digit_true (get_or (codes "0123456789ABCDEF") d 0) (and_at (list_all is_digit) is_digit refl (λ _ _. refl) (codes "0123456789ABCDEF") d 0 below refl)

-- STACK CFI INIT with one to 18 rules without `Other` names.
pub init_fits : (address size : ℕ) (rules : List RuleText) → address < 2 ^ 64 → size < 2 ^ 64 → list_all is_plain_rule rules ≡ true → 0 < length rules → length rules ≤ 18 → fields_fit (Init address size rules) ≡ true
init_fits address size rules first second all some few =
    fits_both (Init address size rules) (both (small address first) (both (small size second) (rules_are rules all some)))
    (omega (arith, length_init address size rules, length_hex address first, length_hex size second, rules_short rules all))

-- STACK CFI with one to 18 rules without `Other` names.
pub change_fits : (address : ℕ) (rules : List RuleText) → address < 2 ^ 64 → list_all is_plain_rule rules ≡ true → 0 < length rules → length rules ≤ 18 → fields_fit (Change address rules) ≡ true
change_fits address rules first all some few =
    fits_both (Change address rules) (both (small address first) (rules_are rules all some)) (omega (arith, length_change address rules, length_hex address first, rules_short rules all))
