-- Hexadecimal numbers, read in one pass over a field (for `hex_field`).
use Rattle.std.proofs.Common.{◌≡◌, ◌≢◌, ℕ, ◌+◌, ◌*◌, ◌<◌, ◌≤◌, cond, List, [], ◌∷◌, ◌++◌, length, take, drop, get_or, Option, Some, None, ok_or, Result, Ok, Err, nat_lt, refl, sym, ◌∙◌, ap, arith, length-append}
use Rattle.std.specs.Option.{option_and_then}
use Rattle.std.proofs.lemmas.List.{at_drop_more, length-take, take_all}
use Rattle.sym_edges.specs.Results.{◌>>=◌}
use Rattle.sym_rules.proofs.BoolLemmas.{elim_bool}
use Rattle.sym_rules.specs.Cuts.{before, from}
use Rattle.sym_rules.specs.declared.text_fault.TextKind.{TextKind}
use Rattle.sym_rules.specs.declared.text_fault.TextKind.TheVariants.{Hex}
use Rattle.sym_records.specs.FieldReading.{hex_digit, hex_onto, hex_value, hex_of}
use Rattle.sym_rules.proofs.CutLemmas.{before_go, take_next, word_stop, rest_stop, word_end, rest_end}
use Rattle.sym_grammar.proofs.NumberLemmas.{hex_long, hex_short}
use Rattle.sym_grammar.specs.internal.Runs.{hex_field}

onto_next : (n d : ℕ) (ds : List ℕ) → hex_onto n (d ∷ ds) ≡ option_and_then (λ v. hex_onto (n * 16 + v) ds) (hex_digit d)
unfolding hex_onto
onto_next n d ds = refl

onto_none : (n : ℕ) → hex_onto n [] ≡ Some n
unfolding hex_onto
onto_none n = refl

pub no_digit : hex_onto 0 [] ≡ Some 0
no_digit = onto_none 0

same_some : (m n : ℕ) → Some m ≡ Some n → m ≡ n
same_some m n is = cc

digit_or_none : (m n d : ℕ) (xs ys : List ℕ) (o : Option ℕ) → ((v : ℕ) → hex_onto (m * 16 + v) xs ≡ Some n → hex_onto (m * 16 + v) (xs ++ ys) ≡ hex_onto n ys) → option_and_then (λ v. hex_onto (m * 16 + v) xs) o ≡ Some n → option_and_then (λ v. hex_onto (m * 16 + v) (xs ++ ys)) o ≡ hex_onto n ys
digit_or_none m n d xs ys None on is = cc
digit_or_none m n d xs ys (Some v) on is = on v is

onto_behind : (m n : ℕ) (xs ys : List ℕ) → hex_onto m xs ≡ Some n → hex_onto m (xs ++ ys) ≡ hex_onto n ys
onto_behind m n [] ys is = ap (λ k. hex_onto k ys) (same_some m n (sym (onto_none m) ∙ is))
onto_behind m n (d ∷ xs) ys is =
    onto_next m d (xs ++ ys) ∙ digit_or_none m n d xs ys (hex_digit d) (λ v read. onto_behind (m * 16 + v) n xs ys read) (sym (onto_next m d xs) ∙ is)

pub digit_more : (field : List ℕ) (i n v w : ℕ) → i < length field → Some v ≡ hex_digit (get_or field i 0) → w ≡ v → hex_onto 0 (take i field) ≡ Some n → hex_onto 0 (take (i + 1) field) ≡ Some (n * 16 + w)
digit_more field i n v w within is same so_far =
    ap (hex_onto 0) (take_next field i within) ∙ onto_behind 0 n (take i field) (get_or field i 0 ∷ []) so_far ∙ onto_next n (get_or field i 0) []
    ∙ ap (option_and_then (λ x. hex_onto (n * 16 + x) [])) (sym is) ∙ onto_none (n * 16 + v) ∙ ap (λ x. Some (n * 16 + x)) (sym same)

abbrev with_rest : List ℕ → Result ℕ TextKind → Result (ℕ × List ℕ) TextKind
with_rest rest r = r >>= λ n. Ok (n, rest)

field_is : (field word rest : List ℕ) (o : Option ℕ) → word ≡ before 32 field → rest ≡ from 32 field → hex_value word ≡ o → hex_field field ≡ with_rest rest (ok_or o Hex)
unfolding hex_field
field_is field word rest o first second is = ap (λ w. with_rest (from 32 field) (hex_of w)) (sym first) ∙ ap (λ l. with_rest l (hex_of word)) (sym second) ∙ ap (λ x. with_rest rest (ok_or x Hex)) is

front_value : (field : List ℕ) (i n : ℕ) → i ≤ 16 → hex_onto 0 (take i field) ≡ Some n → hex_value (take i field) ≡ Some n
front_value field i n few is = hex_short (take i field) (omega (arith, length-take i field, few)) ∙ is

-- A space ends the field.
pub field_done : (field : List ℕ) (i n : ℕ) → i < length field → get_or field i 0 ≡ 32 → i ≤ 16 → hex_onto 0 (take i field) ≡ Some n → before 32 field ≡ take i field ++ before 32 (drop i field) → from 32 field ≡ from 32 (drop i field) → hex_field field ≡ Ok (n, drop i field)
field_done field i n within space few is word rest = field_is field (take i field) (drop i field) (Some n) (word_stop field i within space word) (rest_stop field i within space rest) (front_value field i n few is)

-- The end of the bytes ends the field.
all_taken : (field : List ℕ) (i : ℕ) → length field ≤ i → before 32 field ≡ take i field ++ before 32 (drop i field) → take i field ≡ before 32 field
all_taken field i past word = take_all i field past ∙ word_end field i past word

pub field_end : (field : List ℕ) (i n : ℕ) → length field ≤ i → i ≤ 16 → hex_onto 0 (take i field) ≡ Some n → before 32 field ≡ take i field ++ before 32 (drop i field) → from 32 field ≡ from 32 (drop i field) → hex_field field ≡ Ok (n, [])
field_end field i n past few is word rest = field_is field (take i field) [] (Some n) (all_taken field i past word) (rest_end field i past rest) (front_value field i n few is)

-- Another byte goes on with the field.
word_on : (field : List ℕ) (i : ℕ) → i < length field → get_or field i 0 ≢ 32 → before 32 field ≡ take i field ++ before 32 (drop i field) → before 32 field ≡ take i field ++ get_or field i 0 ∷ before 32 (drop (i + 1) field)
word_on field i within other word = word ∙ ap (λ l. take i field ++ l) (at_drop_more (before 32) field i 0 within ∙ before_go (get_or field i 0) (drop (i + 1) field) other)

value_none : (ds : List ℕ) → hex_onto 0 ds ≡ None → hex_value ds ≡ None
unfolding hex_value
value_none ds is = elim_bool (nat_lt 16 (length ds)) (λ t. cond t None (hex_onto 0 ds) ≡ None) (λ _. refl) (λ _. is)

pub field_bad : (field : List ℕ) (i n : ℕ) → i < length field → get_or field i 0 ≢ 32 → None ≡ hex_digit (get_or field i 0) → hex_onto 0 (take i field) ≡ Some n → before 32 field ≡ take i field ++ before 32 (drop i field) → hex_field field ≡ Err Hex
field_bad field i n within other bad is word =
    let rest : List ℕ = before 32 (drop (i + 1) field) in
    let none : hex_onto 0 (before 32 field) ≡ None =
    ap (hex_onto 0) (word_on field i within other word) ∙ onto_behind 0 n (take i field) (get_or field i 0 ∷ rest) is ∙ onto_next n (get_or field i 0) rest
    ∙ ap (option_and_then (λ x. hex_onto (n * 16 + x) rest)) (sym bad) in
    field_is field (before 32 field) (from 32 field) None refl refl (value_none (before 32 field) none)

pub field_long : (field : List ℕ) (i : ℕ) → i < length field → get_or field i 0 ≢ 32 → 16 ≤ i → before 32 field ≡ take i field ++ before 32 (drop i field) → hex_field field ≡ Err Hex
field_long field i within other many word =
    let size = ap length (word_on field i within other word) in
    field_is field (before 32 field) (from 32 field) None refl refl
    (hex_long (before 32 field) (omega (arith, size, length-append (take i field) (get_or field i 0 ∷ before 32 (drop (i + 1) field)), length-take i field, within, many)))
