-- The canonical spelling of a record is no longer than the line that it was read from.
use Rattle.std.proofs.Common.{◌≡◌, ◌≢◌, ℕ, ◌+◌, ◌<◌, ◌≤◌, ◌==◌, cond, Bool, true, false, List, [], ◌∷◌, ◌++◌, length, drop, codes, Option, Some, None, ok_or, Result, Ok, Err, nat_lt, refl, sym, ◌∙◌, ap, arith, subst, ⊎_elim, inl, inr, length-append, length-drop}
use Rattle.std.specs.List.{list_all, flat_map}
use Rattle.std.specs.Fmt.{decimal}
use Rattle.std.specs.Str.{bytes_eq}
use Rattle.std.proofs.lemmas.Bool.{lt-ltb}
use Rattle.std.proofs.lemmas.Slice.Eq.{bytes_eq-Decides}
use Rattle.sym_edges.specs.Results.{◌>>=◌}
use Rattle.sym_rules.proofs.BoolLemmas.{and_true, both, elim_bool, chosen, bind_ok, no_bytes}
use Rattle.sym_rules.proofs.EndLemmas.{Begins, begins_skip}
use Rattle.sym_rules.proofs.WordLemmas.{parted}
use Rattle.sym_records.proofs.FieldLemmas.{Parted}
use Rattle.sym_records.proofs.FieldSoundLemmas.{ok_is}
use Rattle.sym_rules.specs.Cuts.{is_space, is_cr, before, from, skip, trim_end, onto}
use Rattle.sym_rules.specs.RuleReading.{ends_word, words}
use Rattle.sym_rules.specs.declared.text_fault.TextKind.{TextKind}
use Rattle.sym_rules.specs.declared.text_fault.TextKind.TheVariants as fault
use Rattle.sym_records.specs.Canon.{body}
use Rattle.sym_records.specs.FieldReading.{word_at, name_at, name_of, hex_value, hex_at, hex_of, mark_at, decimal_value, decimal_at, marked_at, middle_at, pairs_of, some_ranges, ranges_at, at_end, last_at, values_at, is_end, fields_at}
use Rattle.sym_records.specs.Fields.{Middle, Word, Hex, Marked, Decimal, Shape, Name, Rules, Ranges, Last, Then, Held, Values, hex, mark, spelled_middle, spelled_range, spelled}
use Rattle.sym_records.specs.Records.{layout, headed, made}
use Rattle.sym_records.specs.Text.{next_word, is_blank, trimmed, is_hex_digit, cfi_key, stack_key, worded_key, keyed, key_at, record_of, record_at, line_read}
use Rattle.sym_records.specs.declared.line.Extent.{Extent}
use Rattle.sym_records.specs.declared.line.SymLine.{SymLine}
use Rattle.sym_records.specs.declared.keyword.Keyword.{Keyword}
use Rattle.sym_records.specs.declared.keyword.Keyword.TheVariants as key
use Rattle.sym_grammar.proofs.FieldLemmas.{words_skip, words_end, words_nothing, zero_or, word_first, word_none}
use Rattle.sym_grammar.proofs.ShortWordLemmas.{hex_short, decimal_short, rules_short, rules_some}

-- The lengths of the parts of a line.

skip_within : (p : ℕ → Bool) (xs : List ℕ) → length (skip p xs) ≤ length xs
unfolding skip
skip_within p [] = omega arith
skip_within p (x ∷ xs) = elim_bool (p x) (λ t. length (cond t (skip p xs) (x ∷ xs)) ≤ length (x ∷ xs)) (λ _. omega (arith, skip_within p xs)) (λ _. omega arith)

trim_within : (p : ℕ → Bool) (xs : List ℕ) → length (trim_end p xs) ≤ length xs
unfolding trim_end
trim_within p [] = omega arith
trim_within p (x ∷ xs) = elim_bool (list_all p (x ∷ xs)) (λ t. length (cond t [] (x ∷ trim_end p xs)) ≤ length (x ∷ xs)) (λ _. omega arith) (λ _. omega (arith, trim_within p xs))

skip_begun : (q : ℕ → Bool) (x : ℕ) (xs ys : List ℕ) → length (skip q xs) ≤ length (skip q ys) → length xs ≤ length ys → length (skip q (x ∷ xs)) ≤ length (skip q (x ∷ ys))
unfolding skip
skip_begun q x xs ys later all = elim_bool (q x) (λ t. length (cond t (skip q xs) (x ∷ xs)) ≤ length (cond t (skip q ys) (x ∷ ys))) (λ _. later) (λ _. omega (arith, all))

skip_nothing : (q : ℕ → Bool) → length (skip q []) ≡ 0
unfolding skip
skip_nothing q = refl

skip_trim : (q p : ℕ → Bool) (xs : List ℕ) → length (skip q (trim_end p xs)) ≤ length (skip q xs)
unfolding trim_end
skip_trim q p [] = omega arith
skip_trim q p (x ∷ xs) = elim_bool (list_all p (x ∷ xs)) (λ t. length (skip q (cond t [] (x ∷ trim_end p xs))) ≤ length (skip q (x ∷ xs)))
    (λ _. omega (arith, skip_nothing q)) (λ _. skip_begun q x (trim_end p xs) xs (skip_trim q p xs) (trim_within p xs))

before_from : (z : List ℕ) → length (before 32 z) + length (from 32 z) ≡ length z
unfolding before from
before_from [] = omega arith
before_from (x ∷ z) = elim_bool (x == 32) (λ t. length (cond t [] (x ∷ before 32 z)) + length (cond t (x ∷ z) (from 32 z)) ≡ length (x ∷ z)) (λ _. omega arith) (λ _. omega (arith, before_from z))

from_parted : (z : List ℕ) → Parted (from 32 z)
unfolding from
from_parted [] = tt
from_parted (x ∷ z) = elim_bool (x == 32) (λ t. (x == 32) ≡ t → Parted (cond t (x ∷ z) (from 32 z))) (λ _ is. is) (λ _ _. from_parted z) refl

before_some : (z : List ℕ) → Begins z → length z ≢ 0 → 0 < length (before 32 z)
unfolding before
before_some [] begins some = absurd (some refl)
before_some (x ∷ z) begins some = elim_bool (x == 32) (λ t. (x == 32) ≡ t → 0 < length (cond t [] (x ∷ before 32 z))) (λ _ is. cc) (λ _ _. omega arith) refl

parted_skip : (xs : List ℕ) → Parted xs → length (skip is_space xs) ≢ 0 → length (skip is_space xs) + 1 ≤ length xs
unfolding skip
parted_skip [] at some = absurd (some refl)
parted_skip (x ∷ xs) at some =
    let same : length (skip is_space (x ∷ xs)) ≡ length (skip is_space xs) = ap (λ t. length (cond t (skip is_space xs) (x ∷ xs))) at in
    omega (arith, same, skip_within is_space xs)

-- Words.

-- 1 if the bytes begin with a word, otherwise 0.
gap : List ℕ → ℕ
gap [] = 0
gap (x ∷ xs) = cond (x == 32) 0 1

gap_within : (xs : List ℕ) → gap xs ≤ 1
unfolding gap
gap_within [] = omega arith
gap_within (x ∷ xs) = elim_bool (x == 32) (λ t. cond t 0 1 ≤ 1) (λ _. omega arith) (λ _. omega arith)

gap_ended : (xs : List ℕ) → ends_word xs ≡ true → gap xs ≡ 0
unfolding gap
gap_ended [] is = refl
gap_ended (x ∷ xs) is = ap (λ t. cond t 0 1) is

gap_begun : (x : ℕ) (xs : List ℕ) → (x == 32) ≡ false → gap (x ∷ xs) ≡ 1
unfolding gap
gap_begun x xs is = ap (λ t. cond t 0 1) is

onto_some : (x : ℕ) (ws : List (List ℕ)) → onto x ws ≡ [] → ⊥
onto_some x [] is = cc
onto_some x (w ∷ ws) is = cc

onto_parted_some : (x : ℕ) (ws : List (List ℕ)) → ws ≢ [] → length (parted (onto x ws)) ≤ length (parted ws) + 1
onto_parted_some x [] some = absurd (some refl)
onto_parted_some x (w ∷ ws) some = omega (arith, length-append (32 ∷ x ∷ w) (parted ws), length-append (32 ∷ w) (parted ws))

words_cut : (x : ℕ) (xs : List ℕ) → words (x ∷ xs) ≡ cond (x == 32) (words xs) (cond (ends_word xs) ((x ∷ []) ∷ words xs) (onto x (words xs)))
unfolding words
words_cut x xs = refl

-- Bytes that do not begin with a space have a word.
words_some : (x : ℕ) (xs : List ℕ) → (x == 32) ≡ false → words (x ∷ xs) ≢ []
words_some x xs other none =
    let all : cond (ends_word xs) ((x ∷ []) ∷ words xs) (onto x (words xs)) ≡ [] =
    sym (words_cut x xs ∙ ap (λ t. cond t (words xs) (cond (ends_word xs) ((x ∷ []) ∷ words xs) (onto x (words xs)))) other) ∙ none in
    elim_bool (ends_word xs) (λ t. cond t ((x ∷ []) ∷ words xs) (onto x (words xs)) ≡ [] → ⊥) (λ _ h. cc) (λ _ h. onto_some x (words xs) h) all

words_gap : (bytes : List ℕ) → length (parted (words bytes)) ≤ length bytes + gap bytes
words_gap [] = omega (arith, ap (λ l. length (parted l)) words_nothing)
words_gap (x ∷ []) =
    elim_bool (x == 32) (λ t. (x == 32) ≡ t → length (parted (words (x ∷ []))) ≤ length (x ∷ []) + gap (x ∷ []))
    (λ _ is. omega (arith, ap (λ l. length (parted l)) (words_cut x [] ∙ ap (λ t. cond t (words []) (cond (ends_word []) ((x ∷ []) ∷ words []) (onto x (words [])))) is ∙ words_nothing)))
    (λ _ is. omega (arith, gap_begun x [] is, ap (λ l. length (parted l)) (words_cut x [] ∙ ap (λ t. cond t (words []) (cond (ends_word []) ((x ∷ []) ∷ words []) (onto x (words [])))) is ∙ ap (λ l. (x ∷ []) ∷ l) words_nothing))) refl
words_gap (x ∷ y ∷ ys) =
    let rest = words_gap (y ∷ ys) in
    let most = gap_within (y ∷ ys) in
    elim_bool (x == 32) (λ t. (x == 32) ≡ t → length (parted (words (x ∷ y ∷ ys))) ≤ length (x ∷ y ∷ ys) + gap (x ∷ y ∷ ys))
    (λ _ is. omega (arith, rest, most, ap (λ l. length (parted l)) (words_cut x (y ∷ ys) ∙ ap (λ t. cond t (words (y ∷ ys)) (cond (ends_word (y ∷ ys)) ((x ∷ []) ∷ words (y ∷ ys)) (onto x (words (y ∷ ys))))) is)))
    (λ _ is. elim_bool (y == 32) (λ t. (y == 32) ≡ t → length (parted (words (x ∷ y ∷ ys))) ≤ length (x ∷ y ∷ ys) + gap (x ∷ y ∷ ys))
    (λ _ next. omega (
      arith,
      rest,
      gap_begun x (y ∷ ys) is,
      gap_ended (y ∷ ys) next,
      length-append (32 ∷ x ∷ []) (parted (words (y ∷ ys))),
      ap (λ l. length (parted l)) (words_cut x (y ∷ ys) ∙ ap (λ t. cond t (words (y ∷ ys)) (cond (ends_word (y ∷ ys)) ((x ∷ []) ∷ words (y ∷ ys)) (onto x (words (y ∷ ys))))) is ∙ ap (λ t. cond t ((x ∷ []) ∷ words (y ∷ ys)) (onto x (words (y ∷ ys)))) next),
    ))
    (λ _ next. omega (
      arith,
      rest,
      most,
      gap_begun x (y ∷ ys) is,
      onto_parted_some x (words (y ∷ ys)) (words_some y ys next),
      ap (λ l. length (parted l)) (words_cut x (y ∷ ys) ∙ ap (λ t. cond t (words (y ∷ ys)) (cond (ends_word (y ∷ ys)) ((x ∷ []) ∷ words (y ∷ ys)) (onto x (words (y ∷ ys))))) is ∙ ap (λ t. cond t ((x ∷ []) ∷ words (y ∷ ys)) (onto x (words (y ∷ ys)))) next),
    )) refl) refl

words_short : (bytes : List ℕ) → length (parted (words bytes)) ≤ length (skip is_space bytes) + 1
words_short bytes = omega (arith, words_gap (skip is_space bytes), gap_within (skip is_space bytes), ap (λ l. length (parted l)) (words_skip bytes))

-- No word is empty.
abbrev is_some : List ℕ → Bool
is_some w = nat_lt 0 (length w)

some_word : (x : ℕ) (w : List ℕ) → is_some (x ∷ w) ≡ true
some_word x w = lt-ltb 0 (length (x ∷ w)) (omega arith)

some_onto : (x : ℕ) (ws : List (List ℕ)) → list_all is_some ws ≡ true → list_all is_some (onto x ws) ≡ true
some_onto x [] all = both (some_word x []) refl
some_onto x (w ∷ ws) all = both (some_word x w) (and_true {a = is_some w} all).1

all_words : (bytes : List ℕ) → list_all is_some (words bytes) ≡ true
all_words [] = ap (list_all is_some) words_nothing
all_words (x ∷ xs) =
    ap (list_all is_some) (words_cut x xs)
    ∙ elim_bool (x == 32) (λ t. list_all is_some (cond t (words xs) (cond (ends_word xs) ((x ∷ []) ∷ words xs) (onto x (words xs)))) ≡ true)
    (λ _. all_words xs)
    (λ _. elim_bool (ends_word xs) (λ t. list_all is_some (cond t ((x ∷ []) ∷ words xs) (onto x (words xs))) ≡ true) (λ _. both (some_word x []) (all_words xs)) (λ _. some_onto x (words xs) (all_words xs)))

-- Fields.

abbrev gives : {A : Type 0} → A → Result A TextKind
gives x = Ok x

or_some : {A : Type 0} (o : Option A) (e : TextKind) (x : A) → ok_or o e ≡ Ok x → o ≡ Some x
or_some None e x is = cc
or_some (Some y) e x is = cc

-- A word that was read, and the bytes after it.
record WordRead (bytes : List ℕ) (x : List ℕ × List ℕ) : Type 0 where
  some : length (skip is_space bytes) ≢ 0
  size : length x.0 + length x.1 ≡ length (skip is_space bytes)
  word : 0 < length x.0
  at : Parted x.1

word_read : (bytes : List ℕ) (x : List ℕ × List ℕ) → word_at bytes ≡ Ok x → WordRead bytes x
word_read bytes x is = elim (zero_or (length (skip is_space bytes))) [
  | inl none ↦ (let bad : Err fault.Fields ≡ gives x = sym (word_none bytes none) ∙ is in cc)
  | inr some ↦ subst (λ (y : List ℕ × List ℕ). WordRead bytes y) (ok_is (before 32 (skip is_space bytes), from 32 (skip is_space bytes)) x (sym (word_first bytes some) ∙ is))
      (record { some = some; size = before_from (skip is_space bytes); word = before_some (skip is_space bytes) (begins_skip bytes) some; at = from_parted (skip is_space bytes) })
]

-- A field that was read: its spelling and the bytes after it are not longer than the line.
record Took (bytes text rest : List ℕ) : Type 0 where
  some : length (skip is_space bytes) ≢ 0
  at : Parted rest
  short : length text + length rest ≤ length (skip is_space bytes) + 1

word_took : (bytes : List ℕ) (x : List ℕ × List ℕ) → word_at bytes ≡ Ok x → Took bytes (32 ∷ x.0) x.1
word_took bytes x is = let read = word_read bytes x is in record { some = read.some; at = read.at; short = omega (arith, read.size) }

hex_took : (bytes : List ℕ) (x : ℕ × List ℕ) → hex_at bytes ≡ Ok x → Took bytes (32 ∷ hex x.0) x.1
unfolding hex_at
hex_took bytes x is =
    let word = bind_ok (word_at bytes) _ x is in
    let value = bind_ok (ok_or (hex_value word.0.0) fault.Hex) _ x word.2 in
    let read = word_read bytes word.0 word.1 in
    subst (λ (y : ℕ × List ℕ). Took bytes (32 ∷ hex y.0) y.1) (ok_is (value.0, word.0.1) x value.2)
    (record { some = read.some; at = read.at; short = omega (arith, read.size, hex_short word.0.0 value.0 read.word (or_some (hex_value word.0.0) fault.Hex value.0 value.1)) })

decimal_took : (bytes : List ℕ) (x : ℕ × List ℕ) → decimal_at bytes ≡ Ok x → Took bytes (32 ∷ decimal x.0) x.1
unfolding decimal_at
decimal_took bytes x is =
    let word = bind_ok (word_at bytes) _ x is in
    let value = bind_ok (ok_or (decimal_value word.0.0) fault.Decimal) _ x word.2 in
    let read = word_read bytes word.0 word.1 in
    subst (λ (y : ℕ × List ℕ). Took bytes (32 ∷ decimal y.0) y.1) (ok_is (value.0, word.0.1) x value.2)
    (record { some = read.some; at = read.at; short = omega (arith, read.size, decimal_short word.0.0 value.0 (or_some (decimal_value word.0.0) fault.Decimal value.0 value.1)) })

letter_long : (w : List ℕ) (text : List ℕ) → bytes_eq w text ≡ true → length w ≡ length text
letter_long w text is = ap length ((bytes_eq-Decides w text).0 is)

-- An optional `m` before a number.
mark_took : (bytes : List ℕ) (many : Bool) (n : ℕ) (rest : List ℕ) → bytes_eq (before 32 (skip is_space bytes)) (codes "m") ≡ many → Took (cond many (from 32 (skip is_space bytes)) bytes) (32 ∷ hex n) rest → Took bytes (mark many ++ 32 ∷ hex n) rest
mark_took bytes true n rest is took =
    let letter = letter_long (before 32 (skip is_space bytes)) (codes "m") is in
    let cut = before_from (skip is_space bytes) in
    let later = parted_skip (from 32 (skip is_space bytes)) (from_parted (skip is_space bytes)) took.some in
    record { some = λ none. omega (arith, letter, cut, none); at = took.at; short = omega (arith, letter, cut, later, took.short) }
mark_took bytes false n rest is took = took

mark_is : (bytes : List ℕ) (many : Bool) → bytes_eq (before 32 (skip is_space bytes)) (codes "m") ≡ many → mark_at bytes ≡ (many, cond many (from 32 (skip is_space bytes)) bytes)
unfolding mark_at
mark_is bytes true is = ap (λ t. cond {A = Bool × List ℕ} t (true, from 32 (skip is_space bytes)) (false, bytes)) is
mark_is bytes false is = ap (λ t. cond {A = Bool × List ℕ} t (true, from 32 (skip is_space bytes)) (false, bytes)) is

marked_took : (bytes : List ℕ) (x : (Bool × ℕ) × List ℕ) → marked_at bytes ≡ Ok x → Took bytes (mark x.0.0 ++ 32 ∷ hex x.0.1) x.1
unfolding marked_at
marked_took bytes x is =
    let many : Bool = bytes_eq (before 32 (skip is_space bytes)) (codes "m") in
    let at = mark_is bytes many refl in
    let n = bind_ok (hex_at (mark_at bytes).1) _ x is in
    let left : (mark_at bytes).1 ≡ cond many (from 32 (skip is_space bytes)) bytes = ap (λ (p : Bool × List ℕ). p.1) at in
    let first : (mark_at bytes).0 ≡ many = ap (λ (p : Bool × List ℕ). p.0) at in
    let took = subst (λ (l : List ℕ). Took l (32 ∷ hex n.0.0) n.0.1) left (hex_took (mark_at bytes).1 n.0 n.1) in
    subst (λ (y : (Bool × ℕ) × List ℕ). Took bytes (mark y.0.0 ++ 32 ∷ hex y.0.1) y.1) (ok_is (((mark_at bytes).0, n.0.0), n.0.1) x n.2)
    (subst (λ (b : Bool). Took bytes (mark b ++ 32 ∷ hex n.0.0) n.0.1) (sym first) (mark_took bytes many n.0.0 n.0.1 refl took))

middle_took : (m : Middle) (bytes : List ℕ) (x : Held m × List ℕ) → middle_at m bytes ≡ Ok x → Took bytes (spelled_middle m x.0) x.1
middle_took Word bytes x is = word_took bytes x is
middle_took Hex bytes x is = hex_took bytes x is
middle_took Marked bytes x is = marked_took bytes x is
middle_took Decimal bytes x is = decimal_took bytes x is

-- The last field.

record Spent (bytes text : List ℕ) : Type 0 where
  some : length (skip is_space bytes) ≢ 0
  short : length text ≤ length (skip is_space bytes) + 1

name_long : (z name : List ℕ) → name_of z ≡ gives name → (length z ≢ 0) × (name ≡ z)
name_long [] name is = cc
name_long (b ∷ z) name is = (λ none. omega (arith, none), sym (ok_is (b ∷ z) name is))

name_spent : (bytes name : List ℕ) → name_at bytes ≡ Ok name → Spent bytes (32 ∷ name)
unfolding name_at
name_spent bytes name is = let read = name_long (skip is_space bytes) name is in record { some = read.0; short = omega (arith, ap length read.1) }

rules_left : (bytes : List ℕ) → words bytes ≢ [] → length (skip is_space bytes) ≢ 0
rules_left bytes some none = some (words_end bytes none)

hex_word : (a : List ℕ) (n : ℕ) → is_some a ≡ true → hex_of a ≡ Ok n → length (hex n) ≤ length a
hex_word a n some is = hex_short a n (no_bytes a some) (or_some (hex_value a) fault.Hex n is)

no_pairs : (ranges : List Extent) → pairs_of [] ≡ gives ranges → ranges ≡ []
unfolding pairs_of
no_pairs ranges is = sym (ok_is [] ranges is)

pairs_short : (ws : List (List ℕ)) (ranges : List Extent) → list_all is_some ws ≡ true → pairs_of ws ≡ Ok ranges → length (flat_map spelled_range ranges) ≤ length (parted ws)
unfolding pairs_of spelled_range
pairs_short [] ranges all is = omega (arith, ap (λ l. length (flat_map spelled_range l)) (no_pairs ranges is))
pairs_short (a ∷ []) ranges all is = (let first = bind_ok (hex_of a) _ ranges is in let none = first.2 in cc)
pairs_short (a ∷ b ∷ later) ranges all is =
    let address = bind_ok (hex_of a) _ ranges is in
    let size = bind_ok (hex_of b) _ ranges address.2 in
    let rest = bind_ok (pairs_of later) _ ranges size.2 in
    let one = and_true {a = is_some a} {b = list_all is_some (b ∷ later)} all in
    let two = and_true {a = is_some b} {b = list_all is_some later} one.1 in
    let range : Extent = record { address = address.0; size = size.0 } in
    omega (
      arith,
      sym (ap (λ l. length (flat_map spelled_range l)) (ok_is (range ∷ rest.0) ranges rest.2)),
      length-append (spelled_range range) (flat_map spelled_range rest.0),
      length-append (32 ∷ hex address.0) (32 ∷ hex size.0),
      length-append (32 ∷ a) ((32 ∷ b) ++ parted later),
      length-append (32 ∷ b) (parted later),
      hex_word a address.0 one.0 address.1,
      hex_word b size.0 two.0 size.1,
      pairs_short later rest.0 two.1 rest.1,
    )

some_is : (xs ranges : List Extent) → some_ranges xs ≡ gives ranges → (xs ≢ []) × (ranges ≡ xs)
some_is [] ranges is = cc
some_is (x ∷ xs) ranges is = (λ none. cc, sym (ok_is (x ∷ xs) ranges is))

ranges_spent : (bytes : List ℕ) (ranges : List Extent) → ranges_at bytes ≡ Ok ranges → Spent bytes (flat_map spelled_range ranges)
unfolding ranges_at
ranges_spent bytes ranges is =
    let pairs = bind_ok (pairs_of (words bytes)) some_ranges ranges is in
    let read = some_is pairs.0 ranges pairs.2 in
    record {
      some = rules_left bytes (λ none. read.0 (no_pairs pairs.0 (ap pairs_of (sym none) ∙ pairs.1)));
      short = omega (arith, ap (λ l. length (flat_map spelled_range l)) read.1, pairs_short (words bytes) pairs.0 (all_words bytes) pairs.1, words_short bytes);
    }

end_is : (n : ℕ) (z : List ℕ) (m : ℕ) → at_end n z ≡ gives m → n ≡ m
end_is n [] m is = ok_is n m is
end_is n (b ∷ z) m is = cc

last_spent : (bytes : List ℕ) (n : ℕ) → last_at bytes ≡ Ok n → Spent bytes (32 ∷ decimal n)
unfolding last_at
last_spent bytes n is =
    let first = bind_ok (decimal_at bytes) _ n is in
    let took = decimal_took bytes first.0 first.1 in
    subst (λ (m : ℕ). Spent bytes (32 ∷ decimal m)) (end_is first.0.0 (skip is_space first.0.1) n first.2) (record { some = took.some; short = omega (arith, took.short) })

values_spent : (shape : Shape) (bytes : List ℕ) (v : Values shape) → values_at shape bytes ≡ Ok v → Spent bytes (spelled shape v)
values_spent Name bytes name is = name_spent bytes name is
values_spent Rules bytes rules is = record { some = rules_left bytes (rules_some bytes rules is); short = omega (arith, rules_short bytes rules is, words_short bytes) }
values_spent Ranges bytes ranges is = ranges_spent bytes ranges is
values_spent Last bytes n is = last_spent bytes n is
values_spent (Then m rest) bytes v is =
    let first = bind_ok (middle_at m bytes) _ v is in
    let later = bind_ok (values_at rest first.0.1) _ v first.2 in
    let took = middle_took m bytes first.0 first.1 in
    let spent = values_spent rest first.0.1 later.0 later.1 in
    subst (λ (w : Values (Then m rest)). Spent bytes (spelled (Then m rest) w)) (ok_is {A = Values (Then m rest)} (first.0.0, later.0) v later.2)
    (record { some = took.some; short = omega (arith, length-append (spelled_middle m first.0.0) (spelled rest later.0), took.short, spent.short, parted_skip first.0.1 took.at spent.some) })

-- Keywords.

-- A keyword and the bytes after it are not longer than the line.
abbrev IfSpent : List ℕ → Result (Keyword × List ℕ) TextKind → Type 0
IfSpent z (Ok found) = length (skip is_space found.1) ≢ 0 → length (headed found.0) + length (skip is_space found.1) ≤ length z
IfSpent z (Err kind) = Unit {0}

if_spent : (z : List ℕ) (b : Bool) (r q : Result (Keyword × List ℕ) TextKind) → (b ≡ true → IfSpent z r) → IfSpent z q → IfSpent z (cond b r q)
if_spent z true r q first second = first refl
if_spent z false r q first second = second

word_spent : (z : List ℕ) (k : Keyword) (text : List ℕ) → length (headed k) ≡ length text + 1 → bytes_eq (before 32 z) text ≡ true → IfSpent z (Ok (k, from 32 z))
word_spent z k text size is some = omega (arith, size, letter_long (before 32 z) text is, before_from z, parted_skip (from 32 z) (from_parted z) some)

-- The bytes after the next word.
record Next (bytes text : List ℕ) : Type 0 where
  size : length text + length (from 32 (skip is_space bytes)) + 1 ≤ length bytes

next_read : (bytes : List ℕ) (text : List ℕ) → Parted bytes → 0 < length text → bytes_eq (next_word bytes) text ≡ true → Next bytes text
next_read bytes text at some is =
    let letter = letter_long (next_word bytes) text is in
    let cut = before_from (skip is_space bytes) in
    record { size = omega (arith, letter, cut, parted_skip bytes at (λ none. omega (arith, letter, cut, none, some))) }

cfi_spent : (z bytes : List ℕ) → Parted bytes → length bytes + 9 ≤ length z → IfSpent z (Ok (cfi_key bytes))
unfolding cfi_key
cfi_spent z bytes at within =
    elim_bool (bytes_eq (next_word bytes) (codes "INIT")) (λ t. bytes_eq (next_word bytes) (codes "INIT") ≡ t → IfSpent z (Ok (cond {A = Keyword × List ℕ} t (key.Init, from 32 (skip is_space bytes)) (key.Change, bytes))))
    (λ _ is some. (let next = next_read bytes (codes "INIT") at (omega arith) is in omega (arith, within, next.size, parted_skip (from 32 (skip is_space bytes)) (from_parted (skip is_space bytes)) some)))
    (λ _ _ some. omega (arith, within, parted_skip bytes at some)) refl

stack_spent : (z bytes : List ℕ) → Parted bytes → length bytes + 5 ≤ length z → IfSpent z (stack_key bytes)
unfolding stack_key
stack_spent z bytes at within =
    if_spent z (bytes_eq (next_word bytes) (codes "CFI")) _ _
    (λ is. (let next = next_read bytes (codes "CFI") at (omega arith) is in cfi_spent z (from 32 (skip is_space bytes)) (from_parted (skip is_space bytes)) (omega (arith, within, next.size))))
    (if_spent z (bytes_eq (next_word bytes) (codes "WIN")) (Err fault.Windows) (Err fault.Unknown) (λ _. tt) tt)

stack_word : (z : List ℕ) → bytes_eq (before 32 z) (codes "STACK") ≡ true → IfSpent z (stack_key (from 32 z))
stack_word z is = stack_spent z (from 32 z) (from_parted z) (omega (arith, letter_long (before 32 z) (codes "STACK") is, before_from z))

worded_spent : (z : List ℕ) → IfSpent z (worded_key (before 32 z) (from 32 z))
unfolding worded_key
worded_spent z = search (if_spent z, word_spent z, stack_word z) depth 40

key_spent : (z : List ℕ) → IfSpent z (key_at z)
unfolding key_at keyed
key_spent z =
    if_spent z (list_all is_hex_digit (before 32 z)) _ _ (λ _ some. omega (arith, skip_within is_space z)) (worded_spent z)

was_spent : (z : List ℕ) (r : Result (Keyword × List ℕ) TextKind) (found : Keyword × List ℕ) → IfSpent z r → r ≡ Ok found → length (skip is_space found.1) ≢ 0 → length (headed found.0) + length (skip is_space found.1) ≤ length z
was_spent z r found spent given = subst (λ (x : Result (Keyword × List ℕ) TextKind). IfSpent z x) given spent

-- Lines.

made_body : (k : Keyword) (v : Values (layout k)) → body (made k v) ≡ drop 1 (headed k ++ spelled (layout k) v)
unfolding body
made_body key.Module v = refl
made_body k v = refl

fields_spent : (shape : Shape) (bytes : List ℕ) (v : Values shape) → fields_at shape bytes ≡ Ok v → Spent bytes (spelled shape v)
unfolding fields_at
fields_spent shape bytes v is =
    let spent = values_spent shape (trim_end (is_end shape) bytes) v is in
    let less = skip_trim is_space (is_end shape) bytes in
    record { some = λ none. spent.some (omega (arith, none, less)); short = omega (arith, spent.short, less) }

record_short : (z : List ℕ) (found : Keyword × List ℕ) (s : SymLine) → key_at z ≡ Ok found → record_of found.0 found.1 ≡ Ok s → length (body s) ≤ length z
record_short z found s is read =
    let fields = bind_ok (fields_at (layout found.0) found.1) _ s read in
    let spent = fields_spent (layout found.0) found.1 fields.0 fields.1 in
    let all = was_spent z (key_at z) found (key_spent z) is spent.some in
    let text = ap length (sym (ap body (ok_is (made found.0 fields.0) s fields.2)) ∙ made_body found.0 fields.0) in
    omega (arith, text, length-drop 1 (headed found.0 ++ spelled (layout found.0) fields.0), length-append (headed found.0) (spelled (layout found.0) fields.0), spent.short, all)

abbrev nothing_read : Result (Option SymLine) TextKind
nothing_read = Ok None

abbrev some_read : SymLine → Result (Option SymLine) TextKind
some_read s = Ok (Some s)

abbrev found_of : Keyword × List ℕ → Result SymLine TextKind
found_of found = record_of found.0 found.1

none_some : {P : Type 0} (s : SymLine) → nothing_read ≡ some_read s → P
none_some s is = cc

pub read_short : (line : List ℕ) (s : SymLine) → line_read line ≡ Ok (Some s) → length (body s) ≤ length line
unfolding line_read record_at
read_short line s is = ⊎_elim (λ h. none_some s h.1) (λ h.
    let read = bind_ok (key_at (trimmed line) >>= found_of) _ (Some s) h.1 in
    let same : read.0 ≡ s = (let last = read.2 in cc) in
    let found = bind_ok (key_at (trimmed line)) found_of read.0 read.1 in
    omega (arith, ap (λ x. length (body x)) same, record_short (trimmed line) found.0 read.0 found.1 found.2, skip_within is_space (trim_end is_cr line), trim_within is_cr line))
    (chosen (is_blank line) nothing_read ((key_at (trimmed line) >>= found_of) >>= λ x. Ok (Some x)) (Ok (Some s)) is)
