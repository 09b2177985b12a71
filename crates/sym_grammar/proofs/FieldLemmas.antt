-- Fields, read one after another (for `word_at`, `name_at`, `last_at` and `ranges_at`).
use Rattle.std.proofs.Common.{◌≡◌, ◌≢◌, ℕ, ◌<◌, ◌≤◌, ◌==◌, cond, zero, suc, true, false, List, [], ◌∷◌, ◌++◌, length, ok_or, Result, Ok, Err, refl, sym, ◌∙◌, ap, arith, append_assoc, append-nil, ◌⊎◌, inl, inr}
use Rattle.sym_edges.specs.Results.{◌>>=◌}
use Rattle.sym_rules.proofs.BoolLemmas.{elim_bool}
use Rattle.sym_rules.proofs.EndLemmas.{Begins, begins_skip}
use Rattle.sym_rules.specs.Cuts.{is_space, before, from, skip, onto}
use Rattle.sym_rules.specs.RuleReading.{ends_word, words}
use Rattle.sym_rules.specs.declared.text_fault.TextKind.{TextKind}
use Rattle.sym_rules.specs.declared.text_fault.TextKind.TheVariants as fault
use Rattle.sym_records.specs.FieldReading.{field_of, word_at, name_of, hex_value, hex_at, hex_of, pairs_of, some_ranges, ranges_at, at_end}
use Rattle.sym_records.specs.declared.line.Extent.{Extent}
use Rattle.sym_rules.proofs.CutLemmas.{before_nothing, from_nothing}
use Rattle.sym_grammar.specs.internal.Runs.{behind, range_run}

pub field_some : (xs : List ℕ) → length xs ≢ 0 → field_of xs ≡ Ok (before 32 xs, from 32 xs)
field_some [] some = absurd (some refl)
field_some (x ∷ xs) some = refl

pub field_none : (xs : List ℕ) → length xs ≡ 0 → field_of xs ≡ Err fault.Fields
field_none [] none = refl
field_none (x ∷ xs) none = absurd (omega arith)

pub name_some : (xs : List ℕ) → length xs ≢ 0 → name_of xs ≡ Ok xs
name_some [] some = absurd (some refl)
name_some (x ∷ xs) some = refl

pub name_none : (xs : List ℕ) → length xs ≡ 0 → name_of xs ≡ Err fault.Fields
name_none [] none = refl
name_none (x ∷ xs) none = absurd (omega arith)

pub end_some : (n : ℕ) (xs : List ℕ) → length xs ≢ 0 → at_end n xs ≡ Err fault.Fields
end_some n [] some = absurd (some refl)
end_some n (x ∷ xs) some = refl

pub end_none : (n : ℕ) (xs : List ℕ) → length xs ≡ 0 → at_end n xs ≡ Ok n
end_none n [] none = refl
end_none n (x ∷ xs) none = absurd (omega arith)

-- The bytes from the first space on are not more than all.
from_within : (xs : List ℕ) → length (from 32 xs) ≤ length xs
unfolding from
from_within [] = omega arith
from_within (x ∷ xs) = elim_bool (x == 32) (λ t. length (cond t (x ∷ xs) (from 32 xs)) ≤ length (x ∷ xs)) (λ _. omega arith) (λ _. omega (arith, from_within xs))

from_begun : (xs : List ℕ) → Begins xs → length xs ≢ 0 → length (from 32 xs) < length xs
unfolding from
from_begun [] begins some = absurd (some refl)
from_begun (x ∷ xs) begins some =
    elim_bool (x == 32) (λ t. (x == 32) ≡ t → length (cond t (x ∷ xs) (from 32 xs)) < length (x ∷ xs)) (λ _ same. cc) (λ _ _. omega (arith, from_within xs)) refl

pub from_shorter : (bytes : List ℕ) → length (skip is_space bytes) ≢ 0 → length (from 32 (skip is_space bytes)) < length (skip is_space bytes)
from_shorter bytes some = from_begun (skip is_space bytes) (begins_skip bytes) some

-- Words.

words_space : (xs : List ℕ) (x : ℕ) → (x == 32) ≡ true → words (x ∷ xs) ≡ words xs
unfolding words
words_space xs x is = ap (λ t. cond t (words xs) (cond (ends_word xs) ((x ∷ []) ∷ words xs) (onto x (words xs)))) is

words_byte : (xs : List ℕ) (x : ℕ) → (x == 32) ≡ false → words (x ∷ xs) ≡ cond (ends_word xs) ((x ∷ []) ∷ words xs) (onto x (words xs))
unfolding words
words_byte xs x is = ap (λ t. cond t (words xs) (cond (ends_word xs) ((x ∷ []) ∷ words xs) (onto x (words xs)))) is

pub words_nothing : words [] ≡ []
unfolding words
words_nothing = refl

-- Leading spaces do not change the words.
pub words_skip : (xs : List ℕ) → words (skip is_space xs) ≡ words xs
unfolding skip
words_skip [] = refl
words_skip (x ∷ xs) =
    elim_bool (x == 32) (λ t. (x == 32) ≡ t → words (cond t (skip is_space xs) (x ∷ xs)) ≡ words (x ∷ xs)) (λ _ is. words_skip xs ∙ sym (words_space xs x is)) (λ _ _. refl) refl

before_on : (x : ℕ) (xs : List ℕ) → (x == 32) ≡ false → before 32 (x ∷ xs) ≡ x ∷ before 32 xs
unfolding before
before_on x xs is = ap (λ t. cond t [] (x ∷ before 32 xs)) is

before_space : (x : ℕ) (xs : List ℕ) → (x == 32) ≡ true → before 32 (x ∷ xs) ≡ []
unfolding before
before_space x xs is = ap (λ t. cond t [] (x ∷ before 32 xs)) is

from_on : (x : ℕ) (xs : List ℕ) → (x == 32) ≡ false → from 32 (x ∷ xs) ≡ from 32 xs
unfolding from
from_on x xs is = ap (λ t. cond t (x ∷ xs) (from 32 xs)) is

from_space : (x : ℕ) (xs : List ℕ) → (x == 32) ≡ true → from 32 (x ∷ xs) ≡ x ∷ xs
unfolding from
from_space x xs is = ap (λ t. cond t (x ∷ xs) (from 32 xs)) is

-- The first word, and the later ones.
words_begun : (x : ℕ) (xs : List ℕ) → (x == 32) ≡ false → words (x ∷ xs) ≡ before 32 (x ∷ xs) ∷ words (from 32 (x ∷ xs))
words_begun x [] is =
    words_byte [] x is
    ∙ ap (λ l. l ∷ words []) (sym (before_on x [] is ∙ ap (λ l. x ∷ l) before_nothing))
    ∙ ap (λ l. before 32 (x ∷ []) ∷ words l) (sym (from_on x [] is ∙ from_nothing))
words_begun x (y ∷ xs) is =
    words_byte (y ∷ xs) x is
    ∙ elim_bool (y == 32) (λ t. (y == 32) ≡ t → cond t ((x ∷ []) ∷ words (y ∷ xs)) (onto x (words (y ∷ xs))) ≡ before 32 (x ∷ y ∷ xs) ∷ words (from 32 (x ∷ y ∷ xs)))
    (λ _ space. ap (λ l. l ∷ words (y ∷ xs)) (sym (before_on x (y ∷ xs) is ∙ ap (λ l. x ∷ l) (before_space y xs space)))
    ∙ ap (λ l. before 32 (x ∷ y ∷ xs) ∷ words l) (sym (from_on x (y ∷ xs) is ∙ from_space y xs space)))
    (λ _ other. ap (onto x) (words_begun y xs other)
    ∙ ap (λ l. l ∷ words (from 32 (y ∷ xs))) (sym (before_on x (y ∷ xs) is))
    ∙ ap (λ l. before 32 (x ∷ y ∷ xs) ∷ words l) (sym (from_on x (y ∷ xs) is))) refl

pub words_next : (xs : List ℕ) → Begins xs → length xs ≢ 0 → words xs ≡ before 32 xs ∷ words (from 32 xs)
words_next [] begins some = absurd (some refl)
words_next (x ∷ xs) begins some = words_begun x xs begins

nothing_is : {A : Type 0} (xs : List A) → length xs ≡ 0 → xs ≡ []
nothing_is [] none = refl
nothing_is (x ∷ xs) none = absurd (omega arith)

-- The first word of bytes after their leading spaces, and the later ones.
pub words_first : (bytes : List ℕ) → length (skip is_space bytes) ≢ 0 → words bytes ≡ before 32 (skip is_space bytes) ∷ words (from 32 (skip is_space bytes))
words_first bytes some = sym (words_skip bytes) ∙ words_next (skip is_space bytes) (begins_skip bytes) some

pub words_end : (bytes : List ℕ) → length (skip is_space bytes) ≡ 0 → words bytes ≡ []
words_end bytes none = sym (words_skip bytes) ∙ ap words (nothing_is (skip is_space bytes) none) ∙ words_nothing

skip_begun : (xs : List ℕ) → Begins xs → skip is_space xs ≡ xs
unfolding skip
skip_begun [] begins = refl
skip_begun (x ∷ xs) begins = ap (λ t. cond t (skip is_space xs) (x ∷ xs)) begins

-- Bytes without leading spaces do not change if these are skipped.
pub skip_stays : (xs ys : List ℕ) → ys ≡ skip is_space xs → skip is_space ys ≡ ys
skip_stays xs ys is = ap (skip is_space) is ∙ skip_begun (skip is_space xs) (begins_skip xs) ∙ sym is

-- Ranges.

pub word_first : (bytes : List ℕ) → length (skip is_space bytes) ≢ 0 → word_at bytes ≡ Ok (before 32 (skip is_space bytes), from 32 (skip is_space bytes))
unfolding word_at
word_first bytes some = field_some (skip is_space bytes) some

pub word_none : (bytes : List ℕ) → length (skip is_space bytes) ≡ 0 → word_at bytes ≡ Err fault.Fields
unfolding word_at
word_none bytes none = field_none (skip is_space bytes) none

pub hex_first : (bytes : List ℕ) → length (skip is_space bytes) ≢ 0 → hex_at bytes ≡ (hex_of (before 32 (skip is_space bytes)) >>= λ n. Ok (n, from 32 (skip is_space bytes)))
unfolding hex_at
hex_first bytes some = ap (λ r. r >>= λ word. ok_or (hex_value word.0) fault.Hex >>= λ n. Ok (n, word.1)) (word_first bytes some)

pub hex_none : (bytes : List ℕ) → length (skip is_space bytes) ≡ 0 → hex_at bytes ≡ Err fault.Fields
unfolding hex_at
hex_none bytes none = ap (λ r. r >>= λ word. ok_or (hex_value word.0) fault.Hex >>= λ n. Ok (n, word.1)) (word_none bytes none)

abbrev extent : ℕ → ℕ → Extent
extent address size = record { address = address; size = size }

abbrev Numbered : Type 0
Numbered = Result (ℕ × List ℕ) TextKind

abbrev two_read : ℕ → Numbered → Result (Extent × List ℕ) TextKind
two_read n r = r >>= λ size. Ok (extent n size.0, size.1)

abbrev range_read : Result ℕ TextKind → Numbered → Result (Extent × List ℕ) TextKind
range_read ra rb = ra >>= λ n. two_read n rb

abbrev with_later : (List ℕ → Result (List Extent) TextKind) → Result (Extent × List ℕ) TextKind → Result (List Extent) TextKind
with_later f r = r >>= λ x. f x.1 >>= λ rs. Ok (x.0 ∷ rs)

range_parts : (bytes rest : List ℕ) (ra : Result ℕ TextKind) → hex_at bytes ≡ (ra >>= λ n. Ok (n, rest)) → range_run bytes ≡ range_read ra (hex_at rest)
unfolding range_run
range_parts bytes rest (Ok n) is = ap (λ r. r >>= λ address. two_read address.0 (hex_at address.1)) is
range_parts bytes rest (Err kind) is = ap (λ r. r >>= λ address. two_read address.0 (hex_at address.1)) is

pair_both : (ra rb : Result ℕ TextKind) (q : List ℕ) (f : List ℕ → Result (List Extent) TextKind) → (ra >>= λ n. rb >>= λ m. f q >>= λ rs. Ok (extent n m ∷ rs)) ≡ with_later f (range_read ra (rb >>= λ m. Ok (m, q)))
pair_both (Ok n) (Ok m) q f = refl
pair_both (Ok n) (Err kind) q f = refl
pair_both (Err kind) rb q f = refl

pair_one : (ra : Result ℕ TextKind) (f : List ℕ → Result (List Extent) TextKind) → (ra >>= λ n. Err fault.Fields) ≡ with_later f (range_read ra (Err fault.Fields))
pair_one (Ok n) f = refl
pair_one (Err kind) f = refl

pairs_one : (a : List ℕ) → pairs_of (a ∷ []) ≡ (hex_of a >>= λ n. Err fault.Fields)
unfolding pairs_of
pairs_one a = refl

pairs_two : (a b : List ℕ) (later : List (List ℕ)) → pairs_of (a ∷ b ∷ later) ≡ (hex_of a >>= λ n. hex_of b >>= λ m. pairs_of later >>= λ rs. Ok (extent n m ∷ rs))
unfolding pairs_of
pairs_two a b later = refl

pub zero_or : (n : ℕ) → (n ≡ 0) ⊎ (n ≢ 0)
zero_or zero = inl refl
zero_or (suc n) = inr (λ is. omega (arith, is))

pub behind_nothing : {A : Type 0} (r : Result (List A) TextKind) → r ≡ behind [] r
behind_nothing (Ok xs) = refl
behind_nothing (Err kind) = refl

abbrev pairs_in : List ℕ → Result (List Extent) TextKind
pairs_in bytes = pairs_of (words bytes)

pairs_behind : (a rest : List ℕ) → pairs_of (a ∷ words rest) ≡ with_later pairs_in (range_read (hex_of a) (hex_at rest))
pairs_behind a rest = elim (zero_or (length (skip is_space rest))) [
  | inl none ↦ ap (λ ws. pairs_of (a ∷ ws)) (words_end rest none) ∙ pairs_one a ∙ pair_one (hex_of a) pairs_in
      ∙ ap (λ r. with_later pairs_in (range_read (hex_of a) r)) (sym (hex_none rest none))
  | inr some ↦ ap (λ ws. pairs_of (a ∷ ws)) (words_first rest some) ∙ pairs_two a (before 32 (skip is_space rest)) (words (from 32 (skip is_space rest)))
      ∙ pair_both (hex_of a) (hex_of (before 32 (skip is_space rest))) (from 32 (skip is_space rest)) pairs_in
      ∙ ap (λ r. with_later pairs_in (range_read (hex_of a) r)) (sym (hex_first rest some))
]

pairs_step : (bytes : List ℕ) → length (skip is_space bytes) ≢ 0 → pairs_in bytes ≡ with_later pairs_in (range_run bytes)
pairs_step bytes some =
    ap pairs_of (words_first bytes some) ∙ pairs_behind (before 32 (skip is_space bytes)) (from 32 (skip is_space bytes))
    ∙ ap (with_later pairs_in) (sym (range_parts bytes (from 32 (skip is_space bytes)) (hex_of (before 32 (skip is_space bytes))) (hex_first bytes some)))

pub behind_push : {A : Type 0} (xs : List A) (x : A) (r : Result (List A) TextKind) → behind xs (r >>= λ ys. Ok (x ∷ ys)) ≡ behind (xs ++ x ∷ []) r
behind_push xs x (Ok ys) = ap Ok (sym (append_assoc xs (x ∷ []) ys))
behind_push xs x (Err kind) = refl

some_skipped : (rest : List ℕ) → skip is_space rest ≡ rest → length rest ≢ 0 → length (skip is_space rest) ≢ 0
some_skipped rest stays some none = some (sym (ap length stays) ∙ none)

pub ranges_start : (bytes rest : List ℕ) (ranges : List Extent) → ranges ≡ [] → rest ≡ skip is_space bytes → pairs_of (words bytes) ≡ behind ranges (pairs_of (words rest))
ranges_start bytes rest ranges none is =
    ap pairs_of (sym (words_skip bytes) ∙ ap words (sym is)) ∙ behind_nothing (pairs_of (words rest)) ∙ ap (λ l. behind l (pairs_of (words rest))) (sym none)

pub ranges_more : (bytes rest later next : List ℕ) (ranges : List Extent) (x : Extent) → skip is_space rest ≡ rest → length rest ≢ 0 → range_run rest ≡ Ok (x, later) → next ≡ skip is_space later → pairs_of (words bytes) ≡ behind ranges (pairs_of (words rest)) → pairs_of (words bytes) ≡ behind (ranges ++ x ∷ []) (pairs_of (words next))
ranges_more bytes rest later next ranges x stays some read is so_far =
    so_far ∙ ap (behind ranges) (pairs_step rest (some_skipped rest stays some) ∙ ap (with_later pairs_in) read) ∙ behind_push ranges x (pairs_of (words later))
    ∙ ap (λ ws. behind (ranges ++ x ∷ []) (pairs_of ws)) (sym (words_skip later) ∙ ap words (sym is))

ranges_read : (bytes : List ℕ) (r : Result (List Extent) TextKind) → pairs_of (words bytes) ≡ r → ranges_at bytes ≡ (r >>= some_ranges)
unfolding ranges_at
ranges_read bytes r is = ap (λ x. x >>= some_ranges) is

pub ranges_fault : (bytes rest : List ℕ) (ranges : List Extent) (kind : TextKind) → skip is_space rest ≡ rest → length rest ≢ 0 → range_run rest ≡ Err kind → pairs_of (words bytes) ≡ behind ranges (pairs_of (words rest)) → ranges_at bytes ≡ Err kind
ranges_fault bytes rest ranges kind stays some read so_far =
    ranges_read bytes _ (so_far ∙ ap (behind ranges) (pairs_step rest (some_skipped rest stays some) ∙ ap (with_later pairs_in) read))

pairs_nothing : pairs_of [] ≡ Ok []
unfolding pairs_of
pairs_nothing = refl

ranges_done : (bytes rest : List ℕ) (ranges : List Extent) → length rest ≡ 0 → pairs_of (words bytes) ≡ behind ranges (pairs_of (words rest)) → ranges_at bytes ≡ some_ranges ranges
ranges_done bytes rest ranges none so_far =
    ranges_read bytes (Ok ranges) (so_far ∙ ap (λ l. behind ranges (pairs_of (words l))) (nothing_is rest none)
    ∙ ap (λ ws. behind ranges (pairs_of ws)) words_nothing ∙ ap (behind ranges) pairs_nothing ∙ ap Ok (append-nil ranges))

some_of_some : (ranges : List Extent) → length ranges ≢ 0 → some_ranges ranges ≡ Ok ranges
some_of_some [] some = absurd (some refl)
some_of_some (r ∷ ranges) some = refl

some_of_none : (ranges : List Extent) → length ranges ≡ 0 → some_ranges ranges ≡ Err fault.Fields
some_of_none [] none = refl
some_of_none (r ∷ ranges) none = absurd (omega arith)

pub ranges_some : (bytes rest : List ℕ) (ranges : List Extent) → length ranges ≢ 0 → length rest ≡ 0 → pairs_of (words bytes) ≡ behind ranges (pairs_of (words rest)) → ranges_at bytes ≡ Ok ranges
ranges_some bytes rest ranges some none so_far = ranges_done bytes rest ranges none so_far ∙ some_of_some ranges some

pub ranges_none : (bytes rest : List ℕ) (ranges : List Extent) → length ranges ≡ 0 → length rest ≡ 0 → pairs_of (words bytes) ≡ behind ranges (pairs_of (words rest)) → ranges_at bytes ≡ Err fault.Fields
ranges_none bytes rest ranges empty none so_far = ranges_done bytes rest ranges none so_far ∙ some_of_none ranges empty
