-- Lemmas about lines and words.
use Rattle.std.proofs.Common.{◌≡◌, ◌+◌, ◌<◌, ◌==◌, ℕ, zero, suc, cond, Bool, true, false, ◌⊎◌, inl, inr, List, [], ◌∷◌, length, get_or, take, drop, None, Some, refl, sym, ap, ◌∙◌, arith}
use Rattle.clean_names.proofs.SkipLemmas.{Begins, begins_skip}
use Rattle.std.proofs.lemmas.Bool.{false_from_ne_true}
use Rattle.std.proofs.lemmas.List.{nil_from_length}
use Rattle.memchr.specs.Find.{IsFirstByte, is_byte}
use Rattle.sym_rules.specs.Cuts.{is_space, before, from, skip, onto, split_lines}
use Rattle.sym_rules.specs.RuleReading.{words}
use Rattle.state_file.specs.internal.Parts.{two_of}

-- A byte other than LF at the start is in the first line.
split_within : (b : ℕ) (bytes : List ℕ) → ((b == 10) ≡ true → ⊥) → split_lines (b ∷ bytes) ≡ onto b (split_lines bytes)
unfolding split_lines
split_within b bytes within = ap (λ t. cond t ([] ∷ split_lines bytes) (onto b (split_lines bytes))) (false_from_ne_true (b == 10) within)

-- A text without LF is one line.
one_line : (bytes : List ℕ) → ((k : ℕ) → k < length bytes → (get_or bytes k 0 == 10) ≡ true → ⊥) → split_lines bytes ≡ bytes ∷ []
unfolding split_lines
one_line [] none = refl
one_line (b ∷ bytes) none = split_within b bytes (none 0 (omega arith)) ∙ ap (onto b) (one_line bytes (λ k lt. none (suc k) (omega arith)))

-- The first line ends before the first LF.
first_line : (bytes : List ℕ) (n : ℕ) → n < length bytes → ((k : ℕ) → k < n → (get_or bytes k 0 == 10) ≡ true → ⊥) → (get_or bytes n 0 == 10) ≡ true
    → split_lines bytes ≡ take n bytes ∷ split_lines (drop (n + 1) bytes)
unfolding split_lines
first_line [] n within before is = absurd (omega arith)
first_line (b ∷ bytes) zero within before is = ap (λ t. cond t ([] ∷ split_lines bytes) (onto b (split_lines bytes))) is
first_line (b ∷ bytes) (suc n) within before is =
    let next : suc n + 1 ≡ suc (n + 1) = omega arith in
    rw next (split_within b bytes (before 0 (omega arith))
    ∙ ap (onto b) (first_line bytes n (omega arith) (λ k lt. before (suc k) (omega arith)) is))

-- The search for LF shows whether a line is the last one or others follow.
pub line_last : (bytes : List ℕ) → IsFirstByte (is_byte 10) bytes None → split_lines bytes ≡ bytes ∷ []
line_last bytes none = one_line bytes (λ k lt. none k (omega arith) lt)

pub line_first : (bytes front behind : List ℕ) (n : ℕ) → IsFirstByte (is_byte 10) bytes (Some n) → front ≡ take n bytes → behind ≡ drop (n + 1) bytes → split_lines bytes ≡ front ∷ split_lines behind
line_first bytes front behind n found f b =
    first_line bytes n found.0.high (λ k lt. found.0.before k (omega arith) lt) found.1
    ∙ ap (λ l. l ∷ split_lines (drop (n + 1) bytes)) (sym f) ∙ ap (λ l. front ∷ split_lines l) (sym b)

-- Spaces before the first word are skipped, and the word ends at a space.
skip_by : (t : Bool) (x : ℕ) (xs : List ℕ) → t ≡ (x == 32) → words xs ≡ words (skip is_space xs) → words (x ∷ xs) ≡ words (cond t (skip is_space xs) (x ∷ xs))
unfolding words
skip_by true x xs e h = rw (sym e) h
skip_by false x xs e h = refl

words_skipped : (bytes : List ℕ) → words bytes ≡ words (skip is_space bytes)
unfolding skip
words_skipped [] = refl
words_skipped (x ∷ xs) = skip_by (x == 32) x xs refl (words_skipped xs)

first_by : (b c : ℕ) (bytes : List ℕ) (t : Bool) → (c == 32) ≡ t → (t ≡ false → words (c ∷ bytes) ≡ before 32 (c ∷ bytes) ∷ words (from 32 (c ∷ bytes)))
    → cond t ((b ∷ []) ∷ words (c ∷ bytes)) (onto b (words (c ∷ bytes))) ≡ (b ∷ before 32 (c ∷ bytes)) ∷ words (from 32 (c ∷ bytes))
unfolding before from
first_by b c bytes true e h = rw e refl
first_by b c bytes false e h = ap (onto b) (h refl)

words_first : (b : ℕ) (bytes : List ℕ) → (b == 32) ≡ false → words (b ∷ bytes) ≡ before 32 (b ∷ bytes) ∷ words (from 32 (b ∷ bytes))
unfolding words before from
words_first b [] e = rw e refl
words_first b (c ∷ bytes) e = rw e (first_by b c bytes (c == 32) refl (λ f. words_first c bytes f))

-- The bytes have no word, or a first word and those after it.
pub record NoWord (bytes : List ℕ) : Type 0 where
  pub none : words bytes ≡ []
  pub word : before 32 (skip is_space bytes) ≡ []
  pub rest : from 32 (skip is_space bytes) ≡ []
  pub blank : skip is_space bytes ≡ []

pub record OneWord (bytes : List ℕ) : Type 0 where
  pub parts : words bytes ≡ before 32 (skip is_space bytes) ∷ words (from 32 (skip is_space bytes))
  pub some : 0 < length (before 32 (skip is_space bytes))

some_by : (b : ℕ) (later : List ℕ) → (b == 32) ≡ false → (bytes : List ℕ) → bytes ≡ b ∷ later → 0 < length (before 32 bytes)
unfolding before
some_by b later h bytes e = rw (e, h) (omega arith)

seen_by : (bytes skipped : List ℕ) → skip is_space bytes ≡ skipped → Begins skipped → NoWord bytes ⊎ OneWord bytes
unfolding words before from
seen_by bytes [] e h =
    inl (record {
      none = words_skipped bytes ∙ ap words e;
      word = ap (before 32) e;
      rest = ap (from 32) e;
      blank = e;
    })
seen_by bytes (b ∷ later) e h =
    inr (record {
      parts = words_skipped bytes ∙ ap words e ∙ words_first b later h ∙ ap (λ l. before 32 l ∷ words (from 32 l)) (sym e);
      some = some_by b later h (skip is_space bytes) e;
    })

pub words_seen : (bytes : List ℕ) → NoWord bytes ⊎ OneWord bytes
words_seen bytes = seen_by bytes (skip is_space bytes) refl (begins_skip bytes)

-- Two words as the code finds them.
pub record Found (bytes first behind second rest : List ℕ) : Type 0 where
  pub word : first ≡ before 32 (skip is_space bytes)
  pub after : behind ≡ from 32 (skip is_space bytes)
  pub next : second ≡ before 32 (skip is_space behind)
  pub last : rest ≡ from 32 (skip is_space behind)

few_by : (bytes behind : List ℕ) → behind ≡ from 32 (skip is_space bytes) → NoWord behind → NoWord bytes ⊎ OneWord bytes → None ≡ two_of (words bytes)
few_by bytes behind e empty (inl none) = rw none.none refl
few_by bytes behind e empty (inr one) = rw (one.parts, sym e, empty.none) refl

none_second : (bytes first behind second rest : List ℕ) → Found bytes first behind second rest → length second ≡ 0 → NoWord behind ⊎ OneWord behind → NoWord behind
none_second bytes first behind second rest f h (inl empty) = empty
none_second bytes first behind second rest f h (inr one) = let some : 0 < length second = rw f.next one.some in absurd (omega arith)

pub two_few : (bytes first behind second rest : List ℕ) → Found bytes first behind second rest → length second ≡ 0 → None ≡ two_of (words bytes)
two_few bytes first behind second rest f h = few_by bytes behind f.after (none_second bytes first behind second rest f h (words_seen behind)) (words_seen bytes)

-- The first two words and those after them.
empty_behind : (bytes first behind second rest : List ℕ) → Found bytes first behind second rest → NoWord bytes → 0 < length second → ⊥
unfolding skip before
empty_behind bytes first behind second rest f empty some =
    let none : length second ≡ 0 = ap length (f.next ∙ ap (λ l. before 32 (skip is_space l)) (f.after ∙ empty.rest)) in omega arith

parts_by : (bytes first behind second rest : List ℕ) → Found bytes first behind second rest → 0 < length second → NoWord bytes ⊎ OneWord bytes → NoWord behind ⊎ OneWord behind → words bytes ≡ first ∷ second ∷ words rest
parts_by bytes first behind second rest f some seen (inl empty) = let none : length second ≡ 0 = ap length (f.next ∙ empty.word) in absurd (omega arith)
parts_by bytes first behind second rest f some (inl empty) (inr one) = absurd (empty_behind bytes first behind second rest f empty some)
parts_by bytes first behind second rest f some (inr one) (inr next) =
    one.parts ∙ ap (λ w. w ∷ words (from 32 (skip is_space bytes))) (sym f.word) ∙ ap (λ l. first ∷ words l) (sym f.after)
    ∙ ap (λ l. first ∷ l) (next.parts ∙ ap (λ w. w ∷ words (from 32 (skip is_space behind))) (sym f.next) ∙ ap (λ l. second ∷ words l) (sym f.last))

parts : (bytes first behind second rest : List ℕ) → Found bytes first behind second rest → 0 < length second → words bytes ≡ first ∷ second ∷ words rest
parts bytes first behind second rest f some = parts_by bytes first behind second rest f some (words_seen bytes) (words_seen behind)

blank_words : (rest : List ℕ) → length (skip is_space rest) ≡ 0 → NoWord rest ⊎ OneWord rest → words rest ≡ []
unfolding before
blank_words rest none (inl empty) = empty.none
blank_words rest none (inr one) = let short : length (before 32 (skip is_space rest)) ≡ 0 = ap (λ l. length (before 32 l)) (nil_from_length (skip is_space rest) none) in absurd (omega arith)

many_words : (first second rest : List ℕ) → 0 < length (skip is_space rest) → NoWord rest ⊎ OneWord rest → None ≡ two_of (first ∷ second ∷ words rest)
many_words first second rest more (inl empty) = let none : length (skip is_space rest) ≡ 0 = ap length empty.blank in absurd (omega arith)
many_words first second rest more (inr one) = rw one.parts refl

pub two_exact : (bytes first behind second rest : List ℕ) → Found bytes first behind second rest → 0 < length second → length (skip is_space rest) ≡ 0 → Some (first, second) ≡ two_of (words bytes)
two_exact bytes first behind second rest f some none = rw (parts bytes first behind second rest f some, blank_words rest none (words_seen rest)) refl

pub two_many : (bytes first behind second rest : List ℕ) → Found bytes first behind second rest → 0 < length second → 0 < length (skip is_space rest) → None ≡ two_of (words bytes)
two_many bytes first behind second rest f some more = rw (parts bytes first behind second rest f some) (many_words first second rest more (words_seen rest))
