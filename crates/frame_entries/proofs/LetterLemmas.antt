-- Lemmas about reading the letters of an augmentation one after the other, for `read_letters`.
use Rattle.std.proofs.Common.{◌≡◌, ◌+◌, ◌<◌, ◌≤◌, ℕ, true, List, drop, get_or, length, Ok, Err, refl, sym, ◌∙◌, ap, add-one, drop-cons}
use Rattle.std.proofs.lemmas.List.{drop_all}
use Rattle.sym_edges.specs.declared.reason.Reason.{Reason}
use Rattle.sym_edges.specs.Results.{◌>>=◌}
use Rattle.leb_cursor.specs.Ahead.{Ahead}
use Rattle.frame_entries.specs.declared.augmentation.Encodings.{Encodings}
use Rattle.frame_entries.specs.Pointers.{is_format, is_encoding}
use Rattle.frame_entries.specs.Cies.{letter_at, letters_at}

pub zero_is_read : is_encoding 0 ≡ true
unfolding is_encoding is_format
zero_is_read = refl

-- The letters from a place on are the letter at the place, and then those after it.
pub letters_front : (letters : List ℕ) (k : ℕ) (before : Encodings) (c : Ahead) → k < length letters → letters_at (drop k letters) before c ≡ (letter_at (get_or letters k 0) before c >>= λ after. letters_at (drop (k + 1) letters) after.0 after.1)
unfolding letters_at
letters_front letters k before c there = rw (add-one, drop-cons letters k 0) refl

-- No letter is left.
pub letters_end : (letters : List ℕ) (k : ℕ) (before : Encodings) (c : Ahead) → length letters ≤ k → Ok before ≡ letters_at (drop k letters) before c
unfolding letters_at
letters_end letters k before c all = rw (drop_all k letters all) refl

-- A letter whose part of the augmentation data can be read.
pub letters_next : (letters : List ℕ) (k : ℕ) (before after : Encodings) (c d : Ahead) → k < length letters → Ok (after, d) ≡ letter_at (get_or letters k 0) before c → letters_at (drop (k + 1) letters) after d ≡ letters_at (drop k letters) before c
letters_next letters k before after c d there is =
    ap (λ r. r >>= λ next. letters_at (drop (k + 1) letters) next.0 next.1) is ∙ sym (letters_front letters k before c there)

-- A letter whose part cannot be read.
pub letters_refused : (letters : List ℕ) (k : ℕ) (before : Encodings) (c : Ahead) (reason : Reason) → k < length letters → Err reason ≡ letter_at (get_or letters k 0) before c → Err reason ≡ letters_at (drop k letters) before c
letters_refused letters k before c reason there is =
    ap (λ r. r >>= λ next. letters_at (drop (k + 1) letters) next.0 next.1) is ∙ sym (letters_front letters k before c there)
