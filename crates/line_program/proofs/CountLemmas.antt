-- The sequences that count, gathered from the last to the first.
use Rattle.std.proofs.Common.{◌≡◌, ℕ, ◌<◌, nat_le, nat_lt, ◌&&◌, Bool, true, false, cond, List, [], ◌∷◌, ◌++◌, reverse, ◌-◌, inl, inr, Option, Some, None, refl, sym, ◌∙◌, ap, subst, arith}
use Rattle.std.proofs.lemmas.Bool.{cases_lt, lt-ltb, le-ltb, le-leb, lt-leb}
use Rattle.std.proofs.lemmas.List.{reverse-append}
use Rattle.line_program.specs.declared.row.Row.{Row}
use Rattle.line_program.specs.LineRows.{Sequence}
use Rattle.line_program.specs.LineAt.{least_address, row_at, counts, covers_from, covers, row_in}
use Rattle.line_program.specs.internal.Painting.{Counted, has, SortedFrom, last_at, counted_row, back_row}
use Rattle.line_program.proofs.SortLemmas.{row_last}

-- The row at an address in the first sequence that covers it, or another row if none does.
pub row_then : (ℕ → ℕ → Bool) → Option Row → List Sequence → ℕ → Option Row
row_then code later [] a = later
row_then code later (s ∷ sequences) a = cond (covers code s a) (row_at s.rows a) (row_then code later sequences a)

row_then_none : (code : ℕ → ℕ → Bool) (sequences : List Sequence) (a : ℕ) → row_then code None sequences a ≡ row_in code sequences a
unfolding row_then row_in
row_then_none code [] a = refl
row_then_none code (s ∷ sequences) a = ap (λ o. cond (covers code s a) (row_at s.rows a) o) (row_then_none code sequences a)

row_then_last : (code : ℕ → ℕ → Bool) (later : Option Row) (sequences : List Sequence) (s : Sequence) (a : ℕ) → row_then code later (sequences ++ s ∷ []) a ≡ row_then code (cond (covers code s a) (row_at s.rows a) later) sequences a
unfolding row_then
row_then_last code later [] s a = refl
row_then_last code later (t ∷ sequences) s a = ap (λ o. cond (covers code t a) (row_at t.rows a) o) (row_then_last code later sequences s a)

counted_then : Option Row → List Counted → ℕ → Option Row
counted_then later [] a = later
counted_then later (k ∷ kept) a = cond (has k a) (last_at k.rows a) (counted_then later kept a)

counted_then_none : (kept : List Counted) (a : ℕ) → counted_then None kept a ≡ counted_row kept a
unfolding counted_then counted_row
counted_then_none [] a = refl
counted_then_none (k ∷ kept) a = ap (λ o. cond (has k a) (last_at k.rows a) o) (counted_then_none kept a)

counted_then_last : (later : Option Row) (kept : List Counted) (k : Counted) (a : ℕ) → counted_then later (kept ++ k ∷ []) a ≡ counted_then (cond (has k a) (last_at k.rows a) later) kept a
unfolding counted_then
counted_then_last later [] k a = refl
counted_then_last later (x ∷ kept) k a = ap (λ o. cond (has x a) (last_at x.rows a) o) (counted_then_last later kept k a)

back_then : (under : Option Row) (kept : List Counted) (a : ℕ) → back_row under kept a ≡ counted_then under (reverse kept) a
unfolding back_row counted_then
back_then under [] a = refl
back_then under (k ∷ kept) a =
    back_then (cond (has k a) (last_at k.rows a) under) kept a ∙ sym (counted_then_last under (reverse kept) k a)
    ∙ sym (ap (λ l. counted_then under l a) (reverse-append (k ∷ []) kept))

back_push : (under : Option Row) (kept : List Counted) (k : Counted) (a : ℕ) → back_row under (kept ++ k ∷ []) a ≡ cond (has k a) (last_at k.rows a) (back_row under kept a)
unfolding back_row
back_push under [] k a = refl
back_push under (x ∷ kept) k a = back_push (cond (has x a) (last_at x.rows a) under) kept k a

-- The invariant of `count_sequences`: the sequences that are left, and those that were kept.
abbrev pub Counts : (ℕ → ℕ → Bool) → List Sequence → List Sequence → List Counted → Type 0
Counts code all left kept = (a : ℕ) → row_then code (back_row None kept a) left a ≡ row_in code all a

pub counts_none : (code : ℕ → ℕ → Bool) (all : List Sequence) (kept : List Counted) → kept ≡ [] → Counts code all all kept
unfolding back_row
counts_none code all kept none a = ap (λ (l : List Counted). row_then code (back_row None l a) all a) none ∙ row_then_none code all a

pub counts_more : (code : ℕ → ℕ → Bool) (all left less : List Sequence) (kept more : List Counted) (s : Sequence) → Counts code all left kept → left ≡ less ++ s ∷ []
    → ((a : ℕ) → back_row None more a ≡ cond (covers code s a) (row_at s.rows a) (back_row None kept a)) → Counts code all less more
counts_more code all left less kept more s counts is by a =
    ap (λ o. row_then code o less a) (by a)
    ∙ sym (row_then_last code (back_row None kept a) less s a)
    ∙ sym (ap (λ l. row_then code (back_row None kept a) l a) is)
    ∙ counts a

pub counts_all : (code : ℕ → ℕ → Bool) (all left : List Sequence) (kept back : List Counted) → Counts code all left kept → left ≡ [] → back ≡ reverse kept → (a : ℕ) → counted_row back a ≡ row_in code all a
unfolding row_then
counts_all code all left kept back counts none is a =
    ap (λ l. counted_row l a) is ∙ sym (counted_then_none (reverse kept) a) ∙ sym (back_then None kept a)
    ∙ sym (ap (λ l. row_then code (back_row None kept a) l a) none) ∙ counts a

-- A sequence that does not count is not kept.
pub not_kept : (code : ℕ → ℕ → Bool) (s : Sequence) (kept : List Counted) (a : ℕ) → None ≡ least_address s.rows → back_row None kept a ≡ cond (covers code s a) (row_at s.rows a) (back_row None kept a)
not_kept code s kept a none = ap (λ o. cond (covers_from code s.end o a) (row_at s.rows a) (back_row None kept a)) none

pub not_code : (code : ℕ → ℕ → Bool) (s : Sequence) (kept : List Counted) (start a : ℕ) → Some start ≡ least_address s.rows → counts code start s.end ≡ false → back_row None kept a ≡ cond (covers code s a) (row_at s.rows a) (back_row None kept a)
not_code code s kept start a least none =
    ap (λ b. cond (b && (nat_le start a && nat_lt a s.end)) (row_at s.rows a) (back_row None kept a)) (sym none)
    ∙ ap (λ o. cond (covers_from code s.end o a) (row_at s.rows a) (back_row None kept a)) least

last_below : (start end a : ℕ) → start < end → nat_le a (end - 1) ≡ nat_lt a end
last_below start end a some = elim (cases_lt a end) [
  | inl low ↦ le-leb a (end - 1) (omega arith) ∙ sym (lt-ltb a end low)
  | inr high ↦ lt-leb a (end - 1) (omega arith) ∙ sym (le-ltb a end high)
]

-- A sequence that counts is kept.
kept_is : (code : ℕ → ℕ → Bool) (s : Sequence) (kept more : List Counted) (start : ℕ) (k : Counted) → Some start ≡ least_address s.rows → start < s.end → true ≡ code start s.end
    → k.first ≡ start → k.last ≡ s.end - 1 → SortedFrom 0 k.rows → ((a : ℕ) → row_at k.rows a ≡ row_at s.rows a) → more ≡ kept ++ k ∷ []
    → (a : ℕ) → back_row None more a ≡ cond (covers code s a) (row_at s.rows a) (back_row None kept a)
kept_is code s kept more start k least some enclosed first last sorted same is a =
    ap (λ l. back_row None l a) is ∙ back_push None kept k a
    ∙ ap (λ (n : ℕ). cond (nat_le n a && nat_le a k.last) (last_at k.rows a) (back_row None kept a)) first
    ∙ ap (λ (n : ℕ). cond (nat_le start a && nat_le a n) (last_at k.rows a) (back_row None kept a)) last
    ∙ ap (λ b. cond (nat_le start a && b) (last_at k.rows a) (back_row None kept a)) (last_below start s.end a some)
    ∙ ap (λ o. cond (nat_le start a && nat_lt a s.end) o (back_row None kept a)) (sym (row_last 0 k.rows a sorted) ∙ same a)
    ∙ ap (λ b. cond (b && (nat_le start a && nat_lt a s.end)) (row_at s.rows a) (back_row None kept a)) (sym (ap (λ b. b && code start s.end) (lt-ltb start s.end some) ∙ sym enclosed))
    ∙ ap (λ o. cond (covers_from code s.end o a) (row_at s.rows a) (back_row None kept a)) least

pub sequence_kept : (code : ℕ → ℕ → Bool) (s : Sequence) (rows slice sorted : List Row) (end start last : ℕ) (kept more : List Counted) → (let seen : Sequence = record { rows = rows; end = end } in seen) ≡ s → slice ≡ rows
    → Some start ≡ least_address slice → start < end → true ≡ code start end → last ≡ end - 1 → SortedFrom 0 sorted → ((a : ℕ) → row_at sorted a ≡ row_at rows a) → more ≡ kept ++ record { first = start; last = last; rows = sorted } ∷ []
    → (a : ℕ) → back_row None more a ≡ cond (covers code s a) (row_at s.rows a) (back_row None kept a)
sequence_kept code s rows slice sorted end start last kept more is_s is_slice least some enclosed is_last in_order same is a =
    subst (λ (t : Sequence). back_row None more a ≡ cond (covers code t a) (row_at t.rows a) (back_row None kept a)) is_s
    (kept_is code (record { rows = rows; end = end }) kept more start (record { first = start; last = last; rows = sorted }) (least ∙ ap least_address is_slice) some enclosed refl is_last in_order same is a)
