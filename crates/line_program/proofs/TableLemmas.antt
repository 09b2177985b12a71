-- The lines of a table, made from the sequences that count.
use Rattle.std.proofs.Common.{◌≡◌, ℕ, ◌<◌, ◌≤◌, ◌^◌, nat_le, ◌+◌, ◌-◌, Bool, true, false, not, ◌&&◌, cond, List, [], ◌∷◌, ◌++◌, length, get_or, drop, Option, Some, None, refl, sym, ◌∙◌, ap, ◌⊎◌, inl, inr, append_assoc, append-nil, arith}
use Rattle.std.specs.List.{slice_get}
use Rattle.std.specs.Option.{option_map}
use Rattle.std.proofs.lemmas.Bool.{cases_lt, le-leb, lt-leb}
use Rattle.std.proofs.lemmas.List.{length_push, drop_more, drop_all}
use Rattle.step_maps.specs.declared.stretch.Stretch.{Stretch}
use Rattle.step_maps.specs.declared.stretch.FirstItem.{FirstItem}
use Rattle.step_maps.specs.Covers.{first_at, first_item, is_shared}
use Rattle.step_maps.specs.Stepping.{Stepping, held_from, value_at}
use Rattle.line_program.specs.declared.path_line.PathLine.{PathLine}
use Rattle.line_program.specs.declared.row.Row.{Row}
use Rattle.line_program.specs.LineRows.{Sequence}
use Rattle.line_program.specs.LineAt.{row_in}
use Rattle.line_program.specs.LineMaps.{LineMap, no_line, shown, numbered_line, NoStopBetween}
use Rattle.line_program.specs.internal.Numbered.{numbered_line_of, numbered_at}
use Rattle.line_program.specs.internal.Painting.{Counted, has, stretches_from, covering, row_by, counted_row, last_at}

same_test : (s a b : ℕ) → a ≤ b → (s ≤ a) ⊎ (b < s) → nat_le s a ≡ nat_le s b
same_test s a b le (inl low) = le-leb s a low ∙ sym (le-leb s b (omega arith))
same_test s a b le (inr high) = lt-leb s a (omega arith) ∙ sym (lt-leb s b high)

same_held : (before : PathLine) (stops : List ℕ) (values : List PathLine) (a b : ℕ) → a ≤ b → NoStopBetween a b stops → held_from before stops values a ≡ held_from before stops values b
unfolding held_from
same_held before [] values a b le apart = refl
same_held before (s ∷ stops) [] a b le apart = refl
same_held before (s ∷ stops) (v ∷ values) a b le apart =
    ap (λ t. held_from (cond t v before) stops values a) (same_test s a b le apart.0)
    ∙ same_held (cond (nat_le s b) v before) stops values a b le apart.1

-- The line is the same at two addresses if no stop is between them.
pub same_between : (table : LineMap) (a b : ℕ) → a ≤ b → NoStopBetween a b table.lines.stops → numbered_line table a ≡ numbered_line table b
same_between table a b le apart = ap shown (same_held no_line table.lines.stops table.lines.values a b le apart)

get_behind : (front : List Counted) (k : Counted) (back : List Counted) → slice_get (front ++ k ∷ back) (length front) ≡ Some k
get_behind [] k back = refl
get_behind (x ∷ front) k back = get_behind front k back

-- The counted sequence with an index that may be missing.
abbrev by_index : List Counted → Option ℕ → Option Counted
by_index kept None = None
by_index kept (Some index) = slice_get kept index

covering_index : (kept : List Counted) (item : Option FirstItem) → covering kept item ≡ by_index kept (option_map (λ f. f.index) item)
covering_index kept None = refl
covering_index kept (Some f) = refl

item_index : (found : Option Stretch) (shared : Bool) → option_map (λ f. f.index) (option_map (λ s. (let f : FirstItem = record { index = s.index; class = s.class; shared = shared } in f)) found) ≡ option_map (λ s. s.index) found
item_index None shared = refl
item_index (Some s) shared = refl

by_test : (b : Bool) (front : List Counted) (k : Counted) (kept : List Counted) (s : Stretch) (n a : ℕ) (other : Option Stretch) (row : Option Row) → s.index ≡ length front → row_by (by_index (front ++ k ∷ kept) (option_map (λ s. s.index) other)) a ≡ row → row_by (by_index (front ++ k ∷ kept) (option_map (λ s. s.index) (cond b (Some s) other))) a ≡ cond b (last_at k.rows a) row
by_test true front k kept s n a other row count later = ap (λ m. row_by (slice_get (front ++ k ∷ kept) m) a) count ∙ ap (λ o. row_by o a) (get_behind front k kept)
by_test false front k kept s n a other row count later = later

-- The first stretch that contains an address is that of the first sequence that covers it.
items_from : (front kept : List Counted) (n a : ℕ) → n ≡ length front → row_by (by_index (front ++ kept) (option_map (λ s. s.index) (first_at (stretches_from n kept) a))) a ≡ counted_row kept a
unfolding first_at counted_row
items_from front [] n a count = refl
items_from front (k ∷ kept) n a count =
    by_test (has k a) front k kept (record { first = k.first; last = k.last; index = n; class = 0 }) n a (first_at (stretches_from (n + 1) kept) a) (counted_row kept a) count
    (ap (λ l. row_by (by_index l (option_map (λ s. s.index) (first_at (stretches_from (n + 1) kept) a))) a) (sym (append_assoc front (k ∷ []) kept))
    ∙ items_from (front ++ k ∷ []) kept (n + 1) a (omega (arith, length_push front k)))

items_count : (kept : List Counted) (a : ℕ) → row_by (covering kept (first_item (stretches_from 0 kept) a)) a ≡ counted_row kept a
unfolding first_item
items_count kept a =
    ap (λ o. row_by o a) (covering_index kept (first_item (stretches_from 0 kept) a) ∙ ap (by_index kept) (item_index (first_at (stretches_from 0 kept) a) (is_shared (stretches_from 0 kept) a)))
    ∙ items_from [] kept 0 a refl

pub several_lines : (kept : List Counted) (stretches stretches_slice : List Stretch) (covers : Stepping (Option FirstItem)) (stops : List ℕ) (items : List (Option FirstItem)) (lines : Stepping PathLine) (first count : ℕ)
    → stretches ≡ stretches_from 0 kept → stretches_slice ≡ stretches
    → ((a : ℕ) → a < 2 ^ 64 → value_at None covers a ≡ first_item stretches_slice a) → stops ≡ covers.stops → items ≡ covers.values
    → ((a : ℕ) → value_at no_line lines a ≡ numbered_line_of first count (row_by (covering kept (held_from None stops items a)) a))
    → (a : ℕ) → a < 2 ^ 64 → value_at no_line lines a ≡ numbered_line_of first count (counted_row kept a)
several_lines kept stretches stretches_slice covers stops items lines first count is_stretches is_slice by_covers is_stops is_items by_lines a low =
    by_lines a
    ∙ ap (λ n. numbered_line_of first count (row_by (covering kept n) a))
    (ap (λ l. held_from None l items a) is_stops ∙ ap (λ l. held_from None covers.stops l a) is_items ∙ by_covers a low ∙ ap (λ l. first_item l a) (is_slice ∙ is_stretches))
    ∙ ap (numbered_line_of first count) (items_count kept a)

-- A single sequence covers the addresses from its first to its last.
one_by : (reached inside past : Bool) (k : Counted) (item : FirstItem) (a : ℕ) → item.index ≡ 0 → past ≡ not inside → row_by (covering (k ∷ []) (cond past None (cond reached (Some item) None))) a ≡ cond (reached && inside) (last_at k.rows a) None
one_by true true false k item a index is = ap (λ n. row_by (slice_get (k ∷ []) n) a) index
one_by true false true k item a index is = refl
one_by false true false k item a index is = refl
one_by false false true k item a index is = refl
one_by reached true true k item a index is = cc
one_by reached false false k item a index is = cc

past_last : (last a : ℕ) → nat_le (last + 1) a ≡ not (nat_le a last)
past_last last a = elim (cases_lt last a) [
  | inl past ↦ le-leb (last + 1) a (omega arith) ∙ sym (ap not (lt-leb a last past))
  | inr up ↦ lt-leb (last + 1) a (omega arith) ∙ sym (ap not (le-leb a last up))
]

only : (kept : List Counted) (d : Counted) → length kept ≡ 1 → kept ≡ get_or kept 0 d ∷ []
only [] d one = absurd (omega arith)
only (k ∷ []) d one = refl
only (k ∷ l ∷ kept) d one = absurd (omega arith)

abbrev pub one_held : (stops : List ℕ) (items : List (Option FirstItem)) (kept : List Counted) (lines : Stepping PathLine) (first count : ℕ) → Type 0
one_held stops items kept lines first count = (a : ℕ) → value_at no_line lines a ≡ numbered_line_of first count (row_by (covering kept (held_from None stops items a)) a)

pub one_ends : (kept : List Counted) (k d : Counted) (item : FirstItem) (lines : Stepping PathLine) (first count : ℕ) → length kept ≡ 1 → k ≡ get_or kept 0 d → item.index ≡ 0
    → one_held (k.first ∷ (k.last + 1) ∷ []) (Some item ∷ None ∷ []) kept lines first count
    → (a : ℕ) → a < 2 ^ 64 → value_at no_line lines a ≡ numbered_line_of first count (counted_row kept a)
unfolding held_from counted_row
one_ends kept k d item lines first count one at index held a low =
    let all : kept ≡ k ∷ [] = only kept d one ∙ ap (λ x. x ∷ []) (sym at) in
    held a
    ∙ ap (λ l. numbered_line_of first count (row_by (covering l (cond (nat_le (k.last + 1) a) None (cond (nat_le k.first a) (Some item) None))) a)) all
    ∙ ap (numbered_line_of first count) (one_by (nat_le k.first a) (nat_le a k.last) (nat_le (k.last + 1) a) k item a index (past_last k.last a) ∙ ap (λ l. counted_row l a) (sym all))

pub one_to_the_end : (kept : List Counted) (k d : Counted) (item : FirstItem) (lines : Stepping PathLine) (first count : ℕ) → length kept ≡ 1 → k ≡ get_or kept 0 d → item.index ≡ 0 → k.last ≡ 2 ^ 64 - 1
    → one_held (k.first ∷ []) (Some item ∷ []) kept lines first count
    → (a : ℕ) → a < 2 ^ 64 → value_at no_line lines a ≡ numbered_line_of first count (counted_row kept a)
unfolding held_from counted_row
one_to_the_end kept k d item lines first count one at index last held a low =
    let all : kept ≡ k ∷ [] = only kept d one ∙ ap (λ x. x ∷ []) (sym at) in
    held a
    ∙ ap (λ l. numbered_line_of first count (row_by (covering l (cond (nat_le k.first a) (Some item) None)) a)) all
    ∙ ap (numbered_line_of first count) (one_by (nat_le k.first a) (nat_le a k.last) false k item a index (sym (ap not (le-leb a k.last (omega arith)))) ∙ ap (λ l. counted_row l a) (sym all))

-- The lines of the sequences that count are those of all sequences.
pub counted_lines : (code : ℕ → ℕ → Bool) (sequences : List Sequence) (kept kept_slice : List Counted) (lines : Stepping PathLine) (first count : ℕ)
    → ((a : ℕ) → counted_row kept a ≡ row_in code sequences a) → kept_slice ≡ kept
    → ((a : ℕ) → a < 2 ^ 64 → value_at no_line lines a ≡ numbered_line_of first count (counted_row kept_slice a))
    → (a : ℕ) → a < 2 ^ 64 → value_at no_line lines a ≡ numbered_at code sequences first count a
unfolding numbered_at
counted_lines code sequences kept kept_slice lines first count counted is_kept by_lines a low =
    by_lines a low ∙ ap (numbered_line_of first count) (ap (λ l. counted_row l a) is_kept ∙ counted a)

-- The stretches so far, and those that are still to be added.
pub stretches_begin : (kept : List Counted) (stretches : List Stretch) → stretches ≡ [] → stretches ++ stretches_from 0 (drop 0 kept) ≡ stretches_from 0 kept
stretches_begin kept stretches none = ap (λ l. l ++ stretches_from 0 kept) none

pub stretches_more : (kept : List Counted) (i : ℕ) (k : Counted) (s : Stretch) (before after : List Stretch) → i < length kept → k ≡ get_or kept i k → s ≡ record { first = k.first; last = k.last; index = i; class = 0 } → after ≡ before ++ s ∷ []
    → after ++ stretches_from (i + 1) (drop (i + 1) kept) ≡ before ++ stretches_from i (drop i kept)
stretches_more kept i k s before after inside at is added =
    ap (λ l. l ++ stretches_from (i + 1) (drop (i + 1) kept)) added
    ∙ append_assoc before (s ∷ []) (stretches_from (i + 1) (drop (i + 1) kept))
    ∙ ap (λ (t : Stretch). before ++ t ∷ stretches_from (i + 1) (drop (i + 1) kept)) is
    ∙ ap (λ (x : Counted). before ++ record { first = x.first; last = x.last; index = i; class = 0 } ∷ stretches_from (i + 1) (drop (i + 1) kept)) at
    ∙ sym (ap (λ l. before ++ stretches_from i l) (drop_more kept i k inside))

pub stretches_all : (kept : List Counted) (i : ℕ) (stretches : List Stretch) → length kept ≤ i → stretches ++ stretches_from i (drop i kept) ≡ stretches_from 0 kept → stretches ≡ stretches_from 0 kept
stretches_all kept i stretches all is = sym (ap (λ l. stretches ++ stretches_from i l) (drop_all i kept all) ∙ append-nil stretches) ∙ is
