-- The lines of rows, painted from an address on.
use Rattle.std.proofs.Common.{◌≡◌, ◌≢◌, ℕ, zero, suc, ◌+◌, ◌-◌, ◌<◌, ◌≤◌, nat_le, nat_lt, Bool, cond, true, false, List, [], ◌∷◌, ◌++◌, length, get_or, take, drop, Option, Some, None, refl, sym, ◌∙◌, ap, subst, inl, inr, arith}
use Rattle.std.specs.List.{slice_get}
use Rattle.std.specs.List.Sorted.{IsPartitionedBy, IsPartitionPoint}
use Rattle.std.proofs.lemmas.Bool.{cases_lt, le-leb, lt-leb, leb-true, leb-false, ltb-true, ltb-false}
use Rattle.std.proofs.lemmas.List.{take-append-drop, get_or-drop, get_or-take, length-drop, length-take-le}
use Rattle.std.proofs.lemmas.List.Sorted.{IsNonDecreasingBy-take, IsNonDecreasingBy-drop, IsPartitionedBy-leb, IsPartitionedBy-ltb}
use Rattle.step_maps.specs.Stepping.{Stepping, held_from, value_at, last_from, IsStepping}
use Rattle.step_maps.proofs.SteppingLemmas.{held_at_index, held_below_first, rises_next}
use Rattle.line_program.specs.declared.row.Row.{Row}
use Rattle.line_program.specs.declared.path_line.PathLine.{PathLine}
use Rattle.line_program.specs.LineMaps.{no_line}
use Rattle.line_program.specs.internal.Numbered.{numbered_line_of}
use Rattle.step_maps.specs.declared.stretch.FirstItem.{FirstItem}
use Rattle.step_maps.specs.Ends.{BelowEnd, UpToEnd}
use Rattle.line_program.specs.internal.Painting.{Counted, SortedFrom, AllUpTo, or_row, last_at, covering, row_by}
use Rattle.line_program.specs.internal.RowsAbove.{line_or, Parts}
use Rattle.line_program.proofs.SortLemmas.{sorted_of, sorted_by, rises_of}

or_assoc : (x y z : Option Row) → or_row (or_row x y) z ≡ or_row x (or_row y z)
or_assoc None y z = refl
or_assoc (Some r) y z = refl

or_none : (o : Option Row) → or_row o None ≡ o
or_none None = refl
or_none (Some r) = refl

last_append : (xs ys : List Row) (a : ℕ) → last_at (xs ++ ys) a ≡ or_row (last_at ys a) (last_at xs a)
unfolding last_at
last_append [] ys a = sym (or_none (last_at ys a))
last_append (x ∷ xs) ys a = ap (λ o. or_row o (cond (nat_le x.address a) (Some x) None)) (last_append xs ys a) ∙ or_assoc (last_at ys a) (last_at xs a) (cond (nat_le x.address a) (Some x) None)

last_parts : (rows : List Row) (n a : ℕ) → last_at rows a ≡ or_row (last_at (drop n rows) a) (last_at (take n rows) a)
last_parts rows n a = ap (λ l. last_at l a) (sym (take-append-drop n rows)) ∙ last_append (take n rows) (drop n rows) a

last_none : (low : ℕ) (rows : List Row) (a : ℕ) → SortedFrom low rows → a < low → last_at rows a ≡ None
unfolding last_at
last_none low [] a sorted below = refl
last_none low (r ∷ rows) a sorted below =
    ap (λ o. or_row o (cond (nat_le r.address a) (Some r) None)) (last_none r.address rows a sorted.1 (omega (arith, sorted.0)))
    ∙ ap (λ b. cond b (Some r) None) (lt-leb r.address a (omega (arith, sorted.0)))

last_all : (rows : List Row) (i a : ℕ) (d : Row) → length rows ≡ i + 1 → ((k : ℕ) (e : Row) → k ≤ i → (get_or rows k e).address ≤ a) → last_at rows a ≡ Some (get_or rows i d)
unfolding last_at
last_all [] i a d many below = absurd (omega arith)
last_all (r ∷ []) zero a d many below = ap (λ b. cond b (Some r) None) (le-leb r.address a (below 0 d (omega arith)))
last_all (r ∷ []) (suc i) a d many below = absurd (omega arith)
last_all (r ∷ s ∷ rows) zero a d many below = absurd (omega arith)
last_all (r ∷ s ∷ rows) (suc i) a d many below = ap (λ o. or_row o (cond (nat_le r.address a) (Some r) None)) (last_all (s ∷ rows) i a d (omega arith) (λ k e h. below (suc k) e (omega arith)))

up_to_drop : (end n : ℕ) (rows : List Row) → AllUpTo end rows → AllUpTo end (drop n rows)
up_to_drop end zero rows all = all
up_to_drop end (suc n) [] all = tt
up_to_drop end (suc n) (r ∷ rows) all = up_to_drop end n rows all.1

up_to_take : (end n : ℕ) (rows : List Row) → ((k : ℕ) (d : Row) → k < n → k < length rows → (get_or rows k d).address ≤ end) → AllUpTo end (take n rows)
up_to_take end zero rows all = tt
up_to_take end (suc n) [] all = tt
up_to_take end (suc n) (r ∷ rows) all = (all 0 r (omega arith) (omega arith), up_to_take end n rows (λ k d h g. all (suc k) d (omega arith) (omega arith)))

-- A partition point of sorted rows.
abbrev pub Below : List Row → ℕ → ℕ → Type 0
Below rows end n = IsPartitionPoint (λ r. nat_lt r.address end ≡ true) (λ r. nat_lt r.address end ≡ false) rows n

abbrev pub Above : List Row → ℕ → ℕ → Type 0
Above rows start n = IsPartitionPoint (λ r. nat_le r.address start ≡ true) (λ r. nat_le r.address start ≡ false) rows n

pub parted_below : (rows : List Row) (end : ℕ) → SortedFrom 0 rows → IsPartitionedBy (λ r. nat_lt r.address end) rows
parted_below rows end sorted = IsPartitionedBy-ltb (λ r. r.address) rows end (rises_of 0 rows sorted)

pub parted_above : (rows : List Row) (start : ℕ) → SortedFrom 0 rows → IsPartitionedBy (λ r. nat_le r.address start) rows
parted_above rows start sorted = IsPartitionedBy-leb (λ r. r.address) rows start (rises_of 0 rows sorted)

dropped_from : (low n : ℕ) (rows : List Row) → SortedFrom 0 rows → ((k : ℕ) (d : Row) → n ≤ k → k < length rows → low ≤ (get_or rows k d).address) → SortedFrom low (drop n rows)
dropped_from low n rows sorted above =
    sorted_by low (drop n rows) (IsNonDecreasingBy-drop (λ r. r.address) n rows (rises_of 0 rows sorted))
    (λ some d. (let long : n + 0 < length rows = omega (arith, length-drop n rows) in
    subst (λ (r : Row). low ≤ r.address) (sym (get_or-drop n rows 0 d)) (above (n + 0) d (omega arith) long)))

pub below_sorted : (rows : List Row) (n : ℕ) → SortedFrom 0 rows → SortedFrom 0 (take n rows)
below_sorted rows n sorted = sorted_of (take n rows) (IsNonDecreasingBy-take (λ r. r.address) n rows (rises_of 0 rows sorted))

pub below_all : (rows : List Row) (end n : ℕ) → Below rows end n → AllUpTo end (take n rows)
below_all rows end n point = up_to_take end n rows (λ k d h g. (let less : (get_or rows k d).address < end = ltb-true _ _ (point.0 k d (omega arith) h) in omega arith))

pub below_same : (rows : List Row) (end n : ℕ) → SortedFrom 0 rows → Below rows end n → (a : ℕ) → a < end → last_at (take n rows) a ≡ last_at rows a
below_same rows end n sorted point a below =
    sym (last_parts rows n a ∙ ap (λ o. or_row o (last_at (take n rows) a)) (last_none end (drop n rows) a (dropped_from end n rows sorted (λ k d h g. ltb-false _ _ (point.1 k d h g))) below))

line_back : (line : PathLine) (first count : ℕ) (over under : Option Row) → line ≡ numbered_line_of first count under → line_or line first count over ≡ numbered_line_of first count (or_row over under)
line_back line first count None under is = is
line_back line first count (Some r) under is = refl

parts_by : (first count : ℕ) (rows : List Row) (start n : ℕ) (line : PathLine) → SortedFrom 0 rows → Above rows start n → ((a : ℕ) → start ≤ a → line ≡ numbered_line_of first count (last_at (take n rows) a)) → Parts first count rows start line (drop n rows)
parts_by first count rows start n line sorted point is = record {
  sorted = dropped_from start n rows sorted (λ k d h g. (let more : start < (get_or rows k d).address = leb-false _ _ (point.1 k d h g) in omega arith));
  rest = λ a h. line_back line first count (last_at (drop n rows) a) (last_at (take n rows) a) (is a h) ∙ ap (numbered_line_of first count) (sym (last_parts rows n a));
  up_to = λ end all. up_to_drop end n rows all;
}

take_none : (n : ℕ) (rows : List Row) → n ≡ 0 → take n rows ≡ []
take_none zero rows none = refl
take_none (suc n) rows none = absurd (omega arith)

pub parts_none : (first count : ℕ) (rows : List Row) (start n : ℕ) → SortedFrom 0 rows → Above rows start n → n ≡ 0 → Parts first count rows start no_line (drop n rows)
unfolding last_at
parts_none first count rows start n sorted point none = parts_by first count rows start n no_line sorted point (λ a h. sym (ap (λ l. numbered_line_of first count (last_at l a)) (take_none n rows none)))

pub parts_some : (first count : ℕ) (rows : List Row) (start n : ℕ) (line : PathLine) (row d : Row) → SortedFrom 0 rows → Above rows start n → n ≢ 0 → n ≤ length rows → row ≡ get_or rows (n - 1) d → line ≡ numbered_line_of first count (Some row) → Parts first count rows start line (drop n rows)
parts_some first count rows start n line row d sorted point some inside at is =
    parts_by first count rows start n line sorted point
    (λ a h. is ∙ sym (ap (numbered_line_of first count)
    (last_all (take n rows) (n - 1) a d (omega (arith, length-take-le n rows inside))
    (λ k e g. (let less : k < n = omega arith in let le : (get_or rows k e).address ≤ start = leb-true _ _ (point.0 k e (omega arith) less) in
    subst (λ (r : Row). r.address ≤ a) (sym (get_or-take n rows k e less)) (omega arith)))
    ∙ ap Some (get_or-take n rows (n - 1) d (omega arith) ∙ sym at))))

-- The invariant of `paint_rows`: the rows that are left, and what is painted so far.
pub record Paints (first count : ℕ) (rows : List Row) (old : Stepping PathLine) (start : ℕ) (painted : Stepping PathLine) (from : ℕ) (now : PathLine) (rest : List Row) : Type 0 where
  pub start_below : start ≤ from
  pub sorted : SortedFrom from rest
  pub last : last_from 0 painted.stops ≤ from
  pub holds : (a : ℕ) → from ≤ a → value_at no_line painted a ≡ now
  pub rest_is : (a : ℕ) → start ≤ a → line_or (value_at no_line painted a) first count (last_at rest a) ≡ numbered_line_of first count (last_at rows a)
  pub before : (a : ℕ) → a < start → value_at no_line painted a ≡ value_at no_line old a
  pub up_to : (end : ℕ) → start ≤ end → AllUpTo end rows → (from ≤ end) × AllUpTo end rest

pub paints_begin : (first count : ℕ) (rows : List Row) (old : Stepping PathLine) (start : ℕ) (painted : Stepping PathLine) (line : PathLine) (above : List Row)
    → Parts first count rows start line above → ((before : PathLine) (a : ℕ) → value_at before painted a ≡ cond (nat_le start a) line (value_at before old a)) → last_from 0 painted.stops ≡ start
    → Paints first count rows old start painted start line above
paints_begin first count rows old start painted line above parts at last = record {
  start_below = omega arith;
  sorted = parts.sorted;
  last = omega arith;
  holds = λ a h. at no_line a ∙ ap (λ b. cond b line (value_at no_line old a)) (le-leb start a h);
  rest_is = λ a h. ap (λ l. line_or l first count (last_at above a)) (at no_line a ∙ ap (λ b. cond b line (value_at no_line old a)) (le-leb start a h)) ∙ parts.rest a h;
  before = λ a h. at no_line a ∙ ap (λ b. cond b line (value_at no_line old a)) (lt-leb start a h);
  up_to = λ end le all. (le, parts.up_to end all);
}

line_step : (b : Bool) (row : Row) (v : PathLine) (first count : ℕ) (over : Option Row) → line_or (cond b (numbered_line_of first count (Some row)) v) first count over ≡ line_or v first count (or_row over (cond b (Some row) None))
line_step b row v first count (Some s) = refl
line_step true row v first count None = refl
line_step false row v first count None = refl

pub paints_more : (first count : ℕ) (rows : List Row) (old : Stepping PathLine) (start : ℕ) (painted more : Stepping PathLine) (from : ℕ) (now line : PathLine) (row : Row) (rest : List Row)
    → Paints first count rows old start painted from now (row ∷ rest) → line ≡ numbered_line_of first count (Some row)
    → ((a : ℕ) → value_at no_line more a ≡ cond (nat_le row.address a) line (value_at no_line painted a)) → last_from 0 more.stops ≤ row.address
    → Paints first count rows old start more row.address line rest
unfolding last_at
paints_more first count rows old start painted more from now line row rest p is at last = record {
  start_below = omega (arith, p.start_below, p.sorted.0);
  sorted = p.sorted.1;
  last = last;
  holds = λ a h. at a ∙ ap (λ b. cond b line (value_at no_line painted a)) (le-leb row.address a h);
  rest_is = λ a h.
      ap (λ l. line_or l first count (last_at rest a)) (at a ∙ ap (λ l. cond (nat_le row.address a) l (value_at no_line painted a)) is)
      ∙ line_step (nat_le row.address a) row (value_at no_line painted a) first count (last_at rest a)
      ∙ p.rest_is a h;
  before = λ a h. at a ∙ ap (λ b. cond b line (value_at no_line painted a)) (lt-leb row.address a (omega (arith, p.start_below, p.sorted.0))) ∙ p.before a h;
  up_to = λ end le all. (p.up_to end le all).1;
}

pub paints_end : (first count : ℕ) (rows : List Row) (old : Stepping PathLine) (start : ℕ) (painted : Stepping PathLine) (from : ℕ) (now : PathLine) (rest : List Row)
    → Paints first count rows old start painted from now rest → rest ≡ []
    → (a : ℕ) → value_at no_line painted a ≡ cond (nat_le start a) (numbered_line_of first count (last_at rows a)) (value_at no_line old a)
unfolding last_at
paints_end first count rows old start painted from now rest p none a = elim (cases_lt a start) [
  | inl low ↦ p.before a low ∙ sym (ap (λ b. cond b (numbered_line_of first count (last_at rows a)) (value_at no_line old a)) (lt-leb start a low))
  | inr high ↦ sym (ap (λ l. line_or (value_at no_line painted a) first count (last_at l a)) none) ∙ p.rest_is a high ∙ sym (ap (λ b. cond b (numbered_line_of first count (last_at rows a)) (value_at no_line old a)) (le-leb start a high))
]

pub paints_last : (first count : ℕ) (rows : List Row) (old : Stepping PathLine) (start : ℕ) (painted : Stepping PathLine) (from : ℕ) (now : PathLine) (rest : List Row)
    → Paints first count rows old start painted from now rest → (end : ℕ) → start ≤ end → AllUpTo end rows → last_from 0 painted.stops ≤ end
paints_last first count rows old start painted from now rest p end le all = omega (arith, p.last, (p.up_to end le all).0)

-- The line that is wanted at each address, made of one piece after another.
abbrev pub wanted : List Counted → List ℕ → List (Option FirstItem) → ℕ → ℕ → ℕ → PathLine
wanted kept stops covers first count a = numbered_line_of first count (row_by (covering kept (held_from None stops covers a)) a)

pub record PaintsAll (kept : List Counted) (stops : List ℕ) (covers : List (Option FirstItem)) (first count : ℕ) (painted : Stepping PathLine) (place : ℕ) : Type 0 where
  pub done : (a : ℕ) → (place < length stops → a < get_or stops place 0) → value_at no_line painted a ≡ wanted kept stops covers first count a
  pub last : place < length stops → last_from 0 painted.stops ≤ get_or stops place 0

pub all_begins : (kept : List Counted) (stops : List ℕ) (covers : List (Option FirstItem)) (first count : ℕ) (painted : Stepping PathLine) → IsStepping stops covers → painted ≡ record { stops = []; values = [] } → PaintsAll kept stops covers first count painted 0
unfolding held_from
all_begins kept stops covers first count painted stepping none = rw none (record {
  done = λ a below. sym (ap (λ n. numbered_line_of first count (row_by (covering kept n) a)) (held_below_first None stops covers a stepping below));
  last = λ some. omega arith;
})

below_end : (stops : List ℕ) (place a : ℕ) → (place < length stops → a < get_or stops place 0) → BelowEnd a (slice_get stops place)
below_end [] place a below = tt
below_end (s ∷ stops) zero a below = below (omega arith)
below_end (s ∷ stops) (suc place) a below = below_end stops place a (λ h. below (omega arith))

up_to_end : (stops : List ℕ) (place a : ℕ) → UpToEnd a (slice_get stops place) → place < length stops → a ≤ get_or stops place 0
up_to_end [] place a up some = absurd (omega arith)
up_to_end (s ∷ stops) zero a up some = up
up_to_end (s ∷ stops) (suc place) a up some = up_to_end stops place a up (omega arith)

from_stops : (stops : List ℕ) (place a : ℕ) → (place < length stops → a ≤ get_or stops place 0) → UpToEnd a (slice_get stops place)
from_stops [] place a below = tt
from_stops (s ∷ stops) zero a below = below (omega arith)
from_stops (s ∷ stops) (suc place) a below = from_stops stops place a (λ h. below (omega arith))

pub piece_ends : (stops : List ℕ) (covers : List (Option FirstItem)) (place : ℕ) (end : Option ℕ) → IsStepping stops covers → place < length stops → end ≡ slice_get stops (place + 1) → UpToEnd (get_or stops place 0) end
piece_ends stops covers place end stepping inside is = subst (UpToEnd (get_or stops place 0)) (sym is) (from_stops stops (place + 1) (get_or stops place 0) (λ more. rises_next stops place stepping.rising more))

pub all_more : (kept : List Counted) (stops : List ℕ) (covers : List (Option FirstItem)) (first count : ℕ) (painted more : Stepping PathLine) (place : ℕ) (number d : Option FirstItem) (end : Option ℕ)
    → IsStepping stops covers → place < length stops → PaintsAll kept stops covers first count painted place → number ≡ get_or covers place d → end ≡ slice_get stops (place + 1)
    → ((a : ℕ) → a < get_or stops place 0 → value_at no_line more a ≡ value_at no_line painted a)
    → ((a : ℕ) → get_or stops place 0 ≤ a → BelowEnd a end → value_at no_line more a ≡ numbered_line_of first count (row_by (covering kept number) a))
    → UpToEnd (last_from 0 more.stops) end
    → PaintsAll kept stops covers first count more (place + 1)
all_more kept stops covers first count painted more place number d end stepping inside p at_number at_end before at last = record {
  done = λ a below. elim (cases_lt a (get_or stops place 0)) [
    | inl low ↦ before a low ∙ p.done a (λ h. low)
    | inr high ↦
        at a high (subst (BelowEnd a) (sym at_end) (below_end stops (place + 1) a below))
        ∙ ap (λ n. numbered_line_of first count (row_by (covering kept n) a)) (at_number ∙ sym (held_at_index None d stops covers place a stepping inside high below))
  ];
  last = λ some. up_to_end stops (place + 1) (last_from 0 more.stops) (subst (UpToEnd (last_from 0 more.stops)) at_end last) some;
}

pub all_done : (kept : List Counted) (stops : List ℕ) (covers : List (Option FirstItem)) (first count : ℕ) (painted shrunk : Stepping PathLine) (place : ℕ) → PaintsAll kept stops covers first count painted place → length stops ≤ place → shrunk ≡ painted → (a : ℕ) → value_at no_line shrunk a ≡ wanted kept stops covers first count a
all_done kept stops covers first count painted shrunk place p all same a = ap (λ steps. value_at no_line steps a) same ∙ p.done a (λ h. absurd (omega arith))

pub piece_last : (last : ℕ) (end : Option ℕ) (at : ℕ) → end ≡ Some at → last ≤ at → UpToEnd last end
piece_last last end at is le = subst (UpToEnd last) (sym is) le
