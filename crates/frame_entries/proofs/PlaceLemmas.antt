-- The places of a section's entries rise, and the list of the entries does not depend on the bound
-- on the number of marks. The lemmas are for `entries`, `entries_follow`, `read_entry`, `front_id`,
-- `read_listing` and `read_mark`.
use Rattle.std.proofs.Common.{◌≡◌, ◌≤◌, ◌+◌, ℕ, zero, suc, Bool, true, false, nat_eq, nat_lt, nat_le, cond, eq-eqb, List, [], ◌∷◌, length, take, map, Result, Ok, Err, refl, sym, ap, ◌∙◌, subst, arith}
use Rattle.std.specs.List.{filter}
use Rattle.std.proofs.lemmas.Bool.{cond-true, cond-false, le-ltb, ltb-false}
use Rattle.std.proofs.lemmas.List.{length-take-le}
use Rattle.sym_edges.specs.declared.part.Sect.{Sect}
use Rattle.leb_cursor.specs.declared.fault.CursorFault.{CursorFault}
use Rattle.sym_edges.specs.Results.{◌>>=◌}
use Rattle.leb_cursor.specs.Ahead.{Ahead, passed}
use Rattle.leb_cursor.specs.Passes.{Passes}
use Rattle.leb_cursor.specs.Readings.{fixed_sum, fixed_at, take_at}
use Rattle.leb_cursor.proofs.PassLemmas.{fixed_passes, take_passes, passes_then}
use Rattle.leb_cursor.proofs.ListLemmas.{weaker, either_passes}
use Rattle.frame_entries.specs.declared.fault.FrameKind.TheVariants.{Length, Format64}
use Rattle.sym_edges.specs.declared.located.Located.{Located}
use Rattle.frame_entries.specs.declared.fault.FrameKind.{FrameKind}
use Rattle.frame_entries.specs.declared.raw_entries.Mark.{Mark}
use Rattle.frame_entries.specs.declared.raw_entries.Mark.TheVariants.{Terminator, Padding, Listed}
use Rattle.frame_entries.specs.declared.cie.Cie.{Cie}
use Rattle.frame_entries.specs.Raw.{id_width, Raw}
use Rattle.frame_entries.specs.Listing.{or_length, is_eh, from_start, entry_at, wide_behind, mark_behind, mark_at, listed_from, listed_in, listed_at, listed_by}
use Rattle.frame_entries.specs.internal.CiePlaces.{places_of}
use Rattle.sym_edges.specs.Rising.{RisesFrom}
use Rattle.sym_edges.proofs.RisingLemmas.{rises_lower}
use Rattle.frame_entries.specs.FrameEntries.{is_cie, cie_at, cies_of}

-- A mark takes at least four bytes.
or_passes : {A : Type 0} (which : Sect) (at : ℕ) (reading : Result (A × Ahead) CursorFault) (least : ℕ) (c : Ahead) → Passes least c reading → Passes least c (or_length which at reading)
or_passes which at (Ok x) least c goes = goes
or_passes which at (Err fault) least c goes = tt

made_passes : {A B E : Type 0} (make : A × Ahead → B) (reading : Result (A × Ahead) E) (c : Ahead) → Passes 0 c reading → Passes 0 c (reading >>= λ x. Ok (make x, x.1))
made_passes make (Ok x) c goes = goes
made_passes make (Err fault) c goes = tt

entry_passes : (which : Sect) (at : ℕ) (wide : Bool) (count : ℕ) (c : Ahead) → Passes 0 c (entry_at which at wide count c)
unfolding entry_at
entry_passes which at wide count c =
    either_passes (nat_lt count (id_width wide)) (Err (record { kind = Length; section = which; at = at })) _ 0 c tt
    (made_passes _ (or_length which at (take_at count c)) c
    (weaker (or_length which at (take_at count c)) count 0 c (omega arith) (or_passes which at (take_at count c) count c (take_passes count c))))

wide_passes : (which : Sect) (at : ℕ) (c : Ahead) → Passes 0 c (wide_behind which at c)
unfolding wide_behind
wide_passes which at c =
    either_passes (is_eh which) (Err (record { kind = Format64; section = which; at = at })) _ 0 c tt
    (weaker _ (8 + 0) 0 c (omega arith)
    (passes_then (or_length which at (fixed_at 8 c)) (λ count. entry_at which at true count.0 count.1) 8 0 c
    (or_passes which at (fixed_at 8 c) 8 c (fixed_passes 8 c)) (λ count. entry_passes which at true count.0 count.1)))

behind_passes : (which : Sect) (at count : ℕ) (c : Ahead) → Passes 0 c (mark_behind which at count c)
unfolding mark_behind
behind_passes which at count c =
    either_passes (nat_eq count 0) _ _ 0 c (omega arith, refl)
    (either_passes (nat_eq count 0xffffffff) (wide_behind which at c) _ 0 c (wide_passes which at c)
    (either_passes (nat_le 0xfffffff0 count) (Err (record { kind = Length; section = which; at = at })) (entry_at which at false count c) 0 c tt (entry_passes which at false count c)))

mark_passes : (which : Sect) (c : Ahead) → Passes 4 c (mark_at which c)
unfolding mark_at
mark_passes which c =
    passes_then (or_length which c.at (fixed_at 4 c)) (λ count. mark_behind which c.at count.0 count.1) 4 0 c
    (or_passes which c.at (fixed_at 4 c) 4 c (fixed_passes 4 c)) (λ count. behind_passes which c.at count.0 count.1)

-- The place after a number of fixed width.
abbrev place_behind : ℕ → Result (ℕ × Ahead) CursorFault → ℕ
place_behind at (Ok x) = x.1.at
place_behind at (Err fault) = at

ends_by : (test : Bool) (fault : CursorFault) (sum width : ℕ) (c : Ahead) (x : ℕ × Ahead) → Ok x ≡ cond test (Err fault) (Ok (sum, passed width c)) → x.1.at ≡ c.at + width
unfolding passed
ends_by true fault sum width c x is = cc
ends_by false fault sum width c x is = ap (place_behind c.at) is

pub fixed_ends : (width n : ℕ) (c d : Ahead) → Ok (n, d) ≡ fixed_at width c → d.at ≡ c.at + width
unfolding fixed_at
fixed_ends width n c d is = ends_by (nat_lt (length c.bytes) width) _ _ width c (n, d) is

-- The value of a number that was read.
number_by : (test : Bool) (fault : CursorFault) (sum : ℕ) (d : Ahead) (x : ℕ × Ahead) → Ok x ≡ cond test (Err fault) (Ok (sum, d)) → x.0 ≡ sum
number_by true fault sum d x is = cc
number_by false fault sum d x is = cc

pub front_number : (width n : ℕ) (bytes : List ℕ) (d : Ahead) → Ok (n, d) ≡ fixed_at width (from_start bytes) → n ≡ fixed_sum width bytes
unfolding fixed_at
front_number width n bytes d is = number_by (nat_lt (length bytes) width) _ _ _ (n, d) is

pub front_there : (width n : ℕ) (bytes : List ℕ) (fault : CursorFault) → Err fault ≡ fixed_at width (from_start bytes) → width ≤ length bytes → n ≡ fixed_sum width bytes
unfolding fixed_at
front_there width n bytes fault is there =
    let enough : nat_lt (length bytes) width ≡ false = le-ltb (length bytes) width there in
    let never : ◌≡◌ {A = Result (ℕ × Ahead) CursorFault} (Err fault) (Ok (fixed_sum width bytes, passed width (from_start bytes))) = is ∙ cond-false _ _ _ enough in
    cc

-- The number of bytes that were taken.
taken_by : (test : Bool) (fault : CursorFault) (n : ℕ) (c : Ahead) (x : List ℕ × Ahead) → nat_lt (length c.bytes) n ≡ test → Ok x ≡ cond test (Err fault) (Ok (take n c.bytes, passed n c)) → length x.0 ≡ n
taken_by true fault n c x is took = cc
taken_by false fault n c x is took =
    let same : x.0 ≡ take n c.bytes = cc in
    ap length same ∙ length-take-le n c.bytes (ltb-false (length c.bytes) n is)

pub taken_length : (n : ℕ) (c d : Ahead) (bytes : List ℕ) → Ok (bytes, d) ≡ take_at n c → length bytes ≡ n
unfolding take_at
taken_length n c d bytes is = taken_by (nat_lt (length c.bytes) n) _ n c (bytes, d) refl is

-- A mark leaves the end of the section where it was.
pub mark_ends : (which : Sect) (c d : Ahead) (mark : Mark) → Ok (mark, d) ≡ mark_at which c → d.at + length d.bytes ≡ c.at + length c.bytes
mark_ends which c d mark is =
    let P : Result (Mark × Ahead) (Located FrameKind) → Type 0 = λ reading. Passes 4 c reading in
    let goes = subst P (sym is) (mark_passes which c) in
    goes.1

-- An entry starts where its mark was read.
abbrev pub MarkStarts : ℕ → Mark → Type 0
MarkStarts at Terminator = Unit {0}
MarkStarts at Padding = Unit {0}
MarkStarts at (Listed raw) = raw.at ≡ at

abbrev pub Starts : ℕ → Result (Mark × Ahead) (Located FrameKind) → Type 0
Starts at (Ok mark) = MarkStarts at mark.0
Starts at (Err fault) = Unit {0}

starts_then : {A : Type 0} (at : ℕ) (reading : Result (A × Ahead) (Located FrameKind)) (next : A × Ahead → Result (Mark × Ahead) (Located FrameKind)) → ((x : A × Ahead) → Starts at (next x)) → Starts at (reading >>= next)
starts_then at (Ok x) next later = later x
starts_then at (Err fault) next later = tt

either_starts : (at : ℕ) (test : Bool) (given other : Result (Mark × Ahead) (Located FrameKind)) → Starts at given → Starts at other → Starts at (cond test given other)
either_starts at true given other first second = first
either_starts at false given other first second = second

zero_starts : (at : ℕ) (test : Bool) → MarkStarts at (cond test Terminator Padding)
zero_starts at true = tt
zero_starts at false = tt

entry_starts : (which : Sect) (at : ℕ) (wide : Bool) (count : ℕ) (c : Ahead) → Starts at (entry_at which at wide count c)
unfolding entry_at
entry_starts which at wide count c =
    either_starts at (nat_lt count (id_width wide)) (Err (record { kind = Length; section = which; at = at })) _ tt
    (starts_then at (or_length which at (take_at count c)) _ (λ bytes. refl))

wide_starts : (which : Sect) (at : ℕ) (c : Ahead) → Starts at (wide_behind which at c)
unfolding wide_behind
wide_starts which at c =
    either_starts at (is_eh which) (Err (record { kind = Format64; section = which; at = at })) _ tt
    (starts_then at (or_length which at (fixed_at 8 c)) (λ count. entry_at which at true count.0 count.1) (λ count. entry_starts which at true count.0 count.1))

behind_starts : (which : Sect) (at count : ℕ) (c : Ahead) → Starts at (mark_behind which at count c)
unfolding mark_behind
behind_starts which at count c =
    either_starts at (nat_eq count 0) _ _ (zero_starts at (is_eh which))
    (either_starts at (nat_eq count 0xffffffff) (wide_behind which at c) _ (wide_starts which at c)
    (either_starts at (nat_le 0xfffffff0 count) (Err (record { kind = Length; section = which; at = at })) (entry_at which at false count c) tt (entry_starts which at false count c)))

mark_starts : (which : Sect) (c : Ahead) → Starts c.at (mark_at which c)
unfolding mark_at
mark_starts which c =
    starts_then c.at (or_length which c.at (fixed_at 4 c)) (λ count. mark_behind which c.at count.0 count.1)
    (λ count. behind_starts which c.at count.0 count.1)

-- The places of entries.
abbrev pub starts_of : List Raw → List ℕ
starts_of raws = map (λ raw. raw.at) raws

abbrev pub PlacesRise : ℕ → Result (List Raw) (Located FrameKind) → Type 0
PlacesRise low (Ok raws) = RisesFrom low (starts_of raws)
PlacesRise low (Err fault) = Unit {0}

from_lower : (low high : ℕ) (later : Result (List Raw) (Located FrameKind)) → low ≤ high → PlacesRise high later → PlacesRise low later
from_lower low high (Ok raws) below rising = rises_lower high low (starts_of raws) below rising
from_lower low high (Err fault) below rising = tt

rises_behind : (raw : Raw) (later : Result (List Raw) (Located FrameKind)) (low high : ℕ) → low + 1 ≤ high → raw.at ≡ low → PlacesRise high later → PlacesRise low (listed_from (Listed raw) later)
rises_behind raw (Ok raws) low high below here rising =
    (omega arith, rises_lower high (raw.at + 1) (starts_of raws) (omega arith) rising)
rises_behind raw (Err fault) low high below here rising = tt

rises_mark : (mark : Mark) (later : Result (List Raw) (Located FrameKind)) (low high : ℕ) → low + 1 ≤ high → MarkStarts low mark → PlacesRise high later → PlacesRise low (listed_from mark later)
rises_mark Terminator later low high below here rising = tt
rises_mark Padding later low high below here rising = from_lower low high later (omega arith) rising
rises_mark (Listed raw) later low high below here rising = rises_behind raw later low high below here rising

rises_marks : (reading : Result (Mark × Ahead) (Located FrameKind)) (c : Ahead) (later : Ahead → Result (List Raw) (Located FrameKind)) → Passes 4 c reading → Starts c.at reading → ((d : Ahead) → PlacesRise d.at (later d)) → PlacesRise c.at (reading >>= λ mark. listed_from mark.0 (later mark.1))
rises_marks (Ok mark) c later goes here rising =
    rises_mark mark.0 (later mark.1) c.at mark.1.at (omega (arith, goes.0, goes.1)) here (rising mark.1)
rises_marks (Err fault) c later goes here rising = tt

either_rises : (low : ℕ) (test : Bool) (given other : Result (List Raw) (Located FrameKind)) → PlacesRise low given → PlacesRise low other → PlacesRise low (cond test given other)
either_rises low true given other first second = first
either_rises low false given other first second = second

listed_rises : (n : ℕ) (which : Sect) (c : Ahead) → PlacesRise c.at (listed_in n which c)
unfolding listed_in
listed_rises zero which c = tt
listed_rises (suc n) which c =
    either_rises c.at (nat_eq (length c.bytes) 0) (Ok []) _ tt
    (rises_marks (mark_at which c) c (λ d. listed_in n which d) (mark_passes which c) (mark_starts which c) (λ d. listed_rises n which d))

rises_chosen : (test : Bool) (low : ℕ) (raw : Raw) (chosen : List Raw) → low ≤ raw.at → RisesFrom (raw.at + 1) (starts_of chosen) → RisesFrom low (starts_of (cond test (raw ∷ chosen) chosen))
rises_chosen true low raw chosen first rising = (first, rising)
rises_chosen false low raw chosen first rising = rises_lower (raw.at + 1) low (starts_of chosen) (omega arith) rising

rises_filter : (test : Raw → Bool) (low : ℕ) (raws : List Raw) → RisesFrom low (starts_of raws) → RisesFrom low (starts_of (filter test raws))
rises_filter test low [] rising = tt
rises_filter test low (raw ∷ raws) rising =
    rises_chosen (test raw) low raw (filter test raws) rising.0 (rises_filter test (raw.at + 1) raws rising.1)

rises_cies : (low : ℕ) (raws : List Raw) → RisesFrom low (starts_of raws) → RisesFrom low (places_of (map cie_at raws))
rises_cies low [] rising = tt
rises_cies low (raw ∷ raws) rising = (rising.0, rises_cies (raw.at + 1) raws rising.1)

pub cies_rise : (which : Sect) (c : Ahead) (raws : List Raw) (cies : List Cie) → listed_at which c ≡ Ok raws → cies ≡ cies_of which raws → RisesFrom 0 (places_of cies)
unfolding listed_at cies_of
cies_rise which c raws cies is made =
    let rising : RisesFrom c.at (starts_of raws) = subst (PlacesRise c.at) is (listed_rises (length c.bytes) which c) in
    let chosen = rises_filter (is_cie which) c.at raws rising in
    let cie_places = rises_cies c.at (filter (is_cie which) raws) chosen in
    subst (λ (xs : List Cie). RisesFrom 0 (places_of xs)) (sym made) (rises_lower c.at 0 _ (omega arith) cie_places)

-- Two bounds that allow enough marks give the same list.
marks_same : (reading : Result (Mark × Ahead) (Located FrameKind)) (c : Ahead) (f g : Ahead → Result (List Raw) (Located FrameKind)) → Passes 4 c reading → ((d : Ahead) → length d.bytes + 4 ≤ length c.bytes → f d ≡ g d) → (reading >>= λ mark. listed_from mark.0 (f mark.1)) ≡ (reading >>= λ mark. listed_from mark.0 (g mark.1))
marks_same (Ok mark) c f g goes same = ap (listed_from mark.0) (same mark.1 goes.0)
marks_same (Err fault) c f g goes same = refl

enough : (m n : ℕ) (which : Sect) (c : Ahead) → length c.bytes ≤ m → length c.bytes ≤ n → listed_in m which c ≡ listed_in n which c
unfolding listed_in
enough zero zero which c all_m all_n = refl
enough zero (suc n) which c all_m all_n = sym (cond-true _ _ _ (eq-eqb (length c.bytes) 0 (omega arith)))
enough (suc m) zero which c all_m all_n = cond-true _ _ _ (eq-eqb (length c.bytes) 0 (omega arith))
enough (suc m) (suc n) which c all_m all_n =
    ap (cond (nat_eq (length c.bytes) 0) (Ok []))
    (marks_same (mark_at which c) c (λ d. listed_in m which d) (λ d. listed_in n which d) (mark_passes which c)
    (λ d less. enough m n which d (omega arith) (omega arith)))

pub listed_is : (which : Sect) (c : Ahead) → listed_at which c ≡ listed_by listed_at which c
unfolding listed_at listed_in listed_by
listed_is which c =
    enough (length c.bytes) (suc (length c.bytes)) which c (omega arith) (omega arith)
    ∙ ap (cond (nat_eq (length c.bytes) 0) (Ok []))
    (marks_same (mark_at which c) c (λ d. listed_in (length c.bytes) which d) (λ d. listed_in (length d.bytes) which d) (mark_passes which c)
    (λ d less. enough (length c.bytes) (length d.bytes) which d (omega arith) (omega arith)))
