-- The stretches of records.
use Rattle.std.proofs.Common.{◌≡◌, ◌+◌, ◌<◌, ◌≤◌, ◌^◌, ◌++◌, ◌==◌, ◌&&◌, ◌||◌, ℕ, zero, suc, Bool, true, false, cond, List, [], ◌∷◌, length, get_or, drop, Option, None, Some, refl, sym, ap, ◌∙◌, arith, append_assoc, append-nil, drop-cons}
use Rattle.std.specs.List.{position_from, list_any}
use Rattle.std.specs.Option.{option_map, option_or}
use Rattle.sym_records.specs.declared.line.Extent.{Extent}
use Rattle.sym_records.specs.declared.line.SymLine.{SymLine}
use Rattle.sym_records.specs.declared.line.SymLine.TheVariants.{Func, Inline, Line, Init}
use Rattle.sym_meaning.specs.TextNames.{is_within, is_func_at, is_line_at, is_inline_at}
use Rattle.sym_meaning.specs.Findings.{func_run, line_run}
use Rattle.cfi_eval.specs.Inits.{is_init_at}
use Rattle.step_maps.specs.declared.stretch.Stretch.{Stretch}
use Rattle.step_maps.specs.declared.stretch.FirstItem.{FirstItem}
use Rattle.step_maps.specs.Stepping.{Stepping, value_at}
use Rattle.step_maps.specs.Covers.{first_at, index_at, first_item}
use Rattle.step_maps.proofs.IndexLemmas.{none_at, found_joined, cut_at, item_index}
use Rattle.sym_lookup.specs.declared.stretches.Kind.{Kind}
use Rattle.sym_lookup.specs.declared.stretches.Kind.TheVariants as kind
use Rattle.sym_lookup.specs.internal.Kinds.{is_at, init_run, level_ranges, extents_of, stretch_of, extent_stretches, stretches_of}
use Rattle.sym_lookup.specs.PlaceMaps.{IsPlaceMap}

-- One more range, and one more record.
pub records_more : (kind : Kind) (first at : ℕ) (records : List SymLine) (line : SymLine) (done next all : List Stretch) → done ++ stretches_of kind (first + at) (drop at records) ≡ all → line ≡ get_or records at line → at < length records → next ≡ done ++ extent_stretches (first + at) (extents_of kind line)
    → next ++ stretches_of kind (first + (at + 1)) (drop (at + 1) records) ≡ all
records_more kind first at records line done next all h is l n =
    let cut : drop at records ≡ line ∷ drop (suc at) records = drop-cons records at line l ∙ ap (λ s. s ∷ drop (suc at) records) (sym is) in
    let one : first + (at + 1) ≡ first + at + 1 = omega arith in
    let two : at + 1 ≡ suc at = omega arith in
    ap (λ m. next ++ stretches_of kind m (drop (at + 1) records)) one
    ∙ ap (λ m. next ++ stretches_of kind (first + at + 1) (drop m records)) two
    ∙ ap (λ xs. xs ++ stretches_of kind (first + at + 1) (drop (suc at) records)) n
    ∙ append_assoc done (extent_stretches (first + at) (extents_of kind line)) (stretches_of kind (first + at + 1) (drop (suc at) records))
    ∙ ap (λ rs. done ++ stretches_of kind (first + at) rs) (sym cut)
    ∙ h

none_left : (kind : Kind) (records : List SymLine) (n at : ℕ) → length records ≤ at → stretches_of kind n (drop at records) ≡ []
none_left kind [] n zero l = refl
none_left kind [] n (suc at) l = refl
none_left kind (s ∷ records) n zero l = absurd (omega arith)
none_left kind (s ∷ records) n (suc at) l = none_left kind records n at (omega arith)

pub records_all : (kind : Kind) (records : List SymLine) (n at : ℕ) (done all : List Stretch) → done ++ stretches_of kind n (drop at records) ≡ all → length records ≤ at → done ≡ all
records_all kind records n at done all h l = sym (append-nil done) ∙ ap (λ xs. done ++ xs) (sym (none_left kind records n at l)) ∙ h

-- A range has the same addresses as its stretch.
one_range : (n : ℕ) (e : Extent) (x : ℕ) → x < 2 ^ 64 → index_at (stretch_of n e) x ≡ cond (is_within e.address e.size x) (Some n) None
one_range n e x l = cut_at n e.address e.size x l

first_of_both : (b c : Bool) (n : ℕ) → option_or (cond b (Some n) None) (cond c (Some n) None) ≡ cond (b || c) (Some n) None
first_of_both true c n = refl
first_of_both false c n = refl

some_range : (n : ℕ) (extents : List Extent) (x : ℕ) → x < 2 ^ 64 → index_at (extent_stretches n extents) x ≡ cond (list_any (λ (e : Extent). is_within e.address e.size x) extents) (Some n) None
some_range n [] x l = none_at x
some_range n (e ∷ extents) x l =
    found_joined (stretch_of n e) (extent_stretches n extents) x
    ∙ ap (λ o. option_or o (index_at (extent_stretches n extents) x)) (one_range n e x l)
    ∙ ap (λ o. option_or (cond (is_within e.address e.size x) (Some n) None) o) (some_range n extents x l)
    ∙ first_of_both (is_within e.address e.size x) (list_any (λ (e : Extent). is_within e.address e.size x) extents) n

-- A record of the kind has the addresses of its ranges.
or_none : (b : Bool) → (b || false) ≡ b
or_none true = refl
or_none false = refl

func_test : (x : ℕ) (s : SymLine) → list_any (λ (e : Extent). is_within e.address e.size x) (func_run s) ≡ is_func_at x s
func_test x (Func many address size params name) = or_none (is_within address size x)
func_test x _ = refl

init_test : (x : ℕ) (s : SymLine) → list_any (λ (e : Extent). is_within e.address e.size x) (init_run s) ≡ is_init_at x s
init_test x (Init address size rules) = or_none (is_within address size x)
init_test x _ = refl

line_test : (x : ℕ) (s : SymLine) → list_any (λ (e : Extent). is_within e.address e.size x) (line_run s) ≡ is_line_at x s
line_test x (Line address size line file) = or_none (is_within address size x)
line_test x _ = refl

level_only : (b : Bool) (p : Extent → Bool) (ranges : List Extent) → list_any p (cond b ranges []) ≡ (b && list_any p ranges)
level_only true p ranges = refl
level_only false p ranges = refl

level_test : (level x : ℕ) (s : SymLine) → list_any (λ (e : Extent). is_within e.address e.size x) (level_ranges level s) ≡ is_inline_at level x s
level_test level x (Inline own line file origin ranges) = level_only (own == level) (λ (e : Extent). is_within e.address e.size x) ranges
level_test level x _ = refl

kind_test : (kind : Kind) (x : ℕ) (s : SymLine) → list_any (λ (e : Extent). is_within e.address e.size x) (extents_of kind s) ≡ is_at kind x s
kind_test kind.Functions x s = func_test x s
kind_test kind.Inits x s = init_test x s
kind_test kind.Lines x s = line_test x s
kind_test (kind.Level level) x s = level_test level x s

first_record : (b : Bool) (n : ℕ) (later : Option ℕ) → option_or (cond b (Some n) None) later ≡ cond b (Some n) later
first_record true n later = refl
first_record false n later = refl

pub records_found : (kind : Kind) (n : ℕ) (records : List SymLine) (x : ℕ) → x < 2 ^ 64 → index_at (stretches_of kind n records) x ≡ position_from (is_at kind x) n records
unfolding index_at first_at
records_found kind n [] x l = refl
records_found kind n (s ∷ records) x l =
    found_joined (extent_stretches n (extents_of kind s)) (stretches_of kind (n + 1) records) x
    ∙ ap (λ o. option_or o (index_at (stretches_of kind (n + 1) records) x)) (some_range n (extents_of kind s) x l)
    ∙ ap (λ o. option_or (cond (list_any (λ (e : Extent). is_within e.address e.size x) (extents_of kind s)) (Some n) None) o) (records_found kind (n + 1) records x l)
    ∙ first_record (list_any (λ (e : Extent). is_within e.address e.size x) (extents_of kind s)) n (position_from (is_at kind x) (n + 1) records)
    ∙ ap (λ b. cond b (Some n) (position_from (is_at kind x) (n + 1) records)) (kind_test kind x s)

pub map_is : (kind : Kind) (n : ℕ) (records : List SymLine) (items : List Stretch) (map : Stepping (Option FirstItem)) → items ≡ stretches_of kind n records → ((a : ℕ) → a < 2 ^ 64 → value_at None map a ≡ first_item items a)
    → IsPlaceMap (λ x. position_from (is_at kind x) n records) map
map_is kind n records items map same h = record {
  places = λ x l. ap (option_map (λ (i : FirstItem). i.index)) (h x l) ∙ item_index items x ∙ ap (λ is. index_at is x) same ∙ records_found kind n records x l;
}
