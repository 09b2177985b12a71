-- For which FUNC records the index stores what is under them.
use Rattle.std.proofs.Common.{◌≡◌, ◌≢◌, ◌+◌, ◌<◌, ◌≤◌, ◌++◌, not, ◌&&◌, nat_le, nat_lt, ℕ, zero, suc, Bool, true, false, List, [], ◌∷◌, length, get_or, drop, Some, sym, ap, subst, ◌∙◌, arith, inl, inr}
use Rattle.std.specs.List.{sum_by}
use Rattle.std.specs.Option.{option_map_or}
use Rattle.std.specs.List.Sorted.{IsNonDecreasingBy, IsPartitionPoint}
use Rattle.std.proofs.lemmas.Bool.{cases_lt}
use Rattle.std.proofs.lemmas.Bool.Decides.{nat_tests}
use Rattle.std.proofs.lemmas.Option.{slice_get_past, slice_get-get_or}
use Rattle.std.proofs.lemmas.List.{get_or_default}
use Rattle.sym_records.specs.declared.line.SymLine.{SymLine}
use Rattle.sym_meaning.specs.TextNames.{under}
use Rattle.sym_lookup.specs.internal.HeldUnders.{range_count, is_func, is_held, HaveNone, AreHeld}
use Rattle.sym_lookup.specs.declared.under.Under.{Under}

none_fits : (room : ℕ) → nat_le 0 room ≡ true
none_fits room = grind (arith, nat_tests)

pub all_fit : (records : List SymLine) (at room : ℕ) → length records ≤ at → nat_le (sum_by range_count (drop at records)) room ≡ true
all_fit [] zero room l = none_fits room
all_fit [] (suc at) room l = none_fits room
all_fit (s ∷ records) zero room l = absurd (omega arith)
all_fit (s ∷ records) (suc at) room l = all_fit records at room (omega arith)

-- Whether one record is such a FUNC.
pub held_by : (lines records : List SymLine) (func : ℕ) (line : SymLine) (few : Bool) → line ≡ get_or lines func line → func < length lines → records ≡ under (drop (func + 1) lines) → few ≡ nat_le (sum_by range_count records) 32
    → is_held lines func ≡ (is_func line && not few)
unfolding is_held
held_by lines records func line few is l e f =
    ap (λ o. option_map_or is_func o false && nat_lt 32 (sum_by range_count (under (drop (func + 1) lines)))) (slice_get-get_or lines func line l ∙ ap Some (sym is))
    ∙ ap (λ rs. is_func line && nat_lt 32 (sum_by range_count rs)) (sym e)
    ∙ ap (λ b. is_func line && b) (more (sum_by range_count records) ∙ ap not (sym f))
  where
    more : (n : ℕ) → nat_lt 32 n ≡ not (nat_le n 32)
    more n = grind (arith, nat_tests)

pub no_func : (lines : List SymLine) (func : ℕ) (line : SymLine) → line ≡ get_or lines func line → func < length lines → is_func line ≡ false → is_held lines func ≡ false
unfolding is_held
no_func lines func line is l none =
    ap (λ o. option_map_or is_func o false && nat_lt 32 (sum_by range_count (under (drop (func + 1) lines)))) (slice_get-get_or lines func line l ∙ ap Some (sym is))
    ∙ ap (λ b. b && nat_lt 32 (sum_by range_count (under (drop (func + 1) lines)))) none

-- No record from one place up to another is such a FUNC.
pub none_yet : (lines : List SymLine) → HaveNone lines 0 0
none_yet lines = (omega arith, λ func low up. absurd (omega arith))

one_more : (lines : List SymLine) (first at : ℕ) → HaveNone lines first at → is_held lines at ≡ false → HaveNone lines first (at + 1)
one_more lines first at none not = (
  let l : first ≤ at = none.0 in omega arith,
  λ func low up. elim (cases_lt func at) [
    | inl less ↦ none.1 func low less
    | inr more ↦ let e : func ≡ at = omega arith in ap (is_held lines) e ∙ not
  ],
)

pub held_skipped : (lines : List SymLine) (first at : ℕ) (unders : List Under) → AreHeld lines first at unders → is_held lines at ≡ false → AreHeld lines first (at + 1) unders
held_skipped lines first at [] held not = one_more lines first at held not
held_skipped lines first at (u ∷ unders) held not = (held.0, (held.1.0, held_skipped lines (u.func + 1) at unders held.1.1 not))

pub held_joined : (lines : List SymLine) (first at : ℕ) (unders : List Under) (u : Under) → AreHeld lines first at unders → is_held lines at ≡ true → u.func ≡ at → AreHeld lines first (at + 1) (unders ++ u ∷ [])
held_joined lines first at [] u held is e =
    (subst (HaveNone lines first) (sym e) held, (ap (is_held lines) e ∙ is, (let l : u.func ≡ at = e in omega arith, λ func low up. absurd (let l : u.func ≡ at = e in omega arith))))
held_joined lines first at (v ∷ unders) u held is e = (held.0, (held.1.0, held_joined lines (v.func + 1) at unders u held.1.1 is e))

-- The stored entries are in the order of their places.
from_first : (lines : List SymLine) (first end : ℕ) (unders : List Under) (at : ℕ) (d : Under) → AreHeld lines first end unders → at < length unders → first ≤ (get_or unders at d).func
from_first lines first end [] at d held l = absurd (omega arith)
from_first lines first end (u ∷ unders) zero d held l = held.0.0
from_first lines first end (u ∷ unders) (suc at) d held l =
    let low : first ≤ u.func = held.0.0 in
    let above : u.func + 1 ≤ (get_or unders at d).func = from_first lines (u.func + 1) end unders at d held.1.1 (omega arith) in
    omega arith

pub held_rise : (lines : List SymLine) (first end : ℕ) (unders : List Under) → AreHeld lines first end unders → IsNonDecreasingBy (λ (u : Under). u.func) unders
held_rise lines first end [] held = λ i j d l m. absurd (omega arith)
held_rise lines first end (u ∷ unders) held = λ i j d l m. by (held_rise lines (u.func + 1) end unders held.1.1) i j d l m
  where
    by : IsNonDecreasingBy (λ (v : Under). v.func) unders → (i j : ℕ) (d : Under) → i ≤ j → j < suc (length unders) → (get_or (u ∷ unders) i d).func ≤ (get_or (u ∷ unders) j d).func
    by rise zero zero d l m = omega arith
    by rise zero (suc j) d l m = let above : u.func + 1 ≤ (get_or unders j d).func = from_first lines (u.func + 1) end unders j d held.1.1 (omega arith) in omega arith
    by rise (suc i) zero d l m = absurd (omega arith)
    by rise (suc i) (suc j) d l m = rise i j d (omega arith) (omega arith)

-- A place that has an entry, and one that has none.
held_at : (lines : List SymLine) (first end : ℕ) (unders : List Under) (at : ℕ) (d : Under) → AreHeld lines first end unders → at < length unders → is_held lines (get_or unders at d).func ≡ true
held_at lines first end [] at d held l = absurd (omega arith)
held_at lines first end (u ∷ unders) zero d held l = held.1.0
held_at lines first end (u ∷ unders) (suc at) d held l = held_at lines (u.func + 1) end unders at d held.1.1 (omega arith)

not_among : (lines : List SymLine) (first end func : ℕ) (unders : List Under) (at : ℕ) → AreHeld lines first end unders → first ≤ func → func < end → ((k : ℕ) (d : Under) → k < at → k < length unders → (get_or unders k d).func < func)
    → ((d : Under) → at < length unders → func < (get_or unders at d).func) → is_held lines func ≡ false
not_among lines first end func [] at held low up below above = held.1 func low up
not_among lines first end func (u ∷ unders) zero held low up below above = held.0.1 func low (above u (omega arith))
not_among lines first end func (u ∷ unders) (suc at) held low up below above =
    let less : u.func < func = below 0 u (omega arith) (omega arith) in
    not_among lines (u.func + 1) end func unders at held.1.1 (omega arith) up (λ k d l m. below (suc k) d (omega arith) (omega arith)) (λ d l. above d (omega arith))

abbrev pub IsBehind : List Under → ℕ → ℕ → Type 0
IsBehind unders func at = IsPartitionPoint (λ (u : Under). nat_lt u.func func ≡ true) (λ (u : Under). nat_lt u.func func ≡ false) unders at

less_of : (a b : ℕ) → nat_lt a b ≡ true → a < b
less_of a b h = grind (arith, nat_tests)

not_less : (a b : ℕ) → nat_lt a b ≡ false → b ≤ a
not_less a b h = grind (arith, nat_tests)

beyond : (lines : List SymLine) (func : ℕ) → length lines ≤ func → is_held lines func ≡ false
unfolding is_held
beyond lines func l = ap (λ o. option_map_or is_func o false && nat_lt 32 (sum_by range_count (under (drop (func + 1) lines)))) (slice_get_past lines func l)

pub none_there : (lines : List SymLine) (unders : List Under) (func at : ℕ) → AreHeld lines 0 (length lines) unders → IsBehind unders func at → ((d : Under) → at < length unders → (get_or unders at d).func ≡ func → ⊥) → false ≡ is_held lines func
none_there lines unders func at held point other = elim (cases_lt func (length lines)) [
  | inl within ↦ sym (not_among lines 0 (length lines) func unders at held (omega arith) within (λ k d l m. less_of _ _ (point.0 k d (omega arith) l)) (λ d l. elim (cases_lt func (get_or unders at d).func) [
    | inl more ↦ more
    | inr less ↦ absurd (let from : func ≤ (get_or unders at d).func = not_less _ _ (point.1 at d (omega arith) l) in other d l (omega arith))
  ]))
  | inr above ↦ sym (beyond lines func above)
]

pub other_there : (lines : List SymLine) (unders : List Under) (func at : ℕ) (u : Under) → AreHeld lines 0 (length lines) unders → IsBehind unders func at → u ≡ get_or unders at u → at < length unders → u.func ≢ func → false ≡ is_held lines func
other_there lines unders func at u held point is l other =
    none_there lines unders func at held point (λ d m e. other (ap (λ (v : Under). v.func) (is ∙ sym (get_or_default unders at d u l)) ∙ e))

pub one_there : (lines : List SymLine) (unders : List Under) (func at : ℕ) (u : Under) → AreHeld lines 0 (length lines) unders → u ≡ get_or unders at u → at < length unders → u.func ≡ func → true ≡ is_held lines func
one_there lines unders func at u held is l e = sym (ap (is_held lines) (sym e ∙ ap (λ (v : Under). v.func) is) ∙ held_at lines 0 (length lines) unders at u held l)
