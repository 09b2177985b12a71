-- The runs of a function between two addresses.
use Rattle.std.proofs.Common.{◌≡◌, ℕ, ◌+◌, ◌-◌, ◌<◌, ◌≤◌, Bool, true, false, ◌&&◌, ◌||◌, nat_le, nat_lt, min, max, if◌then◌else◌, map, List, [], ◌∷◌, Option, None, Some, arith, refl, ap, ◌∙◌}
use Rattle.std.proofs.lemmas.Bool.Decides.{nat_tests}
use Rattle.std.specs.List.{list_any}
use Rattle.step_maps.specs.Runs.{Run, Follows, AreRuns, IsMaximal, AreMaximal, between}
use Rattle.sym_records.specs.declared.line.Extent.{Extent}
use Rattle.sym_meaning.specs.Findings.{run_of, meet, AreApart}

-- No run is empty, and each is between the two addresses.
abbrev pub AreBetween : {V : Type 0} → ℕ → ℕ → List (Run V) → Type 0
AreBetween low high [] = Unit {0}
AreBetween low high (r ∷ runs) = ((low ≤ r.start) × (r.start < r.end) × (r.end ≤ high)) × AreBetween low high runs

found_between : {V : Type 0} (low high a : ℕ) (f : ℕ → Option V) (v : V) → between low high f a ≡ Some v → (low ≤ a) × (a < high)
found_between low high a f v is = go (nat_le low a) refl (nat_lt a high) refl is
  where
    go : (b : Bool) → nat_le low a ≡ b → (d : Bool) → nat_lt a high ≡ d → (if b && d then f a else None) ≡ Some v → (low ≤ a) × (a < high)
    go true above true below same = (grind (arith, nat_tests), grind (arith, nat_tests))
    go true above false below same = absurd (cc)
    go false above d below same = absurd (cc)

pub are_between : {V : Type 0} (low high : ℕ) (f : ℕ → Option V) (runs : List (Run V)) → AreMaximal (between low high f) runs → AreBetween low high runs
are_between low high f [] all = tt
are_between {V = V} low high f (r ∷ runs) all =
    let is : IsMaximal (between low high f) r = all.0 in
    let some : r.start < r.end = is.some in
    let from = found_between low high r.start f r.value (is.constant r.start (omega arith) some) in
    let to = found_between low high (r.end - 1) f r.value (is.constant (r.end - 1) (omega arith) (omega arith)) in
    ((from.0, some, omega (arith, to.1, some)), are_between low high f runs all.1)

-- Each run begins at or above an address.
abbrev pub AreFrom : {V : Type 0} → ℕ → List (Run V) → Type 0
AreFrom low [] = Unit {0}
AreFrom low (r ∷ runs) = (low ≤ r.start) × AreFrom low runs

pub from_between : {V : Type 0} (base low high : ℕ) (runs : List (Run V)) → base ≤ low → AreBetween low high runs → AreFrom base runs
from_between base low high [] above are = tt
from_between base low high (r ∷ runs) above are = let first : low ≤ r.start = are.0.0 in (omega arith, from_between base low high runs above are.1)

abbrev FirstFrom : {V : Type 0} → ℕ → List (Run V) → Type 0
FirstFrom low [] = Unit {0}
FirstFrom low (r ∷ runs) = low ≤ r.start

follows_from : {V : Type 0} (low : ℕ) (r : Run V) (runs : List (Run V)) → low ≤ r.end → Follows r runs → FirstFrom low runs
follows_from low r [] below follows = tt
follows_from low r (s ∷ runs) below follows = let next : r.end ≤ s.start = follows.0 in omega arith

all_from : {V : Type 0} (low : ℕ) (runs : List (Run V)) → FirstFrom low runs → AreRuns runs → AreFrom low runs
all_from low [] first apart = tt
all_from low (r ∷ runs) first apart =
    let some : r.start < r.end = apart.0 in
    (first, all_from low runs (follows_from low r runs (omega (arith, first)) apart.1) apart.2)

-- The addresses of a run in the text, with the base subtracted.
abbrev pub text_run : {V : Type 0} → ℕ → Run V → Extent
text_run base r = run_of (r.start - base) (r.end - r.start)

not_less : (x y : ℕ) → y ≤ x → nat_lt x y ≡ false
not_less x y is = grind (arith, nat_tests)

none_meets : {V : Type 0} (base : ℕ) (r : Run V) (runs : List (Run V)) → base ≤ r.start → r.start < r.end → AreFrom r.end runs → list_any (meet (text_run base r)) (map (text_run base) runs) ≡ false
none_meets base r [] above some from = refl
none_meets base r (s ∷ runs) above some from =
    let next : r.end ≤ s.start = from.0 in
    ap (λ b. b || list_any (meet (text_run base r)) (map (text_run base) runs))
    (not_less (max (r.start - base) (s.start - base)) (min ((r.start - base) + (r.end - r.start)) ((s.start - base) + (s.end - s.start))) (omega arith))
    ∙ none_meets base r runs above some from.1

-- No two runs have an address in common.
pub runs_apart : {V : Type 0} (base : ℕ) (runs : List (Run V)) → AreFrom base runs → AreRuns runs → AreApart (map (text_run base) runs)
runs_apart base [] from apart = tt
runs_apart base (r ∷ runs) from apart =
    (none_meets base r runs from.0 apart.0 (all_from r.end runs (follows_from r.end r runs (omega arith) apart.1) apart.2), runs_apart base runs from.1 apart.2)
