-- Runs whose values are changed by a function.
use Rattle.std.proofs.Common.{◌≡◌, ℕ, map, List, [], ◌∷◌, Option, Some, arith, refl, ap, ◌∙◌}
use Rattle.std.specs.Option.{option_map}
use Rattle.std.proofs.lemmas.Bool.Decides.{nat_tests}
use Rattle.step_maps.specs.Runs.{Run, value_in, AreRuns, Follows, IsRuns, AreMaximal}
use Rattle.step_maps.proofs.MaximalLemmas.{maximal}

-- A run with another value.
abbrev pub map_run : {V W : Type 0} → (V → W) → Run V → Run W
map_run g r = record { start = r.start; end = r.end; value = g r.value }

pub mapped_value : {V W : Type 0} (g : V → W) (runs : List (Run V)) (a : ℕ) → value_in (map (map_run g) runs) a ≡ option_map g (value_in runs a)
mapped_value g [] a = refl
mapped_value g (r ∷ runs) a = grind (arith, nat_tests, mapped_value g runs a)

-- What holds for the value of each run.
abbrev pub AllValues : {V : Type 0} → (V → Type 0) → List (Run V) → Type 0
AllValues P [] = Unit {0}
AllValues P (r ∷ runs) = P r.value × AllValues P runs

values_all : {V : Type 0} (P : V → Type 0) (f : ℕ → Option V) (runs : List (Run V)) → AreMaximal f runs → ((a : ℕ) (v : V) → f a ≡ Some v → P v) → AllValues P runs
values_all P f [] all each = tt
values_all P f (r ∷ runs) all each = (each r.start r.value (all.0.constant r.start (omega arith) all.0.some), values_all P f runs all.1 each)

-- What holds for each value of a function holds for the values of its runs.
pub values_hold : {V : Type 0} (P : V → Type 0) (f : ℕ → Option V) (runs : List (Run V)) → IsRuns f runs → ((a : ℕ) (v : V) → f a ≡ Some v → P v) → AllValues P runs
values_hold P f runs is each = values_all P f runs (maximal f runs is) each

follows_mapped : {V W : Type 0} (P : V → Type 0) (g : V → W) → ((u v : V) → P u → P v → g u ≡ g v → u ≡ v) → (r : Run V) (runs : List (Run V)) → P r.value → AllValues P runs → Follows r runs → Follows (map_run g r) (map (map_run g) runs)
follows_mapped P g one r [] here all follows = tt
follows_mapped P g one r (s ∷ runs) here all follows = (follows.0, λ touch same. follows.1 touch (one r.value s.value here all.0 same))

pub apart_mapped : {V W : Type 0} (P : V → Type 0) (g : V → W) → ((u v : V) → P u → P v → g u ≡ g v → u ≡ v) → (runs : List (Run V)) → AllValues P runs → AreRuns runs → AreRuns (map (map_run g) runs)
apart_mapped P g one [] all apart = tt
apart_mapped P g one (r ∷ runs) all apart = (apart.0, follows_mapped P g one r runs all.0 all.1 apart.1, apart_mapped P g one runs all.1 apart.2)

-- If different values stay different, the runs are still runs.
pub runs_mapped : {V W : Type 0} (P : V → Type 0) (g : V → W) → ((u v : V) → P u → P v → g u ≡ g v → u ≡ v) → (f : ℕ → Option V) (h : ℕ → Option W) (runs : List (Run V)) → IsRuns f runs → ((a : ℕ) (v : V) → f a ≡ Some v → P v) → ((a : ℕ) → option_map g (f a) ≡ h a) → IsRuns h (map (map_run g) runs)
runs_mapped P g one f h runs is each same = record {
  apart = apart_mapped P g one runs (values_hold P f runs is each) is.apart;
  values = λ a. mapped_value g runs a ∙ ap (option_map g) (is.values a) ∙ same a;
}
