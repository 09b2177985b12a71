-- Runs that are made from one stop to the next.
use Rattle.std.specs.Prelude.{◌≡◌, ℕ, ◌+◌, ◌<◌, ◌≤◌, Bool, ◌&&◌, ◌==◌, if◌then◌else◌, map, length, List, [], ◌∷◌, Option, None, Some}
use Rattle.step_maps.specs.Runs.{Run, IsRuns, between}
use Rattle.sym_edges.specs.Rising.{RisesFrom}
use Rattle.std.specs.Str.{bytes_eq}
use Rattle.line_program.specs.LineMaps.{NoStopBetween, named_line}
use Rattle.func_flatten.specs.declared.line_run.LineRun.{LineRun}
use Rattle.func_flatten.specs.LineRuns.{path_line, path_run, AreStarted}

-- whether the run `r` begins where `x` ends, and has the same value
abbrev pub goes_on : {V : Type 0} → (V → V → Bool) → Run V → Run V → Bool
goes_on same x r = (x.end == r.start) && same x.value r.value

-- a run added after the last one, or the last one made longer if the run continues it
abbrev pub added_after : {V : Type 0} → (V → V → Bool) → Run V → List (Run V) → Run V → List (Run V)
added_after same x [] r = if goes_on same x r then record { start = x.start; end = r.end; value = x.value } ∷ [] else x ∷ r ∷ []
added_after same x (y ∷ ys) r = x ∷ added_after same y ys r

abbrev pub added : {V : Type 0} → (V → V → Bool) → List (Run V) → Run V → List (Run V)
added same [] r = r ∷ []
added same (x ∷ xs) r = added_after same x xs r

abbrev pub EndBy : {V : Type 0} → ℕ → List (Run V) → Type 0
EndBy a [] = Unit {0}
EndBy a (r ∷ runs) = (r.end ≤ a) × EndBy a runs

-- the runs of a function from the address `low` up to `high`
pub record Grown {V : Type 0} (low high : ℕ) (f : ℕ → Option V) (made : List (Run V)) : Type 0 where
  pub runs : IsRuns (between low high f) made
  pub by : EndBy high made

abbrev pub same_line : (List ℕ × ℕ) → (List ℕ × ℕ) → Bool
same_line m n = (m.1 == n.1) && bytes_eq m.0 n.0

-- whether a run begins where `x` ends, with the same path and line
abbrev pub continues : List (List ℕ) → LineRun → LineRun → Bool
continues paths x r = (x.end == r.start) && same_line (path_line paths (x.path, x.line)) (path_line paths (r.path, r.line))

abbrev pub with_run_after : List (List ℕ) → LineRun → List LineRun → LineRun → List LineRun
with_run_after paths x [] r = if continues paths x r then record { start = x.start; end = r.end; path = x.path; line = x.line } ∷ [] else x ∷ r ∷ []
with_run_after paths x (y ∷ ys) r = x ∷ with_run_after paths y ys r

-- a run added after the last one, or the last one made longer if the run continues it
abbrev pub with_run : List (List ℕ) → List LineRun → LineRun → List LineRun
with_run paths [] r = r ∷ []
with_run paths (x ∷ xs) r = with_run_after paths x xs r

abbrev pub with_part : List (List ℕ) → Option (ℕ × ℕ) → ℕ → ℕ → List LineRun → List LineRun
with_part paths None start end runs = runs
with_part paths (Some m) start end runs = with_run paths runs (record { start = start; end = end; path = m.0; line = m.1 })

-- the number of each run's path is below `count`
abbrev pub AreKnown : ℕ → List LineRun → Type 0
AreKnown count [] = Unit {0}
AreKnown count (r ∷ runs) = (r.path < count) × AreKnown count runs

abbrev pub IsKnown : ℕ → Option (ℕ × ℕ) → Type 0
IsKnown count None = Unit {0}
IsKnown count (Some m) = m.0 < count

-- the runs up to the address `at`, and the stops above it. `f` gives the path number and the line
pub record Walks (paths : List (List ℕ)) (f : ℕ → Option (ℕ × ℕ)) (start end at : ℕ) (now : Option (ℕ × ℕ)) (rest : List ℕ) (runs : List LineRun) : Type 0 where
  pub grown : Grown start at (λ a. named_line paths (f a)) (map (path_run paths) runs)
  pub starts : AreStarted f runs
  pub is_now : now ≡ f at
  pub rising : RisesFrom (at + 1) rest
  pub order : start ≤ at
  pub inside : at < end
  pub same : (a b : ℕ) → at ≤ a → a ≤ b → NoStopBetween a b rest → f a ≡ f b
  pub known : AreKnown (length paths) runs
  pub known_now : IsKnown (length paths) now
