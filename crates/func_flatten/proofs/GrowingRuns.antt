-- The runs of a function that is constant between stops.
use Rattle.std.proofs.Common.{◌≡◌, ◌≢◌, ℕ, ◌<◌, ◌≤◌, Bool, true, false, ◌&&◌, nat_le, nat_lt, if◌then◌else◌, List, [], ◌∷◌, Option, None, Some, arith, refl}
use Rattle.std.proofs.lemmas.Bool.Decides.{nat_tests}
use Rattle.std.specs.Option.{option_or}
use Rattle.step_maps.specs.Runs.{Run, has, value_in, AreRuns, Follows, between}
use Rattle.func_flatten.specs.internal.Growing.{added, added_after, EndBy, Grown}

-- A test of equality.
pub record Compares {V : Type 0} (same : V → V → Bool) : Type 0 where
  pub yes : (u v : V) → same u v ≡ true → u ≡ v
  pub no : (u v : V) → same u v ≡ false → u ≢ v

follows_added : {V : Type 0} (same : V → V → Bool) (p x : Run V) (xs : List (Run V)) (r : Run V) → Follows p (x ∷ xs) → Follows p (added_after same x xs r)
follows_added same p x [] r follows = grind (arith, nat_tests, follows.0, follows.1)
follows_added same p x (y ∷ ys) r follows = follows

added_runs : {V : Type 0} (same : V → V → Bool) → Compares same → (x : Run V) (xs : List (Run V)) (r : Run V) → AreRuns (x ∷ xs) → EndBy r.start (x ∷ xs) → r.start < r.end → AreRuns (added_after same x xs r)
added_runs same test x [] r apart by some = grind (arith, nat_tests, apart.0, by.0, some, test.no x.value r.value)
added_runs same test x (y ∷ ys) r apart by some = (apart.0, follows_added same x y ys r apart.1, added_runs same test y ys r apart.2 by.1 some)

added_values : {V : Type 0} (same : V → V → Bool) → Compares same → (x : Run V) (xs : List (Run V)) (r : Run V) (a : ℕ) → AreRuns (x ∷ xs) → r.start < r.end → value_in (added_after same x xs r) a ≡ option_or (value_in (x ∷ xs) a) (if has r a then Some r.value else None)
added_values same test x [] r a apart some = grind (arith, nat_tests, test.yes x.value r.value, apart.0, some)
added_values same test x (y ∷ ys) r a apart some = grind (arith, nat_tests, added_values same test y ys r a apart.2 some)

added_by : {V : Type 0} (same : V → V → Bool) (x : Run V) (xs : List (Run V)) (r : Run V) → EndBy r.start (x ∷ xs) → r.start < r.end → EndBy r.end (added_after same x xs r)
added_by same x [] r by some = grind (arith, nat_tests, by.0, some)
added_by same x (y ∷ ys) r by some = (omega (arith, by.0), added_by same y ys r by.1 some)

by_later : {V : Type 0} (a b : ℕ) (runs : List (Run V)) → a ≤ b → EndBy a runs → EndBy b runs
by_later a b [] less by = tt
by_later a b (r ∷ runs) less by = (omega (arith, by.0), by_later a b runs less by.1)

or_none : {V : Type 0} (p : Option V) → option_or p None ≡ p
or_none None = refl
or_none (Some p) = refl

-- The function from one stop to the next.
longer : {V : Type 0} (low from to : ℕ) (f : ℕ → Option V) (a : ℕ) → low ≤ from → from < to → ((b : ℕ) → from ≤ b → b < to → f b ≡ f from) → option_or (between low from f a) (if nat_le from a && nat_lt a to then f from else None) ≡ between low to f a
longer low from to f a order some constant = grind (arith, nat_tests, order, some, constant a, or_none (between low from f a))

pub grown_none : {V : Type 0} (low : ℕ) (f : ℕ → Option V) → Grown low low f []
grown_none low f = record { runs = record { apart = tt; values = λ a. grind (arith, nat_tests) }; by = tt }

-- The runs up to the next stop, if there is a value and if there is none.
pub grown_some : {V : Type 0} (same : V → V → Bool) → Compares same → (low from to : ℕ) (f : ℕ → Option V) (v : V) (runs : List (Run V)) → Grown low from f runs → low ≤ from → from < to → ((b : ℕ) → from ≤ b → b < to → f b ≡ f from) → f from ≡ Some v → Grown low to f (added same runs (record { start = from; end = to; value = v }))
grown_some same test low from to f v [] g order some constant is = record {
  runs = record {
    apart = (some, tt, tt);
    values = λ a. grind (arith, nat_tests, is, g.runs.values a, longer low from to f a order some constant);
  };
  by = (omega arith, tt);
}
grown_some same test low from to f v (x ∷ xs) g order some constant is = record {
  runs = record {
    apart = added_runs same test x xs (record { start = from; end = to; value = v }) g.runs.apart g.by some;
    values = λ a. grind (arith, nat_tests, is, g.runs.values a, longer low from to f a order some constant, added_values same test x xs (record { start = from; end = to; value = v }) a g.runs.apart some);
  };
  by = added_by same x xs (record { start = from; end = to; value = v }) g.by some;
}

pub grown_empty : {V : Type 0} (low from to : ℕ) (f : ℕ → Option V) (runs : List (Run V)) → Grown low from f runs → low ≤ from → from < to → ((b : ℕ) → from ≤ b → b < to → f b ≡ f from) → f from ≡ None → Grown low to f runs
grown_empty low from to f runs g order some constant is = record {
  runs = record {
    apart = g.runs.apart;
    values = λ a. grind (arith, nat_tests, is, g.runs.values a, longer low from to f a order some constant, or_none (between low from f a));
  };
  by = by_later from to runs (omega arith) g.by;
}
