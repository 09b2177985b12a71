-- The addresses between two stops of a map.
use Rattle.std.proofs.Common.{◌≡◌, ◌≢◌, ◌+◌, ◌-◌, ◌<◌, ◌≤◌, ℕ, true, false, nat_le, List, length, get_or, Option, None, sym, ap, subst, ◌∙◌, arith, inl, inr}
use Rattle.std.specs.List.{slice_get}
use Rattle.std.specs.Option.{option_map}
use Rattle.std.proofs.lemmas.Bool.{cases_lt}
use Rattle.std.proofs.lemmas.Bool.Decides.{nat_tests}
use Rattle.std.proofs.lemmas.Option.{slice_get-get_or, slice_get_past}
use Rattle.step_maps.specs.Stepping.{Stepping, IsStepping, value_at}
use Rattle.step_maps.specs.declared.stretch.FirstItem.{FirstItem}
use Rattle.step_maps.proofs.SteppingLemmas.{Point, held_below_first, held_at_index}
use Rattle.sym_lookup.specs.PlaceMaps.{place_in, IsBefore, IsPlaceRun}

-- The stops before the partition point are at or below the address, and the others above it.
low_stop : (stops : List ℕ) (x i k : ℕ) → Point stops x i → k < i → get_or stops k 0 ≤ x
low_stop stops x i k point l = let is : nat_le (get_or stops k 0) x ≡ true = point.0 k 0 (omega arith) l in grind (arith, nat_tests)

high_stop : (stops : List ℕ) (x i k : ℕ) → Point stops x i → i ≤ k → k < length stops → x < get_or stops k 0
high_stop stops x i k point l m = let is : nat_le (get_or stops k 0) x ≡ false = point.1 k 0 l m in grind (arith, nat_tests)

-- The address is below the next stop.
above_by : (stops : List ℕ) (x i : ℕ) → Point stops x i → IsBefore (slice_get stops i) x
above_by stops x i point = elim (cases_lt i (length stops)) [
  | inl l ↦ subst (λ o. IsBefore o x) (sym (slice_get-get_or stops i 0 l)) (high_stop stops x i i point (omega arith) l)
  | inr m ↦ subst (λ o. IsBefore o x) (sym (slice_get_past stops i m)) tt
]

below_next : (stops : List ℕ) (i y : ℕ) → IsBefore (slice_get stops i) y → i < length stops → y < get_or stops i 0
below_next stops i y before l = subst (λ o. IsBefore o y) (slice_get-get_or stops i 0 l) before

-- Below the first stop there is no record.
pub run_in_front : (map : Stepping (Option FirstItem)) (stops : List ℕ) (x i : ℕ) (end : Option ℕ) → IsStepping map.stops map.values → stops ≡ map.stops → Point stops x i → i ≡ 0 → end ≡ slice_get stops i
    → IsPlaceRun (place_in map) x (record { place = None; end = end })
run_in_front map stops x i end stepping same point none is =
    let found : Point map.stops x i = subst (λ ss. Point ss x i) same point in
    let told : end ≡ slice_get map.stops i = is ∙ ap (λ ss. slice_get ss i) same in
    record {
      above = subst (λ o. IsBefore o x) (sym told) (above_by map.stops x i found);
      places = λ y low fits before.
          let next : i < length map.stops → y < get_or map.stops i 0 = below_next map.stops i y (subst (λ o. IsBefore o y) told before) in
          let first : 0 < length map.stops → y < get_or map.stops 0 0 = subst (λ n. n < length map.stops → y < get_or map.stops n 0) none next in
          ap (option_map (λ (item : FirstItem). item.index)) (held_below_first None map.stops map.values y stepping first);
    }

-- From a stop up to the next one, the record is that of the stop.
pub run_from_stop : (map : Stepping (Option FirstItem)) (stops : List ℕ) (values : List (Option FirstItem)) (x i : ℕ) (end place : Option ℕ) (d : Option FirstItem) → IsStepping map.stops map.values → stops ≡ map.stops → values ≡ map.values → Point stops x i
    → i ≢ 0 → i ≤ length stops → end ≡ slice_get stops i → place ≡ option_map (λ (item : FirstItem). item.index) (get_or values (i - 1) d) → IsPlaceRun (place_in map) x (record { place = place; end = end })
run_from_stop map stops values x i end place d stepping same these point some within is named =
    let found : Point map.stops x i = subst (λ ss. Point ss x i) same point in
    let told : end ≡ slice_get map.stops i = is ∙ ap (λ ss. slice_get ss i) same in
    let many : i ≤ length map.stops = subst (λ ss. i ≤ length ss) same within in
    record {
      above = subst (λ o. IsBefore o x) (sym told) (above_by map.stops x i found);
      places = λ y low fits before.
          let next : i < length map.stops → y < get_or map.stops i 0 = below_next map.stops i y (subst (λ o. IsBefore o y) told before) in
          let start : get_or map.stops (i - 1) 0 ≤ x = low_stop map.stops x i (i - 1) found (omega arith) in
          let back : i - 1 + 1 ≡ i = omega arith in
          let later : i - 1 + 1 < length map.stops → y < get_or map.stops (i - 1 + 1) 0 = subst (λ n. n < length map.stops → y < get_or map.stops n 0) (sym back) next in
          let held : value_at None map y ≡ get_or map.values (i - 1) d = held_at_index None d map.stops map.values (i - 1) y stepping (omega arith) (omega arith) later in
          ap (option_map (λ (item : FirstItem). item.index)) (held ∙ ap (λ vs. get_or vs (i - 1) d) (sym these)) ∙ sym named;
    }
