-- Lemmas about lists of stops.
use Rattle.std.proofs.Common.{◌≡◌, ◌+◌, ◌<◌, ◌≤◌, ◌^◌, ◌++◌, nat_eq, nat_lt, ℕ, suc, Bool, true, false, cond, List, [], ◌∷◌, length, get_or, drop, refl, sym, ap, subst, ◌∙◌, add-one, append_assoc, append-nil, drop-cons, arith}
use Rattle.std.specs.List.{flat_map, filter, Contains, dedup}
use Rattle.std.specs.List.Sorted.{IsPermutation}
use Rattle.std.proofs.lemmas.Bool.Decides.{nat_tests}
use Rattle.std.proofs.lemmas.List.{drop_all}
use Rattle.std.proofs.lemmas.List.Elements.{filter-append}
use Rattle.std.proofs.lemmas.List.Kept.{Contains-dedup_nat}
use Rattle.std.proofs.lemmas.List.Sorted.{Contains-permutation}
use Rattle.step_maps.specs.Stepping.{Stepping, held_from, value_at}
use Rattle.sym_records.specs.declared.line.SymLine.{SymLine}
use Rattle.sym_judge.specs.declared.ruling.Half.{Half}
use Rattle.sym_judge.specs.internal.Stops.{run_stops, stops_of, all_stops, doubted}

-- Some stops, and others after them.
pub joined : (doubts : Stepping Bool) (front back old mid new : List ℕ) → mid ≡ old ++ doubted doubts front → new ≡ mid ++ doubted doubts back → new ≡ old ++ doubted doubts (front ++ back)
joined doubts front back old mid new m n =
    n ∙ ap (λ xs. xs ++ doubted doubts back) m ∙ append_assoc old (doubted doubts front) (doubted doubts back) ∙ ap (λ xs. old ++ xs) (sym (filter-append (value_at false doubts) front back))

-- The address at which a range begins, and the one after its last.
pub both_kept : (doubts : Stepping Bool) (address size end : ℕ) (old mid new : List ℕ) → mid ≡ old ++ doubted doubts (address ∷ []) → new ≡ mid ++ doubted doubts (end ∷ []) → end ≡ address + size → end < 2 ^ 64 → new ≡ old ++ doubted doubts (run_stops address size)
unfolding run_stops
both_kept doubts address size end old mid new m n is fits =
    let inside : nat_lt (address + size) (2 ^ 64) ≡ true = grind (arith, nat_tests) in
    joined doubts (address ∷ []) (end ∷ []) old mid new m n
    ∙ ap (λ e. old ++ doubted doubts (address ∷ e ∷ [])) is
    ∙ ap (λ b. old ++ doubted doubts (cond b (address ∷ (address + size) ∷ []) (address ∷ []))) (sym inside)

pub start_kept : (doubts : Stepping Bool) (address size : ℕ) (old new : List ℕ) → new ≡ old ++ doubted doubts (address ∷ []) → 2 ^ 64 ≤ address + size → new ≡ old ++ doubted doubts (run_stops address size)
unfolding run_stops
start_kept doubts address size old new n above =
    let outside : nat_lt (address + size) (2 ^ 64) ≡ false = grind (arith, nat_tests) in
    n ∙ ap (λ b. old ++ doubted doubts (cond b (address ∷ (address + size) ∷ []) (address ∷ []))) (sym outside)

-- The stops of one element more, and of all elements.
pub more : {X : Type 0} (doubts : Stepping Bool) (f : X → List ℕ) (xs : List X) (at : ℕ) (x : X) (old next all : List ℕ) → old ++ doubted doubts (flat_map f (drop at xs)) ≡ all → x ≡ get_or xs at x → at < length xs → next ≡ old ++ doubted doubts (f x)
    → next ++ doubted doubts (flat_map f (drop (at + 1) xs)) ≡ all
more doubts f xs at x old next all before is l n =
    let rest : List ℕ = flat_map f (drop (suc at) xs) in
    ap (λ k. next ++ doubted doubts (flat_map f (drop k xs))) (add-one at)
    ∙ joined doubts (f x) rest old next (next ++ doubted doubts rest) n refl
    ∙ ap (λ y. old ++ doubted doubts (f y ++ rest)) is
    ∙ ap (λ ys. old ++ doubted doubts (flat_map f ys)) (sym (drop-cons xs at x l))
    ∙ before

pub all_of : {X : Type 0} (doubts : Stepping Bool) (f : X → List ℕ) (xs : List X) (at : ℕ) (old all : List ℕ) → old ++ doubted doubts (flat_map f (drop at xs)) ≡ all → length xs ≤ at → old ≡ all
all_of doubts f xs at old all before l = sym (append-nil old) ∙ ap (λ ys. old ++ doubted doubts (flat_map f ys)) (sym (drop_all at xs l)) ∙ before

-- No address is doubtful.
none_doubted : (marks : List ℕ) (values : List Bool) (stops : List ℕ) → marks ≡ [] → filter (held_from false marks values) stops ≡ []
unfolding held_from
none_doubted marks values [] none = refl
none_doubted marks values (x ∷ stops) none =
    ap (λ ms. cond (held_from false ms values x) (x ∷ filter (held_from false marks values) stops) (filter (held_from false marks values) stops)) none ∙ none_doubted marks values stops none

pub nowhere : (doubts : Stepping Bool) (marks stops items : List ℕ) → marks ≡ doubts.stops → marks ≡ [] → (x : ℕ) → Contains (doubted doubts stops) x → Contains items x
nowhere doubts marks stops items same none x has =
    absurd (let e : doubted doubts stops ≡ [] = none_doubted doubts.stops doubts.values stops (sym same ∙ none) in nothing x (subst (λ xs. Contains xs x) e has))
  where
    nothing : (x : ℕ) → Contains [] x → ⊥
    nothing x has = absurd (let l : has.0 < 0 = has.1 in omega arith)

-- The stops of two files, in another order and each once.
pub kept : (half : Half) (own other : List SymLine) (doubts : Stepping Bool) (none first second third sorted once : List ℕ) → none ≡ [] → first ≡ none ++ doubted doubts (0 ∷ []) → second ≡ first ++ doubted doubts (stops_of half own) → third ≡ second ++ doubted doubts (stops_of half other)
    → IsPermutation third sorted → once ≡ dedup nat_eq sorted → (x : ℕ) → Contains (doubted doubts (all_stops half own other)) x → Contains once x
kept half own other doubts none first second third sorted once empty p q r moved s x has =
    let whole : third ≡ doubted doubts (all_stops half own other)
    = joined doubts (0 ∷ stops_of half own) (stops_of half other) [] second third (joined doubts (0 ∷ []) (stops_of half own) [] first second (p ∙ ap (λ xs. xs ++ doubted doubts (0 ∷ [])) empty) q) r in
    subst (λ xs. Contains xs x) (sym s) (Contains-dedup_nat sorted x (Contains-permutation third sorted x moved (subst (λ xs. Contains xs x) (sym whole) has)))
