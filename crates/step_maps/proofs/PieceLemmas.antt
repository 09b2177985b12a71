use Rattle.std.proofs.Common.{◌≡◌, ◌≢◌, ℕ, ◌+◌, ◌<◌, ◌≤◌, Bool, true, false, cond, ◌&&◌, nat_le, nat_lt, if◌then◌else◌, List, [], ◌∷◌, length, Option, None, Some, arith, refl, sym, ap, ◌∙◌, inl, inr}
use Rattle.std.proofs.lemmas.Bool.{cases_lt, le-leb}
use Rattle.std.proofs.lemmas.Bool.Decides.{nat_tests}
use Rattle.sym_edges.specs.Rising.{RisesFrom}
use Rattle.step_maps.specs.Stepping.{Stepping, held_from, value_at, last_from, IsStepping}
use Rattle.step_maps.specs.Runs.{Run, value_in, Follows, AreRuns, IsRuns, between}
use Rattle.step_maps.specs.StepRuns.{Differ, with_piece, pieces_from, pieces}
use Rattle.step_maps.proofs.RunLemmas.{if_false, rest_above}
use Rattle.step_maps.proofs.SteppingLemmas.{held_before}

pub start_low : (low : ℕ) (stops : List ℕ) → RisesFrom (low + 1) stops → low ≤ last_from low stops
start_low low [] rises = omega arith
start_low low (s ∷ stops) rises = (let up : s ≤ last_from s stops = start_low s stops rises.1 in omega (arith, rises.0, up))

pub between_low : {V : Type 0} (start end : ℕ) (f : ℕ → Option V) (a : ℕ) → a < start → between start end f a ≡ None
between_low start end f a low = (let out : (nat_le start a && nat_lt a end) ≡ false = grind (arith, nat_tests) in if_false _ (f a) None out)

none_either : {V : Type 0} (b : Bool) (x : Option V) → x ≡ None → (if b then x else None) ≡ None
none_either true x none = none
none_either false x none = refl

-- Where the function has no value, it has none if cut to an interval.
pub between_none : {V : Type 0} (start end : ℕ) (f : ℕ → Option V) (a : ℕ) → f a ≡ None → between start end f a ≡ None
between_none start end f a none = none_either (nat_le start a && nat_lt a end) (f a) none

pub between_same : {V : Type 0} (start end : ℕ) (f g : ℕ → Option V) → ((a : ℕ) → a < end → f a ≡ g a) → (a : ℕ) → between start end f a ≡ between start end g a
between_same start end f g same a = elim (cases_lt a end) [
  | inl low ↦ ap (λ o. if nat_le start a && nat_lt a end then o else None) (same a low)
  | inr high ↦ (let out : (nat_le start a && nat_lt a end) ≡ false = grind (arith, nat_tests) in if_false _ (f a) None out ∙ sym (if_false _ (g a) None out))
]

pub between_later : {V : Type 0} (low start end : ℕ) (f : ℕ → Option V) (a : ℕ) → low ≤ start → start ≤ a → between start end f a ≡ between low end f a
between_later low start end f a le high = (let same : (nat_le start a && nat_lt a end) ≡ (nat_le low a && nat_lt a end) = grind (arith, nat_tests) in ap (λ b. if b then f a else None) same)

follows_pieces : {V : Type 0} (r : Run V) (end s : ℕ) (now : Option V) (stops : List ℕ) (values : List (Option V)) → r.end ≤ s → (r.end ≡ s → Some r.value ≢ now) → RisesFrom (s + 1) stops → Follows r (pieces_from end s now stops values)
follows_pieces r end s None [] values low differs rises = tt
follows_pieces r end s None (t ∷ stops) [] low differs rises = tt
follows_pieces r end s None (t ∷ stops) (w ∷ values) low differs rises =
    follows_pieces r end t w stops values (omega (arith, low, rises.0)) (λ touch same. absurd (omega (arith, low, rises.0, touch))) rises.1
follows_pieces r end s (Some v) [] values low differs rises = (low, λ touch same. differs touch (ap (λ w. Some w) same))
follows_pieces r end s (Some v) (t ∷ stops) [] low differs rises = (low, λ touch same. differs touch (ap (λ w. Some w) same))
follows_pieces r end s (Some v) (t ∷ stops) (w ∷ values) low differs rises = (low, λ touch same. differs touch (ap (λ w. Some w) same))

pieces_apart : {V : Type 0} (end start : ℕ) (now : Option V) (stops : List ℕ) (values : List (Option V)) → Differ now values → RisesFrom (start + 1) stops → last_from start stops < end → AreRuns (pieces_from end start now stops values)
pieces_apart end start None [] values differ rises high = tt
pieces_apart end start None (t ∷ stops) [] differ rises high = tt
pieces_apart end start None (t ∷ stops) (w ∷ values) differ rises high = pieces_apart end t w stops values differ.1 rises.1 high
pieces_apart end start (Some v) [] values differ rises high = (high, tt, tt)
pieces_apart end start (Some v) (t ∷ stops) [] differ rises high = (let up : start ≤ last_from start (t ∷ stops) = start_low start (t ∷ stops) rises in omega (arith, up, high), tt, tt)
pieces_apart end start (Some v) (t ∷ stops) (w ∷ values) differ rises high = (
  omega (arith, rises.0),
  follows_pieces (record { start = start; end = t; value = v }) end t w stops values (omega arith) (λ touch. differ.0) rises.1,
  pieces_apart end t w stops values differ.1 rises.1 high,
)

pub piece_above : {V : Type 0} (start end : ℕ) (now : Option V) (runs : List (Run V)) (a : ℕ) → end ≤ a → value_in (with_piece start end now runs) a ≡ value_in runs a
piece_above start end None runs a high = refl
piece_above start end (Some v) runs a high = rest_above (record { start = start; end = end; value = v }) runs a high

pub piece_within : {V : Type 0} (start end high : ℕ) (now : Option V) (runs : List (Run V)) (a : ℕ) → end < high → a < end → value_in runs a ≡ None → value_in (with_piece start end now runs) a ≡ (if nat_le start a && nat_lt a high then now else None)
piece_within start end high None runs a fits low none = none ∙ sym (none_either (nat_le start a && nat_lt a high) None refl)
piece_within start end high (Some v) runs a fits low none =
    let same : (nat_le start a && nat_lt a end) ≡ (nat_le start a && nat_lt a high) = grind (arith, nat_tests) in
    ap (λ o. if nat_le start a && nat_lt a end then Some v else o) none ∙ ap (λ b. if b then Some v else None) same

pieces_values : {V : Type 0} (end start : ℕ) (now : Option V) (stops : List ℕ) (values : List (Option V)) (a : ℕ) → length stops ≡ length values → RisesFrom (start + 1) stops → last_from start stops < end → value_in (pieces_from end start now stops values) a ≡ between start end (held_from now stops values) a
unfolding held_from
pieces_values end start None [] values a paired rises high = sym (none_either (nat_le start a && nat_lt a end) None refl)
pieces_values end start (Some v) [] values a paired rises high = refl
pieces_values end start now (t ∷ stops) [] a paired rises high = absurd (omega arith)
pieces_values {V} end start now (t ∷ stops) (w ∷ values) a paired rises high =
    let up : t ≤ last_from t stops = start_low t stops rises.1 in
    let rest : value_in (pieces_from end t w stops values) a ≡ between t end (held_from w stops values) a = pieces_values end t w stops values a (omega arith) rises.1 high in
    elim (cases_lt a t) [
      | inl below ↦
          piece_within start t end now (pieces_from end t w stops values) a (omega (arith, up, high)) below (rest ∙ between_low t end (held_from w stops values) a below)
          ∙ ap (λ (o : Option V). if nat_le start a && nat_lt a end then o else None) (sym (held_before now t (t ∷ stops) (w ∷ values) a (omega arith, rises.1) below))
      | inr above ↦
          piece_above start t now (pieces_from end t w stops values) a above
          ∙ rest
          ∙ between_later start t end (held_from w stops values) a (omega (arith, rises.0)) above
          ∙ ap (λ b. if nat_le start a && nat_lt a end then held_from (cond b w now) stops values a else None) (sym (le-leb t a above))
    ]

whole : {V : Type 0} (end : ℕ) (stops : List ℕ) (values : List (Option V)) → IsStepping stops values → Differ None values → last_from 0 stops < end → IsRuns (between 0 end (held_from None stops values)) (pieces_from end 0 None stops values)
unfolding held_from
whole end [] values is differ high = record { apart = tt; values = λ a. sym (none_either (nat_le 0 a && nat_lt a end) None refl) }
whole end (s ∷ stops) [] is differ high = absurd (omega (arith, is.paired))
whole end (s ∷ stops) (v ∷ values) is differ high = record {
  apart = pieces_apart end s v stops values differ.1 is.rising.1 high;
  values = λ a.
      pieces_values end s v stops values a (omega (arith, is.paired)) is.rising.1 high
      ∙ elim (cases_lt a s) [
        | inl below ↦
            between_low s end (held_from v stops values) a below
            ∙ sym (between_none 0 end (held_from None (s ∷ stops) (v ∷ values)) a (held_before None s (s ∷ stops) (v ∷ values) a (omega arith, is.rising.1) below))
        | inr above ↦
            between_later 0 s end (held_from v stops values) a (omega arith) above
            ∙ ap (λ b. if nat_le 0 a && nat_lt a end then held_from (cond b v None) stops values a else None) (sym (le-leb s a above))
      ];
}

pub pieces_are_runs : {V : Type 0} (end : ℕ) (steps : Stepping (Option V)) → IsStepping steps.stops steps.values → Differ None steps.values → last_from 0 steps.stops < end → IsRuns (between 0 end (value_at None steps)) (pieces end steps)
pieces_are_runs end steps is differ high = whole end steps.stops steps.values is differ high
