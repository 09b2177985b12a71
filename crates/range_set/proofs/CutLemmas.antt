use Rattle.std.proofs.Common.{◌≡◌, ℕ, ◌<◌, ◌≤◌, max, Bool, true, false, not, nat_le, nat_lt, ◌||◌, ◌&&◌, List, ◌∷◌, refl, sym, ap, ◌∙◌, arith, inl, inr}
use Rattle.std.proofs.Math.Bool.{or_assoc}
use Rattle.std.proofs.lemmas.Bool.Decides.{nat_tests, leb_tells}
use Rattle.sym_edges.specs.Addresses.{Range}
use Rattle.range_set.specs.Members.{holds, holds_any}
use Rattle.range_set.specs.Canonical.{IsCanonical}
use Rattle.range_set.specs.Building.{last_start}
use Rattle.range_set.proofs.MemberLemmas.{above_none, above_all, above_not}

-- The invariant of `push_cut`: the built ranges, and the rest of the span without the remaining
-- cuts, hold what the old ranges and the span without all cuts hold.
pub record Cuts (old : List Range) (span : Range) (cuts built : List Range) (from : ℕ) (rest : List Range) : Type 0 where
  pub canonical : IsCanonical rest
  pub members : (a : ℕ) → (holds_any built a || ((nat_le from a && nat_lt a span.end) && not (holds_any rest a))) ≡ (holds_any old a || (holds span a && not (holds_any cuts a)))
  pub beyond : (a : ℕ) → span.end ≤ a → holds_any rest a ≡ holds_any cuts a
  pub order : last_start built ≤ from
  pub within : from ≤ span.end

taken_low : (from end : ℕ) (cut : Range) (a : ℕ) → cut.start < end → cut.start < cut.end → a ≤ cut.end → ((nat_le from a && nat_lt a cut.start) || ((nat_le (max from cut.end) a && nat_lt a end) && true)) ≡ ((nat_le from a && nat_lt a end) && not (holds cut a || false))
taken_low from end cut a begins some low = grind (arith, nat_tests)

taken_high : (from end : ℕ) (cut : Range) (a : ℕ) (r : Bool) → cut.start < cut.end → cut.end < a → ((nat_le from a && nat_lt a cut.start) || ((nat_le (max from cut.end) a && nat_lt a end) && not r)) ≡ ((nat_le from a && nat_lt a end) && not (holds cut a || r))
taken_high from end cut a r some high = grind (arith, nat_tests)

over_low : (from end : ℕ) (cut : Range) (a : ℕ) → cut.start < end → end < cut.end → (nat_le from a && nat_lt a cut.start) ≡ ((nat_le from a && nat_lt a end) && not (holds cut a || false))
over_low from end cut a begins over = grind (arith, nat_tests)

over_high : (from end : ℕ) (cut : Range) (a : ℕ) (r : Bool) → cut.start < end → end < cut.end → cut.end < a → (nat_le from a && nat_lt a cut.start) ≡ ((nat_le from a && nat_lt a end) && not (holds cut a || r))
over_high from end cut a r begins over high = grind (arith, nat_tests)

clear_low : (p r : Bool) → r ≡ false → p ≡ (p && not r)
clear_low true r none = ap not (sym none)
clear_low false r none = refl

clear_high : (from end a : ℕ) (r : Bool) → end ≤ a → (nat_le from a && nat_lt a end) ≡ ((nat_le from a && nat_lt a end) && not r)
clear_high from end a r high = grind (arith, nat_tests)

-- The step of `push_cut` for a cut that ends within the span.
pub cuts_drop : (old : List Range) (span : Range) (cuts built after : List Range) (from : ℕ) (cut : Range) (rest : List Range) → Cuts old span cuts built from (cut ∷ rest) → cut.start < span.end → cut.end ≤ span.end → ((a : ℕ) → holds_any after a ≡ (holds_any built a || (nat_le from a && nat_lt a cut.start))) → last_start after ≤ max (last_start built) from → Cuts old span cuts after (max from cut.end) rest
cuts_drop old span cuts built after from cut rest m begins ends members order = record {
  canonical = m.canonical.2;
  members = λ a.
      let left : Bool = nat_le (max from cut.end) a && nat_lt a span.end in
      let step : ((nat_le from a && nat_lt a cut.start) || (left && not (holds_any rest a))) ≡ ((nat_le from a && nat_lt a span.end) && not (holds cut a || holds_any rest a)) = elim (leb_tells a cut.end) [
        | inl low ↦ (let none : holds_any rest a ≡ false = above_none cut.end rest a m.canonical.1 m.canonical.2 low.1 in rw none (taken_low from span.end cut a begins m.canonical.0 low.1))
        | inr high ↦ taken_high from span.end cut a (holds_any rest a) m.canonical.0 high.1
      ] in
      ap (λ b. b || (left && not (holds_any rest a))) (members a)
      ∙ or_assoc (holds_any built a) (nat_le from a && nat_lt a cut.start) (left && not (holds_any rest a))
      ∙ ap (λ b. holds_any built a || b) step
      ∙ m.members a;
  beyond = λ a high. sym (ap (λ b. b || holds_any rest a) (above_not cut a (omega arith))) ∙ m.beyond a high;
  order = (let before = m.order in omega arith);
  within = (let before = m.within in omega arith);
}

-- The step of `push_cut` for a cut that reaches beyond the span: nothing of the span is left.
pub cuts_over : (old : List Range) (span : Range) (cuts built after : List Range) (from : ℕ) (cut : Range) (rest : List Range) → Cuts old span cuts built from (cut ∷ rest) → cut.start < span.end → span.end < cut.end → ((a : ℕ) → holds_any after a ≡ (holds_any built a || (nat_le from a && nat_lt a cut.start))) → (a : ℕ) → holds_any after a ≡ (holds_any old a || (holds span a && not (holds_any cuts a)))
cuts_over old span cuts built after from cut rest m begins over members a =
    let step : (nat_le from a && nat_lt a cut.start) ≡ ((nat_le from a && nat_lt a span.end) && not (holds cut a || holds_any rest a)) = elim (leb_tells a cut.end) [
      | inl low ↦ (let none : holds_any rest a ≡ false = above_none cut.end rest a m.canonical.1 m.canonical.2 low.1 in rw none (over_low from span.end cut a begins over))
      | inr high ↦ over_high from span.end cut a (holds_any rest a) begins over high.1
    ] in
    members a ∙ ap (λ b. holds_any built a || b) step ∙ m.members a

-- The end of `push_cut`: no remaining cut begins below the span's end, so the rest of it stays.
pub cuts_end : (old : List Range) (span : Range) (cuts built after : List Range) (from : ℕ) (rest : List Range) → Cuts old span cuts built from rest → ((a : ℕ) → a < span.end → holds_any rest a ≡ false) → ((a : ℕ) → holds_any after a ≡ (holds_any built a || (nat_le from a && nat_lt a span.end))) → (a : ℕ) → holds_any after a ≡ (holds_any old a || (holds span a && not (holds_any cuts a)))
cuts_end old span cuts built after from rest m clear members a =
    let step : (nat_le from a && nat_lt a span.end) ≡ ((nat_le from a && nat_lt a span.end) && not (holds_any rest a)) = elim (leb_tells span.end a) [
      | inl high ↦ clear_high from span.end a (holds_any rest a) high.1
      | inr low ↦ clear_low (nat_le from a && nat_lt a span.end) (holds_any rest a) (clear a low.1)
    ] in
    members a ∙ ap (λ b. holds_any built a || b) step ∙ m.members a

-- The invariant of `minus_spans`: the built ranges, and what is left of the first list without what
-- is left of the second, hold the difference of the two lists.
pub record Minus (left right built xs cuts : List Range) : Type 0 where
  pub first : IsCanonical xs
  pub second : IsCanonical cuts
  pub members : (a : ℕ) → (holds_any built a || (holds_any xs a && not (holds_any cuts a))) ≡ (holds_any left a && not (holds_any right a))
  pub order : (a : ℕ) → holds_any xs a ≡ true → last_start built ≤ a

or_none : (p r : Bool) → ((p && not r) || false) ≡ ((p || false) && not r)
or_none true true = refl
or_none true false = refl
or_none false r = refl

-- The step of `minus_spans`: the first range was cut.
pub minus_step : (left right built after : List Range) (x : Range) (xs cuts rest : List Range) → Minus left right built (x ∷ xs) cuts → IsCanonical rest → ((a : ℕ) → x.end ≤ a → holds_any rest a ≡ holds_any cuts a) → ((a : ℕ) → holds_any after a ≡ (holds_any built a || (holds x a && not (holds_any cuts a)))) → last_start after ≤ x.end → Minus left right after xs rest
minus_step left right built after x xs cuts rest m canonical beyond members order = record {
  first = m.first.2;
  second = canonical;
  members = λ a.
      let step : ((holds x a && not (holds_any cuts a)) || (holds_any xs a && not (holds_any rest a))) ≡ (holds_any (x ∷ xs) a && not (holds_any cuts a)) = elim (leb_tells x.end a) [
        | inl high ↦ rw (beyond a high.1, above_not x a high.1) refl
        | inr low ↦ (let none : holds_any xs a ≡ false = above_none x.end xs a m.first.1 m.first.2 (omega arith) in rw none (or_none (holds x a) (holds_any cuts a)))
      ] in
      ap (λ b. b || (holds_any xs a && not (holds_any rest a))) (members a)
      ∙ or_assoc (holds_any built a) (holds x a && not (holds_any cuts a)) (holds_any xs a && not (holds_any rest a))
      ∙ ap (λ b. holds_any built a || b) step
      ∙ m.members a;
  order = λ a h. (let above : x.end < a = above_all x.end xs a m.first.1 m.first.2 h in omega arith);
}
