-- The ranges of records, of which the last are stored as one (for `MetRanges`).
use Rattle.std.proofs.Common.{◌≡◌, ℕ, ◌+◌, ◌<◌, ◌≤◌, ◌&&◌, ◌||◌, nat_lt, min, max, Bool, true, false, List, [], ◌∷◌, refl, ap, sym, ◌∙◌, subst, arith}
use Rattle.std.specs.List.{list_any}
use Rattle.std.proofs.Math.Bool.{or_comm}
use Rattle.std.proofs.lemmas.Bool.{lt-ltb, le-ltb, ltb-true, or_from}
use Rattle.std.proofs.lemmas.Bool.Decides.{nat_tests}
use Rattle.sym_records.specs.declared.line.Extent.{Extent}
use Rattle.sym_edges.specs.Addresses.{Range}
use Rattle.sym_meaning.specs.Findings.{run_of, meet}
use Rattle.range_union.specs.Ranges.{overlap, any_overlap, range_to}
use Rattle.sym_findings.specs.internal.Ranges.{EndBy, IsTail, is_met}
use Rattle.range_union.proofs.RangeLemmas.{or_assoc_by}

-- Before the first record.
pub tail_none : IsTail 0 0 0
tail_none = record { ordered = omega arith; some = λ above. omega (arith, above); below = omega arith }

pub none_ends : (ranges : List Range) → ranges ≡ [] → EndBy 0 ranges
unfolding any_overlap
none_ends ranges is = record { none = λ a b from some. ap (λ rs. list_any (overlap (range_to a b)) rs) is }

and_false : (t : Bool) → (t && false) ≡ false
and_false true = refl
and_false false = refl

empty_front : (a b : ℕ) → ((nat_lt a 0 && nat_lt 0 b) || false) ≡ false
empty_front a b = ap (λ t. (t && nat_lt 0 b) || false) (le-ltb a 0 (omega arith))

pub none_met : (ranges : List Range) → ranges ≡ [] → (e : Extent) → is_met (range_to 0 0 ∷ ranges) e ≡ false
unfolding any_overlap is_met
none_met ranges is e =
    ap (λ rs. nat_lt 0 e.size && list_any (overlap (range_to e.address (e.address + e.size))) (range_to 0 0 ∷ rs)) is
    ∙ ap (λ t. nat_lt 0 e.size && t) (empty_front e.address (e.address + e.size))
    ∙ and_false (nat_lt 0 e.size)

-- A greater bound for the ends of ranges.
pub ends_more : (top more : ℕ) (ranges : List Range) → EndBy top ranges → top ≤ more → EndBy more ranges
ends_more top more ranges ends le = record { none = λ a b from some. ends.none a b (omega (arith, le, from)) some }

pub ends_put : (top start end : ℕ) (old new : List Range) → EndBy top old → end ≤ top →
    ((a b : ℕ) → a < b → (any_overlap (range_to a b) old || overlap (range_to a b) (range_to start end)) ≡ false → any_overlap (range_to a b) new ≡ false) → EndBy top new
ends_put top start end old new ends le no_other = record {
  none = λ a b from some.
      no_other a b some
      (or_from (any_overlap (range_to a b) old) (overlap (range_to a b) (range_to start end)) (ends.none a b from some)
      (ap (λ t. t && nat_lt start b) (le-ltb a end (omega (arith, le, from)))));
}

-- An empty range overlaps nothing.
pub empty_met : (ranges : List Range) (address size : ℕ) → address + size ≤ address → false ≡ is_met ranges (run_of address size)
unfolding is_met
empty_met ranges address size none = sym (ap (λ t. t && any_overlap (range_to address (address + size)) ranges) (le-ltb 0 size (omega (arith, none))))

-- One more range, which is not empty.
meet_is : (a s b t : ℕ) → b < b + t → nat_lt (max a b) (min (a + s) (b + t)) ≡ (nat_lt 0 s && (nat_lt a (b + t) && nat_lt b (a + s)))
meet_is a s b t some = grind (arith, nat_tests)

met_by : (t x y o m : Bool) → (t ≡ true → x ≡ (y || o)) → m ≡ (t && o) → (t && x) ≡ ((t && y) || m)
met_by true x y o m same is = same refl ∙ ap (λ b. y || b) (sym is)
met_by false x y o m same is = sym is

pub met_more : (new old : List Range) (address size : ℕ) → address < address + size →
    ((a b : ℕ) → a < b → any_overlap (range_to a b) new ≡ (any_overlap (range_to a b) old || overlap (range_to a b) (range_to address (address + size)))) →
    (e : Extent) → is_met new e ≡ (is_met old e || meet e (run_of address size))
unfolding is_met
met_more new old address size some more e =
    let q : Range = range_to e.address (e.address + e.size) in
    met_by (nat_lt 0 e.size) (any_overlap q new) (any_overlap q old) (overlap q (range_to address (address + size))) (meet e (run_of address size))
    (λ is. more e.address (e.address + e.size) (omega (arith, ltb-true 0 e.size is)))
    (meet_is e.address e.size address size some)

-- A range that begins below the greatest end joins the earlier ones.
pub below_met : (ranges : List Range) (address size : ℕ) (met : Bool) → address < address + size → met ≡ any_overlap (range_to address (address + size)) ranges → met ≡ is_met ranges (run_of address size)
unfolding is_met
below_met ranges address size met some is = is ∙ sym (ap (λ t. t && any_overlap (range_to address (address + size)) ranges) (lt-ltb 0 size (omega (arith, some))))

pub below_more : (start end address size : ℕ) (old new : List Range) → address < address + size →
    ((a b : ℕ) → a < b → any_overlap (range_to a b) new ≡ (any_overlap (range_to a b) old || overlap (range_to a b) (range_to address (address + size)))) →
    (e : Extent) → is_met (range_to start end ∷ new) e ≡ (is_met (range_to start end ∷ old) e || meet e (run_of address size))
unfolding any_overlap
below_more start end address size old new some more =
    met_more (range_to start end ∷ new) (range_to start end ∷ old) address size some
    (λ a b less.
    ap (λ t. overlap (range_to a b) (range_to start end) || t) (more a b less)
    ∙ sym (or_assoc_by (overlap (range_to a b) (range_to start end)) (list_any (overlap (range_to a b)) old) (overlap (range_to a b) (range_to address (address + size)))))

-- A range that begins at or above the greatest end overlaps nothing.
pub above_met : (start end top address size : ℕ) (ranges : List Range) → IsTail start end top → EndBy top ranges → top ≤ address → address < address + size → false ≡ is_met (range_to start end ∷ ranges) (run_of address size)
unfolding is_met any_overlap
above_met start end top address size ranges tail ends above some =
    sym
    (ap (λ t. nat_lt 0 size && t)
    (or_from (overlap (range_to address (address + size)) (range_to start end)) (list_any (overlap (range_to address (address + size))) ranges)
    (let below = tail.below in ap (λ t. t && nat_lt start (address + size)) (le-ltb address end (omega (arith, below, above))))
    (ends.none address (address + size) above some))
    ∙ and_false (nat_lt 0 size))

-- The last range grows.
touches : (a b start end more : ℕ) → a < b → start ≤ end → (0 < end → start < end) → end < more → (nat_lt a more && nat_lt start b) ≡ ((nat_lt a end && nat_lt start b) || (nat_lt a more && nat_lt end b))
touches a b start end more some ordered not_empty above = grind (arith, nat_tests)

or_swap : (x y z : Bool) → ((x || y) || z) ≡ ((x || z) || y)
or_swap true y z = refl
or_swap false y z = or_comm y z

pub grown_more : (start end top address size : ℕ) (ranges : List Range) → IsTail start end top → end ≡ address → address < address + size →
    (e : Extent) → is_met (range_to start (address + size) ∷ ranges) e ≡ (is_met (range_to start end ∷ ranges) e || meet e (run_of address size))
unfolding any_overlap
grown_more start end top address size ranges tail same some =
    met_more (range_to start (address + size) ∷ ranges) (range_to start end ∷ ranges) address size some
    (λ a b less.
    ap (λ t. t || list_any (overlap (range_to a b)) ranges) (touches a b start end (address + size) less tail.ordered tail.some (omega (arith, same, some)))
    ∙ or_swap (overlap (range_to a b) (range_to start end)) (nat_lt a (address + size) && nat_lt end b) (list_any (overlap (range_to a b)) ranges)
    ∙ ap (λ k. (overlap (range_to a b) (range_to start end) || list_any (overlap (range_to a b)) ranges) || (nat_lt a (address + size) && nat_lt k b)) same)

-- The last range joins the earlier ones.
some_tail : (a b start end : ℕ) → (0 < end → start < end) → (nat_lt start end && (nat_lt a end && nat_lt start b)) ≡ (nat_lt a end && nat_lt start b)
some_tail a b start end not_empty = grind (arith, nat_tests)

or_turn : (r x y : Bool) → (r || (x || y)) ≡ ((y || x) || r)
or_turn r x y = ap (λ t. r || t) (or_comm x y) ∙ or_comm r (y || x)

pub joined_more : (start end top address size : ℕ) (old new : List Range) → IsTail start end top → address < address + size →
    ((a b : ℕ) → a < b → any_overlap (range_to a b) new ≡ (any_overlap (range_to a b) old || (nat_lt start end && overlap (range_to a b) (range_to start end)))) →
    (e : Extent) → is_met (range_to address (address + size) ∷ new) e ≡ (is_met (range_to start end ∷ old) e || meet e (run_of address size))
unfolding any_overlap
joined_more start end top address size old new tail some more =
    met_more (range_to address (address + size) ∷ new) (range_to start end ∷ old) address size some
    (λ a b less.
    ap (λ t. overlap (range_to a b) (range_to address (address + size)) || t) (more a b less ∙ ap (λ t. list_any (overlap (range_to a b)) old || t) (some_tail a b start end tail.some))
    ∙ or_turn (overlap (range_to a b) (range_to address (address + size))) (list_any (overlap (range_to a b)) old) (overlap (range_to a b) (range_to start end)))

pub at_run : (P : ℕ → ℕ → Type 0) (start length address size : ℕ) → start ≡ address → length ≡ size → P start length → P address size
at_run P start length address size first second said = subst (λ (a : ℕ). P a size) first (subst (λ (s : ℕ). P start s) second said)
