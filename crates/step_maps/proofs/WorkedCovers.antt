-- Worked examples: which stretch is the first at each address, and whether the address is shared,
-- as one character for each address.
use Rattle.std.proofs.Common.{◌≡◌, ℕ, ◌+◌, ◌-◌, ◌^◌, Bool, true, false, map, List, [], ◌∷◌, Option, None, Some, refl}
use Rattle.std.specs.List.{range_with_len}
use Prim.Native.String.{String}
use Rattle.sym_edges.proofs.Shown.{shown}
use Rattle.step_maps.specs.declared.stretch.Stretch.{Stretch}
use Rattle.step_maps.specs.Covers.{index_at, is_shared, first_item}
use Rattle.step_maps.specs.Overlays.{over}
use Rattle.step_maps.proofs.Computing.{step_maps_computes}

-- The stretch with these first and last addresses, index and class.
abbrev on : ℕ → ℕ → ℕ → ℕ → Stretch
on first last index class = record { first = first; last = last; index = index; class = class }

-- The digit of an index below 10, or a point if there is none.
abbrev digit : Option ℕ → ℕ
digit None = 46
digit (Some n) = 48 + n

-- A plus sign if the address is shared, otherwise a minus sign.
abbrev sign : Bool → ℕ
sign true = 43
sign false = 45

-- The index at each of `count` addresses.
unfoldable indices : List Stretch → ℕ → ℕ → String
indices items from count = shown (map (λ a. digit (index_at items a)) (range_with_len from count))

-- Whether each of `count` addresses is shared.
unfoldable marks : List Stretch → ℕ → ℕ → String
marks items from count = shown (map (λ a. sign (is_shared items a)) (range_with_len from count))

-- The first of these stretches begins before the end of the second.
abbrev two : List Stretch
two = on 5 9 0 0 ∷ on 0 7 1 1 ∷ []

two_indices : indices two 0 12 ≡ "1111100000.."
unfolding indices step_maps_computes
two_indices = refl

two_marks : marks two 0 12 ≡ "-----+++----"
unfolding marks step_maps_computes
two_marks = refl

-- The first item at an address that both stretches contain.
two_both : first_item two 6 ≡ Some (record { index = 0; class = 0; shared = true })
unfolding step_maps_computes
two_both = refl

-- There is no stretch.
none_indices : indices [] 0 3 ≡ "..."
unfolding indices step_maps_computes
none_indices = refl

-- One stretch of one address, which is not shared.
one_indices : indices (on 4 4 7 3 ∷ []) 3 3 ≡ ".7."
unfolding indices step_maps_computes
one_indices = refl

one_marks : marks (on 4 4 7 3 ∷ []) 3 3 ≡ "---"
unfolding marks step_maps_computes
one_marks = refl

-- The last address of 64 bits, as the first and as the last of a stretch.
top_indices : indices (on (2 ^ 64 - 1) (2 ^ 64 - 1) 1 0 ∷ on (2 ^ 64 - 3) (2 ^ 64 - 1) 2 0 ∷ []) (2 ^ 64 - 4) 5 ≡ ".221."
unfolding indices step_maps_computes
top_indices = refl

-- Equal stretches of two classes: the first in the list has all addresses, and all are shared.
equal_indices : indices (on 2 4 1 0 ∷ on 2 4 2 1 ∷ on 2 4 3 0 ∷ []) 1 5 ≡ ".111."
unfolding indices step_maps_computes
equal_indices = refl

equal_marks : marks (on 2 4 1 0 ∷ on 2 4 2 1 ∷ on 2 4 3 0 ∷ []) 1 5 ≡ "-+++-"
unfolding marks step_maps_computes
equal_marks = refl

-- A stretch that contains all others, as the first in the list and as the last.
outer_first : indices (on 0 9 0 0 ∷ on 2 3 1 0 ∷ on 5 6 2 1 ∷ []) 0 10 ≡ "0000000000"
unfolding indices step_maps_computes
outer_first = refl

outer_first_marks : marks (on 0 9 0 0 ∷ on 2 3 1 0 ∷ on 5 6 2 1 ∷ []) 0 10 ≡ "-----++---"
unfolding marks step_maps_computes
outer_first_marks = refl

outer_last : indices (on 2 3 1 0 ∷ on 5 6 2 1 ∷ on 0 9 0 0 ∷ []) 0 10 ≡ "0011022000"
unfolding indices step_maps_computes
outer_last = refl

outer_last_marks : marks (on 2 3 1 0 ∷ on 5 6 2 1 ∷ on 0 9 0 0 ∷ []) 0 10 ≡ "-----++---"
unfolding marks step_maps_computes
outer_last_marks = refl

-- A stretch of a third class under two of one class: the address is shared.
third_marks : marks (on 1 1 0 0 ∷ on 1 1 1 0 ∷ on 1 1 2 5 ∷ []) 0 3 ≡ "-+-"
unfolding marks step_maps_computes
third_marks = refl

-- The classes of the stretches below differ from one another and from that of the first.
mixed_marks : marks (on 1 3 0 0 ∷ on 2 3 1 4 ∷ on 3 3 2 5 ∷ []) 0 5 ≡ "--++-"
unfolding marks step_maps_computes
mixed_marks = refl

-- An item over another, over none, and under none.
over_other : over (Some (record { index = 1; class = 3; shared = false })) (Some (record { index = 2; class = 4; shared = false })) ≡ Some (record { index = 1; class = 3; shared = true })
over_other = refl

over_like : over (Some (record { index = 1; class = 3; shared = false })) (Some (record { index = 2; class = 3; shared = false })) ≡ Some (record { index = 1; class = 3; shared = false })
over_like = refl

-- If the lower item is shared, so is the upper one that hides it.
over_shared : over (Some (record { index = 1; class = 3; shared = false })) (Some (record { index = 2; class = 3; shared = true })) ≡ Some (record { index = 1; class = 3; shared = true })
over_shared = refl

under_none : over None (Some (record { index = 2; class = 3; shared = true })) ≡ Some (record { index = 2; class = 3; shared = true })
under_none = refl
