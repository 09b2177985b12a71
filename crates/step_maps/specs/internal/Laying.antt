-- Stretches laid over one another, each over those after it.
use Rattle.std.specs.Prelude.{◌≡◌, ℕ, ◌^◌, ◌<◌, ◌≤◌, Bool, true, false, ◌&&◌, nat_lt, min, if◌then◌else◌, List, [], ◌∷◌, Option, None, Some}
use Rattle.step_maps.specs.declared.stretch.Stretch.{Stretch}
use Rattle.step_maps.specs.declared.stretch.FirstItem.{FirstItem}
use Rattle.step_maps.specs.Covers.{reaches}
use Rattle.step_maps.specs.Overlays.{over}
use Rattle.step_maps.specs.Ends.{BelowEnd}

-- the item that one stretch alone gives at an address, if it contains the address
abbrev pub own_item : Stretch → ℕ → Option FirstItem
own_item s a = if reaches s a then Some (record { index = s.index; class = s.class; shared = false }) else None

-- the first item at an address, if each stretch is laid over those after it
unfoldable pub laid : List Stretch → ℕ → Option FirstItem
laid [] a = None
laid (s ∷ items) a = over (own_item s a) (laid items a)

-- whether each stretch begins above the last address of the one before it
abbrev pub ascends_from : ℕ → List Stretch → Bool
ascends_from last [] = true
ascends_from last (s ∷ items) = nat_lt last s.first && ascends_from s.last items

abbrev pub ascends : List Stretch → Bool
ascends [] = true
ascends (s ∷ items) = ascends_from s.last items

-- the lower of two stops, either of which may be missing
abbrev pub sooner : Option ℕ → Option ℕ → Option ℕ
sooner None y = y
sooner (Some x) None = Some x
sooner (Some x) (Some y) = Some (min x y)

-- each stretch contains all addresses from `at` up to `next`, or none of them; if `next` is
-- missing, all addresses from `at` on count
abbrev pub AreSteady : List Stretch → ℕ → Option ℕ → Type 0
AreSteady [] at next = Unit {0}
AreSteady (s ∷ items) at next = ((a : ℕ) → at ≤ a → a < 2 ^ 64 → BelowEnd a next → reaches s a ≡ reaches s at) × AreSteady items at next
