-- Which of several stretches an address belongs to: the first in the list that contains it.
use Rattle.std.specs.Prelude.{◌≡◌, ℕ, ◌+◌, ◌^◌, ◌≤◌, Bool, false, not, ◌&&◌, ◌==◌, nat_le, map, List, [], ◌∷◌, Option}
use Rattle.std.specs.List.{find, list_any}
use Rattle.std.specs.Option.{option_map, option_map_or}
use Rattle.step_maps.specs.declared.stretch.Stretch.{Stretch}
use Rattle.step_maps.specs.declared.stretch.FirstItem.{FirstItem}
use Rattle.step_maps.specs.declared.stretch.Cover.{Cover}
use Rattle.step_maps.specs.Runs.{Run, IsRuns, between}

-- whether the stretch contains the address
abbrev pub reaches : Stretch → ℕ → Bool
reaches s a = nat_le s.first a && nat_le a s.last

-- no stretch is empty
abbrev pub AreStretches : List Stretch → Type 0
AreStretches [] = Unit {0}
AreStretches (s ∷ items) = (s.first ≤ s.last) × AreStretches items

-- the first stretch of the list that contains the address
unfoldable pub first_at : List Stretch → ℕ → Option Stretch
first_at items a = find (λ s. reaches s a) items

-- the index of that stretch
unfoldable pub index_at : List Stretch → ℕ → Option ℕ
index_at items a = option_map (λ s. s.index) (first_at items a)

-- whether the address is also in a stretch that has another class than the first one
unfoldable pub is_shared : List Stretch → ℕ → Bool
is_shared items a = option_map_or (λ s. list_any (λ t. reaches t a && not (t.class == s.class)) items) (first_at items a) false

-- the first stretch's index and class, and whether the address is shared
unfoldable pub first_item : List Stretch → ℕ → Option FirstItem
first_item items a = option_map (λ s. record { index = s.index; class = s.class; shared = is_shared items a }) (first_at items a)

abbrev pub cover_run : Cover → Run ℕ
cover_run c = record { start = c.first; end = c.last + 1; value = c.index }

-- each cover says whether its first address is shared
abbrev pub AreMarked : List Stretch → List Cover → Type 0
AreMarked items [] = Unit {0}
AreMarked items (c ∷ covers) = (c.shared ≡ is_shared items c.first) × AreMarked items covers

-- the covers are the runs of the first stretch's index, and each cover says whether its first address is shared
pub record AreCovers (items : List Stretch) (covers : List Cover) : Type 0 where
  pub runs : IsRuns (between 0 (2 ^ 64) (index_at items)) (map cover_run covers)
  pub marks : AreMarked items covers
