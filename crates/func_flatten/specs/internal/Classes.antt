-- Addresses that functions with different names share.
use Rattle.std.specs.Prelude.{◌≡◌, ℕ, ◌==◌, ◌&&◌, Bool, false, not, List, [], ◌∷◌, Option, None, Some, map, if◌then◌else◌, ◌-◌, length, slice_get, slice_index_or}
use Rattle.std.specs.List.{list_any}
use Rattle.std.specs.Option.{option_map_or}
use Rattle.std.specs.Str.{bytes_eq}
use Rattle.step_maps.specs.Runs.{IsRuns, between}
use Rattle.step_maps.specs.Stepping.{Stepping, value_at}
use Rattle.step_maps.specs.declared.stretch.Cover.{Cover}
use Rattle.step_maps.specs.declared.stretch.FirstItem.{FirstItem}
use Rattle.step_maps.specs.declared.stretch.Stretch.{Stretch}
use Rattle.step_maps.specs.Covers.{reaches, first_at, cover_run, index_at}
use Rattle.debug_units.specs.declared.unit_read.UnitRead.{UnitRead}
use Rattle.die_names.specs.Names.{entry_name}
use Rattle.debug_units.specs.declared.unit_read.EntryRef.{EntryRef}
use Rattle.func_flatten.specs.Pieces.{is_many}

abbrev pub place_name : List UnitRead → EntryRef → List ℕ
place_name units p = entry_name units p.unit p.entry

-- the entry of the function with number `k`
abbrev pub place_at : List EntryRef → ℕ → EntryRef
place_at places k = slice_index_or places k (record { unit = 0; entry = 0 })

-- the name of the function with number `k`
abbrev pub number_name : List UnitRead → List EntryRef → ℕ → List ℕ
number_name units places k = place_name units (place_at places k)

-- whether a stretch at the address has another name than the first stretch there
unfoldable pub has_other_name : (ℕ → List ℕ) → List Stretch → ℕ → Bool
has_other_name name items a = option_map_or (λ s. list_any (λ t. reaches t a && not (bytes_eq (name t.index) (name s.index))) items) (first_at items a) false

-- the first addresses of the covers that are shared
abbrev pub shared_starts : List Cover → List ℕ
shared_starts [] = []
shared_starts (c ∷ covers) = if c.shared then c.first ∷ shared_starts covers else shared_starts covers

-- whether the stretch has one of the addresses
abbrev pub reaches_any : List ℕ → Stretch → Bool
reaches_any addresses s = list_any (λ a. reaches s a) addresses

abbrev pub classed : (ℕ → ℕ) → Stretch → Stretch
classed class s = record { first = s.first; last = s.last; index = s.index; class = class s.index }

abbrev pub class_where : ℕ → Option Stretch → Option ℕ
class_where k None = None
class_where k (Some s) = if s.index == k then Some s.class else None

-- the class of the last stretch, if that is a stretch of the function with number `k`
abbrev pub last_class : List Stretch → ℕ → Option ℕ
last_class items k = class_where k (slice_get items (length items - 1))

abbrev pub shared_in : Option FirstItem → Bool
shared_in None = false
shared_in (Some item) = item.shared

-- the cover, which is shared exactly if it was shared before and the first item at its first
-- address is shared
abbrev pub marked : Stepping (Option FirstItem) → Cover → Cover
marked items c = record { first = c.first; last = c.last; index = c.index; shared = c.shared && shared_in (value_at None items c.first) }

-- each cover is shared exactly if a function with another name than the owner's has its first address
abbrev pub TellMany : List UnitRead → List Cover → Type 0
TellMany units [] = Unit {0}
TellMany units (c ∷ covers) = (c.shared ≡ is_many units c.first) × TellMany units covers

-- covers of some stretches that say whether names differ
pub record AreNamedCovers (units : List UnitRead) (items : List Stretch) (covers : List Cover) : Type 0 where
  pub runs : IsRuns (between 0 18446744073709551616 (index_at items)) (map cover_run covers)
  pub marks : TellMany units covers
