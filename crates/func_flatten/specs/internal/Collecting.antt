-- The functions of the units, and the stretches of their addresses.
use Rattle.std.specs.Prelude.{ℕ, ◌+◌, ◌<◌, ◌^◌, Bool, true, false, ◌&&◌, Option, None, Some, if◌then◌else◌, List, [], ◌∷◌, ◌++◌}
use Rattle.std.specs.List.{slice_get, slice_index_or}
use Rattle.std.specs.Option.{option_map_or}
use Rattle.sym_edges.specs.Addresses.{Range}
use Rattle.die_walk.specs.EntryTable.{DieFields}
use Rattle.range_set.specs.Canonical.{IsCanonical}
use Rattle.range_set.specs.Members.{holds_any}
use Rattle.step_maps.specs.declared.stretch.Stretch.{Stretch}
use Rattle.step_maps.specs.declared.stretch.Cover.{Cover}
use Rattle.step_maps.specs.SpanStretches.{span_stretches}
use Rattle.debug_units.specs.declared.unit_read.UnitRead.{UnitRead}
use Rattle.die_walk.specs.EntryKinds.{is_function}
use Rattle.debug_units.specs.Owners.{Covering, covering_from}
use Rattle.debug_units.specs.declared.unit_read.EntryRef.{EntryRef}
use Rattle.func_flatten.specs.declared.piece.Piece.{Piece}

abbrev pub is_some : List Range → Bool
is_some [] = false
is_some (range ∷ ranges) = true

-- a function that has addresses
abbrev pub has_code : Covering → Bool
has_code c = is_function c.die && is_some c.spans

-- the functions with addresses among some entries
abbrev pub functions_in : List Covering → List Covering
functions_in [] = []
functions_in (c ∷ entries) = if has_code c then c ∷ functions_in entries else functions_in entries

-- the functions with addresses of all units, in the order of the section
abbrev pub all_functions : List UnitRead → List Covering
all_functions units = functions_in (covering_from 0 units)

-- an entry with its addresses, if it has a set of them
abbrev pub entry_covering : EntryRef → DieFields → List (List Range) → List Covering
entry_covering place die sets = option_map_or (λ set. record { unit = place.unit; entry = place.entry; die = die; spans = set } ∷ []) (slice_get sets place.entry) []

-- the stretches of functions that are numbered from `k`
abbrev pub function_stretches : (ℕ → ℕ) → ℕ → List Covering → List Stretch
function_stretches class k [] = []
function_stretches class k (c ∷ functions) = span_stretches k (class k) c.spans ++ function_stretches class (k + 1) functions

-- each function has a class of its own
abbrev pub own_class : ℕ → ℕ
own_class k = k

abbrev pub HaveSets : List Covering → Type 0
HaveSets [] = Unit {0}
HaveSets (c ∷ functions) = IsCanonical c.spans × HaveSets functions

-- whether the function has the address
abbrev pub has_address : ℕ → Covering → Bool
has_address a c = holds_any c.spans a

-- a function and its number
pub record Numbered : Type 0 where
  pub number : ℕ
  pub function : Covering

-- the first function that has the address
abbrev pub first_function : ℕ → ℕ → List Covering → Option Numbered
first_function a k [] = None
first_function a k (c ∷ functions) = if has_address a c then Some (record { number = k; function = c }) else first_function a (k + 1) functions

abbrev pub piece_of : List EntryRef → Cover → Piece
piece_of places c = record {
  unit = (slice_index_or places c.index (record { unit = 0; entry = 0 })).unit;
  entry = (slice_index_or places c.index (record { unit = 0; entry = 0 })).entry;
  start = c.first;
  end = c.last + 1;
  many = c.shared;
}

-- the index of each cover is below the count, and the end of each cover is below 2^64
abbrev pub AreCut : ℕ → List Cover → Type 0
AreCut count [] = Unit {0}
AreCut count (c ∷ covers) = (c.index < count) × (c.last + 1 < 2 ^ 64) × AreCut count covers
