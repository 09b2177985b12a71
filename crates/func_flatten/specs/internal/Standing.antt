-- Functions that represent all functions. Of the functions with the same set of addresses, only
-- those are collected that show which is the first and whether names differ.
use Rattle.std.specs.Prelude.{◌≡◌, ◌⊎◌, ℕ, ◌+◌, ◌*◌, ◌<◌, ◌≤◌, Bool, true, false, not, ◌&&◌, Option, None, Some, IfSome, map, length, List, [], ◌∷◌, ◌++◌}
use Rattle.std.specs.List.{slice_get, find, list_any}
use Rattle.std.specs.Str.{bytes_eq}
use Rattle.sym_edges.specs.Addresses.{Range}
use Rattle.step_maps.specs.declared.stretch.Stretch.{Stretch}
use Rattle.debug_units.specs.declared.unit_read.UnitRead.{UnitRead}
use Rattle.debug_units.specs.declared.unit_read.EntryRef.{EntryRef}
use Rattle.debug_units.specs.Owners.{Covering}
use Rattle.func_flatten.specs.Pieces.{place_of, covering_name}
use Rattle.func_flatten.specs.declared.set_owners.SetOwners.{SetOwners}
use Rattle.func_flatten.specs.declared.set_owners.Meeting.{Meeting}
use Rattle.func_flatten.specs.declared.set_owners.Meeting.TheVariants.{New, Second, Known}
use Rattle.func_flatten.specs.internal.Classes.{place_name, place_at, number_name}
use Rattle.func_flatten.specs.internal.Collecting.{functions_in, all_functions, function_stretches, own_class, HaveSets, has_address}

-- whether a function with another name than `text` has the address
abbrev pub any_name : (Covering → List ℕ) → List ℕ → ℕ → List Covering → Bool
any_name name text a functions = list_any (λ d. has_address a d && not (bytes_eq (name d) text)) functions

-- the functions `kept` represent `all`. At each address both have the same first function. For each
-- name, `kept` has a function with another name at the address exactly if `all` has one
pub record StandFor (name : Covering → List ℕ) (all kept : List Covering) : Type 0 where
  pub first : (a : ℕ) → find (has_address a) kept ≡ find (has_address a) all
  pub other : (a : ℕ) (text : List ℕ) → any_name name text a kept ≡ any_name name text a all

-- the order of entries in `.debug_info`, as a number for each entry
abbrev pub place_key : EntryRef → ℕ
place_key p = p.unit * 4294967296 + p.entry

-- the functions are in the order of `.debug_info`, from `low` on and below `high`
abbrev pub Rise : ℕ → ℕ → List Covering → Type 0
Rise low high [] = low ≤ high
Rise low high (c ∷ functions) = (low ≤ place_key (place_of c)) × Rise (place_key (place_of c) + 1) high functions

-- the addresses of the entry with a number in a unit
abbrev pub set_in : ℕ → Option UnitRead → Option (List Range)
set_in entry None = None
set_in entry (Some part) = slice_get part.spans entry

-- the functions have the addresses of their entries
abbrev pub AreThere : List UnitRead → List Covering → Type 0
AreThere units [] = Unit {0}
AreThere units (c ∷ functions) = (set_in c.entry (slice_get units c.unit) ≡ Some c.spans) × AreThere units functions

-- the collected functions represent those that were passed, and their places are below `low`; the entries that are left follow
pub record IsCollected (units : List UnitRead) (places : List EntryRef) (stretches : List Stretch) (low : ℕ) (left : List Covering) : Type 0 where
  pub functions : List Covering
  pub passed : List Covering
  pub whole : passed ++ functions_in left ≡ all_functions units
  pub placed : places ≡ map place_of functions
  pub stretched : stretches ≡ function_stretches own_class 0 functions
  pub sets : HaveSets functions
  pub stand : StandFor (covering_name units) passed functions
  pub rise : Rise 0 low functions
  pub there : AreThere units functions

-- the function with number `k` is in unit `unit`, and has the set of entry `entry`
pub record HasSet (sets : List (List Range)) (places : List EntryRef) (unit entry k : ℕ) : Type 0 where
  pub known : k < length places
  pub here : (place_at places k).unit ≡ unit
  pub set : slice_get sets (place_at places k).entry ≡ slice_get sets entry

-- the first function of a set and the second have different names
abbrev pub AreApart : List UnitRead → List EntryRef → SetOwners → Type 0
AreApart units places one = IfSome one.second (λ k. (one.first < length places) × (k < length places) × (bytes_eq (number_name units places k) (number_name units places one.first) ≡ false))

-- how a function compares with those that were collected: it must be collected, perhaps as the second one of its set, or they represent it
abbrev pub Meets : List UnitRead → List (List Range) → List EntryRef → EntryRef → Meeting → Type 0
Meets units sets places place New = Unit {0}
Meets units sets places place (Second k) = (k < length places) × (bytes_eq (place_name units place) (number_name units places k) ≡ false)
Meets units sets places place (Known k) = HasSet sets places place.unit place.entry k
    × ((bytes_eq (place_name units place) (number_name units places k) ≡ true) ⊎ ((l : ℕ) × HasSet sets places place.unit place.entry l × (bytes_eq (number_name units places l) (number_name units places k) ≡ false)))
