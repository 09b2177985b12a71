-- The inlined copies of a unit, as they are collected, and sorted by the entries that they are
-- directly in.
use Rattle.std.specs.Prelude.{◌≡◌, ◌⊎◌, ℕ, suc, ◌+◌, ◌<◌, ◌≤◌, ◌==◌, ◌&&◌, Bool, if◌then◌else◌, List, [], ◌∷◌, ◌++◌, map, filter, drop, length, Option, None, Some, true, unwrap_or}
use Rattle.std.specs.List.{slice_get}
use Rattle.sym_edges.specs.Addresses.{Range}
use Rattle.range_set.specs.Members.{holds_any}
use Rattle.range_set.specs.Canonical.{IsCanonical}
use Rattle.step_maps.specs.Runs.{IsRuns, between}
use Rattle.step_maps.specs.declared.stretch.Stretch.{Stretch}
use Rattle.step_maps.specs.declared.stretch.Cover.{Cover}
use Rattle.step_maps.specs.Covers.{cover_run, index_at}
use Rattle.die_walk.specs.EntryTable.{DieFields}
use Rattle.debug_units.specs.declared.unit_read.UnitRead.{UnitRead}
use Rattle.die_walk.specs.EntryKinds.{is_inlined}
use Rattle.debug_units.specs.Owners.{inside_of}
use Rattle.step_maps.specs.SpanStretches.{span_stretches, AreFit}
use Rattle.inline_chain.specs.Trees.{is_number, list_of, IsTree}

-- the stretches of the entry `number`; their class is the entry that it is directly in
abbrev pub stretches_in : ℕ → Option ℕ → List Range → List Stretch
stretches_in number None spans = []
stretches_in number (Some above) spans = span_stretches number above spans

abbrev pub copy_by : DieFields → Option ℕ → ℕ → List Range → List Stretch
copy_by die above number spans = if is_inlined die then stretches_in number above spans else []

abbrev pub copy_stretches : List DieFields → ℕ → DieFields → List Range → List Stretch
copy_stretches all number die spans = copy_by die (inside_of all number die.parent) number spans

-- the stretches of the inlined copies among entries numbered from `number`
abbrev pub child_stretches : List DieFields → ℕ → List DieFields → List (List Range) → List Stretch
child_stretches all number (die ∷ dies) (spans ∷ sets) = copy_stretches all number die spans ++ child_stretches all (number + 1) dies sets
child_stretches all number _ _ = []

-- the stretches of a class
abbrev pub of_class : ℕ → List Stretch → List Stretch
of_class x items = filter (λ (s : Stretch). s.class == x) items

-- all classes are below `count`
abbrev pub HaveClasses : ℕ → List Stretch → Type 0
HaveClasses count [] = Unit {0}
HaveClasses count (s ∷ items) = (s.class < count) × HaveClasses count items

-- the classes ascend, not strictly, and none is below `low`
abbrev pub SortedFrom : ℕ → List Stretch → Type 0
SortedFrom low [] = Unit {0}
SortedFrom low (s ∷ items) = (low ≤ s.class) × SortedFrom s.class items

-- how many stretches at the beginning are of a class
unfoldable pub front_count : ℕ → List Stretch → ℕ
front_count x [] = 0
front_count x (s ∷ items) = if s.class == x then suc (front_count x items) else 0

-- the row has, for each of the first entries, the entry that it is directly in
pub record SaysInside (all : List DieFields) (row : List (Option ℕ)) (count : ℕ) : Type 0 where
  pub many : length row ≡ count
  pub each : (k : ℕ) (die : DieFields) → k < count → slice_get all k ≡ Some die → slice_get row k ≡ Some (inside_of all k die.parent)

-- the addresses of an entry, or none if it has no set
abbrev pub set_in : List (List Range) → ℕ → List Range
set_in sets k = unwrap_or (slice_get sets k) []

-- the sets of the inlined copies are sorted and disjoint
abbrev pub HaveSets : List DieFields → List (List Range) → Type 0
HaveSets (die ∷ dies) (spans ∷ sets) = (is_inlined die ≡ true → IsCanonical spans) × HaveSets dies sets
HaveSets _ _ = Prim.Unit {0}

-- whether the entry is an inlined copy directly in the entry `x` and has the address
abbrev pub is_copy_in : DieFields → Option ℕ → List Range → ℕ → ℕ → Bool
is_copy_in die above spans x a = is_inlined die && (holds_any spans a && is_number x above)

-- the option has a number
abbrev pub IsFound : Option ℕ → Type 0
IsFound None = ⊥
IsFound (Some n) = Prim.Unit {0}

-- at each address, the first stretch of a class belongs to the same entry as it does among the
-- stretches of all copies
abbrev pub TellChildren : List DieFields → List (List Range) → List Stretch → Type 0
TellChildren all sets items = (x a : ℕ) → index_at (of_class x items) a ≡ index_at (of_class x (child_stretches all 0 all sets)) a

-- an earlier entry is an inlined copy directly in the same entry as `number`, and has the same set
-- of addresses
pub record HasEarlier (all : List DieFields) (sets : List (List Range)) (row : List (Option ℕ)) (number : ℕ) (above : Option ℕ) : Type 0 where
  pub entry : ℕ
  pub die : DieFields
  pub there : slice_get all entry ≡ Some die
  pub inlined : is_inlined die ≡ true
  pub beside : slice_get row entry ≡ Some above
  pub set : slice_get sets entry ≡ slice_get sets number

-- the stretches of an entry are added, unless an earlier copy directly in the same entry has the
-- same set of addresses
abbrev pub AddsCopy : List DieFields → List (List Range) → List (Option ℕ) → ℕ → DieFields → Option ℕ → List Stretch → List Stretch → Type 0
AddsCopy all sets row number die above old new = (new ≡ old ++ copy_by die above number (set_in sets number)) ⊎ ((new ≡ old) × HasEarlier all sets row number above)

-- the stretches that were collected from the first entries, followed by those of the other entries,
-- give the same first stretches as those of all copies. Each address of a copy among the first
-- entries has a collected stretch
pub record Collects (all : List DieFields) (sets : List (List Range)) (count : ℕ) (row : List (Option ℕ)) (items : List Stretch) : Type 0 where
  pub inside : SaysInside all row count
  pub same : (x a : ℕ) → index_at (of_class x (items ++ child_stretches all count (drop count all) (drop count sets))) a ≡ index_at (of_class x (child_stretches all 0 all sets)) a
  pub held : (k : ℕ) (die : DieFields) (x a : ℕ) → k < count → slice_get all k ≡ Some die → is_copy_in die (inside_of all k die.parent) (set_in sets k) x a ≡ true → IsFound (index_at (of_class x items) a)
  pub fit : AreFit items
  pub sets_are : HaveSets (drop count all) (drop count sets) → HaveSets all sets

-- the covers of a class are the runs of the index of the class's first stretch
abbrev pub IsList : List Stretch → List (List Cover) → ℕ → Type 0
IsList items lists x = IsRuns (between 0 18446744073709551616 (index_at (of_class x items))) (map cover_run (list_of lists x))

-- one list of covers is added: the runs of the index of the group's first stretch
pub record AddsCovers (group : List Stretch) (old new : List (List Cover)) : Type 0 where
  pub covers : List Cover
  pub added : new ≡ old ++ covers ∷ []
  pub runs : IsRuns (between 0 18446744073709551616 (index_at group)) (map cover_run covers)

abbrev pub AreLists : List Stretch → List (List Cover) → Type 0
AreLists items lists = (x : ℕ) → IsList items lists x

-- the lists of the first classes
pub record ListsTo (items : List Stretch) (lists : List (List Cover)) (count : ℕ) : Type 0 where
  pub many : length lists ≡ count
  pub each : (x : ℕ) → x < count → IsList items lists x

-- the tree of a unit, if there is that unit
abbrev pub TreeFor : Option UnitRead → Option (List (List Cover)) → Type 0
TreeFor None None = Prim.Unit {0}
TreeFor (Some part) (Some lists) = IsTree part lists
TreeFor _ _ = ⊥
