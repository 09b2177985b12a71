-- The levels of a piece, each made from the one before.
use Rattle.std.specs.Prelude.{◌≡◌, ℕ, zero, suc, ◌+◌, ◌<◌, ◌≤◌, ◌==◌, ◌&&◌, Bool, true, false, List, [], ◌∷◌, ◌++◌, map, filter, drop, length, max, min, Option, None, Some}
use Rattle.std.specs.List.{list_any}
use Rattle.std.specs.List.Sorted.{IsNonDecreasingBy}
use Rattle.sym_edges.specs.Addresses.{Range}
use Rattle.range_set.specs.Members.{holds_any}
use Rattle.range_set.specs.Canonical.{IsCanonical}
use Rattle.step_maps.specs.Runs.{value_in, AreRuns}
use Rattle.step_maps.specs.declared.stretch.Stretch.{Stretch}
use Rattle.step_maps.specs.declared.stretch.Cover.{Cover}
use Rattle.step_maps.specs.Covers.{reaches, cover_run}
use Rattle.debug_units.specs.declared.unit_read.UnitRead.{UnitRead}
use Rattle.inline_chain.specs.InlineRuns.{InlineParts, is_of, spans_of, joined, AreParts, first_address, IsOrdered}
use Rattle.inline_chain.specs.Trees.{is_number, child_at, list_of}

-- whether some stretch of the class `x` has the address
abbrev pub has_at : List Stretch → ℕ → ℕ → Bool
has_at items x a = list_any (λ (s : Stretch). (s.class == x) && reaches s a) items

-- whether some stretch is of the class `x`
abbrev pub has_class : ℕ → List Stretch → Bool
has_class x items = list_any (λ (s : Stretch). s.class == x) items

-- whether the cover that has the address is of the entry `y`
abbrev pub covers_at : List Cover → ℕ → ℕ → Bool
covers_at covers y a = is_number y (value_in (map cover_run covers) a)

-- whether the stretch has the address, and the first inlined copy at the address directly in the
-- stretch's entry is the entry `y`
abbrev pub reaches_under : List (List Cover) → ℕ → ℕ → Stretch → Bool
reaches_under lists y a s = reaches s a && covers_at (list_of lists s.class) y a

abbrev pub child_under : UnitRead → Option ℕ → ℕ → Option ℕ
child_under part None a = None
child_under part (Some entry) a = child_at part entry a

-- the entry at a depth: the owner at depth 0, and at each further depth the first inlined copy
-- directly in the entry before
unfoldable pub depth_at : UnitRead → ℕ → ℕ → ℕ → Option ℕ
depth_at part owner zero a = Some owner
depth_at part owner (suc depth) a = child_under part (depth_at part owner depth a) a

-- the stretches are those of the entries at a depth, below the owner, whose stretch is `owner`
abbrev pub IsLevel : UnitRead → Stretch → ℕ → List Stretch → Type 0
IsLevel part owner depth items = (x a : ℕ) → has_at items x a ≡ (reaches owner a && is_number x (depth_at part owner.class depth a))

-- lists of ranges that together have the addresses of a class
pub record AreClassParts (items : List Stretch) (x : ℕ) (parts : List (List Range)) : Type 0 where
  pub parts_are : AreParts parts
  pub canonical : IsCanonical (joined parts)
  pub members : (a : ℕ) → holds_any (joined parts) a ≡ has_at items x a

-- the records of one entry at one level
abbrev pub entry_runs : ℕ → ℕ → List (List Range) → List InlineParts
entry_runs level entry [] = []
entry_runs level entry (spans ∷ parts) = record { level = level; entry = entry; spans = spans } ∷ entry_runs level entry parts

-- records of an entry with these ranges are added
pub record AddsParts (level entry : ℕ) (spans : List Range) (old new : List InlineParts) : Type 0 where
  pub parts : List (List Range)
  pub whole : new ≡ old ++ entry_runs level entry parts
  pub parts_are : AreParts parts
  pub ranges : joined parts ≡ spans

-- records of an entry with the addresses of a group of stretches are added
pub record AddsGroup (level entry : ℕ) (group : List Stretch) (old new : List InlineParts) : Type 0 where
  pub parts : List (List Range)
  pub whole : new ≡ old ++ entry_runs level entry parts
  pub parts_are : AreParts parts
  pub canonical : IsCanonical (joined parts)
  pub members : (a : ℕ) → holds_any (joined parts) a ≡ list_any (λ (s : Stretch). reaches s a) group

-- all records are of a level
abbrev pub AreOfLevel : ℕ → List InlineParts → Type 0
AreOfLevel level [] = Prim.Unit {0}
AreOfLevel level (r ∷ runs) = (r.level ≡ level) × AreOfLevel level runs

-- all records have levels below this one
abbrev pub AreAbove : ℕ → List InlineParts → Type 0
AreAbove level [] = Prim.Unit {0}
AreAbove level (r ∷ runs) = (r.level < level) × AreAbove level runs

-- the groups of the classes that are no longer in `rest` are done, and no other group is begun
pub record Groups (level : ℕ) (all rest : List Stretch) (made : List InlineParts) : Type 0 where
  pub level_is : AreOfLevel level made
  pub ended : (x : ℕ) → has_class x rest ≡ false → AreClassParts all x (spans_of level x made)
  pub ahead : (x : ℕ) → has_class x rest ≡ true → (spans_of level x made ≡ []) × ((a : ℕ) → has_at rest x a ≡ has_at all x a)

-- the records of a level
pub record IsMade (level : ℕ) (items : List Stretch) (made : List InlineParts) : Type 0 where
  pub level_is : AreOfLevel level made
  pub copies : (x : ℕ) → AreClassParts items x (spans_of level x made)

-- the records of a level are added
pub record AddsLevel (level : ℕ) (items : List Stretch) (old new : List InlineParts) : Type 0 where
  pub made : List InlineParts
  pub whole : new ≡ old ++ made
  pub is_made : IsMade level items made
  pub ordered : IsOrdered made

-- the records of one entry at the level are in the order of their first addresses
abbrev pub Rising : ℕ → List InlineParts → Type 0
Rising level made = (x : ℕ) → IsNonDecreasingBy (λ (r : InlineParts). first_address r.spans) (filter (is_of level x) made)

-- the records of one entry at one level have the addresses at which the entry is one level deeper
-- than the level's number
pub record IsEntry (part : UnitRead) (owner : Stretch) (runs : List InlineParts) (level entry : ℕ) : Type 0 where
  pub parts : AreParts (spans_of level entry runs)
  pub canonical : IsCanonical (joined (spans_of level entry runs))
  pub members : (a : ℕ) → holds_any (joined (spans_of level entry runs)) a ≡ (reaches owner a && is_number entry (depth_at part owner.class (level + 1) a))

-- the records of all smaller levels
pub record RunsTo (part : UnitRead) (owner : Stretch) (level : ℕ) (runs : List InlineParts) : Type 0 where
  pub ordered : IsOrdered runs
  pub above : AreAbove level runs
  pub entries : (k x : ℕ) → k < level → IsEntry part owner runs k x

-- the records of all levels
pub record AllRuns (part : UnitRead) (owner : Stretch) (runs : List InlineParts) : Type 0 where
  pub ordered : IsOrdered runs
  pub entries : (k x : ℕ) → IsEntry part owner runs k x

-- the covers of each entry ascend
abbrev pub HaveRuns : List (List Cover) → Type 0
HaveRuns lists = (x : ℕ) → AreRuns (map cover_run (list_of lists x))

-- the part of a cover inside a stretch
abbrev pub cut : Cover → Stretch → Stretch
cut c s = record { first = max c.first s.first; last = min c.last s.last; index = c.index; class = c.index }

-- all covers end at the address or above it
abbrev pub ReachTo : ℕ → List Cover → Type 0
ReachTo first [] = Unit {0}
ReachTo first (c ∷ covers) = (first ≤ c.last) × ReachTo first covers

-- from the address `first` on, the covers after the first `count` give the same as all covers
pub record StartsCovers (covers : List Cover) (first count : ℕ) : Type 0 where
  pub inside : count ≤ length covers
  pub same : (a : ℕ) → first ≤ a → value_in (map cover_run (drop count covers)) a ≡ value_in (map cover_run covers) a
  pub runs : AreRuns (map cover_run (drop count covers))
  pub reach : ReachTo first (drop count covers)
