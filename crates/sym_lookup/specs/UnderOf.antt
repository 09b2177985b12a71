-- The records under a FUNC, stored so that those at an address are found by binary search.
use Rattle.std.specs.Prelude.{◌≡◌, ℕ, ◌+◌, ◌-◌, ◌<◌, ◌≤◌, ◌^◌, List, [], ◌∷◌, length, take, drop, Option}
use Rattle.std.specs.List.{position_from}
use Rattle.std.specs.Option.{option_map_or}
use Rattle.sym_records.specs.declared.line.SymLine.{SymLine}
use Rattle.sym_records.specs.declared.line.SymLine.TheVariants.{Line}
use Rattle.sym_meaning.specs.TextNames.{is_line_at, under}
use Rattle.step_maps.specs.Stepping.{Stepping}
use Rattle.step_maps.specs.declared.stretch.FirstItem.{FirstItem}
use Rattle.sym_lookup.specs.declared.under.LineFinder.{LineFinder}
use Rattle.sym_lookup.specs.declared.under.LineFinder.TheVariants.{Rising, Map}
use Rattle.sym_lookup.specs.declared.under.Under.{Under}
use Rattle.sym_lookup.specs.Answers.{chain_places, line_place}
use Rattle.sym_lookup.specs.PlaceMaps.{place_in, IsPlaceMap}

-- the places that the maps have at an address, in order, up to the first map that has none
abbrev pub chain_in : List (Stepping (Option FirstItem)) → ℕ → List ℕ
chain_in [] x = []
chain_in (map ∷ maps) x = option_map_or (λ place. place ∷ chain_in maps x) (place_in map x) []

-- the records from the place `first` up to the place `end`
abbrev pub part : ℕ → ℕ → List SymLine → List SymLine
part first end lines = take (end - first) (drop first lines)

-- all records are line records, and each begins at or after the end of the one before it, the first
-- one at or after `low`
abbrev pub AreRising : ℕ → List SymLine → Type 0
AreRising low [] = Unit {0}
AreRising low (Line address size line file ∷ records) = (low ≤ address) × AreRising (address + size) records
AreRising low (_ ∷ records) = ⊥

-- the records from `first` to `end` can be searched by binary search: they are ascending disjoint
-- line records, and the first of them that covers an address is the first line record of the FUNC
-- there
pub record AreSearchable (lines : List SymLine) (func first end : ℕ) : Type 0 where
  pub ordered : first ≤ end
  pub within : end ≤ length lines
  pub rising : AreRising 0 (part first end lines)
  pub line : (x : ℕ) → position_from (is_line_at x) first (part first end lines) ≡ line_place lines func x

-- the finder gives the first line record under the FUNC at the place `func` that covers an address
abbrev pub IsLineFinder : List SymLine → ℕ → LineFinder → Type 0
IsLineFinder lines func (Rising first end) = AreSearchable lines func first end
IsLineFinder lines func (Map map) = IsPlaceMap (line_place lines func) map

pub record IsUnder (lines : List SymLine) (under : Under) : Type 0 where
  pub chain : (x : ℕ) → x < 2 ^ 64 → chain_in under.levels.items x ≡ chain_places lines under.func x
  pub line : IsLineFinder lines under.func under.lines

abbrev pub AreUnders : List SymLine → List Under → Type 0
AreUnders lines [] = Unit {0}
AreUnders lines (under ∷ unders) = IsUnder lines under × AreUnders lines unders
