-- The stretches of INLINE records, level by level.
use Rattle.std.specs.Prelude.{◌≡◌, ℕ, ◌<◌, ◌^◌, List, [], Option, None, Some, IfSome, slice_get}
use Rattle.std.specs.Global.{Vec}
use Rattle.std.specs.List.{position_from}
use Rattle.std.specs.Option.{option_map}
use Rattle.sym_records.specs.declared.line.SymLine.{SymLine}
use Rattle.sym_meaning.specs.TextNames.{is_inline_at}
use Rattle.step_maps.specs.declared.stretch.Stretch.{Stretch}
use Rattle.step_maps.specs.declared.stretch.FirstItem.{FirstItem}
use Rattle.step_maps.specs.Covers.{AreStretches}
use Rattle.step_maps.specs.Stepping.{Stepping}
use Rattle.sym_lookup.specs.declared.stretches.Kind.TheVariants as kind
use Rattle.sym_lookup.specs.PlaceMaps.{IsPlaceMap}
use Rattle.sym_lookup.specs.internal.Kinds.{is_at, stretches_of}

-- the stretches of a level, or `None` if the list has no such level
abbrev pub bucket : List (Vec Stretch) → ℕ → Option (List Stretch)
bucket leveled level = option_map (λ (v : Vec Stretch). v.items) (slice_get leveled level)

pub record AreEmpty (leveled : List (Vec Stretch)) : Type 0 where
  pub none : (level : ℕ) → IfSome (bucket leveled level) (λ s. s ≡ [])

pub record HaveStretches (leveled : List (Vec Stretch)) : Type 0 where
  pub some : (level : ℕ) → IfSome (bucket leveled level) AreStretches

-- each level of the list has the stretches of the INLINE records of that level
pub record AreLeveled (first : ℕ) (records : List SymLine) (leveled : List (Vec Stretch)) : Type 0 where
  pub have : HaveStretches leveled
  pub same : (level : ℕ) → IfSome (bucket leveled level) (λ s. s ≡ stretches_of (kind.Level level) first records)

-- the map is that of the INLINE records of a level; it may be missing only if no record of the
-- level covers an address
abbrev pub IsLevelMap : ℕ → ℕ → List SymLine → Option (Stepping (Option FirstItem)) → Type 0
IsLevelMap level first records None = (x : ℕ) → x < 2 ^ 64 → position_from (is_inline_at level x) first records ≡ None
IsLevelMap level first records (Some map) = IsPlaceMap (λ x. position_from (is_at (kind.Level level) x) first records) map
