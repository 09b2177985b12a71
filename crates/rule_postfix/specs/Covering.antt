-- The addresses of the written entries, and what the records say about them.
use Rattle.std.specs.Prelude.{◌≡◌, ℕ, ◌+◌, ◌&&◌, nat_lt, nat_le, Bool, true, false, List, [], ◌∷◌, ◌++◌, map, count_by}
use Rattle.std.specs.List.{list_all}
use Rattle.sym_records.specs.declared.line.SymLine.{SymLine}
use Rattle.sym_meaning.specs.Inits.{inits_at, is_frameless, AreNested}
use Rattle.frame_entries.specs.FdeFields.{FdeFields}
use Rattle.range_union.specs.Ranges.{any_overlap}
use Rattle.rule_postfix.specs.Written.{range_of, written_lines}

-- an address is in the range of an entry
abbrev pub holds_address : ℕ → FdeFields → Bool
holds_address a e = nat_le e.start a && nat_lt a (e.start + e.size)

-- how many entries have an address in their range
unfoldable pub entries_at : List FdeFields → ℕ → ℕ
entries_at entries a = count_by (holds_address a) entries

-- no two entries have an address in common
abbrev pub AreDisjoint : List FdeFields → Type 0
AreDisjoint [] = Unit {0}
AreDisjoint (e ∷ entries) = (any_overlap (range_of e) (map range_of entries) ≡ false) × AreDisjoint entries

-- what `lines` say about frames. First come records that are not about frames, then the records of the entries, one entry after another. No two
-- entries have an address in common. An address is covered by as many INITs as there are entries with it, so by one or none. The changes of an INIT
-- are inside its range, at rising addresses. Records count addresses from `base`
pub record SaysFrames (base : ℕ) (entries : List FdeFields) (lines : List SymLine) : Type 0 where
  pub front : List SymLine
  pub frameless : list_all is_frameless front ≡ true
  pub whole : lines ≡ front ++ written_lines base entries
  pub disjoint : AreDisjoint entries
  pub covered : (x : ℕ) → inits_at lines x ≡ entries_at entries (x + base)
  pub nested : AreNested 0 0 lines
