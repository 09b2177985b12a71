-- For which FUNC records an index stores what is under them. No answer depends on this.
use Rattle.std.specs.Prelude.{◌≡◌, ℕ, ◌+◌, ◌<◌, ◌≤◌, ◌&&◌, nat_lt, max, Bool, true, false, List, [], ◌∷◌, length, drop, slice_get}
use Rattle.std.specs.List.{sum_by}
use Rattle.std.specs.Option.{option_map_or}
use Rattle.sym_records.specs.declared.line.SymLine.{SymLine}
use Rattle.sym_records.specs.declared.line.SymLine.TheVariants.{Func, Inline}
use Rattle.sym_meaning.specs.TextNames.{under}
use Rattle.sym_lookup.specs.declared.under.Under.{Under}

-- the number of ranges of a record under a FUNC, but at least one
abbrev pub range_count : SymLine → ℕ
range_count (Inline level line file origin ranges) = max (length ranges) 1
range_count _ = 1

abbrev pub is_func : SymLine → Bool
is_func (Func many address size params name) = true
is_func _ = false

-- whether the record at a place is a FUNC with more than 32 ranges under it: for these the index stores what is under them
unfoldable pub is_held : List SymLine → ℕ → Bool
is_held lines func = option_map_or is_func (slice_get lines func) false && nat_lt 32 (sum_by range_count (under (drop (func + 1) lines)))

-- no record from one place up to another is such a FUNC
abbrev pub HaveNone : List SymLine → ℕ → ℕ → Type 0
HaveNone lines first end = (first ≤ end) × ((func : ℕ) → first ≤ func → func < end → is_held lines func ≡ false)

-- the list has an entry for each such FUNC, in their order
abbrev pub AreHeld : List SymLine → ℕ → ℕ → List Under → Type 0
AreHeld lines first end [] = HaveNone lines first end
AreHeld lines first end (under ∷ unders) = HaveNone lines first under.func × ((is_held lines under.func ≡ true) × AreHeld lines (under.func + 1) end unders)
