-- What the steps of a scan over records give.
use Rattle.std.specs.Prelude.{◌≡◌, ℕ, ◌+◌, Bool, true, false, if◌then◌else◌, List, Option, Some, IfSome, slice_get}
use Rattle.std.specs.List.{position_from}
use Rattle.sym_records.specs.declared.line.SymLine.{SymLine}
use Rattle.sym_records.specs.declared.line.SymLine.TheVariants.{Inline, Line}
use Rattle.sym_meaning.specs.TextNames.{is_inline_at}

-- whether a record belongs under a FUNC
abbrev pub is_under : SymLine → Bool
is_under (Inline level line file origin ranges) = true
is_under (Line address size line file) = true
is_under _ = false

-- one more than the level of an INLINE; 0 for other records
abbrev pub level_end : SymLine → ℕ
level_end (Inline level line file origin ranges) = level + 1
level_end _ = 0

-- the place of a record if it is an INLINE of the level that covers the address, otherwise `later`
abbrev pub sooner : ℕ → ℕ → ℕ → SymLine → Option ℕ → Option ℕ
sooner level x place s later = if is_inline_at level x s then Some place else later

-- for each level, the list has the first INLINE of this level that covers the address
abbrev pub AreFirsts : ℕ → ℕ → List SymLine → List (Option ℕ) → Type 0
AreFirsts first x records firsts = (level : ℕ) → IfSome (slice_get firsts level) (λ found. found ≡ position_from (is_inline_at level x) first records)
