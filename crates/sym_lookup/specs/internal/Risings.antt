-- Consecutive line records that are ascending and disjoint.
use Rattle.std.specs.Prelude.{◌≡◌, ℕ, ◌+◌, ◌≤◌, Bool, true, false, Option, None, Some}
use Rattle.sym_records.specs.declared.line.SymLine.{SymLine}
use Rattle.sym_records.specs.declared.line.SymLine.TheVariants.{Inline, Line}

-- the first address of a line record, and the address after its last
abbrev pub line_start : SymLine → ℕ
line_start (Line address size line file) = address
line_start _ = 0

abbrev pub line_end : SymLine → ℕ
line_end (Line address size line file) = address + size
line_end _ = 0

-- if an end is found, it is the end of a line record that begins at or after `low`
abbrev pub RisesTo : ℕ → SymLine → Option ℕ → Type 0
RisesTo low s None = Unit {0}
RisesTo low (Line address size line file) (Some end) = (low ≤ address) × (end ≡ address + size)
RisesTo low _ (Some end) = ⊥

abbrev pub is_inline : SymLine → Bool
is_inline (Inline level line file origin ranges) = true
is_inline _ = false
