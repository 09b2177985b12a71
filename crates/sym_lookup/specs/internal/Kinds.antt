-- The addresses of records, for each kind of record.
use Rattle.std.specs.Prelude.{ℕ, ◌+◌, ◌-◌, ◌^◌, ◌==◌, min, Bool, if◌then◌else◌, List, [], ◌∷◌, ◌++◌}
use Rattle.sym_records.specs.declared.line.Extent.{Extent}
use Rattle.sym_records.specs.declared.line.SymLine.{SymLine}
use Rattle.sym_records.specs.declared.line.SymLine.TheVariants.{Init, Inline}
use Rattle.sym_meaning.specs.TextNames.{is_func_at, is_line_at, is_inline_at}
use Rattle.sym_meaning.specs.Findings.{func_run, line_run}
use Rattle.cfi_eval.specs.Inits.{is_init_at}
use Rattle.step_maps.specs.declared.stretch.Stretch.{Stretch}
use Rattle.sym_lookup.specs.declared.stretches.Kind.{Kind}
use Rattle.sym_lookup.specs.declared.stretches.Kind.TheVariants as kind

-- whether a record is of the kind and covers the address
abbrev pub is_at : Kind → ℕ → SymLine → Bool
is_at kind.Functions x s = is_func_at x s
is_at kind.Inits x s = is_init_at x s
is_at kind.Lines x s = is_line_at x s
is_at (kind.Level level) x s = is_inline_at level x s

abbrev pub init_run : SymLine → List Extent
init_run (Init address size rules) = record { address = address; size = size } ∷ []
init_run _ = []

abbrev pub level_ranges : ℕ → SymLine → List Extent
level_ranges level (Inline own line file origin ranges) = if own == level then ranges else []
level_ranges level _ = []

-- the ranges of a record of the kind
abbrev pub extents_of : Kind → SymLine → List Extent
extents_of kind.Functions s = func_run s
extents_of kind.Inits s = init_run s
extents_of kind.Lines s = line_run s
extents_of (kind.Level level) s = level_ranges level s

-- the stretch of a range, which ends at 2^64 - 1 at the latest; none for an empty range
abbrev pub stretch_of : ℕ → Extent → List Stretch
stretch_of n e = if e.size == 0 then [] else record { first = e.address; last = min (e.address + (e.size - 1)) (2 ^ 64 - 1); index = n; class = 0 } ∷ []

abbrev pub extent_stretches : ℕ → List Extent → List Stretch
extent_stretches n [] = []
extent_stretches n (e ∷ extents) = stretch_of n e ++ extent_stretches n extents

-- the stretches of the records of a kind; the index of a stretch is the place of its record
abbrev pub stretches_of : Kind → ℕ → List SymLine → List Stretch
stretches_of kind n [] = []
stretches_of kind n (s ∷ records) = extent_stretches n (extents_of kind s) ++ stretches_of kind (n + 1) records
