-- Units of which the same is kept: the same entries with the same addresses, and line tables that say the same.
use Rattle.std.specs.Prelude.{◌≡◌, ℕ, ◌<◌, ◌^◌, Result, Ok, Err}
use Rattle.sym_edges.specs.declared.located.Located.{Located}
use Rattle.abbrev_units.specs.declared.fault.DwarfKind.{DwarfKind}
use Rattle.line_program.specs.LineMaps.{LineMap, named_line, numbered_line}
use Rattle.debug_units.specs.declared.unit_read.UnitRead.{UnitRead}
use Rattle.debug_units.specs.CallPaths.{file_path}

-- two line tables say the same: path and line of each address below 2^64, and the path of each file
pub record SameLines (x y : LineMap) : Type 0 where
  pub line : (a : ℕ) → a < 2 ^ 64 → named_line x.paths (numbered_line x a) ≡ named_line y.paths (numbered_line y a)
  pub file : (file : ℕ) → file_path x file ≡ file_path y file

-- two units have the same entries with the same sets of addresses, and line tables that say the same
pub record SameUnit (u w : UnitRead) : Type 0 where
  pub die : u.die ≡ w.die
  pub spans : u.spans ≡ w.spans
  pub lines : SameLines u.lines w.lines

-- two results of reading a unit: the same fault, or units of which the same is kept
abbrev pub SameAnswers : Result UnitRead (Located DwarfKind) → Result UnitRead (Located DwarfKind) → Type 0
SameAnswers (Ok u) (Ok w) = SameUnit u w
SameAnswers (Err fault) (Err other) = fault ≡ other
SameAnswers _ _ = ⊥
