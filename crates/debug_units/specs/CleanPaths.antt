-- The paths of line tables, cleaned for records.
use Rattle.std.specs.Prelude.{List, [], ◌∷◌}
use Rattle.clean_names.specs.Cleaning.{AreClean}
use Rattle.debug_units.specs.declared.unit_read.UnitRead.{UnitRead}

-- the paths of all line tables are cleaned
abbrev pub HaveCleanPaths : List UnitRead → Type 0
HaveCleanPaths [] = Prim.Unit {0}
HaveCleanPaths (u ∷ units) = AreClean u.lines.paths × HaveCleanPaths units
