-- A table of files with their names as keys.
use Rattle.std.specs.Prelude.{ℕ, List, map}
use Rattle.std.specs.BTreeMap.{BTreeMap}
use Rattle.std.specs.Global.{Vec}
use Rattle.module_stacks.specs.SymbolFiles.{Found}

abbrev pub named : Vec ℕ × Found → List ℕ × Found
named entry = (entry.0.items, entry.1)

-- the names of a table, each with what was found under it
abbrev pub names_of : BTreeMap (Vec ℕ) Found → List (List ℕ × Found)
names_of files = map {B = List ℕ × Found} named files.entries
