-- What is kept of a file, and of a file with its supplementary file, before its frame entries are read.
use Rattle.std.specs.Prelude.{◌≡◌, List}
use Rattle.sym_edges.specs.Addresses.{Range}
use Rattle.debug_read.specs.declared.units.FileRead.{FileRead}
use Rattle.debug_read.specs.declared.units.BothRead.{BothRead}
use Rattle.debug_read.specs.Each.{Match}
use Rattle.debug_read.specs.DebugSays.{FileSays, BothSays}
use Rattle.debug_read.specs.UnitsRead.{IsUnitRead}

pub record IsFileRead (code : List Range) (says : FileSays) (file : FileRead) : Type 0 where
  pub headers : file.headers ≡ says.headers
  pub units : Match (IsUnitRead code) says.units file.parts.items

pub record IsBothRead (code : List Range) (says : BothSays) (both : BothRead) : Type 0 where
  pub headers : both.headers ≡ says.headers
  pub sup_headers : both.sup_headers ≡ says.sup_headers
  pub units : Match (IsUnitRead code) says.units both.units
