-- Reading a core file from a store.
use Rattle.std.specs.Prelude.{◌≡◌, ℕ, true, false, List, Option, Some, None, Result, Ok, Err}
use Rattle.sym_edges.specs.Outside.{Files, Rose}
use Rattle.sym_edges.specs.WholeFile.{HoldsFile}
use Rattle.sym_edges.specs.declared.fault.Stop.{Stop}
use Rattle.sym_edges.specs.declared.fault.Stop.TheVariants.{Fault, NoMemory}
use Rattle.sym_edges.specs.declared.whole_file.ReadEnd.{ReadEnd}
use Rattle.sym_edges.specs.declared.whole_file.ReadEnd.TheVariants.{CantOpen, CantRead, TooLong}
use Rattle.core_file.specs.HeldBlocks.{is_too_long}

-- these bytes are not too many, and they are the bytes of the file if those are known
abbrev pub IsHeld : List ℕ → Option (List ℕ) → Type 0
IsHeld bytes None = is_too_long bytes ≡ false
IsHeld bytes (Some whole) = (whole ≡ bytes) × (is_too_long bytes ≡ false)

-- the bytes of the file are too many; if they are not known, there are bytes that are too many
abbrev pub IsPast : Option (List ℕ) → Type 0
IsPast None = (bytes : List ℕ) × (is_too_long bytes ≡ true)
IsPast (Some whole) = is_too_long whole ≡ true

-- what reading the core file `name` returns, and when
abbrev pub HeldRead : Result (List ℕ) (Stop ReadEnd) → Option Files → List ℕ → ℕ → ℕ → Type 0
HeldRead (Ok bytes) files name before after = HoldsFile files name (IsHeld bytes)
HeldRead (Err (Fault CantOpen)) files name before after = Rose before after
HeldRead (Err (Fault CantRead)) files name before after = Rose before after
HeldRead (Err (Fault TooLong)) files name before after = HoldsFile files name IsPast
HeldRead (Err NoMemory) files name before after = Unit {0}
