-- Reading the rest of a core file from a store.
use Rattle.std.specs.Prelude.{◌≡◌, ℕ, false, List, Option, Result, Ok, Err}
use Rattle.sym_edges.specs.Outside.{Rose}
use Rattle.sym_edges.specs.WholeFile.{IsParted}
use Rattle.sym_edges.specs.declared.fault.Stop.{Stop}
use Rattle.sym_edges.specs.declared.fault.Stop.TheVariants.{Fault, NoMemory}
use Rattle.sym_edges.specs.declared.whole_file.ReadEnd.{ReadEnd}
use Rattle.sym_edges.specs.declared.whole_file.ReadEnd.TheVariants.{CantOpen, CantRead, TooLong}
use Rattle.core_file.specs.HeldBlocks.{is_too_long}
use Rattle.core_file.specs.StoredFile.{IsHeld, IsPast}

-- these bytes were read from the rest of the file, and they are not too many
abbrev pub HasTaken : Option (List ℕ) → Option (List ℕ) → List ℕ → Type 0
HasTaken left left_after bytes = IsParted left bytes left_after × (is_too_long bytes ≡ false)

abbrev pub HeldRest : Result (List ℕ) (Stop ReadEnd) → Option (List ℕ) → ℕ → ℕ → Type 0
HeldRest (Ok bytes) left before after = IsHeld bytes left
HeldRest (Err (Fault CantOpen)) left before after = ⊥
HeldRest (Err (Fault CantRead)) left before after = Rose before after
HeldRest (Err (Fault TooLong)) left before after = IsPast left
HeldRest (Err NoMemory) left before after = Unit {0}
