use Rattle.std.specs.Prelude.{◌≡◌, ◌⊎◌, ℕ, ◌<◌, ◌≤◌, List, [], ◌∷◌, ◌++◌, Option, Some, None, Result, Ok, Err, length}
use Rattle.sym_edges.specs.Outside.{Files, Rose}
use Rattle.sym_edges.specs.declared.fault.Stop.{Stop}
use Rattle.sym_edges.specs.declared.fault.Stop.TheVariants.{Fault, NoMemory}
use Rattle.sym_edges.specs.declared.whole_file.ReadEnd.{ReadEnd}
use Rattle.sym_edges.specs.declared.whole_file.ReadEnd.TheVariants.{CantOpen, CantRead, TooLong}

-- the store was asked for the name once; if memory ran out, it may not have been asked
abbrev pub AsksOnce : Result (List ℕ) (Stop ReadEnd) → List (List ℕ) → List ℕ → List (List ℕ) → Type 0
AsksOnce (Ok bytes) before name after = after ≡ before ++ name ∷ []
AsksOnce (Err (Fault end)) before name after = after ≡ before ++ name ∷ []
AsksOnce (Err NoMemory) before name after = (after ≡ before ++ name ∷ []) ⊎ (after ≡ before)

-- at most `limit` bytes were read; if the bytes of the file are known, they are the bytes that were
-- read
abbrev pub IsWhole : Option (List ℕ) → List ℕ → ℕ → Type 0
IsWhole None bytes limit = length bytes ≤ limit
IsWhole (Some whole) bytes limit = (whole ≡ bytes) × (length bytes ≤ limit)

-- if the bytes of the file are known, there are more than `limit` of them
abbrev pub IsLonger : Option (List ℕ) → ℕ → Type 0
IsLonger None limit = Unit {0}
IsLonger (Some whole) limit = limit < length whole

-- if the bytes of the file are known, they are the bytes that were read and then the bytes that are left; otherwise what is left is not known
abbrev pub IsParted : Option (List ℕ) → List ℕ → Option (List ℕ) → Type 0
IsParted None bytes left = left ≡ None
IsParted (Some whole) bytes left = (rest : List ℕ) × (left ≡ Some rest) × (whole ≡ bytes ++ rest)

-- a suffix of the file is left, if its bytes are known
abbrev pub LeavesEnd : Option (List ℕ) → Option (List ℕ) → Type 0
LeavesEnd whole left = (bytes : List ℕ) × IsParted whole bytes left

-- the count of faults did not change, unless the file could not be opened or read
abbrev pub IsSteady : Result (List ℕ) (Stop ReadEnd) → ℕ → ℕ → Type 0
IsSteady (Ok bytes) before after = after ≡ before
IsSteady (Err (Fault CantOpen)) before after = Unit {0}
IsSteady (Err (Fault CantRead)) before after = Unit {0}
IsSteady (Err (Fault TooLong)) before after = after ≡ before
IsSteady (Err NoMemory) before after = after ≡ before

-- what holds for each result of reading the rest of a file
abbrev pub ReadRest : Result (List ℕ) (Stop ReadEnd) → Option (List ℕ) → Option (List ℕ) → ℕ → ℕ → ℕ → Type 0
ReadRest (Ok bytes) left left_after limit before after = IsWhole left bytes limit
ReadRest (Err (Fault CantOpen)) left left_after limit before after = ⊥
ReadRest (Err (Fault CantRead)) left left_after limit before after = Rose before after × LeavesEnd left left_after
ReadRest (Err (Fault TooLong)) left left_after limit before after = IsLonger left limit
ReadRest (Err NoMemory) left left_after limit before after = Unit {0}

-- if the files are known, a file with this name is there and `P` holds for its bytes; otherwise `P` holds for unknown bytes
abbrev pub HoldsFile : Option Files → List ℕ → (Option (List ℕ) → Type 0) → Type 0
HoldsFile None name P = P None
HoldsFile (Some files) name P = (bytes : List ℕ) × (files name ≡ Some bytes) × P (Some bytes)

-- if the files are known, a file with this name is there, and a suffix of it is left
abbrev pub StopsInside : Option Files → List ℕ → Option (List ℕ) → Type 0
StopsInside None name left = Unit {0}
StopsInside (Some files) name left = (bytes : List ℕ) × (files name ≡ Some bytes) × LeavesEnd (Some bytes) left

-- what holds for each result of reading the file with this name. If it cannot be opened, what was left of another file is still left. If it cannot be
-- read, it was opened before
abbrev pub ReadAll : Result (List ℕ) (Stop ReadEnd) → Option Files → List ℕ → ℕ → Option (List ℕ) → Option (List ℕ) → ℕ → ℕ → Type 0
ReadAll (Ok bytes) files name limit left left_after before after = HoldsFile files name (λ whole. IsWhole whole bytes limit)
ReadAll (Err (Fault CantOpen)) files name limit left left_after before after = Rose before after × (left_after ≡ left)
ReadAll (Err (Fault CantRead)) files name limit left left_after before after = Rose before after × StopsInside files name left_after
ReadAll (Err (Fault TooLong)) files name limit left left_after before after = HoldsFile files name (λ whole. IsLonger whole limit)
ReadAll (Err NoMemory) files name limit left left_after before after = Unit {0}
