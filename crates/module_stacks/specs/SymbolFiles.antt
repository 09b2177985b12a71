-- What a store gave under the names for which it was asked, and the files that agree with it.
use Rattle.std.specs.Prelude.{◌≡◌, ◌⊎◌, ℕ, ◌≤◌, ◌^◌, true, false, is_some, List, [], ◌∷◌, ◌++◌, Option, None, Some, Result, Ok, Err, if◌then◌else◌}
use Rattle.std.specs.List.{AllByRecursion, list_any}
use Rattle.std.specs.Str.{bytes_eq}
use Rattle.sym_edges.specs.Outside.{Files, Tells, Rose}
use Rattle.sym_edges.specs.declared.fault.OutOfMemory.{OutOfMemory}
use Rattle.sym_edges.specs.WholeFile.{HoldsFile}
use Rattle.sym_records.specs.declared.line.SymLine.{SymLine}
use Rattle.sym_grammar.specs.Input.{file_reading, IsReading}
use Rattle.sym_grammar.specs.declared.refusal.SymRefusal.{SymRefusal}

-- what is found under a name: nothing that can be read, or the reading of a symbol file of at most 2^29 bytes
abbrev pub Found : Type 0
Found = Option (Result (List SymLine) SymRefusal)

abbrev pub found_in : Option (List ℕ) → Found
found_in None = None
found_in (Some bytes) = Some (file_reading (2 ^ 29) bytes)

-- what was found under each name that was asked for
abbrev pub Seen : Type 0
Seen = List ℕ → Option Found

abbrev pub seen_in : List (List ℕ × Found) → Seen
seen_in [] name = None
seen_in (known ∷ names) name = if bytes_eq name known.0 then Some known.1 else seen_in names name

-- under each name that was asked for, the files have what was found
abbrev pub Agrees : Files → Seen → Type 0
Agrees got seen = (name : List ℕ) (found : Found) → seen name ≡ Some found → found_in (got name) ≡ found

-- the files without those with the names `missed`
abbrev pub without : List (List ℕ) → Files → Files
without missed files name = if list_any (bytes_eq name) missed then None else files name

-- the count of faults: if calls failed, it rose; if none failed, it is unchanged
abbrev pub Counted : List (List ℕ) → ℕ → ℕ → Type 0
Counted [] before now = now ≡ before
Counted (name ∷ missed) before now = Rose before now

-- the files of a run: if the files of the store are known, they are these, but without the names
-- `missed`, at which a call failed
pub record Had (files : Option Files) (before now : ℕ) (seen : Seen) (got : Files) (missed : List (List ℕ)) : Type 0 where
  pub told : Tells files (λ f. (name : List ℕ) → got name ≡ without missed f name)
  pub counted : Counted missed before now
  pub asked : (name : List ℕ) → list_any (bytes_eq name) missed ≡ true → is_some (seen name) ≡ true

-- some files of the run agree with what was found
pub record Knows (files : Option Files) (before now : ℕ) (seen : Seen) : Type 0 where
  pub got : Files
  pub missed : List (List ℕ)
  pub had : Had files before now seen got missed
  pub agrees : Agrees got seen

-- what a call found under a name. If it found nothing, it failed. Otherwise it found the reading of
-- the file; if the files are not known, of unknown bytes
abbrev pub IsFound : Found → Option Files → List ℕ → ℕ → ℕ → Type 0
IsFound None files name before after = Rose before after
IsFound (Some read) files name before after = (after ≡ before) × HoldsFile files name (IsReading (2 ^ 29) read)

-- one more name was asked for; if memory ran out, perhaps it was not
abbrev pub AsksNew : {A : Type 0} → Result A OutOfMemory → List (List ℕ) → List ℕ → List (List ℕ) → Type 0
AsksNew (Ok x) before name after = after ≡ before ++ name ∷ []
AsksNew (Err fault) before name after = (after ≡ before ++ name ∷ []) ⊎ (after ≡ before)

-- no name is in the list twice, and none was asked for before
abbrev pub AreNew : Seen → List (List ℕ) → Type 0
AreNew old [] = Unit {0}
AreNew old (name ∷ names) = (old name ≡ None) × ((list_any (bytes_eq name) names ≡ false) × AreNew old names)

-- each of the names was asked for
abbrev pub AreSeen : Seen → List (List ℕ) → Type 0
AreSeen new [] = Unit {0}
AreSeen new (name ∷ names) = (is_some (new name) ≡ true) × AreSeen new names

-- the names that were asked for are new, and P holds for each
abbrev pub AsksFresh : (List ℕ → Type 0) → Seen → List (List ℕ) → List (List ℕ) → Type 0
AsksFresh P old asked after = (names : List (List ℕ)) × ((after ≡ asked ++ names) × (AreNew old names × AllByRecursion P names))

-- what was found before stays. It is now also known what was found under the new names that were
-- asked for, and under no others. If some files agreed with what was known before, then some files
-- agree with all that is known now
pub record Learns (P : List ℕ → Type 0) (files : Option Files) (asked after : List (List ℕ)) (faults now : ℕ) (old new : Seen) : Type 0 where
  pub stays : (name : List ℕ) (found : Found) → old name ≡ Some found → new name ≡ Some found
  pub names : List (List ℕ)
  pub asks : after ≡ asked ++ names
  pub fresh : AreNew old names
  pub are : AllByRecursion P names
  pub seen : AreSeen new names
  pub only : (name : List ℕ) → is_some (new name) ≡ true → list_any (bytes_eq name) names ≡ false → is_some (old name) ≡ true
  pub knows : (before : ℕ) → before ≤ faults → Knows files before faults old → Knows files before now new
