-- What is observed of the store and of a sink, before and after a run.
use Rattle.std.specs.Prelude.{◌≡◌, ◌⊎◌, ℕ, ◌+◌, ◌^◌, ◌<◌, ◌≤◌, true, false, List, [], ◌∷◌, ◌++◌, Option, Some, length, take}
use Rattle.std.specs.List.{AllByRecursion, list_any}
use Rattle.std.specs.Str.{bytes_eq}
use Rattle.sym_edges.specs.Outside.{Files, Rose, AddsFront, append_told}
use Rattle.dumpsyms_cmd.specs.Verdict.{Verdict}
use Rattle.debug_pair.specs.SymbolPath.{symbol_path}
use Rattle.module_stacks.specs.SymbolFiles.{Counted}
use Rattle.dumpsyms_cmd.specs.ElfInput.{Untold}
use Rattle.dumpsyms_cmd.specs.Words.{Asked, files_of, stacks}

-- a store: its files, if they are known (the system's are not); the names that it was asked for and its count of faults, before and after
pub record StoreSeen : Type 0 where
  pub files : Option Files
  pub asked : List (List ℕ)
  pub asked_after : List (List ℕ)
  pub faults : ℕ
  pub faults_after : ℕ

-- a sink: the bytes that it took, if they are known, and its count of faults, before and after
pub record SinkSeen : Type 0 where
  pub taken : Option (List ℕ)
  pub taken_after : Option (List ℕ)
  pub faults : ℕ
  pub faults_after : ℕ

-- the store failed, or the sink failed: its count of faults rose
abbrev pub StoreFailed : StoreSeen → Type 0
StoreFailed store = Rose store.faults store.faults_after

abbrev pub SinkFailed : SinkSeen → Type 0
SinkFailed sink = Rose sink.faults sink.faults_after

-- a count did not rise, and is not the greatest u64
abbrev pub Stood : ℕ → ℕ → Type 0
Stood before after = (after ≡ before) × (before + 1 < 2 ^ 64)

abbrev pub StoreStood : StoreSeen → Type 0
StoreStood store = Stood store.faults store.faults_after

abbrev pub SinkStood : SinkSeen → Type 0
SinkStood sink = Stood sink.faults sink.faults_after

-- the sink took exactly this text, a prefix of it, or nothing
abbrev pub Received : SinkSeen → List ℕ → Type 0
Received sink text = sink.taken_after ≡ append_told sink.taken text

abbrev pub ReceivedFront : SinkSeen → List ℕ → Type 0
ReceivedFront sink text = AddsFront sink.taken sink.taken_after text

abbrev pub ReceivedNothing : SinkSeen → Type 0
ReceivedNothing sink = sink.taken_after ≡ sink.taken

-- both sinks received the texts of a verdict whole
pub record ReceivedWhole (out err : SinkSeen) (v : Verdict) : Type 0 where
  pub out_text : Received out v.out
  pub err_text : Received err v.err

-- both sinks received prefixes of the verdict's texts. The prefix on err is empty unless the text on out is whole
pub record ReceivedFronts (out err : SinkSeen) (v : Verdict) : Type 0 where
  pub out_text : ReceivedFront out v.out
  pub err_text : ReceivedFront err v.err
  pub order : ReceivedNothing err ⊎ Received out v.out

-- a prefix of these names was asked for
abbrev pub Asks : List (List ℕ) → List (List ℕ) → List (List ℕ) → Type 0
Asks names before after = (n : ℕ) × (n ≤ length names) × (after ≡ before ++ take n names)

-- no name is in the list twice
abbrev pub AreOnce : List (List ℕ) → Type 0
AreOnce [] = Unit {0}
AreOnce (name ∷ names) = (list_any (bytes_eq name) names ≡ false) × AreOnce names

-- the name is the path of a symbol file in the folder, made of the name and the identity of some module
abbrev pub IsSymbolFile : List ℕ → List ℕ → Type 0
IsSymbolFile folder name = (module_is : List ℕ) × ((identity : List ℕ) × (name ≡ symbol_path folder module_is identity))

-- the names asked for after a command's own files: `stacks` asks for symbol files, for each once; no other command asks for any
abbrev pub AreFurther : Option Asked → List (List ℕ) → Type 0
AreFurther (Some (stacks core folder)) names = AreOnce names × AllByRecursion (IsSymbolFile folder) names
AreFurther command names = names ≡ []

-- a prefix of the names of a command's files was asked for. If the store's files are not known, the debug file's name is that for some build id, and
-- the supplementary file's name is that for some link
pub record AsksRow (command : Option Asked) (files : Option Files) (before after : List (List ℕ)) : Type 0 where
  pub untold : Untold
  pub further : List (List ℕ)
  pub are : AreFurther command further
  pub asks : Asks (files_of command files untold ++ further) before after

abbrev pub AsksFor : StoreSeen → Option Asked → Type 0
AsksFor store command = AsksRow command store.files store.asked store.asked_after

-- the names at which a call of the store failed. Each counts as a missing file: a symbol file that cannot be read does not end `stacks`, but raises
-- the count of faults. Any other command that judges has no such name
abbrev pub Misses : Option Asked → StoreSeen → List (List ℕ) → Type 0
Misses (Some (stacks core folder)) store missed =
    Counted missed store.faults store.faults_after × ((name : List ℕ) → list_any (bytes_eq name) missed ≡ true → list_any (bytes_eq name) store.asked_after ≡ true)
Misses command store missed = (missed ≡ []) × (store.faults_after ≡ store.faults)

-- the store did not fail, which is promised of a run without enough memory; of `stacks` this says
-- nothing
abbrev pub IsSteady : Option Asked → StoreSeen → Type 0
IsSteady (Some (stacks core folder)) store = Unit {0}
IsSteady command store = store.faults_after ≡ store.faults
