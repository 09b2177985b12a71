use Rattle.std.specs.Prelude.{◌≡◌, ℕ, ◌+◌, ◌^◌, ◌<◌, ◌≤◌, ◌↔◌, List, [], ◌++◌, Option, Some, None, Result, Ok, Err, length, take, drop}
use Rattle.sym_edges.specs.declared.fault.Stop.{Stop}
use Rattle.sym_edges.specs.declared.fault.Stop.TheVariants.{Fault, NoMemory}

-- if the call gave a value, `P` holds for it; if it ended with a fault of its own, `Q` holds for
-- the fault; if memory ran out, `R` holds
abbrev pub MatchStop : {A F : Type 0} → Result A (Stop F) → (A → Type 0) → (F → Type 0) → Type 0 → Type 0
MatchStop (Ok x) P Q R = P x
MatchStop (Err (Fault f)) P Q R = Q f
MatchStop (Err NoMemory) P Q R = R

-- if the call ended with a fault of its own, `P` holds
abbrev pub OnFault : {A F : Type 0} → Result A (Stop F) → Type 0 → Type 0
OnFault (Ok x) P = Unit {0}
OnFault (Err (Fault f)) P = P
OnFault (Err NoMemory) P = Unit {0}

-- if the call ended with a fault of its own, `P` holds for this fault
abbrev pub IfFault : {A F : Type 0} → Result A (Stop F) → (F → Type 0) → Type 0
IfFault (Ok x) P = Unit {0}
IfFault (Err (Fault f)) P = P f
IfFault (Err NoMemory) P = Unit {0}

-- if memory ran out, `P` holds
abbrev pub OnNoMemory : {A F : Type 0} → Result A (Stop F) → Type 0 → Type 0
OnNoMemory (Ok x) P = Unit {0}
OnNoMemory (Err (Fault f)) P = Unit {0}
OnNoMemory (Err NoMemory) P = P

-- if a value is known, `P` holds for it; otherwise nothing is claimed
abbrev pub Tells : {A : Type 0} → Option A → (A → Type 0) → Type 0
Tells None P = Unit {0}
Tells (Some x) P = P x

-- the files of a store: for each name the bytes of its file, or none if there is no such file
abbrev pub Files : Type 0
Files = List ℕ → Option (List ℕ)

-- the file is there, and all of its bytes are left
abbrev pub OpensFile : Option (List ℕ) → Option (List ℕ) → Type 0
OpensFile None left = ⊥
OpensFile (Some bytes) left = left ≡ Some bytes

-- if the files are known: the file with this name is there, and all of its bytes are left
abbrev pub Opens : Option Files → List ℕ → Option (List ℕ) → Type 0
Opens None name left = Unit {0}
Opens (Some files) name left = OpensFile (files name) left

-- `n` bytes were read into a buffer of `room` bytes. They are the first bytes of what was left. If the buffer is not empty, `n` is 0 exactly if
-- nothing was left
pub record ReadsFront (before : List ℕ) (n room : ℕ) (bytes : List ℕ) (after : Option (List ℕ)) : Type 0 where
  pub front : bytes ≡ take n before
  pub rest : after ≡ Some (drop n before)
  pub ended : 0 < room → (n ≡ 0) ↔ (before ≡ [])
  pub inside : n ≤ length before

-- `ReadsFront` holds, if what was left is known; otherwise what is left afterwards is not known
-- either
abbrev pub Reads : Option (List ℕ) → ℕ → ℕ → List ℕ → Option (List ℕ) → Type 0
Reads None n room bytes after = after ≡ None
Reads (Some before) n room bytes after = ReadsFront before n room bytes after

-- what a sink holds after it took a piece, if its bytes are known
abbrev pub append_told : Option (List ℕ) → List ℕ → Option (List ℕ)
append_told None piece = None
append_told (Some held) piece = Some (held ++ piece)

-- a count rose, unless it was at the greatest u64
abbrev pub Rose : ℕ → ℕ → Type 0
Rose before after = before + 1 < 2 ^ 64 → before < after

-- a prefix of `bytes` was added to what the sink holds
pub record AddsFront (before after : Option (List ℕ)) (bytes : List ℕ) : Type 0 where
  pub count : ℕ
  pub within : count ≤ length bytes
  pub added : after ≡ append_told before (take count bytes)
