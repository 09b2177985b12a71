-- The reading of a symbol file whose size is limited, and the result of a call that reads the file
-- from a store.
use Rattle.std.specs.Prelude.{◌≡◌, ◌⊎◌, ℕ, ◌^◌, ⊤, nat_lt, if◌then◌else◌, List, [], ◌∷◌, ◌++◌, length, take, Option, Some, None, Result, Ok, Err}
use Rattle.sym_edges.specs.Outside.{Files, Rose}
use Rattle.sym_edges.specs.WholeFile.{HoldsFile}
use Rattle.sym_edges.specs.declared.fault.Stop.{Stop}
use Rattle.sym_edges.specs.declared.fault.Stop.TheVariants.{Fault, NoMemory}
use Rattle.sym_rules.specs.declared.text_fault.TextFault.{TextFault}
use Rattle.sym_rules.specs.declared.text_fault.TextKind.TheVariants.{LongLine}
use Rattle.sym_records.specs.Reading.{Seen, start, next_number, with_lines, reading}
use Rattle.sym_records.specs.declared.line.SymLine.{SymLine}
use Rattle.sym_grammar.specs.Answer.{Part, whole_lines, open_line}
use Rattle.sym_grammar.specs.declared.refusal.SymRefusal.{SymRefusal}
use Rattle.sym_grammar.specs.declared.refusal.SymRefusal.TheVariants.{TooLong, Text}
use Rattle.sym_grammar.specs.declared.refusal.SymEnd.{SymEnd}
use Rattle.sym_grammar.specs.declared.refusal.SymEnd.TheVariants.{Unread, Refused}

-- the result that bytes decide, whatever follows them: that of their whole lines, or the fault that
-- the start of the next line is too long
abbrev pub with_front : ℕ → Result Seen TextFault → List ℕ → Result Part TextFault
with_front limit (Err fault) held = Err fault
with_front limit (Ok seen) held =
    if nat_lt limit (length held) then Err (record { kind = LongLine; line = next_number seen.number })
    else Ok (record { seen = seen; held = held })

unfoldable pub decided : ℕ → Part → List ℕ → Result Part TextFault
decided limit part bytes = with_front limit (with_lines limit part.seen (whole_lines (part.held ++ bytes))) (open_line (part.held ++ bytes))

-- P holds if there is no value
abbrev pub IfNone : {A : Type 0} → Option A → Type 0 → Type 0
IfNone None P = P
IfNone (Some x) P = ⊤

-- the state before the first byte
abbrev pub nothing : Part
nothing = record { seen = start; held = [] }

-- the reading of a file that is not too long
abbrev pub whole_reading : Result (List SymLine) TextFault → Result (List SymLine) SymRefusal
whole_reading (Ok lines) = Ok lines
whole_reading (Err fault) = Err (Text fault)

-- a file that is too long is refused for its length, unless its first `limit` bytes already decide
-- a fault
abbrev pub front_reading : Result Part TextFault → Result (List SymLine) SymRefusal
front_reading (Ok part) = Err TooLong
front_reading (Err fault) = Err (Text fault)

-- the reading of a file that may have at most `limit` bytes
unfoldable pub file_reading : ℕ → List ℕ → Result (List SymLine) SymRefusal
file_reading limit bytes = if nat_lt limit (length bytes) then front_reading (decided (2 ^ 20) nothing (take limit bytes)) else whole_reading (reading bytes)

-- if the bytes of the file are known, the result is the reading of these, otherwise that of some
-- bytes
abbrev pub IsReading : ℕ → Result (List SymLine) SymRefusal → Option (List ℕ) → Type 0
IsReading limit read None = (bytes : List ℕ) × (file_reading limit bytes ≡ read)
IsReading limit read (Some bytes) = file_reading limit bytes ≡ read

-- what each result of reading the file `name` means
abbrev pub SymRead : Result (List SymLine) (Stop SymEnd) → Option Files → List ℕ → ℕ → ℕ → ℕ → Type 0
SymRead (Ok lines) files name limit before after = HoldsFile files name (IsReading limit (Ok lines))
SymRead (Err (Fault Unread)) files name limit before after = Rose before after
SymRead (Err (Fault (Refused why))) files name limit before after = HoldsFile files name (IsReading limit (Err why))
SymRead (Err NoMemory) files name limit before after = ⊤

-- the store's count of faults is unchanged, unless the file could not be opened or read
abbrev pub IsSteadyRead : Result (List SymLine) (Stop SymEnd) → ℕ → ℕ → Type 0
IsSteadyRead (Ok lines) before after = after ≡ before
IsSteadyRead (Err (Fault Unread)) before after = Unit {0}
IsSteadyRead (Err (Fault (Refused why))) before after = after ≡ before
IsSteadyRead (Err NoMemory) before after = after ≡ before

-- the name was asked for once; if memory ran out, it was asked for at most once
abbrev pub AsksName : {A F : Type 0} → Result A (Stop F) → List (List ℕ) → List ℕ → List (List ℕ) → Type 0
AsksName (Ok x) before name after = after ≡ before ++ name ∷ []
AsksName (Err (Fault f)) before name after = after ≡ before ++ name ∷ []
AsksName (Err NoMemory) before name after = (after ≡ before ++ name ∷ []) ⊎ (after ≡ before)
