-- The result that a reader of a symbol file will return, given what it was fed and what may follow
-- (Breakpad's symbol_files.md).
use Rattle.std.specs.Prelude.{◌≡◌, ⊤, ℕ, ◌^◌, ◌≤◌, List, [], ◌∷◌, ◌++◌, length, Option, Some, None, Result, Ok, Err}
use Rattle.sym_edges.specs.Results.{◌>>=◌}
use Rattle.sym_edges.specs.declared.fault.Stop.{Stop}
use Rattle.sym_edges.specs.declared.fault.Stop.TheVariants.{Fault, NoMemory}
use Rattle.sym_rules.specs.Cuts.{split_lines}
use Rattle.sym_records.specs.Reading.{Seen, start, with_lines, some_records}
use Rattle.sym_records.specs.declared.line.SymLine.{SymLine}
use Rattle.sym_rules.specs.declared.text_fault.TextFault.{TextFault}

-- what was read so far: the result of the whole lines, and the start of a line that has not ended
pub record Part : Type 0 where
  pub seen : Seen
  pub held : List ℕ

-- the reading of the text, if `more` follows and the text then ends
unfoldable pub outcome : ℕ → Part → List ℕ → Result (List SymLine) TextFault
outcome limit part more = with_lines limit part.seen (split_lines (part.held ++ more)) >>= λ after. some_records after.records

-- a reader: what it read, and what stopped it
pub record Reads : Type 0 where
  pub part : Part
  pub stop : Option (Stop TextFault)

-- a reader that was fed nothing
abbrev pub fed_nothing : Reads
fed_nothing = record { part = record { seen = start; held = [] }; stop = None }

-- a reading as the result of a reader
abbrev pub lifted : Result (List SymLine) TextFault → Result (List SymLine) (Stop TextFault)
lifted (Ok lines) = Ok lines
lifted (Err fault) = Err (Fault fault)

-- the reading as a result, unless something stopped the reader
abbrev pub unless_stopped : Option (Stop TextFault) → Result (List SymLine) TextFault → Result (List SymLine) (Stop TextFault)
unless_stopped None read = lifted read
unless_stopped (Some stop) read = Err stop

-- the result of a reader, if `more` follows and the text then ends
unfoldable pub answer : Reads → List ℕ → Result (List SymLine) (Stop TextFault)
answer reads more = unless_stopped reads.stop (outcome (2 ^ 20) reads.part more)

-- a piece was fed. If the call succeeds, the new reader returns for `more` what the old reader
-- would have returned for the piece followed by `more`. If the call returns a fault, the old reader
-- would have returned this fault, whatever follows the piece
abbrev pub Feeds : {A : Type 0} → Result A (Stop TextFault) → Reads → List ℕ → Reads → Type 0
Feeds (Ok x) old piece new = (more : List ℕ) → answer new more ≡ answer old (piece ++ more)
Feeds (Err (Fault fault)) old piece new = (more : List ℕ) → answer old (piece ++ more) ≡ Err (Fault fault)
Feeds (Err NoMemory) old piece new = ⊤

-- all members of a list but the last; the last member
unfoldable pub but_last : {A : Type 0} → List A → List A
but_last [] = []
but_last (x ∷ []) = []
but_last (x ∷ y ∷ ys) = x ∷ but_last (y ∷ ys)

unfoldable pub last_line : List (List ℕ) → List ℕ
last_line [] = []
last_line (x ∷ []) = x
last_line (x ∷ y ∷ ys) = last_line (y ∷ ys)

-- the lines that have ended; the bytes after the last LF
unfoldable pub whole_lines : List ℕ → List (List ℕ)
whole_lines bytes = but_last (split_lines bytes)

unfoldable pub open_line : List ℕ → List ℕ
open_line bytes = last_line (split_lines bytes)

-- after a piece, each line that has ended was read, and the start of the next line is not too long.
-- So every fault that the bytes so far decide was found
pub record IsUpToDate (limit : ℕ) (old : Part) (piece : List ℕ) (new : Part) : Type 0 where
  pub lines : with_lines limit old.seen (whole_lines (old.held ++ piece)) ≡ Ok new.seen
  pub held : new.held ≡ open_line (old.held ++ piece)
  pub short : length new.held ≤ limit

-- what stopped a call, if anything did
abbrev pub stop_of : {A : Type 0} → Result A (Stop TextFault) → Option (Stop TextFault)
stop_of (Ok x) = None
stop_of (Err stop) = Some stop
