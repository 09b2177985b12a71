-- What was fed to a reader of a file in a store.
use Rattle.std.specs.Prelude.{◌≡◌, ℕ, ◌^◌, ⊤, List, [], ◌++◌, length, Option, None, Result, Ok, Err, take}
use Rattle.sym_edges.specs.Outside.{Rose}
use Rattle.sym_edges.specs.WholeFile.{IsParted}
use Rattle.sym_edges.specs.declared.fault.Stop.{Stop}
use Rattle.sym_edges.specs.declared.fault.Stop.TheVariants.{Fault, NoMemory}
use Rattle.sym_rules.specs.declared.text_fault.TextFault.{TextFault}
use Rattle.sym_records.specs.Reading.{reading}
use Rattle.sym_records.specs.declared.line.SymLine.{SymLine}
use Rattle.sym_grammar.specs.Answer.{Reads, answer, lifted}
use Rattle.sym_grammar.specs.Input.{decided, nothing, IsReading}
use Rattle.sym_grammar.specs.declared.refusal.SymEnd.{SymEnd}
use Rattle.sym_grammar.specs.declared.refusal.SymEnd.TheVariants.{Unread, Refused}
use Rattle.sym_grammar.specs.declared.refusal.SymRefusal.TheVariants.{TooLong, Text}

-- these bytes were fed to a reader, which found no fault in them
pub record WasFed (reader : Reads) (bytes : List ℕ) : Type 0 where
  pub answers : (more : List ℕ) → answer reader more ≡ lifted (reading (bytes ++ more))
  pub decides : decided (2 ^ 20) nothing bytes ≡ Ok reader.part
  pub going : reader.stop ≡ None

-- `count` bytes of the file were read, and the first of them, at most `limit`, were fed to the
-- reader
pub record HasRead (limit : ℕ) (left left_after : Option (List ℕ)) (reader : Reads) (count : ℕ) : Type 0 where
  pub bytes : List ℕ
  pub counted : length bytes ≡ count
  pub parted : IsParted left bytes left_after
  pub fed : WasFed reader (take limit bytes)

-- what each result of reading the rest of a file means
abbrev pub SymRest : Result (List SymLine) (Stop SymEnd) → Option (List ℕ) → ℕ → ℕ → ℕ → Type 0
SymRest (Ok lines) left limit before after = IsReading limit (Ok lines) left
SymRest (Err (Fault Unread)) left limit before after = Rose before after
SymRest (Err (Fault (Refused why))) left limit before after = IsReading limit (Err why) left
SymRest (Err NoMemory) left limit before after = ⊤

-- why a reader stopped, as why the reading of a file stopped
abbrev pub refused_stop : Stop TextFault → Stop SymEnd
refused_stop (Fault fault) = Fault (Refused (Text fault))
refused_stop NoMemory = NoMemory

-- what the reader returns at the end of the text
abbrev pub EndsAs : Result (List SymLine) (Stop SymEnd) → Reads → Type 0
EndsAs (Ok lines) reader = answer reader [] ≡ Ok lines
EndsAs (Err (Fault Unread)) reader = ⊥
EndsAs (Err (Fault (Refused TooLong))) reader = ⊥
EndsAs (Err (Fault (Refused (Text fault)))) reader = answer reader [] ≡ Err (Fault fault)
EndsAs (Err NoMemory) reader = ⊤
