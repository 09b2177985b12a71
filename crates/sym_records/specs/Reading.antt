-- The reading of a whole text (Breakpad's symbol_files.md): its records in order, or its first fault with the number of its line.
use Rattle.std.specs.Prelude.{ℕ, ◌+◌, ◌-◌, ◌^◌, ◌&&◌, Bool, true, false, not, min, nat_lt, if◌then◌else◌, List, [], ◌∷◌, ◌++◌, length, codes, Option, Some, None, Result, Ok, Err}
use Rattle.std.specs.Str.{bytes_eq}
use Rattle.sym_edges.specs.Results.{◌>>=◌}
use Rattle.sym_rules.specs.Cuts.{split_lines}
use Rattle.sym_records.specs.Places.{may_stand, place_behind_role}
use Rattle.sym_records.specs.Records.{role, keyword}
use Rattle.sym_records.specs.Text.{is_blank, key_of, line_read}
use Rattle.sym_records.specs.declared.line.SymLine.{SymLine}
use Rattle.sym_records.specs.declared.place.Place.{Place}
use Rattle.sym_records.specs.declared.place.Place.TheVariants.{Start, Inside, Function, Frame}
use Rattle.sym_rules.specs.declared.text_fault.TextFault.{TextFault}
use Rattle.sym_rules.specs.declared.text_fault.TextKind.{TextKind}
use Rattle.sym_rules.specs.declared.text_fault.TextKind.TheVariants.{Empty, Misplaced, LongLine, NoModule}

-- whether a record may be at a place
abbrev pub fits : Place → SymLine → Bool
fits place s = may_stand place (role (keyword s))

-- the place after a record
abbrev pub leads : Place → SymLine → Place
leads place s = place_behind_role place (role (keyword s))

-- what the lines so far gave: their records, the place after them, and the number of lines
pub record Seen : Type 0 where
  pub records : List SymLine
  pub place : Place
  pub number : ℕ

-- the number of the next line; it stays at the greatest u64
abbrev pub next_number : ℕ → ℕ
next_number number = min (number + 1) (2 ^ 64 - 1)

-- before the first line
abbrev pub start : Seen
start = record { records = []; place = Start; number = 0 }

abbrev pub is_start : Place → Bool
is_start Start = true
is_start Inside = false
is_start Function = false
is_start Frame = false

-- no record was read yet, and the line is neither blank nor begins with the word MODULE
unfoldable pub lacks_module : Place → List ℕ → Bool
lacks_module place line = is_start place && not (is_blank line) && not (bytes_eq (key_of line) (codes "MODULE"))

-- what was read, with the record of one more line, if the line has one
abbrev pub with_record : Seen → Option SymLine → Result Seen TextKind
with_record seen None = Ok (record seen { number = next_number seen.number })
with_record seen (Some s) =
    if fits seen.place s then Ok (record { records = seen.records ++ s ∷ []; place = leads seen.place s; number = next_number seen.number })
    else Err Misplaced

-- what was read, with one more line; faults are looked for in the order below
unfoldable pub with_text : ℕ → Seen → List ℕ → Result Seen TextKind
with_text limit seen line =
    if nat_lt limit (length line) then Err LongLine
    else if lacks_module seen.place line then Err NoModule
    else line_read line >>= with_record seen

-- a fault gets the number of its line
abbrev pub numbered : {A : Type 0} → ℕ → Result A TextKind → Result A TextFault
numbered number (Ok x) = Ok x
numbered number (Err kind) = Err (record { kind = kind; line = number })

unfoldable pub with_lines : ℕ → Seen → List (List ℕ) → Result Seen TextFault
with_lines limit seen [] = Ok seen
with_lines limit seen (line ∷ lines) = numbered (next_number seen.number) (with_text limit seen line) >>= λ after. with_lines limit after lines

-- the records, or a fault if there is none
abbrev pub some_records : List SymLine → Result (List SymLine) TextFault
some_records [] = Err (record { kind = Empty; line = 1 })
some_records (s ∷ records) = Ok (s ∷ records)

-- the reading of a text whose lines have at most `limit` bytes each, without LF
unfoldable pub reading_within : ℕ → List ℕ → Result (List SymLine) TextFault
reading_within limit bytes = with_lines limit start (split_lines bytes) >>= λ after. some_records after.records

-- the reading of a text; a line has at most 2^20 bytes
unfoldable pub reading : List ℕ → Result (List SymLine) TextFault
reading bytes = reading_within (2 ^ 20) bytes
