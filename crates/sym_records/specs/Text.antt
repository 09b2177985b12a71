-- The reading of a line of a symbol file (Breakpad's symbol_files.md): its first words say which
-- record it is, and the fields follow them.
use Rattle.std.specs.Prelude.{ℕ, Bool, nat_lt, if◌then◌else◌, List, codes, Option, Some, None, Result, Ok, Err}
use Rattle.std.specs.List.{list_all}
use Rattle.std.specs.Char.{digit_value}
use Rattle.std.specs.Str.{bytes_eq}
use Rattle.sym_edges.specs.Results.{◌>>=◌}
use Rattle.sym_rules.specs.Cuts.{is_space, is_cr, is_margin, before, from, skip, trim_end}
use Rattle.sym_rules.specs.declared.text_fault.TextKind.{TextKind}
use Rattle.sym_rules.specs.declared.text_fault.TextKind.TheVariants as fault
use Rattle.sym_records.specs.FieldReading.{fields_at}
use Rattle.sym_records.specs.Records.{layout, made}
use Rattle.sym_records.specs.declared.line.SymLine.{SymLine}
use Rattle.sym_records.specs.declared.keyword.Keyword.{Keyword}
use Rattle.sym_records.specs.declared.keyword.Keyword.TheVariants as key

-- the next word, and the bytes after it
abbrev pub next_word : List ℕ → List ℕ
next_word bytes = before 32 (skip is_space bytes)

abbrev pub behind_word : List ℕ → List ℕ
behind_word bytes = from 32 (skip is_space bytes)

-- a blank line has only spaces and CRs; it counts as a line and has no record
abbrev pub is_blank : List ℕ → Bool
is_blank line = list_all is_margin line

-- a line without the CRs at its end and the spaces at its start
abbrev pub trimmed : List ℕ → List ℕ
trimmed line = skip is_space (trim_end is_cr line)

-- the first word of a line
unfoldable pub key_of : List ℕ → List ℕ
key_of line = before 32 (trimmed line)

-- a hexadecimal digit, in upper or lower case
abbrev pub is_hex_digit : ℕ → Bool
is_hex_digit b = nat_lt (digit_value b) 16

-- the keyword after STACK CFI, which is INIT or has no more words; and the bytes after it
unfoldable pub cfi_key : List ℕ → Keyword × List ℕ
cfi_key bytes = if bytes_eq (next_word bytes) (codes "INIT") then (key.Init, behind_word bytes) else (key.Change, bytes)

-- the keyword after STACK, by the second word; and the bytes after it
unfoldable pub stack_key : List ℕ → Result (Keyword × List ℕ) TextKind
stack_key bytes =
    if bytes_eq (next_word bytes) (codes "CFI") then Ok (cfi_key (behind_word bytes))
    else if bytes_eq (next_word bytes) (codes "WIN") then Err fault.Windows
    else Err fault.Unknown

-- the keyword, given the first word of a line and the bytes after this word; and the bytes after
-- the keyword
unfoldable pub worded_key : List ℕ → List ℕ → Result (Keyword × List ℕ) TextKind
worded_key word rest =
    if bytes_eq word (codes "FUNC") then Ok (key.Func, rest)
    else if bytes_eq word (codes "INLINE") then Ok (key.Inline, rest)
    else if bytes_eq word (codes "STACK") then stack_key rest
    else if bytes_eq word (codes "FILE") then Ok (key.File, rest)
    else if bytes_eq word (codes "INLINE_ORIGIN") then Ok (key.Origin, rest)
    else if bytes_eq word (codes "PUBLIC") then Ok (key.Public, rest)
    else if bytes_eq word (codes "INFO") then Ok (key.Info, rest)
    else if bytes_eq word (codes "MODULE") then Ok (key.Module, rest)
    else Err fault.Unknown

-- the keyword of a line, given its first word, and the bytes after the keyword. If the word has
-- only hexadecimal digits, the line is a line record, which has no keyword
unfoldable pub keyed : List ℕ → List ℕ → List ℕ → Result (Keyword × List ℕ) TextKind
keyed word rest whole = if list_all is_hex_digit word then Ok (key.Line, whole) else worded_key word rest

-- the keyword of a line, and the bytes after it
unfoldable pub key_at : List ℕ → Result (Keyword × List ℕ) TextKind
key_at bytes = keyed (before 32 bytes) (from 32 bytes) bytes

-- the record with a keyword, given the bytes after the keyword
abbrev pub record_of : Keyword → List ℕ → Result SymLine TextKind
record_of k bytes = fields_at (layout k) bytes >>= λ v. Ok (made k v)

-- the record of a line that is not blank
unfoldable pub record_at : List ℕ → Result SymLine TextKind
record_at line = key_at (trimmed line) >>= λ found. record_of found.0 found.1

-- what a line has: a record, or nothing if it is blank
unfoldable pub line_read : List ℕ → Result (Option SymLine) TextKind
line_read line = if is_blank line then Ok None else record_at line >>= λ s. Ok (Some s)
