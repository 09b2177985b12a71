-- Texts that are the canonical text of valid records.
use Rattle.std.specs.Prelude.{◌≡◌, ℕ, List, [], ◌++◌, None, Result, Ok, Err}
use Rattle.std.specs.List.{flat_map}
use Rattle.sym_records.specs.Canon.{canon_text}
use Rattle.sym_records.specs.Reading.{reading}
use Rattle.sym_records.specs.Validity.{first_bad}
use Rattle.sym_records.specs.declared.line.SymLine.{SymLine}
use Rattle.sym_records.specs.declared.pieces.TextPieces.{TextPieces}
use Rattle.sym_rules.specs.declared.text_fault.TextFault.{TextFault}

-- the bytes of a text that is stored in pieces
abbrev pub text_bytes : TextPieces → List ℕ
text_bytes text = flat_map (λ piece. piece) text.full.items ++ text.last.items

-- the records that a reading gave, or none if it failed
abbrev pub records_or_none : Result (List SymLine) TextFault → List SymLine
records_or_none (Ok lines) = lines
records_or_none (Err fault) = []

-- the records of a text, or none if it cannot be read
unfoldable pub records_in : List ℕ → List SymLine
records_in bytes = records_or_none (reading bytes)

-- the text is the canonical text of its records, and the records are valid
pub record IsSpelled (bytes : List ℕ) : Type 0 where
  pub canonical : canon_text (records_in bytes) ≡ bytes
  pub valid : first_bad (records_in bytes) ≡ None
