-- The records of pieces, as they are spelled with the numbers of paths and names.
use Rattle.std.specs.Prelude.{◌≡◌, ℕ, ◌<◌, ◌≤◌, ◌^◌, length, List, [], ◌∷◌, ◌++◌, map, Option, None, Some, unwrap_or}
use Rattle.std.specs.List.{slice_get}
use Rattle.sym_records.specs.Canon.{canon_text}
use Rattle.sym_records.specs.Validity.{first_bad_from}
use Rattle.sym_records.specs.declared.place.Place.TheVariants.{Inside}
use Rattle.sym_records.specs.declared.line.SymLine.{SymLine}
use Rattle.sym_records.specs.declared.line.SymLine.TheVariants.{Inline}
use Rattle.debug_units.specs.declared.unit_read.UnitRead.{UnitRead}
use Rattle.die_names.specs.Names.{entry_name}
use Rattle.func_flatten.specs.declared.piece.Piece.{Piece}
use Rattle.func_flatten.specs.declared.line_run.LineRun.{LineRun}
use Rattle.func_flatten.specs.LineRuns.{AreLineRuns}
use Rattle.inline_chain.specs.InlineRuns.{InlineParts}
use Rattle.func_records.specs.declared.numbers.Numbers.{Numbers}
use Rattle.func_records.specs.FuncRecords.{Part, pieces_of, call_line, extent, func_record, AreLined, EndBelow}
use Rattle.func_records.specs.internal.Calls.{call_number}
use Rattle.func_records.specs.internal.Gathering.{copies_of}
use Rattle.func_records.specs.internal.Origins.{name_number}
use Rattle.func_records.specs.internal.Spelling.{line_by, row_of}

-- the FILE number of a call's path, given that of each path in the table
abbrev pub file_by : List ℕ → ℕ → Option ℕ → ℕ
file_by row omitted None = omitted
file_by row omitted (Some path) = unwrap_or (slice_get row path) 0

abbrev pub inline_by : ℕ → Numbers → List UnitRead → ℕ → InlineParts → SymLine
inline_by base numbers units unit r =
    Inline r.level (call_line units unit r.entry) (file_by (row_of numbers.rows.now unit) numbers.omitted (call_number units unit r.entry)) (name_number numbers units (entry_name units unit r.entry)) (map (extent base) r.spans)

-- each copy has at least one range, and at most as many as a record may have
abbrev pub AreShort : List InlineParts → Type 0
AreShort [] = Unit {0}
AreShort (r ∷ copies) = ((0 < length r.spans) × (length r.spans ≤ 16384)) × AreShort copies

abbrev pub AreAllShort : List (List InlineParts) → Type 0
AreAllShort [] = Unit {0}
AreAllShort (copies ∷ held) = AreShort copies × AreAllShort held

-- the records under the FUNC of a piece
abbrev pub under_by : ℕ → Numbers → List UnitRead → Part → List SymLine
under_by base numbers units p = map (inline_by base numbers units p.piece.unit) p.copies ++ map (line_by base (row_of numbers.rows.now p.piece.unit)) p.lines

abbrev pub part_by : ℕ → Numbers → List UnitRead → Part → List SymLine
part_by base numbers units p = func_record base units p.piece ∷ under_by base numbers units p

abbrev pub parts_by : ℕ → Numbers → List UnitRead → List Part → List SymLine
parts_by base numbers units [] = []
parts_by base numbers units (p ∷ parts) = part_by base numbers units p ++ parts_by base numbers units parts

-- the records of a piece are added to a text
pub record AddsPart (base : ℕ) (numbers : Numbers) (units : List UnitRead) (piece : Piece) (copies : List InlineParts) (old new : List ℕ) : Type 0 where
  pub lines : List LineRun
  pub runs : AreLineRuns units piece lines
  pub text : new ≡ old ++ canon_text (part_by base numbers units (record { piece = piece; copies = copies; lines = lines }))
  pub fit : first_bad_from 0 Inside (part_by base numbers units (record { piece = piece; copies = copies; lines = lines })) ≡ None
  pub below : piece.end < 2 ^ 64

-- the records of some pieces are added to a text
pub record AddsParts (base : ℕ) (numbers : Numbers) (units : List UnitRead) (pieces : List Piece) (held : List (List InlineParts)) (old new : List ℕ) : Type 0 where
  pub parts : List Part
  pub pieces_are : pieces_of parts ≡ pieces
  pub copies_are : copies_of parts ≡ held
  pub lines_are : AreLined units parts
  pub text : new ≡ old ++ canon_text (parts_by base numbers units parts)
  pub fit : first_bad_from 0 Inside (parts_by base numbers units parts) ≡ None
  pub below : EndBelow (2 ^ 64) pieces
