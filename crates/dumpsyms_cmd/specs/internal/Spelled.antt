-- The records of a file as they are spelled.
use Rattle.std.specs.Prelude.{◌≡◌, ℕ, ◌^◌, true, List, ◌++◌, None, Ok}
use Rattle.elf_sections.specs.Image.{ImageParts}
use Rattle.range_set.specs.Starts.{AllFrom}
use Rattle.sym_records.specs.Canon.{canon_text}
use Rattle.sym_records.specs.Reading.{fits, reading}
use Rattle.sym_records.specs.Validity.{fields_fit, first_bad}
use Rattle.sym_records.specs.declared.place.Place.TheVariants.{Inside}
use Rattle.sym_records.specs.declared.line.SymLine.{SymLine}
use Rattle.rule_postfix.specs.Written.{omitted, written, written_lines}
use Rattle.rule_postfix.specs.declared.omission.Omission.{Omission}
use Rattle.debug_units.specs.declared.unit_read.UnitRead.{UnitRead}
use Rattle.func_flatten.specs.declared.piece.Piece.{Piece}
use Rattle.func_flatten.specs.Pieces.{ArePieces}
use Rattle.func_records.specs.FuncRecords.{AreFuncRecords, EndBelow}
use Rattle.func_records.specs.TextNames.{Names}
use Rattle.debug_read.specs.DebugSays.{DebugSays, debug_says}
use Rattle.debug_read.specs.declared.found.DebugRead.{DebugRead}
use Rattle.dumpsyms_cmd.specs.commands.Dump.{identity_lines, public_lines, written_of, CanonFile}
use Rattle.rule_postfix.specs.Covering.{SaysFrames}
use Rattle.rule_postfix.specs.FrameMeaning.{KeepsFrames}
use Rattle.sym_meaning.specs.Findings.{HasNoFindings}

-- a record that may stand after the first one
abbrev pub FitsInside : SymLine → Type 0
FitsInside line = (fits Inside line ≡ true) × (fields_fit line ≡ true)

-- the text of the records before the frame records
pub record HasHead (image : ImageParts) (name : List ℕ) (units : List UnitRead) (text : List ℕ) : Type 0 where
  pub pieces : List Piece
  pub pieces_are : ArePieces units pieces
  pub functions : List SymLine
  pub are : AreFuncRecords image.base units pieces functions
  pub below : EndBelow (2 ^ 64) pieces
  pub text_is : text ≡ canon_text (identity_lines image name ++ (functions ++ public_lines image pieces))
  pub valid : first_bad (identity_lines image name ++ (functions ++ public_lines image pieces)) ≡ None

-- the text of the frame records, and the frame entries that are left out. No code lies below the
-- base
pub record HasFrames (image : ImageParts) (read : DebugRead) (text : List ℕ) (left : List Omission) : Type 0 where
  pub above : AllFrom image.base image.code
  pub text_is : text ≡ canon_text (written_lines image.base (written image.code read.first read.second))
  pub left_is : left ≡ omitted image.code read.first read.second

-- the records of a file, given what was read of it, and the frame entries that are left out
pub record DumpsRead (image : ImageParts) (name : List ℕ) (read : DebugRead) (lines : List SymLine) (left : List Omission) : Type 0 where
  pub found : DebugSays
  pub found_is : debug_says image ≡ Ok found
  pub canon : CanonFile image name found lines
  pub left_is : left ≡ omitted image.code found.first found.second
  pub reads : reading (canon_text lines) ≡ Ok lines
  pub frames : SaysFrames image.base (written_of image found) lines
  pub means : KeepsFrames image.base (written_of image found) lines
  pub names : (x : ℕ) → Names image.base canon.units lines x
  pub clean : HasNoFindings lines
