-- What is added to a text: the records of functions and their lines.
use Rattle.std.specs.Prelude.{◌≡◌, ℕ, ◌^◌, List, ◌++◌, None}
use Rattle.sym_records.specs.Canon.{canon_text}
use Rattle.sym_records.specs.Validity.{first_bad_from}
use Rattle.sym_records.specs.declared.place.Place.TheVariants.{Inside}
use Rattle.sym_records.specs.declared.line.SymLine.{SymLine}
use Rattle.debug_units.specs.declared.unit_read.UnitRead.{UnitRead}
use Rattle.func_flatten.specs.declared.piece.Piece.{Piece}
use Rattle.func_records.specs.FuncRecords.{AreFuncRecords, EndBelow}

-- the new text is the old text and then the records of the pieces, which may come after other records. The pieces end below 2^64
pub record AddsFunctions (base : ℕ) (units : List UnitRead) (pieces : List Piece) (old new : List ℕ) : Type 0 where
  pub records : List SymLine
  pub are : AreFuncRecords base units pieces records
  pub text : new ≡ old ++ canon_text records
  pub fit : first_bad_from 0 Inside records ≡ None
  pub below : EndBelow (2 ^ 64) pieces
