-- The paths that line records and calls name, as they are gathered.
use Rattle.std.specs.Prelude.{◌≡◌, ℕ, Bool, ◌||◌, List, [], ◌∷◌, length, map, ◌<◌}
use Rattle.std.specs.List.{list_any}
use Rattle.std.specs.Str.{bytes_eq}
use Rattle.std.proofs.Common.{Bor}
use Rattle.debug_units.specs.declared.unit_read.UnitRead.{UnitRead}
use Rattle.func_flatten.specs.declared.piece.Piece.{Piece}
use Rattle.func_flatten.specs.declared.line_run.LineRun.{LineRun}
use Rattle.func_flatten.specs.LineRuns.{unit_paths, AreLineRuns}
use Rattle.inline_chain.specs.InlineRuns.{InlineParts, AreInlineRuns}
use Rattle.func_records.specs.FuncRecords.{Part, pieces_of, path_in, call_path, AreLined, names_path}
use Rattle.func_records.specs.declared.path_list.PathRef.{PathRef}
use Rattle.func_records.specs.internal.Calls.{path_or, AreKnown, AreAllKnown}

-- the bytes of texts
abbrev pub bytes_of : List (Bor (List ℕ)) → List (List ℕ)
bytes_of texts = map (λ t. t.now) texts

-- one of the texts is the path
abbrev pub has_text : List (Bor (List ℕ)) → List ℕ → Bool
has_text texts path = list_any (λ t. bytes_eq path t.now) texts

-- some run has the path
abbrev pub any_run : List UnitRead → ℕ → List LineRun → List ℕ → Bool
any_run units unit runs path = list_any (λ (r : LineRun). bytes_eq path (path_in units unit r.path)) runs

-- the call of some copy has the path
abbrev pub any_call : List UnitRead → ℕ → List InlineParts → List ℕ → Bool
any_call units unit copies path = list_any (λ (r : InlineParts). bytes_eq path (call_path units unit r.entry)) copies

-- the path of each run is in the table
abbrev pub ArePathed : List UnitRead → ℕ → List LineRun → Type 0
ArePathed units unit [] = Prim.Unit {0}
ArePathed units unit (r ∷ runs) = (r.path < length (unit_paths units unit)) × ArePathed units unit runs

-- the text of a path
abbrev pub path_at : List UnitRead → PathRef → List ℕ
path_at units r = path_or units r.unit r.path

-- some path has the text
abbrev pub has_path : List UnitRead → List PathRef → List ℕ → Bool
has_path units refs path = list_any (λ (r : PathRef). bytes_eq path (path_at units r)) refs

-- the inlined copies of each piece
abbrev pub copies_of : List Part → List (List InlineParts)
copies_of parts = map (λ (p : Part). p.copies) parts

abbrev pub AreHeld : List UnitRead → List Piece → List (List InlineParts) → Type 0
AreHeld units [] [] = Unit {0}
AreHeld units (piece ∷ pieces) (copies ∷ held) = AreInlineRuns units piece copies × AreHeld units pieces held
AreHeld units _ _ = ⊥

-- the new paths are the old ones and those of a piece's runs and copies
pub record AddsPiece (units : List UnitRead) (piece : Piece) (copies : List InlineParts) (old new : List PathRef) : Type 0 where
  pub lines : List LineRun
  pub runs : AreLineRuns units piece lines
  pub known : AreKnown units piece.unit copies
  pub same : (path : List ℕ) → has_path units new path ≡ ((has_path units old path || any_run units piece.unit lines path) || any_call units piece.unit copies path)

-- the paths that the lines and the calls of some pieces name
pub record Gathered (units : List UnitRead) (pieces : List Piece) (held : List (List InlineParts)) (has : List ℕ → Bool) : Type 0 where
  pub parts : List Part
  pub pieces_are : pieces_of parts ≡ pieces
  pub copies_are : copies_of parts ≡ held
  pub lines_are : AreLined units parts
  pub known : AreAllKnown units parts
  pub same : (path : List ℕ) → has path ≡ list_any (names_path units path) parts
