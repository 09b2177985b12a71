-- The records of functions (Breakpad's symbol_files.md): FILE, INLINE_ORIGIN, FUNC, INLINE and line records.
use Rattle.std.specs.Prelude.{◌≡◌, ℕ, ◌+◌, ◌-◌, ◌≤◌, ◌<◌, ◌||◌, if◌then◌else◌, map, List, [], ◌∷◌, ◌++◌, Bool, unwrap_or}
use Rattle.std.specs.List.{slice_get, list_any}
use Rattle.std.specs.Option.{option_map_or}
use Rattle.std.specs.Ordering.{nat_cmp}
use Rattle.std.specs.List.Sorted.{IsStrictlySortedBy}
use Rattle.std.specs.Cmp.Lexicographic.{slice_cmp}
use Rattle.std.specs.Str.{bytes_eq}
use Rattle.sym_edges.specs.Addresses.{Range}
use Rattle.sym_records.specs.declared.line.Extent.{Extent}
use Rattle.sym_records.specs.declared.line.SymLine.{SymLine}
use Rattle.sym_records.specs.declared.line.SymLine.TheVariants.{File, Origin, Func, Inline, Line}
use Rattle.debug_units.specs.declared.unit_read.UnitRead.{UnitRead}
use Rattle.debug_units.specs.UnitEntries.{Placed, entry_of}
use Rattle.die_names.specs.Names.{entry_name}
use Rattle.debug_units.specs.CallPaths.{no_path, path_of_call}
use Rattle.func_flatten.specs.declared.piece.Piece.{Piece}
use Rattle.func_flatten.specs.declared.line_run.LineRun.{LineRun}
use Rattle.func_flatten.specs.LineRuns.{unit_paths, AreLineRuns}
use Rattle.inline_chain.specs.InlineRuns.{InlineParts, AreInlineRuns}

-- a piece of a function, the inlined copies in it, and the runs of its lines
pub record Part : Type 0 where
  pub piece : Piece
  pub copies : List InlineParts
  pub lines : List LineRun

abbrev pub pieces_of : List Part → List Piece
pieces_of parts = map (λ (p : Part). p.piece) parts

-- the path with this number in a unit's line table
abbrev pub path_in : List UnitRead → ℕ → ℕ → List ℕ
path_in units unit path = unwrap_or (slice_get (unit_paths units unit) path) []

-- the path and the line of a call, by the number of the inlined copy in its unit
abbrev pub call_path : List UnitRead → ℕ → ℕ → List ℕ
call_path units unit entry = option_map_or (λ (p : Placed). path_of_call units unit p.die) (entry_of units unit entry) no_path

abbrev pub call_line : List UnitRead → ℕ → ℕ → ℕ
call_line units unit entry = option_map_or (λ (p : Placed). p.die.call_line) (entry_of units unit entry) 0

-- the number of a path or a name among those in use
unfoldable pub number_in : List (List ℕ) → List ℕ → ℕ
number_in [] text = 0
number_in (t ∷ texts) text = if bytes_eq t text then 0 else number_in texts text + 1

-- the records that give numbers to texts, from `k` on: FILE for paths, INLINE_ORIGIN for names
abbrev pub numbered_lines : (ℕ → List ℕ → SymLine) → ℕ → List (List ℕ) → List SymLine
numbered_lines made k [] = []
numbered_lines made k (text ∷ texts) = made k text ∷ numbered_lines made (k + 1) texts

abbrev pub file_lines : ℕ → List (List ℕ) → List SymLine
file_lines k paths = numbered_lines File k paths

abbrev pub origin_lines : ℕ → List (List ℕ) → List SymLine
origin_lines k names = numbered_lines Origin k names

-- the records of a piece, of its inlined copies and of its lines; the base is subtracted from all addresses
abbrev pub func_record : ℕ → List UnitRead → Piece → SymLine
func_record base units p = Func p.many (p.start - base) (p.end - p.start) 0 (entry_name units p.unit p.entry)

abbrev pub line_record : ℕ → List (List ℕ) → List UnitRead → ℕ → LineRun → SymLine
line_record base paths units unit r = Line (r.start - base) (r.end - r.start) r.line (number_in paths (path_in units unit r.path))

abbrev pub extent : ℕ → Range → Extent
extent base range = record { address = range.start - base; size = range.end - range.start }

abbrev pub inline_record : ℕ → List (List ℕ) → List (List ℕ) → List UnitRead → ℕ → InlineParts → SymLine
inline_record base paths names units unit r =
    Inline r.level (call_line units unit r.entry) (number_in paths (call_path units unit r.entry)) (number_in names (entry_name units unit r.entry)) (map (extent base) r.spans)

abbrev pub part_lines : ℕ → List (List ℕ) → List (List ℕ) → List UnitRead → List Part → List SymLine
part_lines base paths names units [] = []
part_lines base paths names units (p ∷ parts) =
    func_record base units p.piece
    ∷ (map (inline_record base paths names units p.piece.unit) p.copies
    ++ (map (line_record base paths units p.piece.unit) p.lines ++ part_lines base paths names units parts))

-- the lines of each piece are its runs of path and line
abbrev pub AreLined : List UnitRead → List Part → Type 0
AreLined units [] = Prim.Unit {0}
AreLined units (p ∷ parts) = AreLineRuns units p.piece p.lines × AreLined units parts

-- the copies of each piece are those on the chains of its addresses
abbrev pub AreInlined : List UnitRead → List Part → Type 0
AreInlined units [] = Prim.Unit {0}
AreInlined units (p ∷ parts) = AreInlineRuns units p.piece p.copies × AreInlined units parts

-- a line record of the part names the path, or an INLINE record names it as the path of its call
abbrev pub names_path : List UnitRead → List ℕ → Part → Bool
names_path units path p =
    list_any (λ (r : LineRun). bytes_eq path (path_in units p.piece.unit r.path)) p.lines
    || list_any (λ (r : InlineParts). bytes_eq path (call_path units p.piece.unit r.entry)) p.copies

-- an INLINE record of the part is of a function with this name
abbrev pub names_origin : List UnitRead → List ℕ → Part → Bool
names_origin units name p = list_any (λ (r : InlineParts). bytes_eq name (entry_name units p.piece.unit r.entry)) p.copies

-- the texts that some record of the parts names, in the order of their bytes, each once
pub record AreUsed (named : List ℕ → Part → Bool) (parts : List Part) (texts : List (List ℕ)) : Type 0 where
  pub sorted : IsStrictlySortedBy (slice_cmp nat_cmp) texts
  pub same : (text : List ℕ) → list_any (bytes_eq text) texts ≡ list_any (named text) parts

-- the records: first those of the paths and names in use, then those of each piece with its inlined copies and its lines
pub record AreFuncRecords (base : ℕ) (units : List UnitRead) (pieces : List Piece) (records : List SymLine) : Type 0 where
  pub parts : List Part
  pub paths : List (List ℕ)
  pub names : List (List ℕ)
  pub whole : records ≡ file_lines 0 paths ++ (origin_lines 0 names ++ part_lines base paths names units parts)
  pub pieces_are : pieces_of parts ≡ pieces
  pub inlined : AreInlined units parts
  pub lines_are : AreLined units parts
  pub used : AreUsed (names_path units) parts paths
  pub origins : AreUsed (names_origin units) parts names

-- each piece begins at or above the base
abbrev pub BeginAbove : ℕ → List Piece → Type 0
BeginAbove base [] = Prim.Unit {0}
BeginAbove base (p ∷ pieces) = (base ≤ p.start) × BeginAbove base pieces

-- each piece ends below an address
abbrev pub EndBelow : ℕ → List Piece → Type 0
EndBelow limit [] = Prim.Unit {0}
EndBelow limit (p ∷ pieces) = (p.end < limit) × EndBelow limit pieces
