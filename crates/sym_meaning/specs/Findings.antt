-- Lists of records of a symbol file (Breakpad's symbol_files.md) in which a checker finds nothing.
-- Its findings C1 to C7 are about files, functions, inlined copies and lines, and C8 and C9 about
-- frames. Ends of ranges may be above 2^64, and an empty range has no address.
use Rattle.std.specs.Prelude.{◌≡◌, ℕ, ◌+◌, ◌^◌, ◌≤◌, ◌&&◌, nat_le, nat_lt, min, max, Bool, true, false, List, [], ◌∷◌}
use Rattle.std.specs.List.{list_any, list_all, flat_map}
use Rattle.sym_records.specs.declared.line.Extent.{Extent}
use Rattle.sym_records.specs.declared.line.SymLine.{SymLine}
use Rattle.sym_records.specs.declared.line.SymLine.TheVariants.{File, Origin, Func, Inline, Line, Init}
use Rattle.sym_meaning.specs.TextNames.{under, is_file, is_origin}
use Rattle.sym_meaning.specs.Inits.{inits_at, AreNested}

-- the range of `size` addresses from `address` on
abbrev pub run_of : ℕ → ℕ → Extent
run_of address size = record { address = address; size = size }

-- the range of a FUNC; of a line record; all ranges of a record
abbrev pub func_run : SymLine → List Extent
func_run (Func many address size params name) = run_of address size ∷ []
func_run _ = []

abbrev pub line_run : SymLine → List Extent
line_run (Line address size line file) = run_of address size ∷ []
line_run _ = []

abbrev pub runs_of : SymLine → List Extent
runs_of (Func many address size params name) = run_of address size ∷ []
runs_of (Inline level line file origin ranges) = ranges
runs_of (Line address size line file) = run_of address size ∷ []
runs_of (Init address size rules) = run_of address size ∷ []
runs_of _ = []

-- whether a later record gives the number of this FILE or INLINE_ORIGIN again, with the same
-- keyword
abbrev pub is_given_again : SymLine → List SymLine → Bool
is_given_again (File number name) later = list_any (is_file number) later
is_given_again (Origin number name) later = list_any (is_origin number) later
is_given_again _ later = false

-- no two records with the same keyword, FILE or INLINE_ORIGIN, give the same number
abbrev pub AreGivenOnce : List SymLine → Type 0
AreGivenOnce [] = Unit {0}
AreGivenOnce (s ∷ lines) = (is_given_again s lines ≡ false) × AreGivenOnce lines

-- whether the FILE to which a record refers is among all records; the same for its INLINE_ORIGIN
abbrev pub has_file : List SymLine → SymLine → Bool
has_file all (Inline level line file origin ranges) = list_any (is_file file) all
has_file all (Line address size line file) = list_any (is_file file) all
has_file all _ = true

abbrev pub has_origin : List SymLine → SymLine → Bool
has_origin all (Inline level line file origin ranges) = list_any (is_origin origin) all
has_origin all _ = true

-- the range is not empty, and its end is at most 2^64 - 1
abbrev pub is_sized : Extent → Bool
is_sized e = nat_lt 0 e.size && nat_lt (e.address + e.size) (2 ^ 64)

abbrev pub are_sized : SymLine → Bool
are_sized s = list_all is_sized (runs_of s)

-- whether two ranges overlap: the greater start is below the smaller end
abbrev pub meet : Extent → Extent → Bool
meet a b = nat_lt (max a.address b.address) (min (a.address + a.size) (b.address + b.size))

-- no two ranges overlap
abbrev pub AreApart : List Extent → Type 0
AreApart [] = Unit {0}
AreApart (e ∷ runs) = (list_any (meet e) runs ≡ false) × AreApart runs

-- whether the second range does not reach outside of the first
abbrev pub holds_run : Extent → Extent → Bool
holds_run f e = nat_le f.address e.address && nat_le (e.address + e.size) (f.address + f.size)

-- P holds for the addresses of each FUNC and the records directly under it. In a valid list each INLINE and each line record is under a FUNC
abbrev pub EachFunc : (Extent → List SymLine → Type 0) → List SymLine → Type 0
EachFunc P [] = Unit {0}
EachFunc P (Func many address size params name ∷ lines) = P (run_of address size) (under lines) × EachFunc P lines
EachFunc P (_ ∷ lines) = EachFunc P lines

-- no range of the records reaches outside of the FUNC
abbrev pub LieInside : Extent → List SymLine → Type 0
LieInside f records = list_all (λ s. list_all (holds_run f) (runs_of s)) records ≡ true

-- no two line records overlap
abbrev pub HaveLinesApart : Extent → List SymLine → Type 0
HaveLinesApart f records = AreApart (flat_map line_run records)

-- a checker finds none of C1 to C7 in the records
pub record HasNoFuncFindings (lines : List SymLine) : Type 0 where
  -- C1: the number of a FILE or an INLINE_ORIGIN was given before with the same keyword
  pub given_once : AreGivenOnce lines
  -- C2: a line record or an INLINE refers to a FILE that is not there
  pub files : list_all (has_file lines) lines ≡ true
  -- C3: an INLINE refers to an INLINE_ORIGIN that is not there
  pub origins : list_all (has_origin lines) lines ≡ true
  -- C4: a FUNC, a line record, a range of an INLINE or an INIT has size 0, or an end above 2^64 - 1
  pub sized : list_all are_sized lines ≡ true
  -- C5: a FUNC overlaps another FUNC
  pub functions_apart : AreApart (flat_map func_run lines)
  -- C6: a line record or a range of an INLINE reaches outside of its FUNC
  pub inside : EachFunc LieInside lines
  -- C7: a line record overlaps another line record of its FUNC
  pub lines_apart : EachFunc HaveLinesApart lines

-- a checker finds none of C1 to C9 in the records
pub record HasNoFindings (lines : List SymLine) : Type 0 where
  -- C1 to C7, about files, functions, inlined copies and lines; C4 is about INITs too
  pub functions : HasNoFuncFindings lines
  -- C8: an INIT overlaps another INIT, so that both cover an address
  pub inits_apart : (x : ℕ) → inits_at lines x ≤ 1
  -- C9: a STACK CFI is outside its INIT, or not above the address of the record before it
  pub changes_rise : AreNested 0 0 lines
