-- What a checker finds in the records of a symbol file (Breakpad's symbol_files.md). Each of nine
-- kinds of finding is a condition on a record and the records before it, or, for C2 and C3, on a
-- record and all records. The records before a record are listed with the nearest first. Ends of
-- ranges may be above 2^64, and an empty range overlaps nothing.
use Rattle.std.specs.Prelude.{ℕ, ◌+◌, ◌&&◌, nat_lt, nat_le, not, Bool, true, false, List, [], ◌∷◌, ◌++◌, Option, None, Some}
use Rattle.std.specs.List.{list_any, list_all, flat_map}
use Rattle.std.specs.Option.{option_map, option_map_or}
use Rattle.sym_records.specs.declared.line.Extent.{Extent}
use Rattle.sym_records.specs.declared.line.SymLine.{SymLine}
use Rattle.sym_records.specs.declared.line.SymLine.TheVariants.{File, Origin, Func, Inline, Line, Init, Change}
use Rattle.sym_meaning.specs.TextNames.{is_file, is_origin}
use Rattle.sym_meaning.specs.Findings.{run_of, func_run, has_file, has_origin, are_sized, meet, holds_run}
use Rattle.sym_findings.specs.declared.kind.FindingKind.{FindingKind}
use Rattle.sym_findings.specs.declared.kind.FindingKind.TheVariants as kind
use Rattle.sym_findings.specs.declared.kind.Finding.{Finding}
use Rattle.sym_findings.specs.declared.records_before.OpenInit.{OpenInit}
use Rattle.sym_findings.specs.FindingWords.{kinds}

-- whether the range e overlaps one of the ranges
abbrev pub meets_any : List Extent → Extent → Bool
meets_any runs e = list_any (meet e) runs

-- C1: the number of a FILE or an INLINE_ORIGIN was given before with the same keyword
abbrev pub is_given_before : List SymLine → SymLine → Bool
is_given_before before (File number name) = list_any (is_file number) before
is_given_before before (Origin number name) = list_any (is_origin number) before
is_given_before before _ = false

-- C5: a FUNC overlaps an earlier FUNC
abbrev pub meets_func : List SymLine → SymLine → Bool
meets_func before (Func many address size params name) = meets_any (flat_map func_run before) (run_of address size)
meets_func before _ = false

-- a FUNC, and the ranges of the line records under it so far
pub record OpenFunc : Type 0 where
  pub func : Extent
  pub lines : List Extent

abbrev pub with_line : Extent → OpenFunc → OpenFunc
with_line e f = record f { lines = e ∷ f.lines }

-- the FUNC under which the next record is: the nearest FUNC before it, if only INLINE and line
-- records are after that FUNC
abbrev pub open_func : List SymLine → Option OpenFunc
open_func [] = None
open_func (Func many address size params name ∷ before) = Some (record { func = run_of address size; lines = [] })
open_func (Inline level line file origin ranges ∷ before) = open_func before
open_func (Line address size line file ∷ before) = option_map (with_line (run_of address size)) (open_func before)
open_func (_ ∷ before) = None

-- C6: a line record or a range of an INLINE reaches outside of its FUNC
abbrev pub leave : List Extent → OpenFunc → Bool
leave runs f = not (list_all (holds_run f.func) runs)

abbrev pub leaves_func : List SymLine → SymLine → Bool
leaves_func before (Inline level line file origin ranges) = option_map_or (leave ranges) (open_func before) false
leaves_func before (Line address size line file) = option_map_or (leave (run_of address size ∷ [])) (open_func before) false
leaves_func before _ = false

-- C7: a line record overlaps an earlier line record of its FUNC
abbrev pub meets_line : List SymLine → SymLine → Bool
meets_line before (Line address size line file) = option_map_or (λ f. meets_any f.lines (run_of address size)) (open_func before) false
meets_line before _ = false

-- the range of an INIT, for C8: an INIT overlaps an earlier INIT
abbrev pub init_run : SymLine → List Extent
init_run (Init address size rules) = run_of address size ∷ []
init_run _ = []

abbrev pub meets_init : List SymLine → SymLine → Bool
meets_init before (Init address size rules) = meets_any (flat_map init_run before) (run_of address size)
meets_init before _ = false

-- the INIT that a next STACK CFI changes: the nearest INIT before it, if only STACK CFI records are
-- after that INIT; and the address of the last of these records
abbrev pub open_init : List SymLine → Option OpenInit
open_init [] = None
open_init (Init address size rules ∷ before) = Some (record { init = run_of address size; last = address })
open_init (Change address rules ∷ before) = option_map (λ (o : OpenInit). record o { last = address }) (open_init before)
open_init (_ ∷ before) = None

-- C9: a STACK CFI is outside its INIT, or not above the address of the record before it
abbrev pub goes_on : ℕ → OpenInit → Bool
goes_on address o = nat_le o.init.address address && nat_lt address (o.init.address + o.init.size) && nat_lt o.last address

abbrev pub is_outside : List SymLine → SymLine → Bool
is_outside before (Change address rules) = not (option_map_or (goes_on address) (open_init before) false)
is_outside before _ = false

-- whether a checker finds a kind at a record, given all records and the records before it
abbrev pub is_found : List SymLine → List SymLine → SymLine → FindingKind → Bool
is_found all before s kind.GivenAgain = is_given_before before s
is_found all before s kind.NoFile = not (has_file all s)
is_found all before s kind.NoOrigin = not (has_origin all s)
is_found all before s kind.BadSize = not (are_sized s)
is_found all before s kind.FuncMeets = meets_func before s
is_found all before s kind.LeavesFunc = leaves_func before s
is_found all before s kind.LineMeets = meets_line before s
is_found all before s kind.InitMeets = meets_init before s
is_found all before s kind.ChangeOutside = is_outside before s

-- a list with a finding at the record with this index, if `found`
abbrev pub finding_if : Bool → FindingKind → ℕ → List Finding
finding_if true kind index = record { kind = kind; index = index } ∷ []
finding_if false kind index = []

-- the findings at a record, in the order of their kinds
unfoldable pub findings_at : List SymLine → List SymLine → ℕ → SymLine → List Finding
findings_at all before index s = flat_map (λ kind. finding_if (is_found all before s kind) kind index) kinds

-- the findings at the records from an index on
unfoldable pub findings_from : List SymLine → List SymLine → ℕ → List SymLine → List Finding
findings_from all before index [] = []
findings_from all before index (s ∷ lines) = findings_at all before index s ++ findings_from all (s ∷ before) (index + 1) lines

-- the findings in the records of a file, ordered by record and then by kind
unfoldable pub findings : List SymLine → List Finding
findings lines = findings_from lines [] 0 lines
