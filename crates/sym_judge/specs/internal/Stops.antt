-- The addresses at which records begin and end: between two neighbours nothing changes.
use Rattle.std.specs.Prelude.{◌≡◌, ◌<◌, ℕ, ◌+◌, ◌^◌, Bool, false, nat_lt, nat_le, if◌then◌else◌, List, [], ◌∷◌, ◌++◌, Option, None, Some}
use Rattle.std.specs.List.{find, flat_map, filter}
use Rattle.sym_records.specs.declared.line.Extent.{Extent}
use Rattle.sym_records.specs.declared.line.SymLine.{SymLine}
use Rattle.sym_records.specs.declared.line.SymLine.TheVariants as record_line
use Rattle.step_maps.specs.Stepping.{Stepping, value_at}
use Rattle.sym_judge.specs.Alike.{name_aspects, frame_aspects, differs}
use Rattle.sym_judge.specs.declared.ruling.Aspect.{Aspect}
use Rattle.sym_judge.specs.declared.ruling.Ruling.{Ruling}
use Rattle.sym_judge.specs.declared.ruling.Ruling.TheVariants.{Yes, No}
use Rattle.sym_judge.specs.declared.ruling.Half.{Half}
use Rattle.sym_judge.specs.declared.ruling.Half.TheVariants.{Names, Frames}

-- the first address of a range, and the address after its last, if that has 64 bits
unfoldable pub run_stops : ℕ → ℕ → List ℕ
run_stops address size = if nat_lt (address + size) (2 ^ 64) then address ∷ (address + size) ∷ [] else address ∷ []

abbrev pub extent_stops : Extent → List ℕ
extent_stops e = run_stops e.address e.size

-- the addresses of a record, in one half, at which something may change
abbrev pub line_stops : Half → SymLine → List ℕ
line_stops Names (record_line.Func many address size params name) = run_stops address size
line_stops Names (record_line.Inline level line file origin ranges) = flat_map extent_stops ranges
line_stops Names (record_line.Line address size line file) = run_stops address size
line_stops Frames (record_line.Init address size rules) = run_stops address size
line_stops Frames (record_line.Change address rules) = address ∷ []
line_stops _ _ = []

abbrev pub stops_of : Half → List SymLine → List ℕ
stops_of half lines = flat_map (line_stops half) lines

-- the aspects of a half, and the first in which two files differ
abbrev pub half_aspects : Half → List Aspect
half_aspects Names = name_aspects
half_aspects Frames = frame_aspects

unfoldable pub first_in : Half → List SymLine → List SymLine → ℕ → Option Aspect
first_in half own other x = find (differs own other x) (half_aspects half)

-- two files, compared in one half
pub record Compared : Type 0 where
  pub half : Half
  pub own : List SymLine
  pub other : List SymLine

-- an address at or above that of the ruling is not looked at; for any other, the ruling becomes
-- what is found there
abbrev pub is_settled : Ruling → ℕ → Bool
is_settled Yes x = false
is_settled (No address aspect) x = nat_le address x

abbrev pub with_found : Ruling → ℕ → Option Aspect → Ruling
with_found ruling x None = ruling
with_found ruling x (Some aspect) = No x aspect

unfoldable pub with_stop : Half → List SymLine → List SymLine → Ruling → ℕ → Ruling
with_stop half own other ruling x = if is_settled ruling x then ruling else with_found ruling x (first_in half own other x)

unfoldable pub with_stops : Half → List SymLine → List SymLine → Ruling → List ℕ → Ruling
with_stops half own other ruling [] = ruling
with_stops half own other ruling (x ∷ stops) = with_stops half own other (with_stop half own other ruling x) stops

-- all addresses of two files at which something may change
abbrev pub all_stops : Half → List SymLine → List SymLine → List ℕ
all_stops half own other = 0 ∷ (stops_of half own ++ stops_of half other)

-- the ruling of one half, by all its stops
unfoldable pub half_ruling : Half → List SymLine → List SymLine → Ruling
half_ruling half own other = with_stops half own other Yes (all_stops half own other)

-- of these addresses, those at which the files may differ
abbrev pub doubted : Stepping Bool → List ℕ → List ℕ
doubted doubts stops = filter (value_at false doubts) stops

-- of two rulings, the one with the lesser address; if the addresses are equal, the first one
abbrev pub sooner : Ruling → Ruling → Ruling
sooner Yes b = b
sooner (No x p) Yes = No x p
sooner (No x p) (No y q) = if nat_le x y then No x p else No y q

-- the address of a ruling has 64 bits
abbrev pub Fits : Ruling → Type 0
Fits Yes = Unit {0}
Fits (No address aspect) = address < 2 ^ 64

-- a ruling of one half
abbrev pub IsHalfRuling : Half → List SymLine → List SymLine → Ruling → Type 0
IsHalfRuling half own other Yes = (x : ℕ) → x < 2 ^ 64 → first_in half own other x ≡ None
IsHalfRuling half own other (No address aspect) = (address < 2 ^ 64) × ((first_in half own other address ≡ Some aspect) × ((x : ℕ) → x < address → first_in half own other x ≡ None))
