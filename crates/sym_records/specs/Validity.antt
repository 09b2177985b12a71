-- Which records a text can spell, and in which lists they may be (Breakpad's symbol_files.md).
use Rattle.std.specs.Prelude.{◌≡◌, ℕ, ◌+◌, ◌^◌, ◌&&◌, ◌≤◌, Bool, true, nat_le, zero, suc, if◌then◌else◌, List, [], ◌∷◌, length, Option, Some, None, Ok}
use Rattle.std.specs.List.{list_all}
use Rattle.sym_rules.specs.Cuts.{is_within_line}
use Rattle.sym_records.specs.Fields.{fit}
use Rattle.sym_records.specs.Places.{is_change_role}
use Rattle.sym_records.specs.Records.{layout, role, keyword, values}
use Rattle.sym_records.specs.Canon.{body}
use Rattle.sym_records.specs.Text.{line_read}
use Rattle.sym_records.specs.Reading.{fits, leads}
use Rattle.sym_records.specs.declared.line.SymLine.{SymLine}
use Rattle.sym_records.specs.declared.place.Place.{Place}
use Rattle.sym_records.specs.declared.place.Place.TheVariants.{Start}

-- a record is valid if its canonical spelling is one line of at most 2^20 bytes without LF, and reading that line gives the record
pub record IsValid (s : SymLine) : Type 0 where
  pub reads : line_read (body s) ≡ Ok (Some s)
  pub one_line : list_all is_within_line (body s) ≡ true
  pub short : length (body s) ≤ 2 ^ 20

-- the record is valid, and may be at the place
abbrev pub Stands : Place → SymLine → Type 0
Stands place s = IsValid s × (fits place s ≡ true)

-- each record is valid, and may be at the place to which the records before it lead
abbrev pub AreValidFrom : Place → List SymLine → Type 0
AreValidFrom place [] = Unit {0}
AreValidFrom place (s ∷ lines) = Stands place s × AreValidFrom (leads place s) lines

-- a list is valid if it is not empty, each record is valid, and each record may be at its place
abbrev pub AreValid : List SymLine → Type 0
AreValid [] = ⊥
AreValid (s ∷ lines) = AreValidFrom Start (s ∷ lines)

-- the record at the index is the first that is not valid or may not be at its place
abbrev pub IsFirstBadFrom : Place → List SymLine → ℕ → Type 0
IsFirstBadFrom place [] i = ⊥
IsFirstBadFrom place (s ∷ lines) zero = ¬ Stands place s
IsFirstBadFrom place (s ∷ lines) (suc i) = Stands place s × IsFirstBadFrom (leads place s) lines i

-- the index is that of the first bad record, or 0 for the empty list
abbrev pub IsFirstBad : List SymLine → ℕ → Type 0
IsFirstBad [] i = i ≡ 0
IsFirstBad (s ∷ lines) i = IsFirstBadFrom Start (s ∷ lines) i

-- whether the record's line can carry each of its fields
abbrev pub has_fields : SymLine → Bool
has_fields s = fit (layout (keyword s)) (values s)

-- whether a record passes the test of its fields and its length; this is true exactly if the record
-- is valid
unfoldable pub fields_fit : SymLine → Bool
fields_fit s = has_fields s && nat_le (length (body s)) (2 ^ 20)

-- the index of the first record that fails the test or may not be at its place. The first of
-- `lines` has the index i
unfoldable pub first_bad_from : ℕ → Place → List SymLine → Option ℕ
first_bad_from i place [] = None
first_bad_from i place (s ∷ lines) = if fits place s && fields_fit s then first_bad_from (i + 1) (leads place s) lines else Some i

-- the place after some records
unfoldable pub place_behind : Place → List SymLine → Place
place_behind place [] = place
place_behind place (s ∷ lines) = place_behind (leads place s) lines

-- a STACK CFI record
abbrev pub is_change : SymLine → Bool
is_change s = is_change_role (role (keyword s))

-- the index of the first bad record, if there is one; `Some 0` for the empty list
unfoldable pub first_bad : List SymLine → Option ℕ
first_bad [] = Some 0
first_bad (s ∷ lines) = first_bad_from 0 Start (s ∷ lines)
