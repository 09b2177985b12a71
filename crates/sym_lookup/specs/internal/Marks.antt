-- The marks of records. A mark is the place of a record with a key, which is the address at which
-- it begins, or its number.
use Rattle.std.specs.Prelude.{ℕ, ◌+◌, List, [], ◌∷◌, ◌++◌, Option, None, Some}
use Rattle.sym_records.specs.declared.line.SymLine.{SymLine}
use Rattle.sym_records.specs.declared.line.SymLine.TheVariants.{File, Origin, Func, Public}
use Rattle.sym_lookup.specs.declared.marks.Mark.{Mark}
use Rattle.sym_lookup.specs.declared.marks.Marked.{Marked}
use Rattle.sym_lookup.specs.declared.marks.Marked.TheVariants as marked

abbrev pub func_start : SymLine → Option ℕ
func_start (Func many address size params name) = Some address
func_start _ = None

abbrev pub public_start : SymLine → Option ℕ
public_start (Public many address params name) = Some address
public_start _ = None

abbrev pub file_number : SymLine → Option ℕ
file_number (File number name) = Some number
file_number _ = None

abbrev pub origin_number : SymLine → Option ℕ
origin_number (Origin number name) = Some number
origin_number _ = None

abbrev pub key_of : Marked → SymLine → Option ℕ
key_of marked.Functions s = func_start s
key_of marked.Publics s = public_start s
key_of marked.Files s = file_number s
key_of marked.Origins s = origin_number s

abbrev pub mark_of : ℕ → Option ℕ → List Mark
mark_of place None = []
mark_of place (Some key) = record { key = key; place = place } ∷ []

-- the marks of records; the first record has the place `place`
abbrev pub marks_of : Marked → ℕ → List SymLine → List Mark
marks_of kind place [] = []
marks_of kind place (s ∷ lines) = mark_of place (key_of kind s) ++ marks_of kind (place + 1) lines
