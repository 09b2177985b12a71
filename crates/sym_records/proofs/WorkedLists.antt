-- Worked examples of lists (Breakpad's symbol_files.md): which records may follow which, and which
-- fields and names records may carry.
use Rattle.std.proofs.Common.{◌≡◌, true, false, [], ◌∷◌, codes, Some, None, refl}
use Rattle.sym_records.proofs.Computing.{sym_records_computes}
use Rattle.sym_records.specs.Fields.{is_field, is_name}
use Rattle.sym_records.specs.Validity.{first_bad}
use Rattle.sym_records.specs.declared.line.SymLine.{SymLine}
use Rattle.sym_records.specs.declared.line.SymLine.TheVariants as line
use Rattle.sym_rules.specs.declared.rules.Target.TheVariants as target
use Rattle.sym_rules.specs.declared.rules.Token.TheVariants as token

-- A record of each kind.
abbrev binary : SymLine
binary = line.Module (record { os = codes "a"; arch = codes "b"; id = codes "c"; name = codes "d" })

abbrev info : SymLine
info = line.Info (codes "a")

abbrev file : SymLine
file = line.File 0 (codes "a")

abbrev origin : SymLine
origin = line.Origin 0 (codes "a")

abbrev func : SymLine
func = line.Func false 4096 32 0 (codes "f")

abbrev inline : SymLine
inline = line.Inline 0 4 0 0 (record { address = 4100; size = 8 } ∷ [])

abbrev line_record : SymLine
line_record = line.Line 4096 4 3 0

abbrev public : SymLine
public = line.Public false 4096 0 (codes "a")

abbrev init : SymLine
init = line.Init 4096 32 (record { target = target.Cfa; tokens = token.Cfa ∷ [] } ∷ [])

abbrev change : SymLine
change = line.Change 4097 (record { target = target.Cfa; tokens = token.Cfa ∷ [] } ∷ [])

abbrev empty_init : SymLine
empty_init = line.Init 4096 32 []

abbrev bad_public : SymLine
bad_public = line.Public false 0 0 (codes "a\r")

-- Each kind of record after MODULE.
all_records : first_bad (binary ∷ info ∷ file ∷ origin ∷ func ∷ inline ∷ line_record ∷ line_record ∷ inline ∷ public ∷ init ∷ change ∷ []) ≡ None
unfolding sym_records_computes
all_records = refl

-- The empty list.
nothing : first_bad ([]) ≡ Some 0
unfolding sym_records_computes
nothing = refl

-- Each other kind of record as the first one.
info_first : first_bad (info ∷ []) ≡ Some 0
unfolding sym_records_computes
info_first = refl

file_first : first_bad (file ∷ []) ≡ Some 0
unfolding sym_records_computes
file_first = refl

origin_first : first_bad (origin ∷ []) ≡ Some 0
unfolding sym_records_computes
origin_first = refl

func_first : first_bad (func ∷ []) ≡ Some 0
unfolding sym_records_computes
func_first = refl

inline_first : first_bad (inline ∷ []) ≡ Some 0
unfolding sym_records_computes
inline_first = refl

line_first : first_bad (line_record ∷ []) ≡ Some 0
unfolding sym_records_computes
line_first = refl

public_first : first_bad (public ∷ []) ≡ Some 0
unfolding sym_records_computes
public_first = refl

init_first : first_bad (init ∷ []) ≡ Some 0
unfolding sym_records_computes
init_first = refl

change_first : first_bad (change ∷ []) ≡ Some 0
unfolding sym_records_computes
change_first = refl

-- MODULE after each kind of record.
module_again : first_bad (binary ∷ binary ∷ []) ≡ Some 1
unfolding sym_records_computes
module_again = refl

module_behind_func : first_bad (binary ∷ func ∷ binary ∷ []) ≡ Some 2
unfolding sym_records_computes
module_behind_func = refl

module_behind_line : first_bad (binary ∷ func ∷ line_record ∷ binary ∷ []) ≡ Some 3
unfolding sym_records_computes
module_behind_line = refl

module_behind_init : first_bad (binary ∷ init ∷ binary ∷ []) ≡ Some 2
unfolding sym_records_computes
module_behind_init = refl

module_behind_change : first_bad (binary ∷ init ∷ change ∷ binary ∷ []) ≡ Some 3
unfolding sym_records_computes
module_behind_change = refl

-- A line record or an INLINE that is not under a FUNC.
line_behind_module : first_bad (binary ∷ line_record ∷ []) ≡ Some 1
unfolding sym_records_computes
line_behind_module = refl

inline_behind_module : first_bad (binary ∷ inline ∷ []) ≡ Some 1
unfolding sym_records_computes
inline_behind_module = refl

line_behind_public : first_bad (binary ∷ func ∷ public ∷ line_record ∷ []) ≡ Some 3
unfolding sym_records_computes
line_behind_public = refl

inline_behind_public : first_bad (binary ∷ func ∷ public ∷ inline ∷ []) ≡ Some 3
unfolding sym_records_computes
inline_behind_public = refl

line_behind_file : first_bad (binary ∷ func ∷ file ∷ line_record ∷ []) ≡ Some 3
unfolding sym_records_computes
line_behind_file = refl

line_behind_origin : first_bad (binary ∷ func ∷ origin ∷ line_record ∷ []) ≡ Some 3
unfolding sym_records_computes
line_behind_origin = refl

line_behind_init : first_bad (binary ∷ func ∷ init ∷ line_record ∷ []) ≡ Some 3
unfolding sym_records_computes
line_behind_init = refl

line_behind_change : first_bad (binary ∷ init ∷ change ∷ line_record ∷ []) ≡ Some 3
unfolding sym_records_computes
line_behind_change = refl

inline_behind_info : first_bad (binary ∷ func ∷ info ∷ inline ∷ []) ≡ Some 3
unfolding sym_records_computes
inline_behind_info = refl

-- A line record or an INLINE under a FUNC.
line_behind_inline : first_bad (binary ∷ func ∷ inline ∷ line_record ∷ inline ∷ line_record ∷ []) ≡ None
unfolding sym_records_computes
line_behind_inline = refl

line_behind_second_func : first_bad (binary ∷ func ∷ func ∷ line_record ∷ []) ≡ None
unfolding sym_records_computes
line_behind_second_func = refl

-- A STACK CFI that does not follow a frame record.
change_behind_module : first_bad (binary ∷ change ∷ []) ≡ Some 1
unfolding sym_records_computes
change_behind_module = refl

change_behind_public : first_bad (binary ∷ public ∷ change ∷ []) ≡ Some 2
unfolding sym_records_computes
change_behind_public = refl

change_behind_func : first_bad (binary ∷ func ∷ change ∷ []) ≡ Some 2
unfolding sym_records_computes
change_behind_func = refl

change_behind_line : first_bad (binary ∷ func ∷ line_record ∷ change ∷ []) ≡ Some 3
unfolding sym_records_computes
change_behind_line = refl

change_behind_inline : first_bad (binary ∷ func ∷ inline ∷ change ∷ []) ≡ Some 3
unfolding sym_records_computes
change_behind_inline = refl

change_behind_info : first_bad (binary ∷ init ∷ info ∷ change ∷ []) ≡ Some 3
unfolding sym_records_computes
change_behind_info = refl

-- A STACK CFI that follows a frame record.
change_behind_init : first_bad (binary ∷ init ∷ change ∷ []) ≡ None
unfolding sym_records_computes
change_behind_init = refl

changes : first_bad (binary ∷ init ∷ change ∷ change ∷ init ∷ change ∷ []) ≡ None
unfolding sym_records_computes
changes = refl

-- Frame records between others.
frames_between : first_bad (binary ∷ public ∷ init ∷ change ∷ public ∷ func ∷ init ∷ file ∷ []) ≡ None
unfolding sym_records_computes
frames_between = refl

-- A record that no text can spell.
no_rules : first_bad (binary ∷ empty_init ∷ []) ≡ Some 1
unfolding sym_records_computes
no_rules = refl

cr_at_end : first_bad (binary ∷ public ∷ bad_public ∷ []) ≡ Some 2
unfolding sym_records_computes
cr_at_end = refl

-- Names.
name_plain : is_name (codes "a b ") ≡ true
unfolding sym_records_computes
name_plain = refl

name_crs : is_name (codes "\ra\r ") ≡ true
unfolding sym_records_computes
name_crs = refl

-- No name: LF, a space in front, no bytes, and CR at the end.
name_lf : is_name (codes "a\nb") ≡ false
unfolding sym_records_computes
name_lf = refl

name_space : is_name (codes " a") ≡ false
unfolding sym_records_computes
name_space = refl

name_empty : is_name (codes "") ≡ false
unfolding sym_records_computes
name_empty = refl

name_cr : is_name (codes "a\r") ≡ false
unfolding sym_records_computes
name_cr = refl

name_spaces : is_name (codes " ") ≡ false
unfolding sym_records_computes
name_spaces = refl

-- A field.
field_plain : is_field (codes "Linux") ≡ true
unfolding sym_records_computes
field_plain = refl

field_empty : is_field (codes "") ≡ false
unfolding sym_records_computes
field_empty = refl

field_space : is_field (codes "a b") ≡ false
unfolding sym_records_computes
field_space = refl

field_lf : is_field (codes "a\n") ≡ false
unfolding sym_records_computes
field_lf = refl

field_space_first : is_field (codes " a") ≡ false
unfolding sym_records_computes
field_space_first = refl
