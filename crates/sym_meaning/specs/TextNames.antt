-- The function, the inlined copies and the line that a symbol file has at an address (Breakpad's
-- symbol_files.md).
use Rattle.std.specs.Prelude.{ℕ, zero, suc, ◌+◌, Bool, false, ◌&&◌, ◌==◌, nat_le, nat_lt, max, if◌then◌else◌, map, List, [], ◌∷◌, Option, None, Some}
use Rattle.std.specs.List.{find, list_any}
use Rattle.std.specs.Option.{option_map, option_map_or, option_and_then}
use Rattle.sym_records.specs.declared.line.Extent.{Extent}
use Rattle.sym_records.specs.declared.line.SymLine.{SymLine}
use Rattle.sym_records.specs.declared.line.SymLine.TheVariants.{File, Origin, Func, Inline, Line}

-- whether x is one of the `size` addresses from `address` on
abbrev pub is_within : ℕ → ℕ → ℕ → Bool
is_within address size x = nat_le address x && nat_lt x (address + size)

-- whether the record is a FUNC that covers the address
abbrev pub is_func_at : ℕ → SymLine → Bool
is_func_at x (Func many address size params name) = is_within address size x
is_func_at x _ = false

-- whether the record is a line record that covers the address
abbrev pub is_line_at : ℕ → SymLine → Bool
is_line_at x (Line address size line file) = is_within address size x
is_line_at x _ = false

-- the records directly under a FUNC: the INLINE and line records that follow it, up to another record
abbrev pub under : List SymLine → List SymLine
under [] = []
under (Inline level line file origin ranges ∷ lines) = Inline level line file origin ranges ∷ under lines
under (Line address size line file ∷ lines) = Line address size line file ∷ under lines
under (_ ∷ lines) = []

-- a FUNC, and the records after it
pub record Found : Type 0 where
  pub func : SymLine
  pub behind : List SymLine

-- the first FUNC that covers the address
abbrev pub text_func : List SymLine → ℕ → Option Found
text_func [] x = None
text_func (s ∷ lines) x = if is_func_at x s then Some (record { func = s; behind = lines }) else text_func lines x

abbrev pub func_name : SymLine → List ℕ
func_name (Func many address size params name) = name
func_name _ = []

-- the name of the first FUNC that covers the address
unfoldable pub text_owner : List SymLine → ℕ → Option (List ℕ)
text_owner lines x = option_map (λ f. func_name f.func) (text_func lines x)

abbrev pub is_file : ℕ → SymLine → Bool
is_file n (File number name) = number == n
is_file n _ = false

abbrev pub file_name : SymLine → List ℕ
file_name (File number name) = name
file_name _ = []

-- the name of the first FILE with the number n
abbrev pub text_path : List SymLine → ℕ → Option (List ℕ)
text_path lines n = option_map file_name (find (is_file n) lines)

-- the path of a line record's FILE, if there is such a FILE, and the record's line
abbrev pub path_and_line : List SymLine → SymLine → Option (List ℕ) × ℕ
path_and_line lines (Line address size line file) = (text_path lines file, line)
path_and_line lines _ = (None, 0)

-- of the line records under a FUNC, the first that covers the address
abbrev pub line_under : ℕ → Found → Option SymLine
line_under x f = find (is_line_at x) (under f.behind)

-- path and line of the first line record that covers the address, under the first FUNC that covers it
unfoldable pub text_line : List SymLine → ℕ → Option (Option (List ℕ) × ℕ)
text_line lines x = option_map (path_and_line lines) (option_and_then (line_under x) (text_func lines x))

-- whether the record is an INLINE of the level, and one of its ranges covers the address
abbrev pub is_inline_at : ℕ → ℕ → SymLine → Bool
is_inline_at level x (Inline own line file origin ranges) = (own == level) && list_any (λ (r : Extent). is_within r.address r.size x) ranges
is_inline_at level x _ = false

abbrev pub is_origin : ℕ → SymLine → Bool
is_origin n (Origin number name) = number == n
is_origin n _ = false

abbrev pub origin_name : SymLine → List ℕ
origin_name (Origin number name) = name
origin_name _ = []

-- the name of the first INLINE_ORIGIN with the number n
abbrev pub text_origin : List SymLine → ℕ → Option (List ℕ)
text_origin lines n = option_map origin_name (find (is_origin n) lines)

-- an inlined call: the name of the function, and path and line of the call
pub record Call : Type 0 where
  pub name : Option (List ℕ)
  pub path : Option (List ℕ)
  pub line : ℕ

-- the call of an INLINE: the name of its INLINE_ORIGIN and the path of its FILE, if there are such
-- records, and its line
abbrev pub call_of : List SymLine → SymLine → Call
call_of lines (Inline level line file origin ranges) = record { name = text_origin lines origin; path = text_path lines file; line = line }
call_of lines _ = record { name = None; path = None; line = 0 }

-- one more than the highest level of INLINE records, or 0 if there are none
abbrev pub level_count : List SymLine → ℕ
level_count [] = 0
level_count (Inline level line file origin ranges ∷ lines) = max (level + 1) (level_count lines)
level_count (_ ∷ lines) = level_count lines

-- for each level from `level` on, the first INLINE of this level that covers the address. The list
-- ends at the first level without one, and has at most `levels` records
abbrev pub inlines_from : ℕ → ℕ → ℕ → List SymLine → List SymLine
inlines_from x level zero records = []
inlines_from x level (suc levels) records = option_map_or (λ s. s ∷ inlines_from x (level + 1) levels records) (find (is_inline_at level x) records) []

-- the INLINE records under a FUNC that cover the address, from level 0 on
abbrev pub inlines_under : ℕ → Found → List SymLine
inlines_under x f = inlines_from x 0 (level_count (under f.behind)) (under f.behind)

-- the calls at the address, the outermost first, as the INLINE records under the first FUNC that
-- covers the address give them
unfoldable pub text_chain : List SymLine → ℕ → List Call
text_chain lines x = map (call_of lines) (option_map_or (inlines_under x) (text_func lines x) [])
