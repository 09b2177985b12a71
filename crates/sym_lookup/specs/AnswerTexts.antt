-- The names, paths and lines that the records of an answer give, and the text of an answer. The
-- text has a line `NAME at PATH:LINE` for each frame, the innermost first; or it is `public NAME`,
-- or `none`.
use Rattle.std.specs.Prelude.{ℕ, List, [], ◌∷◌, ◌++◌, reverse, map, codes, Option, None, Some, slice_get}
use Rattle.std.specs.Fmt.{decimal}
use Rattle.std.specs.Option.{option_map, option_map_or, option_and_then, unwrap_or}
use Rattle.sym_records.specs.declared.line.SymLine.{SymLine}
use Rattle.sym_records.specs.declared.line.SymLine.TheVariants.{Public}
use Rattle.sym_meaning.specs.TextNames.{func_name, Call, call_of, path_and_line}
use Rattle.sym_lookup.specs.declared.answers.Answer.{Answer}
use Rattle.sym_lookup.specs.declared.answers.Answer.TheVariants as answer

-- the name of the FUNC at a place; after this, the call of the INLINE at a place, and the path and
-- line of the line record at a place
abbrev pub func_name_at : List SymLine → ℕ → List ℕ
func_name_at lines place = option_map_or func_name (slice_get lines place) []

abbrev pub call_at : List SymLine → ℕ → Call
call_at lines place = option_map_or (call_of lines) (slice_get lines place) (record { name = None; path = None; line = 0 })

abbrev pub line_at : List SymLine → Option ℕ → Option (Option (List ℕ) × ℕ)
line_at lines place = option_map (path_and_line lines) (option_and_then (slice_get lines) place)

abbrev pub public_name : SymLine → List ℕ
public_name (Public many address params name) = name
public_name _ = []

abbrev pub public_name_at : List SymLine → ℕ → List ℕ
public_name_at lines place = option_map_or public_name (slice_get lines place) []

-- path and line, or a question mark if the path is missing
abbrev pub spot_text : Option (List ℕ) → ℕ → List ℕ
spot_text None line = codes "?"
spot_text (Some path) line = path ++ codes ":" ++ decimal line

abbrev pub line_spot : Option (Option (List ℕ) × ℕ) → List ℕ
line_spot None = codes "?"
line_spot (Some line) = spot_text line.0 line.1

abbrev pub call_spot : Call → List ℕ
call_spot call = spot_text call.path call.line

abbrev pub call_name : Call → List ℕ
call_name call = unwrap_or call.name (codes "<name omitted>")

-- the line of a frame: the name of the function, and its path and line (`spot`)
abbrev pub frame_text : List ℕ → List ℕ → List ℕ
frame_text name spot = name ++ codes " at " ++ spot ++ codes "\n"

-- the frames of inlined calls, the innermost first, and then the frame of the function that
-- contains them. The first frame has the path and line `spot`; each further frame has those of the
-- call whose frame precedes it
abbrev pub frames_text : List ℕ → List ℕ → List Call → List ℕ
frames_text owner spot [] = frame_text owner spot
frames_text owner spot (call ∷ calls) = frame_text (call_name call) spot ++ frames_text owner (call_spot call) calls

-- the text of an answer. The answer gives its records by their places in the list, the outermost
-- INLINE record first
unfoldable pub answer_text : List SymLine → Answer → List ℕ
answer_text lines (answer.Function func chain line) = frames_text (func_name_at lines func) (line_spot (line_at lines line)) (map (call_at lines) (reverse chain))
answer_text lines (answer.Public index) = codes "public " ++ public_name_at lines index ++ codes "\n"
answer_text lines answer.Nothing = codes "none\n"

-- what the records of an answer say: the function, the calls that are inlined at the address (the
-- outermost first), and the line
unfoldable pub owner_of : List SymLine → Answer → Option (List ℕ)
owner_of lines (answer.Function func chain line) = Some (func_name_at lines func)
owner_of lines _ = None

unfoldable pub calls_of : List SymLine → Answer → List Call
calls_of lines (answer.Function func chain line) = map (call_at lines) chain
calls_of lines _ = []

unfoldable pub line_of : List SymLine → Answer → Option (Option (List ℕ) × ℕ)
line_of lines (answer.Function func chain line) = line_at lines line
line_of lines _ = None
