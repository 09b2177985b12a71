-- Paths and lines of sources as the code stores them, and the first aspect in which two answers
-- differ.
use Rattle.std.specs.Prelude.{ℕ, List, Option, None, Some, if◌then◌else◌}
use Rattle.std.specs.Option.{option_and_then}
use Rattle.std.specs.Str.{bytes_eq}
use Rattle.sym_records.specs.declared.line.SymLine.{SymLine}
use Rattle.sym_meaning.specs.TextNames.{Call, text_path}
use Rattle.sym_lookup.specs.declared.answers.Answer.{Answer}
use Rattle.sym_lookup.specs.AnswerTexts.{owner_of, calls_of, line_of}
use Rattle.sym_judge.specs.Alike.{same_option, same_list, same_line, same_call}
use Rattle.sym_judge.specs.declared.names.Spot.{Spot}
use Rattle.sym_judge.specs.declared.ruling.Aspect.{Aspect}
use Rattle.sym_judge.specs.declared.ruling.Aspect.TheVariants.{Func, Chain, Line}

-- the path under a file's number, if there is one, and the line
abbrev pub spot_view : List SymLine → Spot → Option (List ℕ) × ℕ
spot_view lines spot = (option_and_then (text_path lines) spot.file, spot.line)

abbrev pub call_spot_of : Call → Option (List ℕ) × ℕ
call_spot_of call = (call.path, call.line)

-- the first aspect in which two answers differ
unfoldable pub first_named : List SymLine → Answer → List SymLine → Answer → Option Aspect
first_named own a other b =
    if same_option bytes_eq (owner_of own a) (owner_of other b) then
    if same_list same_call (calls_of own a) (calls_of other b) then
    if same_option same_line (line_of own a) (line_of other b) then None else Some Line
    else Some Chain
    else Some Func
