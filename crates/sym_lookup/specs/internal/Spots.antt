-- How the code gives the path and line of a frame.
use Rattle.std.specs.Prelude.{ℕ, List}
use Rattle.sym_records.specs.declared.line.SymLine.{SymLine}
use Rattle.sym_lookup.specs.AnswerTexts.{line_at, line_spot, call_at, call_spot}
use Rattle.sym_lookup.specs.declared.texts.Spot.{Spot}
use Rattle.sym_lookup.specs.declared.texts.Spot.TheVariants.{OfLine, OfCall}

-- the path and line of a frame, given the place of the record that has them
abbrev pub spot_shown : List SymLine → Spot → List ℕ
spot_shown lines (OfLine place) = line_spot (line_at lines place)
spot_shown lines (OfCall place) = call_spot (call_at lines place)
