use Rattle.std.proofs.Common.{◌≡◌, ◌++◌, length, map, reverse}
use Rattle.sym_lookup.specs.AnswerTexts.{frames_text, func_name_at, call_at, line_at, line_spot}
use Rattle.sym_lookup.specs.internal.Spots.{spot_shown}
use Rattle.sym_lookup.proofs.texts.add_frames.Given as goal

abbrev pub invariant-frames : goal.invariant-frames
invariant-frames l =
    l.text ++ frames_text (func_name_at l.lines l.func) (spot_shown l.lines l.spot) (map (call_at l.lines) (reverse l.rest))
    ≡ l.fn.text ++ frames_text (func_name_at l.lines l.func) (line_spot (line_at l.lines l.fn.line)) (map (call_at l.lines) (reverse l.chain))

abbrev pub decreases-frames : goal.decreases-frames
decreases-frames l = length l.rest
