use Rattle.std.proofs.Common.{◌≡◌, length, map}
use Rattle.sym_lookup.specs.AnswerTexts.{call_at}
use Rattle.sym_judge.specs.Alike.{same_list, same_call}
use Rattle.sym_judge.proofs.names.are_same_calls.Given as goal

abbrev pub invariant-calls : goal.invariant-calls
invariant-calls l = same_list same_call (map (call_at l.both.own) l.a) (map (call_at l.both.other) l.b) ≡ same_list same_call (map (call_at l.both.own) l.front) (map (call_at l.both.other) l.back)

abbrev pub decreases-calls : goal.decreases-calls
decreases-calls l = length l.front
