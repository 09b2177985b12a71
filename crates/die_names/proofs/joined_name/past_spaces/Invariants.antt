use Rattle.std.proofs.Common.{◌≤◌, ◌-◌, length}
use Rattle.die_names.proofs.joined_name.past_spaces.Given as goal

abbrev pub invariant-spaces : goal.invariant-spaces
invariant-spaces l = l.from ≤ l.place

abbrev pub decreases-spaces : goal.decreases-spaces
decreases-spaces l = length l.text - l.place
