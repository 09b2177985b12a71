use Rattle.std.proofs.Common.{◌≡◌, length}
use Rattle.sym_judge.specs.Forms.{same_words}
use Rattle.sym_judge.proofs.forms.are_same_words.Given as goal

abbrev pub invariant-words : goal.invariant-words
invariant-words l = same_words l.a l.b ≡ same_words l.front l.back

abbrev pub decreases-words : goal.decreases-words
decreases-words l = length l.front
