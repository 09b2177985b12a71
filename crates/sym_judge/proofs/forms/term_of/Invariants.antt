use Rattle.std.proofs.Common.{◌≡◌, [], drop, reverse}
use Rattle.sym_judge.specs.Forms.{terms_after}
use Rattle.sym_judge.proofs.forms.term_of.Given as goal

abbrev pub invariant-words : goal.invariant-words
invariant-words l = terms_after l.inside l.words [] ≡ terms_after l.inside (drop l.word-index l.words) (reverse l.stack.items)
