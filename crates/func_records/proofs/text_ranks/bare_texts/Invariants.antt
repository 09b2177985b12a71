use Rattle.std.proofs.Common.{◌≡◌, map, take}
use Rattle.func_records.proofs.text_ranks.bare_texts.Given as goal

abbrev pub invariant-placed : goal.invariant-placed
invariant-placed l = l.texts.items ≡ map (λ p. p.0) (take l.place l.placed)
