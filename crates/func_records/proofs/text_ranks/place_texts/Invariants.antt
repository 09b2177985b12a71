use Rattle.std.proofs.Common.{◌≡◌, map, take}
use Rattle.func_records.proofs.text_ranks.place_texts.Given as goal

abbrev pub invariant-texts : goal.invariant-texts
invariant-texts l = map (λ p. p.0) l.placed.items ≡ take l.place l.texts
