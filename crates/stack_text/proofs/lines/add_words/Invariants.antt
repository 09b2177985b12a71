use Rattle.std.proofs.Common.{◌≡◌, ◌∷◌, ◌++◌, take}
use Rattle.std.specs.List.{flat_map}
use Rattle.stack_text.proofs.lines.add_words.Given as goal

abbrev pub invariant-words : goal.invariant-words
invariant-words l = l.text.items ≡ (l.fn.text.items ++ l.first) ++ flat_map (λ word. 32 ∷ word.now) (take l.word-index l.words)
