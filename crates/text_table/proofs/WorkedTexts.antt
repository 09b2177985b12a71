-- Worked examples: what is held of a text.
use Rattle.std.proofs.Common.{◌≡◌, ◌++◌, [], ◌∷◌, codes, rules}
use Rattle.text_table.specs.Spaces.{held_text, held_front}
use Rattle.text_table.proofs.Computing.{text_table_computes}

record Texts : Type 0 where
  a_name : held_text (codes "main") ≡ codes "main"
  -- A few spaces stay, and are dropped when the name is cleaned.
  spaces_in_front : held_text (codes "  main") ≡ codes "  main"
  spaces_alone : held_text (codes "   ") ≡ codes "   "
  nothing : held_text [] ≡ []
  -- A text ends at the first zero byte.
  up_to_a_zero : held_front (codes "ab" ++ 0 ∷ codes "cd") ≡ codes "ab"
  up_to_the_end : held_front (codes "ab") ≡ codes "ab"

texts : Texts
unfolding text_table_computes
texts = search rules
