-- What a proof unfolds to compute the definitions of this crate where the input is written out.
use Rattle.std.specs.Prelude.{⊤}
use Rattle.leb_cursor.proofs.Computing.{leb_cursor_computes}
use Rattle.text_table.specs.Spaces.{fewer_spaces, held_text, held_front}

unfoldable pub text_table_computes : ⊤
unfolding fewer_spaces held_text held_front leb_cursor_computes
text_table_computes = tt
