-- The definitions of leb_cursor that a proof unfolds to compute a worked example.
use Rattle.std.specs.Prelude.{⊤}
use Rattle.leb_cursor.specs.Ahead.{passed}
use Rattle.leb_cursor.specs.Texts.{front_text}
use Rattle.leb_cursor.specs.Readings.{fixed_sum, fixed_at, leb_length, leb_sum, leb_open, uleb_at, sleb_sum, sleb_at, text_at, take_at, part_at}
use Rattle.leb_cursor.specs.Lists.{list_in, list_at}
use Rattle.sym_edges.proofs.Hex.{bytes, hex}

unfoldable pub leb_cursor_computes : ⊤
unfolding passed front_text fixed_sum fixed_at leb_length leb_sum leb_open uleb_at sleb_sum sleb_at text_at take_at part_at list_in list_at bytes hex
leb_cursor_computes = tt
