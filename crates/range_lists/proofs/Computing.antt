-- The definitions of range_lists and of the crates below it that a proof unfolds to compute a
-- worked example.
use Rattle.std.specs.Prelude.{⊤}
use Rattle.range_set.specs.Enclosing.{encloses}
use Rattle.die_walk.proofs.Computing.{die_walk_computes}
use Rattle.range_lists.specs.Places.{ahead_in, number_there, address_at, address_of}
use Rattle.range_lists.specs.ListItems.{pair_at, item_by, rnglist_item_at, item_at}
use Rattle.range_lists.specs.ListPairs.{effect_of, item_fault, effect_at, pairs_from, list_pairs}
use Rattle.range_lists.specs.EntryRanges.{unit_base, list_place, list_of, end_of, pairs_of, place_of_list}

unfoldable pub range_lists_computes : ⊤
unfolding encloses ahead_in number_there address_at address_of pair_at item_by rnglist_item_at item_at effect_of item_fault effect_at pairs_from list_pairs unit_base list_place list_of end_of pairs_of place_of_list die_walk_computes
range_lists_computes = tt
