use Rattle.inline_chain.proofs.OrderLemmas.{rising_parts}
use Rattle.inline_chain.proofs.RunLemmas.{made_of}
use Rattle.inline_chain.proofs.groups.push_level.Goals as goal

pub sort_by_address-requires : goal.sort_by_address-requires
sort_by_address-requires c x = rising_parts _ (c.in_ok-fill_groups.ensures.copies x).parts_are (c.in_ok-fill_groups.ensures.copies x).canonical

pub returns : goal.returns
returns c = record {
  made = c.sort_by_address.new.made.items;
  whole = c.in_ok-append.ensures.items;
  is_made = made_of _ _ _ _ _ c.in_ok-sort_by_class.ensures.same c.in_ok-sort_by_address.ensures.same (c.in_ok-sort_by_address.ensures.level c.in_ok-fill_groups.ensures.level_is) (rw c.as_slice.ensures.value at c.in_ok-fill_groups.ensures);
  ordered = c.in_ok-sort_by_address.ensures.sorted c.in_ok-fill_groups.ensures.level_is;
}
