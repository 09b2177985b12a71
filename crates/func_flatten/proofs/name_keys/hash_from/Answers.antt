use Rattle.std.proofs.Common.{map, sym, ap, ◌∙◌}
use Rattle.clean_names.specs.Cleaning.{shown_byte}
use Rattle.func_flatten.specs.internal.NameKeys.{hash_from}
use Rattle.func_flatten.proofs.KeyLemmas.{hash_parted, hash_first, hash_end}
use Rattle.func_flatten.proofs.name_keys.hash_from.Goals as goal

pub fours-preserved : goal.fours-preserved
fours-preserved c = rw (c.hash_four-whole.ensures, c.split_at.ensures.front, c.split_at.ensures.back) (hash_parted c.fours.whole c.fours.rest.now 4 ∙ c.fours.invariant)

pub bytes-preserved : goal.bytes-preserved
bytes-preserved c =
    rw (c.mixed-whole.ensures, c.shown_byte.ensures)
    (sym (hash_first c.bytes.whole (shown_byte c.in-Some.b.now) (map shown_byte c.in-Some.later.now)) ∙ ap (λ l. hash_from c.bytes.whole (map shown_byte l)) (sym c.in-Some.ensures.cases.0) ∙ c.bytes.invariant)

pub returns : goal.returns
returns c = hash_end c.bytes.whole _ c.bytes.rest.now c.in_default.ensures.cases c.bytes.invariant
