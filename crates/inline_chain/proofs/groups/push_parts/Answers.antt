use Rattle.std.proofs.Common.{◌≡◌, length, arith}
use Rattle.std.proofs.lemmas.Bool.Decides.{nat_tests}
use Rattle.inline_chain.proofs.PartLemmas.{parts_begin, parts_more, parts_full, parts_last, canonical_take, canonical_drop}
use Rattle.inline_chain.proofs.groups.push_parts.Goals as goal

pub parts-init : goal.parts-init
parts-init c = record { canonical = c.requires; parts = parts_begin _ _ _ _ }

pub set_of-requires : goal.set_of-requires
set_of-requires c = rw c.split_at.ensures.front (canonical_take 16384 _ c.parts.invariant.canonical)

pub parts-preserved : goal.parts-preserved
parts-preserved c = record {
  canonical = rw c.split_at.ensures.back (canonical_drop 16384 _ c.parts.invariant.canonical);
  parts = parts_more _ _ _ _ _ _ _ _ _ _ c.split_at.ensures.front c.split_at.ensures.back c.parts-test.true c.in_ok-set_of.ensures c.in_ok-push.ensures.items c.parts.invariant.parts;
}

pub returns-then-is_empty : goal.returns-then-is_empty
returns-then-is_empty c = parts_full _ _ _ _ _ _ (let none : length c.parts.rest.now ≡ 0 = grind (arith, nat_tests) in none) c.parts.invariant.parts

pub returns : goal.returns
returns c = parts_last _ _ _ _ _ _ _ _ (grind (arith, nat_tests)) (omega arith) c.in_ok-set_of-2.ensures c.in_ok-push-2.ensures.items c.parts.invariant.parts
