use Rattle.std.proofs.Common.{arith, refl}
use Rattle.range_set.specs.Members.{holds_any}
use Rattle.func_flatten.proofs.PublicLemmas.{goes_begin, group_step, IsGroup, covers_here, goes_on, made_more, made_all}
use Rattle.func_flatten.proofs.uncovered.publics_beside.Goals as goal

pub groups-init : goal.groups-init
groups-init c = rw c.new-publics.ensures.items (record {
  made = refl;
  goes = goes_begin _ _ c.requires.canonical c.requires.ordered;
  inside = omega arith;
})

pub groups-preserved : goal.groups-preserved
groups-preserved c =
    let group : IsGroup (holds_any c.args.spans.now) c.pass_to-covered.result.1 _ c.group_len-count.result =
    group_step (holds_any c.args.spans.now) c.pass_to-covered.result.1 c.args.sorted.now c.split_at.result.1.now c.groups.at c.group_len-count.result _ c.groups-test.true c.split_at.ensures.back c.groups.invariant.goes.ordered c.group_len-count.ensures.group c.group_len-count.ensures.next
    (covers_here _ c.groups.rest.now c.args.sorted.now c.groups.at _ _ c.groups-test.true c.groups.invariant.goes c.pass_to-covered.ensures.covered) in
    record {
      made = made_more (holds_any c.args.spans.now) c.pass_to-covered.result.1 _ _ _ c.args.sorted.now c.split_at-in-groups.result.0.now c.groups.at c.group_len-count.result group (rw c.split_at.ensures.back at c.split_at-in-groups.ensures.front) c.in_ok-add_group.ensures c.groups.invariant.made;
      goes = goes_on _ c.groups.rest.now _ c.args.sorted.now c.groups.at c.group_len-count.result _ (holds_any c.args.spans.now) c.pass_to-covered.result.1 c.groups-test.true c.groups.invariant.goes c.pass_to-covered.ensures.canonical c.pass_to-covered.ensures.above group;
      inside = omega (arith, c.group_len-count.ensures.inside, c.split_at.ensures.back_len);
    }

pub returns : goal.returns
returns c = made_all (holds_any c.args.spans.now) _ _ c.args.sorted.now c.groups.at c.groups-test.false c.groups.invariant.made
