use Rattle.std.proofs.Common.{◌≤◌, max, arith}
use Rattle.range_set.specs.Building.{last_start}
use Rattle.range_set.proofs.MemberLemmas.{holds_within}
use Rattle.range_set.proofs.intersection.push_overlap.Goals as goal

pub push-requires : goal.push-requires
push-requires c =
    let both : last_start c.args.built.now ≤ max c.args.x.start c.args.y.start = c.requires (max c.args.x.start c.args.y.start) (holds_within c.args.x _ (omega arith) (omega arith)) (holds_within c.args.y _ (omega arith) (omega arith)) in
    rw c.new.ensures (omega arith)
