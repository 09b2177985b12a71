use Rattle.std.proofs.Common.{get_or, subst, arith}
use Rattle.unit_workers.specs.Shares.{share}
use Rattle.func_records.specs.internal.Shares.{FinderParts, IsFound}
use Rattle.func_records.proofs.finder.find_shares.Goals as goal

pub returns : goal.returns
returns g c = record {
  enough = omega (arith, c.in_ok-count.ensures.all, c.in_ok-shares.ensures.count, c.in_ok-shares.shares.ok.0);
  few = omega (arith, c.in_ok-count.ensures.few, c.in_ok-shares.ensures.count, c.in_ok-shares.shares.ok.0);
  each = λ k d below. subst (λ (f : FinderParts). IsFound f.units (share 512 k f.pieces) (get_or c.in_ok-shares.shares.items k d)) c.of-finder.ensures (c.in_ok-shares.ensures.each k d below);
}
