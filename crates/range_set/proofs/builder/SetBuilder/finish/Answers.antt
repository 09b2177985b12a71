use Rattle.std.proofs.Common.{Some}
use Rattle.range_set.specs.Building.{IsBuilt}
use Rattle.range_set.proofs.BuildingLemmas.{canonical_built}
use Rattle.range_set.proofs.builder.SetBuilder.finish.Goals as goal

pub of_many-requires : goal.of_many-requires
of_many-requires c =
    let built : IsBuilt c.self.inside.done.items (Some c.in-Some-2.last) = rw c.in-Some-2.is at c.self.invariant in
    rw c.in_ok-push-in-Some-2.ensures.items (canonical_built c.self.inside.done.items (Some c.in-Some-2.last) built)
