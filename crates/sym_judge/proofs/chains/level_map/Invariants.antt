use Rattle.std.proofs.Common.{◌-◌, ◌^◌, ◌≤◌, ◌∷◌, []}
use Rattle.step_maps.specs.Stepping.{last_from}
use Rattle.sym_judge.specs.internal.Chains.{Keeps}
use Rattle.sym_judge.proofs.ChainLemmas.{AreMappedTo}
use Rattle.sym_judge.proofs.chains.level_map.Given as goal

abbrev pub invariant-runs : goal.invariant-runs
invariant-runs l = record {
  keeps : Keeps l.initial.numbers.entries.items l.numbers.entries.items;
  last : last_from 0 l.map.stops ≤ l.address;
  mapped : AreMappedTo l.calls.own l.calls.other l.numbers.entries.items (l.level ∷ []) l.address l.map;
}

abbrev pub decreases-runs : goal.decreases-runs
decreases-runs l = 2 ^ 64 - l.address
