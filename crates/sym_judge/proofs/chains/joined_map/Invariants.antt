use Rattle.std.proofs.Common.{◌-◌, ◌^◌, ◌≤◌, List, Option, ◌++◌}
use Rattle.sym_records.specs.declared.line.SymLine.{SymLine}
use Rattle.step_maps.specs.Stepping.{Stepping, last_from}
use Rattle.step_maps.specs.declared.stretch.FirstItem.{FirstItem}
use Rattle.sym_judge.specs.internal.Chains.{Keeps, AreMapped}
use Rattle.sym_judge.proofs.ChainLemmas.{AreMappedTo}
use Rattle.sym_judge.proofs.chains.joined_map.Given as goal

abbrev pub invariant-runs : goal.invariant-runs
invariant-runs l = record {
  keeps : Keeps l.initial.numbers.entries.items l.numbers.entries.items;
  last : last_from 0 l.map.stops ≤ l.address;
  mapped : (own lines : List SymLine) (ms ns : List (Stepping (Option FirstItem))) → AreMapped own lines l.initial.numbers.entries.items ms l.front → AreMapped own lines l.initial.numbers.entries.items ns l.back → AreMappedTo own lines l.numbers.entries.items (ms ++ ns) l.address l.map;
}

abbrev pub decreases-runs : goal.decreases-runs
decreases-runs l = 2 ^ 64 - l.address
