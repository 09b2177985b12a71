use Rattle.std.proofs.Common.{◌≡◌, ◌≤◌, ◌-◌}
use Rattle.sym_edges.specs.Outside.{Files}
use Rattle.stack_walk.specs.Walk.{walk_from}
use Rattle.stack_walk.specs.internal.Front.{behind}
use Rattle.module_stacks.specs.SymbolFiles.{Agrees, Learns, seen_in}
use Rattle.module_stacks.specs.Stacks.{process_of}
use Rattle.module_stacks.specs.Walking.{IsPathOf, AreAsked}
use Rattle.module_stacks.proofs.walker.StackWalker.walk_from.Given as goal

abbrev pub invariant-steps : goal.invariant-steps
invariant-steps g l = record {
  core : l.self.core ≡ l.initial.self.core;
  folder : l.self.folder ≡ l.initial.self.folder;
  files : g.S.Store.files l.store ≡ g.S.Store.files l.initial.store;
  faults : g.S.Store.faults l.initial.store ≤ g.S.Store.faults l.store;
  learns : Learns (IsPathOf l.initial.self) (g.S.Store.files l.initial.store) (g.S.Store.asked l.initial.store) (g.S.Store.asked l.store) (g.S.Store.faults l.initial.store) (g.S.Store.faults l.store) (seen_in l.initial.self.known) (seen_in l.self.known);
  steps : AreAsked l.self l.steps.items;
  walk : (got : Files) → Agrees got (seen_in l.self.known) → behind l.steps.items (walk_from (process_of got l.initial.self.folder l.initial.self.core) (l.most - l.turn) l.here) ≡ walk_from (process_of got l.initial.self.folder l.initial.self.core) l.most l.first;
}
