use Rattle.std.proofs.Common.{◌≡◌, ◌≤◌, ℕ, List, take}
use Rattle.module_stacks.specs.SymbolFiles.{Learns, seen_in}
use Rattle.module_stacks.specs.Walking.{IsPathOf}
use Rattle.stack_text.specs.internal.SaidLines.{HasSaid}
use Rattle.stack_text.specs.internal.Spelling.{HasSpelled}
use Rattle.stack_text.proofs.stacks_text.add_threads.Given as goal

abbrev pub invariant-threads : goal.invariant-threads
invariant-threads g l = record {
  core : l.walker.core ≡ l.initial.walker.core;
  folder : l.walker.folder ≡ l.initial.walker.folder;
  files : g.S.Store.files l.store ≡ g.S.Store.files l.initial.store;
  faults : g.S.Store.faults l.initial.store ≤ g.S.Store.faults l.store;
  learns : Learns (IsPathOf l.initial.walker) (g.S.Store.files l.initial.store) (g.S.Store.asked l.initial.store) (g.S.Store.asked l.store) (g.S.Store.faults l.initial.store) (g.S.Store.faults l.store) (seen_in l.initial.walker.known) (seen_in l.walker.known);
  spelled : (lines : List (List ℕ)) → HasSaid l.initial.said lines → HasSpelled (seen_in l.walker.known) l.initial.walker.folder l.initial.walker.core (take l.place l.initial.walker.core.threads) l.initial.text l.text l.said lines;
}
