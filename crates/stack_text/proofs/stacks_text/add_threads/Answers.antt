use Rattle.std.proofs.Common.{rules, ◌++◌, ◌∙◌, refl, sym, ap, subst, arith}
use Rattle.module_stacks.specs.SymbolFiles.{seen_in}
use Rattle.module_stacks.specs.Walking.{known_found, IsPathOf}
use Rattle.std.specs.Prelude.{slice_get}
use Rattle.core_file.specs.Core.{CoreParts}
use Rattle.module_stacks.specs.Stacks.{stack_of}
use Rattle.stack_text.specs.StacksText.{steps_lacks}
use Rattle.stack_text.specs.internal.SaidLines.{HasSaid}
use Rattle.module_stacks.proofs.FileLemmas.{learns_none, learns_on, asks_then}
use Rattle.module_stacks.proofs.WalkerLemmas.{asks_at, learns_at}
use Rattle.stack_text.proofs.StacksTextLemmas.{thread_there, spelled_none, spelled_more, spelled_all}
use Rattle.stack_text.proofs.stacks_text.add_threads.Goals as goal

pub threads-init : goal.threads-init
threads-init g c = record {
  core = refl;
  folder = refl;
  files = refl;
  faults = omega arith;
  learns = learns_none (IsPathOf c.args.walker.now) _ _ _ _;
  spelled = λ lines has. spelled_none _ _ _ _ _ lines has;
}

pub returns-in_err-walk-clause-asks : goal.returns-in_err-walk-clause-asks
returns-in_err-walk-clause-asks g c = asks_then (IsPathOf c.args.walker.now) _ _ _ _ _ _ _ _ c.threads.invariant.learns (asks_at c.threads.walker c.args.walker.now _ _ _ c.threads.invariant.core c.threads.invariant.folder c.walk.ensures.asks)

pub returns-in_err-say_lacks-clause-asks : goal.returns-in_err-say_lacks-clause-asks
returns-in_err-say_lacks-clause-asks g c = asks_then (IsPathOf c.args.walker.now) _ _ _ _ _ _ _ _ c.threads.invariant.learns (asks_at c.threads.walker c.args.walker.now _ _ _ c.threads.invariant.core c.threads.invariant.folder c.walk.ensures.asks)

pub returns-in_err-add_thread-clause-asks : goal.returns-in_err-add_thread-clause-asks
returns-in_err-add_thread-clause-asks g c = asks_then (IsPathOf c.args.walker.now) _ _ _ _ _ _ _ _ c.threads.invariant.learns (asks_at c.threads.walker c.args.walker.now _ _ _ c.threads.invariant.core c.threads.invariant.folder c.walk.ensures.asks)

pub threads-preserved : goal.threads-preserved
threads-preserved g c = record {
  core = c.in_ok-walk.ensures.same.0 ∙ c.threads.invariant.core;
  folder = c.in_ok-walk.ensures.same.1 ∙ c.threads.invariant.folder;
  files = c.in_ok-walk.ensures.files ∙ c.threads.invariant.files;
  faults = omega (arith, c.in_ok-walk.ensures.faults, c.threads.invariant.faults);
  learns = learns_on (IsPathOf c.args.walker.now) _ _ _ _ _ _ _ _ _ _ _ c.threads.invariant.files c.threads.invariant.faults c.threads.invariant.learns (learns_at c.threads.walker c.args.walker.now _ _ _ _ _ _ _ c.threads.invariant.core c.threads.invariant.folder c.in_ok-walk.ensures.learns);
  spelled = λ lines has.
      spelled_more (seen_in c.threads.walker.known) c.walk.new.self c.args.walker.now.folder c.args.walker.now.core c.args.walker.now.core.threads c.threads.place c.thread_at-thread.result c.in_ok-walk.walk _ _ _ _ _ lines
      (c.in_ok-walk.ensures.same.1 ∙ c.threads.invariant.folder) (c.in_ok-walk.ensures.same.0 ∙ c.threads.invariant.core) (search rules)
      (thread_there c.args.walker.now.core.threads c.threads.place c.thread_at-thread.result (search rules) (ap (λ (k : CoreParts). slice_get k.threads c.threads.place) (sym c.threads.invariant.core) ∙ c.thread_at-thread.ensures)) c.in_ok-walk.ensures.learns.stays (c.threads.invariant.spelled lines has) c.in_ok-walk.ensures.steps
      (λ got agrees. c.in_ok-walk.ensures.walk got agrees ∙ ap (λ f. stack_of got f c.threads.walker.core c.thread_at-thread.result) c.threads.invariant.folder ∙ ap (λ k. stack_of got c.args.walker.now.folder k c.thread_at-thread.result) c.threads.invariant.core)
      (λ ls said. subst (λ steps. HasSaid c.say_lacks.new.said (ls ++ steps_lacks (known_found c.walk.new.self.known) c.walk.new.self.folder c.walk.new.self.core.modules steps)) c.as_slice.ensures (c.in_ok-say_lacks.ensures ls said))
      c.in_ok-add_thread.ensures;
}

pub returns-clause-spelled : goal.returns-clause-spelled
returns-clause-spelled g c = λ lines has. spelled_all _ _ _ _ c.threads.place _ _ _ lines (search rules) (c.threads.invariant.spelled lines has)
