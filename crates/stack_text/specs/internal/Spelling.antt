-- The text of the threads so far, for all files that agree with what was found.
use Rattle.std.specs.Prelude.{◌≡◌, ℕ, List, ◌++◌}
use Rattle.sym_edges.specs.Outside.{Files}
use Rattle.core_file.specs.Core.{CoreParts}
use Rattle.core_file.specs.declared.threads.Thread.{Thread}
use Rattle.module_stacks.specs.SymbolFiles.{Seen, Agrees}
use Rattle.stack_text.specs.StacksText.{threads_text, threads_lacks}
use Rattle.stack_text.specs.internal.SaidLines.{HasSaid}
use Rattle.stack_text.specs.declared.said_lines.SaidLines.{SaidLines}

pub record HasSpelled (seen : Seen) (folder : List ℕ) (core : CoreParts) (threads : List Thread) (before text : List ℕ) (said : SaidLines) (lines : List (List ℕ)) : Type 0 where
  pub text_is : (got : Files) → Agrees got seen → text ≡ before ++ threads_text got folder core threads
  pub lacks : (got : Files) → Agrees got seen → HasSaid said (lines ++ threads_lacks got folder core threads)
