-- `stacks CORE STORE` writes the stacks of a core file's threads. A module's symbol file is `NAME/ID/NAME.sym` in the folder STORE, with the name of
-- the module and the ID of its MODULE record. Standard output gets the signal, the modules, and the steps of each thread. Standard error gets the
-- modules whose records were needed and are missing. A core file that is too long or has a fault is refused.
use Rattle.std.specs.Prelude.{◌≡◌, ℕ, if◌then◌else◌, List, Option, Some, Result, Ok, Err}
use Rattle.sym_edges.specs.Outside.{Files, Tells}
use Rattle.core_file.specs.HeldBlocks.{is_too_long}
use Rattle.core_file.specs.Core.{CoreParts, core}
use Rattle.core_file.specs.declared.fault.CoreFault.{CoreFault}
use Rattle.stack_text.specs.StacksText.{stacks_text, lacks_text}
use Rattle.dumpsyms_cmd.specs.Refusals.{too_long_line, core_line}
use Rattle.dumpsyms_cmd.specs.Verdict.{Verdict, refused}
use Rattle.dumpsyms_cmd.specs.Judgement.{judgement_verdict}
use Rattle.dumpsyms_cmd.specs.declared.judgement.Judgement.{Judgement}

-- the verdict on the parts of a core file
abbrev pub core_verdict : List ℕ → Files → CoreParts → Verdict
core_verdict folder got parts = record { status = 0; out = stacks_text got folder parts; err = lacks_text got folder parts }

abbrev pub core_or_refused : List ℕ → Files → Result CoreParts CoreFault → Verdict
core_or_refused folder got (Ok parts) = core_verdict folder got parts
core_or_refused folder got (Err fault) = refused (core_line fault)

-- the verdict on the bytes of the core file, given the files among which symbol files are looked for
unfoldable pub stacks_answer : List ℕ → Files → List ℕ → Verdict
stacks_answer folder got bytes = if is_too_long bytes then refused too_long_line else core_or_refused folder got (core bytes)

-- a judgement is what the command answers to the bytes of the core file and to some files. If the store's files are known, these bytes are the core
-- file's; else they are some bytes
pub record StacksPromises (name folder : List ℕ) (files : Option Files) (j : Judgement) : Type 0 where
  pub bytes : List ℕ
  pub there : Tells files (λ f. f name ≡ Some bytes)
  pub got : Files
  pub is : judgement_verdict j ≡ stacks_answer folder got bytes
