-- The definitions of stack_text that a proof unfolds to compute a result from given texts.
use Rattle.std.specs.Prelude.{⊤}
use Rattle.std.specs.Char.{encode_utf8}
use Rattle.std.specs.Str.{is_utf8, chars}
use Rattle.debug_pair.proofs.Computing.{debug_pair_computes}
use Rattle.sym_grammar.specs.Input.{file_reading}
use Rattle.stack_walk.proofs.Computing.{stack_walk_computes}
use Rattle.module_stacks.specs.Symbols.{name_of, symbols_of, records_at}
use Rattle.module_stacks.specs.Stacks.{process_by, stack_of}
use Rattle.module_stacks.proofs.Computing.{module_stacks_computes}
use Rattle.stack_text.specs.FrameText.{short_name, registers_text}
use Rattle.stack_text.specs.WalkText.{steps_text}
use Rattle.stack_text.specs.Once.{once}
use Rattle.stack_text.specs.StacksText.{modules_text, stack_steps_text, shown_steps, thread_text, threads_text, stacks_text, steps_lacks, threads_lacks, lacks_text}

unfoldable pub stack_text_computes : ⊤
unfolding stack_of process_by records_at symbols_of name_of debug_pair_computes is_utf8 chars encode_utf8 file_reading module_stacks_computes stack_walk_computes short_name registers_text steps_text once modules_text stack_steps_text shown_steps thread_text threads_text stacks_text steps_lacks threads_lacks lacks_text
stack_text_computes = tt
