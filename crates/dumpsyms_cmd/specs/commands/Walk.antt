-- `walk SYM STATE` writes the frames of a stack by the rules of a symbol file, from the registers and the memory of a state file. For each step there
-- is a line with its number and its address, and then the lines of `lookup`. The last line says why the walk ends. A state without rip is refused.
use Rattle.std.specs.Prelude.{ℕ, List, [], codes, Option, Some, None}
use Rattle.sym_records.specs.declared.line.SymLine.{SymLine}
use Rattle.state_file.specs.declared.state.State.{State}
use Rattle.stack_walk.specs.declared.steps.Walk.{Walk}
use Rattle.stack_walk.specs.Walk.{walk_of}
use Rattle.stack_text.specs.Lines.{line}
use Rattle.stack_text.specs.WalkText.{walk_text}
use Rattle.dumpsyms_cmd.specs.Verdict.{Verdict, refused}

-- the line for a state without rip
abbrev pub no_rip_line : List ℕ
no_rip_line = line (codes "refused walk no-rip")

abbrev pub walk_or_refused : List SymLine → Option Walk → Verdict
walk_or_refused lines None = refused no_rip_line
walk_or_refused lines (Some walk) = record { status = 0; out = walk_text lines walk; err = [] }

-- the verdict on the records of the symbol file and the state
abbrev pub walk_answer : List SymLine → State → Verdict
walk_answer lines state = walk_or_refused lines (walk_of lines state)
