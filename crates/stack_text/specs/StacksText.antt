-- The text of the stacks of a process: the signal that ended it, its modules, and for each thread its steps and why its walk ends. A step has a line
-- with its number, its address and its module, and then the lines of `lookup`. A module whose records were needed and are missing is named once.
use Rattle.std.specs.Prelude.{ℕ, ◌+◌, ◌-◌, ◌==◌, List, [], ◌∷◌, ◌++◌, length, take, drop, nat_lt, if◌then◌else◌, codes, decimal, Option, None, Some, Result, Ok, Err}
use Rattle.std.specs.List.{flat_map}
use Rattle.sym_edges.specs.Outside.{Files}
use Rattle.sym_rules.specs.FaultWords.{text_word}
use Rattle.sym_records.specs.Canon.{spaced}
use Rattle.sym_records.specs.Fields.{hex}
use Rattle.sym_records.specs.declared.line.SymLine.{SymLine}
use Rattle.sym_grammar.specs.declared.refusal.SymRefusal.{SymRefusal}
use Rattle.sym_grammar.specs.declared.refusal.SymRefusal.TheVariants.{TooLong, Text}
use Rattle.sym_lookup.specs.AnswerTexts.{answer_text}
use Rattle.sym_lookup.specs.declared.answers.Answer.{Answer}
use Rattle.core_file.specs.Core.{CoreParts}
use Rattle.core_file.specs.declared.modules.Module.{Module}
use Rattle.core_file.specs.declared.threads.Thread.{Thread}
use Rattle.stack_walk.specs.Records.{ModuleRecords}
use Rattle.stack_walk.specs.declared.steps.Walk.{Walk}
use Rattle.stack_walk.specs.declared.steps.WalkStep.{WalkStep}
use Rattle.stack_walk.specs.declared.steps.WalkEnd.{WalkEnd}
use Rattle.module_stacks.specs.SymbolFiles.{Found, found_in}
use Rattle.module_stacks.specs.Symbols.{name_of, holder_of, symbols_of, records_at}
use Rattle.module_stacks.specs.Stacks.{stack_of}
use Rattle.module_stacks.specs.declared.names.SymbolName.{SymbolName}
use Rattle.module_stacks.specs.declared.lack.Lack.{Lack}
use Rattle.module_stacks.specs.declared.lack.Lack.TheVariants.{NoBuildId, Missing, Refused, OtherModule}
use Rattle.stack_text.specs.Lines.{line}
use Rattle.stack_text.specs.Once.{once}
use Rattle.stack_text.specs.WalkText.{end_line}

-- the signal of the first thread, which is the one that crashed, if it has one
abbrev pub signal_text : List Thread → List ℕ
signal_text [] = []
signal_text (thread ∷ threads) = if thread.signal == 0 then [] else line (spaced (codes "signal") (decimal thread.signal ∷ []))

-- the id that the MODULE of a module's symbol file must have, or `-` if the module has no build id
abbrev pub id_word : Option SymbolName → List ℕ
id_word None = codes "-"
id_word (Some name) = name.id

-- a module: its start, its end, its name and its id
abbrev pub module_line : List ℕ → Module → List ℕ
module_line folder m = line (spaced (codes "module") (hex m.start ∷ hex m.end ∷ m.name ∷ id_word (name_of folder m) ∷ []))

unfoldable pub modules_text : List ℕ → List Module → List ℕ
modules_text folder modules = flat_map (module_line folder) modules

-- a step: its number, its address, and the module of the address that is looked up; and then the lines of its answer
abbrev pub step_words : ℕ → Option Module → List (List ℕ)
step_words rip None = hex rip ∷ []
step_words rip (Some m) = hex rip ∷ m.name ∷ []

abbrev pub names_text : Result ModuleRecords WalkEnd → Answer → List ℕ
names_text (Err end) answer = line (codes "none")
names_text (Ok records) answer = answer_text records.lines answer

abbrev pub stack_step_text : (List ℕ → Found) → List ℕ → List Module → ℕ → WalkStep → List ℕ
stack_step_text found folder modules number step =
    line (spaced (decimal number) (step_words step.rip (holder_of modules step.at))) ++ names_text (records_at found folder modules step.at) step.answer

-- the lines of steps, of which the first has the number `number`
unfoldable pub stack_steps_text : (List ℕ → Found) → List ℕ → List Module → ℕ → List WalkStep → List ℕ
stack_steps_text found folder modules number [] = []
stack_steps_text found folder modules number (step ∷ steps) = stack_step_text found folder modules number step ++ stack_steps_text found folder modules (number + 1) steps

-- the steps that are shown: if there are more than 1,024, these are the first 512 and the last 512,
-- and a line between them says how many are not shown
abbrev pub skipped_line : ℕ → List ℕ
skipped_line count = line (spaced (codes "skipped") (decimal count ∷ []))

unfoldable pub shown_steps : (List ℕ → Found) → List ℕ → List Module → List WalkStep → List ℕ
shown_steps found folder modules steps =
    if nat_lt 1024 (length steps) then
    stack_steps_text found folder modules 0 (take 512 steps) ++ (skipped_line (length steps - 1024)
    ++ stack_steps_text found folder modules (length steps - 512) (drop (length steps - 512) steps))
    else stack_steps_text found folder modules 0 steps

-- a thread: its number, the steps that are shown, and why its walk ends
abbrev pub thread_line : ℕ → List ℕ
thread_line number = line (spaced (codes "thread") (decimal number ∷ []))

unfoldable pub thread_text : (List ℕ → Found) → List ℕ → List Module → ℕ → Walk → List ℕ
thread_text found folder modules number walk = thread_line number ++ (shown_steps found folder modules walk.steps ++ end_line walk.end)

-- the lines of threads, given the symbol files
unfoldable pub threads_text : Files → List ℕ → CoreParts → List Thread → List ℕ
threads_text got folder core [] = []
threads_text got folder core (thread ∷ threads) =
    thread_text (λ path. found_in (got path)) folder core.modules thread.number (stack_of got folder core thread) ++ threads_text got folder core threads

-- the text on standard output
unfoldable pub stacks_text : Files → List ℕ → CoreParts → List ℕ
stacks_text got folder core = signal_text core.threads ++ (modules_text folder core.modules ++ threads_text got folder core core.threads)

-- why a module has no records
abbrev pub refused_words : SymRefusal → List (List ℕ)
refused_words TooLong = codes "too-long" ∷ []
refused_words (Text fault) = text_word fault.kind ∷ codes "line" ∷ decimal fault.line ∷ []

abbrev pub lack_line : List ℕ → Module → Lack → List ℕ
lack_line folder m NoBuildId = line (spaced (codes "missing") (m.name ∷ []))
lack_line folder m Missing = line (spaced (codes "missing") (m.name ∷ id_word (name_of folder m) ∷ []))
lack_line folder m (Refused why) = line (spaced (codes "refused") (m.name ∷ id_word (name_of folder m) ∷ refused_words why))
lack_line folder m OtherModule = line (spaced (codes "refused") (m.name ∷ id_word (name_of folder m) ∷ codes "other-module" ∷ []))

-- the line of a module whose records are missing
abbrev pub lack_by : List ℕ → Module → Result (List SymLine) Lack → List (List ℕ)
lack_by folder m (Ok lines) = []
lack_by folder m (Err lack) = lack_line folder m lack ∷ []

abbrev pub lack_in : (List ℕ → Found) → List ℕ → Option Module → List (List ℕ)
lack_in found folder None = []
lack_in found folder (Some m) = lack_by folder m (symbols_of found folder m)

-- the lines about missing records for the modules in which steps lie, in the order of the steps
unfoldable pub steps_lacks : (List ℕ → Found) → List ℕ → List Module → List WalkStep → List (List ℕ)
steps_lacks found folder modules steps = flat_map (λ step. lack_in found folder (holder_of modules step.at)) steps

-- the lines about missing records for threads, given the symbol files
unfoldable pub threads_lacks : Files → List ℕ → CoreParts → List Thread → List (List ℕ)
threads_lacks got folder core threads = flat_map (λ thread. steps_lacks (λ path. found_in (got path)) folder core.modules (stack_of got folder core thread).steps) threads

-- the text on standard error: each line once
unfoldable pub lacks_text : Files → List ℕ → CoreParts → List ℕ
lacks_text got folder core = flat_map (λ text. text) (once (threads_lacks got folder core core.threads))
