-- What the functions that judge guarantee about their judgements and answers.
use Rattle.std.specs.List.{AllByRecursion, list_any}
use Rattle.std.specs.Str.{bytes_eq}
use Rattle.std.specs.Prelude.{◌≡◌, ℕ, ◌<◌, Bool, true, false, List, [], ◌∷◌, ◌++◌, Option, Some, None, IsSome, Result, Ok, Err}
use Rattle.sym_edges.specs.Outside.{Files, Tells, Rose}
use Rattle.sym_edges.specs.declared.fault.Stop.{Stop}
use Rattle.sym_edges.specs.declared.fault.Stop.TheVariants.{Fault}
use Rattle.sym_edges.specs.declared.fault.Stop.TheVariants as stop
use Rattle.sym_edges.specs.declared.whole_file.ReadEnd.{ReadEnd}
use Rattle.sym_edges.specs.declared.whole_file.ReadEnd.TheVariants.{CantOpen, CantRead, TooLong}
use Rattle.sym_edges.specs.Results.{◌>>=◌}
use Rattle.elf_sections.specs.Image.{ImageParts}
use Rattle.elf_sections.specs.declared.fault.ElfFault.{ElfFault}
use Rattle.debug_pair.specs.SupLink.{SupLink}
use Rattle.sym_records.specs.declared.line.SymLine.{SymLine}
use Rattle.sym_grammar.specs.declared.refusal.SymEnd.{SymEnd}
use Rattle.sym_grammar.specs.declared.refusal.SymEnd.TheVariants as end
use Rattle.state_file.specs.declared.state.State.{State}
use Rattle.dumpsyms_cmd.specs.Words.{Asked, ReadsFiles, last_name, not_read_line}
use Rattle.dumpsyms_cmd.specs.Refusals.{sup_elf_line, too_long_line, unread_line, unread_lines}
use Rattle.dumpsyms_cmd.specs.Verdict.{Verdict, refused, unread_by, no_memory}
use Rattle.dumpsyms_cmd.specs.ElfInput.{DebugFile, ElfSource, Untold, or_refused, joined, file_pair, path_of, sup_names, read_names, elf_names}
use Rattle.dumpsyms_cmd.specs.Observed.{StoreSeen, Asks, AreOnce, IsSymbolFile, Misses, IsSteady}
use Rattle.dumpsyms_cmd.specs.Judgement.{err_bytes, is_some_output, judgement_verdict, Judges}
use Rattle.dumpsyms_cmd.specs.SymbolInput.{refusal_line}
use Rattle.dumpsyms_cmd.specs.StateInput.{state_answer}
use Rattle.dumpsyms_cmd.specs.commands.Check.{records_checked}
use Rattle.dumpsyms_cmd.specs.commands.Lookup.{records_looked_up}
use Rattle.dumpsyms_cmd.specs.commands.Names.{records_named}
use Rattle.dumpsyms_cmd.specs.commands.Frame.{frame_answer}
use Rattle.dumpsyms_cmd.specs.commands.Walk.{walk_answer}
use Rattle.dumpsyms_cmd.specs.commands.Judge.{JudgesSym}
use Rattle.dumpsyms_cmd.specs.commands.Stacks.{core_or_refused}
use Rattle.core_file.specs.Core.{CoreParts, core}
use Rattle.core_file.specs.declared.fault.CoreFault.{CoreFault}
use Rattle.module_stacks.specs.SymbolFiles.{without, Counted}
use Rattle.dumpsyms_cmd.specs.Answers.{IsVerdict, CommandPromises}
use Rattle.dumpsyms_cmd.specs.commands.Dump.{IsPartsVerdict, IsGivenVerdict, DumpsParts, DumpsGiven, ImagePromises}
use Rattle.dumpsyms_cmd.specs.declared.words.SymQuery.{SymQuery}
use Rattle.dumpsyms_cmd.specs.declared.words.SymQuery.TheVariants.{Check, Lookup, Names}
use Rattle.dumpsyms_cmd.specs.declared.words.StateQuery.{StateQuery}
use Rattle.dumpsyms_cmd.specs.declared.words.StateQuery.TheVariants.{Frame, Walk}
use Rattle.dumpsyms_cmd.specs.declared.judgement.Output.{Output}
use Rattle.dumpsyms_cmd.specs.declared.judgement.Output.TheVariants.{Nothing, Text, Bytes, Shared, Records}
use Rattle.dumpsyms_cmd.specs.declared.judgement.Judgement.{Judgement}
use Rattle.dumpsyms_cmd.specs.declared.judgement.Answer.{Answer}
use Rattle.dumpsyms_cmd.specs.declared.judgement.Answer.TheVariants.{Judged, Unread, NoMemory}

-- the verdict of an answer
abbrev pub answer_verdict : Answer → Verdict
answer_verdict (Judged j) = judgement_verdict j
answer_verdict (Unread line) = unread_by (err_bytes line)
answer_verdict NoMemory = no_memory

abbrev pub has_output : Answer → Bool
has_output (Judged j) = is_some_output j.out
has_output (Unread line) = false
has_output NoMemory = false

-- the judgement refuses with this line
pub record Refuses (j : Judgement) (text : List ℕ) : Type 0 where
  pub status : j.status ≡ 1
  pub out : j.out ≡ Nothing
  pub err : err_bytes j.err ≡ text

-- a judgement on the parts of an image
abbrev pub JudgesParts : Judgement → Bool → List ℕ → ImageParts → Type 0
JudgesParts j full name parts = Judges j (λ err. IsPartsVerdict full parts name (refused err)) (DumpsParts full parts name)

-- a judgement on the image that is given for a source, or on the verdict if none is given
abbrev pub JudgesGiven : Judgement → ElfSource → Result ImageParts Verdict → Type 0
JudgesGiven j source given = Judges j (λ err. IsGivenVerdict source given (refused err)) (DumpsGiven source given)

-- a judgement on an image and the supplementary file to which it links
abbrev pub JudgesSup : Judgement → ElfSource → ImageParts → SupLink → Result ImageParts ElfFault → Type 0
JudgesSup j source image link read = JudgesGiven j source (or_refused sup_elf_line read >>= joined image link)

-- what is known of a judgement. Its status is 0, 1 or 2; it is 2 only for invalid arguments. If the
-- store's files are known, it is the verdict for these files. It keeps the command's promises
pub record IsJudged (j : Judgement) (command : Option Asked) (files : Option Files) : Type 0 where
  pub low : j.status < 3
  pub row : IsSome command → j.status < 2
  pub told : Tells files (λ f. IsVerdict command f [] (judgement_verdict j))
  pub kept : CommandPromises command files j

-- what an answer guarantees about a command, the files, the names that were asked for and the store's count of faults
abbrev pub AnswersCommand : Answer → Option Asked → Option Files → List (List ℕ) → ℕ → ℕ → Type 0
AnswersCommand (Judged j) command files asked before after = IsJudged j command files
AnswersCommand (Unread line) command files asked before after = ReadsFiles command × Rose before after × (err_bytes line ≡ not_read_line command asked)
AnswersCommand NoMemory command files asked before after = IsSome command

-- what is known of a judgement of a command that may go on without unreadable files
pub record JudgesWords (j : Judgement) (command : Option Asked) (store : StoreSeen) : Type 0 where
  pub low : j.status < 3
  pub row : IsSome command → j.status < 2
  pub missed : List (List ℕ)
  pub misses : Misses command store missed
  pub told : Tells store.files (λ f. IsVerdict command f missed (judgement_verdict j))
  pub kept : CommandPromises command store.files j

abbrev pub AnswersWords : Answer → Option Asked → StoreSeen → Type 0
AnswersWords (Judged j) command store = JudgesWords j command store
AnswersWords (Unread line) command store = ReadsFiles command × Rose store.faults store.faults_after × (err_bytes line ≡ not_read_line command store.asked_after)
AnswersWords NoMemory command store = IsSome command × IsSteady command store

-- the store's count of faults does not change, unless a file could not be opened or read
abbrev pub IsSteadyAnswer : Answer → ℕ → ℕ → Type 0
IsSteadyAnswer (Judged j) before after = after ≡ before
IsSteadyAnswer (Unread line) before after = Unit {0}
IsSteadyAnswer NoMemory before after = after ≡ before

-- what an answer guarantees about the image that files give for a source
abbrev pub AnswersImage : Answer → (Files → Result ImageParts Verdict) → ElfSource → Option Files → List (List ℕ) → ℕ → ℕ → Type 0
AnswersImage (Judged j) given source files asked before after = ImagePromises given source files j
AnswersImage (Unread line) given source files asked before after = Rose before after × (err_bytes line ≡ unread_lines source.full (last_name asked))
AnswersImage NoMemory given source files asked before after = Unit {0}

-- the names that were asked for: all of these names if there is a judgement, otherwise a prefix of
-- them
abbrev pub AsksAll : Answer → List (List ℕ) → List (List ℕ) → List (List ℕ) → Type 0
AsksAll (Judged j) names before after = after ≡ before ++ names
AsksAll (Unread line) names before after = Asks names before after
AsksAll NoMemory names before after = Asks names before after

-- the answer has no text of records
abbrev pub IsNoText : Output → Type 0
IsNoText Nothing = Unit {0}
IsNoText (Text lines) = ⊥
IsNoText (Bytes text) = Unit {0}
IsNoText (Shared text) = Unit {0}
IsNoText (Records lines) = Unit {0}

abbrev pub HasNoText : Answer → Type 0
HasNoText (Judged j) = IsNoText j.out
HasNoText (Unread line) = Unit {0}
HasNoText NoMemory = Unit {0}

-- the debug file was asked for, and then the names that follow from what is read of it (`read`). If
-- the store's files are known, `read` is what they give
pub record AsksFile (answer : Answer) (source : ElfSource) (binary : ImageParts) (path : List ℕ) (files : Option Files) (before after : List (List ℕ)) : Type 0 where
  pub read : Result ImageParts Verdict
  pub told : Tells files (λ f. file_pair source binary path f ≡ read)
  pub asks : AsksAll answer (path ∷ read_names source path read) before after

-- the names that are asked for from the debug file on, if it has a path
abbrev pub AsksPath : Answer → ElfSource → ImageParts → Result (List ℕ) Verdict → Option Files → List (List ℕ) → List (List ℕ) → Type 0
AsksPath answer source binary (Ok path) files before after = AsksFile answer source binary path files before after
AsksPath answer source binary (Err ended) files before after = AsksAll answer [] before after

abbrev pub AsksDebug : Answer → ElfSource → Option DebugFile → ImageParts → Option Files → List (List ℕ) → List (List ℕ) → Type 0
AsksDebug answer source None binary files before after = AsksAll answer (sup_names source source.elf binary) before after
AsksDebug answer source (Some debug) binary files before after = AsksPath answer source binary (path_of debug binary) files before after

-- the names that are asked for after the ELF file, by its image. If it has no image, nothing more
-- is asked for, and there is no text of records
abbrev pub AsksBehind : Answer → ElfSource → Result ImageParts Verdict → Option Files → List (List ℕ) → List (List ℕ) → Type 0
AsksBehind answer source (Ok binary) files before after = AsksDebug answer source source.debug binary files before after
AsksBehind answer source (Err ended) files before after = (after ≡ before) × HasNoText answer

-- the names of a source's files, for some build id and link: all of them if there is a text of records, else a prefix
abbrev pub AsksBy : Output → List (List ℕ) → List (List ℕ) → List (List ℕ) → Type 0
AsksBy Nothing names before after = Asks names before after
AsksBy (Text lines) names before after = after ≡ before ++ names
AsksBy (Bytes text) names before after = Asks names before after
AsksBy (Shared text) names before after = Asks names before after
AsksBy (Records lines) names before after = Asks names before after

abbrev pub AsksNames : Answer → List (List ℕ) → List (List ℕ) → List (List ℕ) → Type 0
AsksNames (Judged j) names before after = AsksBy j.out names before after
AsksNames (Unread line) names before after = Asks names before after
AsksNames NoMemory names before after = Asks names before after

pub record AsksSource (answer : Answer) (source : ElfSource) (files : Option Files) (before after : List (List ℕ)) : Type 0 where
  pub untold : Untold
  pub asks : AsksNames answer (elf_names files source untold) before after

-- the names that are asked for after a dump: none if it gave no text of records
abbrev pub AsksThen : Output → List (List ℕ) → List (List ℕ) → List (List ℕ) → Type 0
AsksThen Nothing names before after = after ≡ before
AsksThen (Text lines) names before after = Asks names before after
AsksThen (Bytes text) names before after = after ≡ before
AsksThen (Shared text) names before after = after ≡ before
AsksThen (Records lines) names before after = after ≡ before

-- the answer refuses with the line that was made, or memory ran out
abbrev pub AnswersMade : {F : Type 0} → Answer → Result (List ℕ) F → Type 0
AnswersMade (Judged j) (Ok line) = Refuses j line
AnswersMade (Judged j) (Err e) = ⊥
AnswersMade (Unread line) made = ⊥
AnswersMade NoMemory made = Unit {0}

-- what an answer guarantees if a file could not be read whole; `text` is the line for an unreadable file
abbrev pub AnswersStop : Answer → List ℕ → Stop ReadEnd → Type 0
AnswersStop (Judged j) text (Fault CantOpen) = ⊥
AnswersStop (Judged j) text (Fault CantRead) = ⊥
AnswersStop (Judged j) text (Fault TooLong) = Judges j (λ err. err ≡ too_long_line) (λ lines err. ⊥)
AnswersStop (Judged j) text stop.NoMemory = ⊥
AnswersStop (Unread line) text (Fault CantOpen) = err_bytes line ≡ text
AnswersStop (Unread line) text (Fault CantRead) = err_bytes line ≡ text
AnswersStop (Unread line) text (Fault TooLong) = ⊥
AnswersStop (Unread line) text stop.NoMemory = ⊥
AnswersStop NoMemory text (Fault why) = ⊥
AnswersStop NoMemory text stop.NoMemory = Unit {0}

-- what an answer guarantees if a symbol file has no records; `text` is the line for an unreadable file
abbrev pub AnswersEnd : Answer → List ℕ → Stop SymEnd → Type 0
AnswersEnd (Judged j) text (Fault end.Unread) = ⊥
AnswersEnd (Judged j) text (Fault (end.Refused why)) = judgement_verdict j ≡ refused (refusal_line why)
AnswersEnd (Judged j) text stop.NoMemory = ⊥
AnswersEnd (Unread line) text (Fault end.Unread) = err_bytes line ≡ text
AnswersEnd (Unread line) text (Fault (end.Refused why)) = ⊥
AnswersEnd (Unread line) text stop.NoMemory = ⊥
AnswersEnd NoMemory text (Fault end.Unread) = ⊥
AnswersEnd NoMemory text (Fault (end.Refused why)) = Unit {0}
AnswersEnd NoMemory text stop.NoMemory = Unit {0}

-- the answer is the judgement; if there is none, memory ran out
abbrev pub AnswersJudged : {F : Type 0} → Answer → Result Judgement F → Type 0
AnswersJudged answer (Ok j) = answer ≡ Judged j
AnswersJudged answer (Err e) = answer ≡ NoMemory

-- the verdict of a query on a symbol file
abbrev pub sym_answer : SymQuery → List SymLine → Verdict
sym_answer Check = records_checked
sym_answer (Lookup address) = records_looked_up address
sym_answer Names = records_named

-- the verdict of a query on a symbol file and a state
abbrev pub query_answer : StateQuery → List SymLine → State → Verdict
query_answer (Frame address) = frame_answer address
query_answer Walk = walk_answer

-- a judgement is what the command answers to the bytes of a state file, given the records of a symbol file
pub record AnswersBytesOf (lines : List SymLine) (answer : List SymLine → State → Verdict) (name : List ℕ) (files : Option Files) (j : Judgement) : Type 0 where
  pub bytes : List ℕ
  pub there : Tells files (λ f. f name ≡ Some bytes)
  pub is : judgement_verdict j ≡ state_answer answer lines bytes

-- what an answer guarantees about a state file
abbrev pub AnswersState : Answer → List SymLine → (List SymLine → State → Verdict) → List ℕ → Option Files → ℕ → ℕ → Type 0
AnswersState (Judged j) lines answer name files before after = AnswersBytesOf lines answer name files j
AnswersState (Unread line) lines answer name files before after = Rose before after × (err_bytes line ≡ unread_line)
AnswersState NoMemory lines answer name files before after = Unit {0}

-- what an answer guarantees about a symbol file that is compared with records; an unreadable one is named if `full`
abbrev pub AnswersSym : Answer → List SymLine → Bool → List ℕ → Option Files → List (List ℕ) → ℕ → ℕ → Type 0
AnswersSym (Judged j) own full sym files asked before after = JudgesSym own sym files j
AnswersSym (Unread line) own full sym files asked before after = Rose before after × (err_bytes line ≡ unread_lines full (last_name asked))
AnswersSym NoMemory own full sym files asked before after = Unit {0}

-- only symbol files in the folder were asked for, each at most once
abbrev pub AsksSymbols : List ℕ → List (List ℕ) → List (List ℕ) → Type 0
AsksSymbols folder before after = (names : List (List ℕ)) × ((after ≡ before ++ names) × (AreOnce names × AllByRecursion (IsSymbolFile folder) names))

-- a judgement is the verdict on a core or its fault, by some files. If the store's files are known, these are the store's files without the names at
-- which a call failed. Each such name was asked for
pub record JudgesCore (j : Judgement) (folder : List ℕ) (found : Result CoreParts CoreFault) (files : Option Files) (asked : List (List ℕ)) (before after : ℕ) : Type 0 where
  pub got : Files
  pub missed : List (List ℕ)
  pub told : Tells files (λ f. got ≡ without missed f)
  pub counted : Counted missed before after
  pub asked_for : (name : List ℕ) → list_any (bytes_eq name) missed ≡ true → list_any (bytes_eq name) asked ≡ true
  pub is : judgement_verdict j ≡ core_or_refused folder got found

-- what an answer guarantees about a core file
abbrev pub AnswersCore : Answer → List ℕ → List ℕ → Option Files → List (List ℕ) → ℕ → ℕ → Type 0
AnswersCore (Judged j) folder bytes files asked before after = JudgesCore j folder (core bytes) files asked before after
AnswersCore (Unread line) folder bytes files asked before after = ⊥
AnswersCore NoMemory folder bytes files asked before after = Unit {0}
