-- The answers of `stacks`, for `answer_stacks` and what it calls.
use Rattle.std.proofs.Common.{◌≡◌, ◌⊎◌, inl, inr, ℕ, suc, ◌+◌, ◌≤◌, ◌<◌, ◌^◌, Bool, true, false, cond, ◌||◌, is_some, List, [], ◌∷◌, ◌++◌, take, length, Option, Some, None, Ok, Err, Result, IfOk, refl, sym, ◌∙◌, ap, arith, append-nil, append_assoc, subst}
use Rattle.std.proofs.lemmas.Bool.{cases_lt}
use Rattle.std.proofs.lemmas.List.{take_all}
use Rattle.std.proofs.lemmas.List.Folds.{list_any-append}
use Rattle.std.specs.List.{AllByRecursion, list_any}
use Rattle.std.specs.Option.{option_map, option_and_then}
use Rattle.std.specs.Prelude.{slice_get}
use Rattle.std.specs.Str.{bytes_eq, is_utf8}
use Rattle.sym_edges.specs.Outside.{Files, Tells, Rose}
use Rattle.sym_edges.specs.WholeFile.{AsksOnce, HoldsFile, IsSteady}
use Rattle.sym_edges.specs.declared.fault.OutOfMemory.{OutOfMemory}
use Rattle.sym_edges.specs.declared.fault.Stop.{Stop}
use Rattle.sym_edges.specs.declared.fault.Stop.TheVariants.{Fault}
use Rattle.sym_edges.specs.declared.fault.Stop.TheVariants as stop
use Rattle.sym_edges.specs.declared.whole_file.ReadEnd.{ReadEnd}
use Rattle.sym_edges.specs.declared.whole_file.ReadEnd.TheVariants.{CantOpen, CantRead, TooLong}
use Rattle.elf_sections.specs.Identity.{front16}
use Rattle.debug_pair.specs.SymbolPath.{symbol_path}
use Rattle.core_file.specs.HeldBlocks.{is_too_long}
use Rattle.core_file.specs.StoredFile.{IsHeld, IsPast, HeldRead}
use Rattle.core_file.specs.Core.{CoreParts, core}
use Rattle.core_file.specs.declared.fault.CoreFault.{CoreFault}
use Rattle.core_file.specs.declared.modules.Module.{Module}
use Rattle.module_stacks.specs.SymbolFiles.{Found, Seen, seen_in, Agrees, without, Counted, Had, Knows, AreNew, AsksFresh, Learns, found_in}
use Rattle.module_stacks.specs.Symbols.{name_of, name_by, path_by}
use Rattle.module_stacks.specs.Walking.{Walking, path_of, IsPathOf}
use Rattle.module_stacks.specs.declared.names.SymbolName.{SymbolName}
use Rattle.stack_text.specs.StacksText.{stacks_text, lacks_text}
use Rattle.dumpsyms_cmd.specs.Words.{Asked, stacks}
use Rattle.dumpsyms_cmd.specs.Refusals.{too_long_line, core_line, unread_line}
use Rattle.dumpsyms_cmd.specs.Verdict.{Verdict, refused}
use Rattle.dumpsyms_cmd.specs.Observed.{Asks, AsksRow, AreOnce, IsSymbolFile}
use Rattle.dumpsyms_cmd.specs.Judgement.{out_bytes, err_bytes, judgement_verdict}
use Rattle.dumpsyms_cmd.specs.SymbolInput.{file_verdict}
use Rattle.dumpsyms_cmd.specs.commands.Stacks.{core_verdict, core_or_refused, stacks_answer, StacksPromises}
use Rattle.dumpsyms_cmd.specs.internal.Judged.{Refuses, JudgesWords, AnswersWords, AnswersStop, AnswersJudged, AsksSymbols, JudgesCore, AnswersCore}
use Rattle.dumpsyms_cmd.specs.declared.judgement.Judgement.{Judgement}
use Rattle.dumpsyms_cmd.specs.declared.judgement.Answer.{Answer}
use Rattle.dumpsyms_cmd.specs.declared.judgement.Answer.TheVariants.{Judged, Unread, NoMemory}
use Rattle.dumpsyms_cmd.proofs.AnswerLemmas.{refuses_verdict, answered, judges_refused, rose_later}
use Rattle.dumpsyms_cmd.proofs.JudgedLemmas.{nothing}

-- The names that were asked for.

pub nothing_asked : (folder : List ℕ) (before after : List (List ℕ)) → after ≡ before → AsksSymbols folder before after
nothing_asked folder before after same = ([], (same ∙ sym (append-nil before), (tt, tt)))

once_of : (seen : Seen) (names : List (List ℕ)) → AreNew seen names → AreOnce names
once_of seen [] new = tt
once_of seen (name ∷ names) new = (new.1.0, once_of seen names new.1.1)

-- The path of a module's symbol file is one for some module.
by_utf8 : (b : Bool) (folder name identity path : List ℕ) → cond b (Some (symbol_path folder name identity)) None ≡ Some path → IsSymbolFile folder path
by_utf8 true folder name identity path is = (name, (identity, (let same : symbol_path folder name identity ≡ path = cc in sym same)))
by_utf8 false folder name identity path is = absurd (cc)

by_id : (folder name : List ℕ) (id : Option (List ℕ)) (path : List ℕ) → path_of (option_map (name_by folder name) id) ≡ Some path → IsSymbolFile folder path
by_id folder name None path is = absurd (cc)
by_id folder name (Some id) path is = by_utf8 (is_utf8 name) folder name (front16 id) path is

by_module : (folder : List ℕ) (m : Option Module) (path : List ℕ) → option_and_then (λ m. path_of (name_of folder m)) m ≡ Some path → IsSymbolFile folder path
unfolding name_of
by_module folder None path is = absurd (cc)
by_module folder (Some m) path is = by_id folder m.name m.build_id path is

files_of_modules : (w : Walking) (folder : List ℕ) (names : List (List ℕ)) → w.folder ≡ folder → AllByRecursion (IsPathOf w) names → AllByRecursion (IsSymbolFile folder) names
files_of_modules w folder [] same are = tt
files_of_modules w folder (name ∷ names) same are =
    (subst (λ f. IsSymbolFile f name) same (by_module w.folder (slice_get w.core.modules are.0.0) name are.0.1), files_of_modules w folder names same are.1)

pub symbols_asked : (w : Walking) (folder : List ℕ) (before after : List (List ℕ)) → w.folder ≡ folder → AsksFresh (IsPathOf w) (seen_in w.known) before after → AsksSymbols folder before after
symbols_asked w folder before after same asks = (asks.0, (asks.1.0, (once_of (seen_in w.known) asks.0 asks.1.1.0, files_of_modules w folder asks.0 same asks.1.1.1)))

-- The files that agree with what was found.

-- If nothing was asked for, all files agree.
abbrev pub told_files : Option Files → Files
told_files None = λ name. None
told_files (Some files) = files

none_was : {A : Type 0} (o : Option A) (x : A) → o ≡ None → o ≡ Some x → ⊥
none_was None x none is = cc
none_was (Some y) x none is = cc

start_told : (files : Option Files) → Tells files (λ f. (name : List ℕ) → told_files files name ≡ without [] f name)
start_told None = tt
start_told (Some files) = λ name. refl

knows_start : (files : Option Files) (faults : ℕ) (seen : Seen) → ((name : List ℕ) → seen name ≡ None) → Knows files faults faults seen
knows_start files faults seen none = record {
  got = told_files files;
  missed = [];
  had = record { told = start_told files; counted = refl; asked = λ name among. absurd (cc) };
  agrees = λ name found is. absurd (none_was (seen name) found (none name) is);
}

-- The known files without those at which a call failed; or, if the files are not known, some that
-- agree.
abbrev pub chosen : Option Files → Files → List (List ℕ) → Files
chosen None got missed = got
chosen (Some files) got missed = without missed files

chosen_told : (files : Option Files) (got : Files) (missed : List (List ℕ)) → Tells files (λ f. chosen files got missed ≡ without missed f)
chosen_told None got missed = tt
chosen_told (Some files) got missed = refl

chosen_agrees : (files : Option Files) (got : Files) (missed : List (List ℕ)) (seen : Seen) → Tells files (λ f. (name : List ℕ) → got name ≡ without missed f name) → Agrees got seen → Agrees (chosen files got missed) seen
chosen_agrees None got missed seen told agrees = agrees
chosen_agrees (Some files) got missed seen told agrees = λ name found is. (ap found_in (sym (told name)) ∙ agrees name found is)

-- A name at which a call failed was asked for.
missed_asked : (P : List ℕ → Type 0) (files : Option Files) (asked after : List (List ℕ)) (faults now : ℕ) (old new : Seen) (name : List ℕ) → Learns P files asked after faults now old new → ((name : List ℕ) → old name ≡ None) → is_some (new name) ≡ true → list_any (bytes_eq name) after ≡ true
missed_asked P files asked after faults now old new name learns none some =
    ap (list_any (bytes_eq name)) learns.asks ∙ list_any-append (bytes_eq name) asked learns.names ∙ go (list_any (bytes_eq name) learns.names) refl (list_any (bytes_eq name) asked)
  where
    go : (b : Bool) → list_any (bytes_eq name) learns.names ≡ b → (a : Bool) → (a || list_any (bytes_eq name) learns.names) ≡ true
    go b is true = refl
    go true is false = is
    go false is false = (let no : true ≡ false = sym (learns.only name some is) ∙ ap is_some (none name) in absurd (cc))

abbrev given : ℕ → List ℕ → List ℕ → Verdict
given status out err = record { status = status; out = out; err = err }

pub core_judged : (P : List ℕ → Type 0) (j : Judgement) (w new : Walking) (folder : List ℕ) (parts : CoreParts) (files : Option Files) (asked after : List (List ℕ)) (faults now : ℕ) (out err : List ℕ)
    → w.folder ≡ folder → w.core ≡ parts → ((name : List ℕ) → seen_in w.known name ≡ None) → Learns P files asked after faults now (seen_in w.known) (seen_in new.known)
    → ((got : Files) → Agrees got (seen_in new.known) → out ≡ stacks_text got w.folder w.core) → ((got : Files) → Agrees got (seen_in new.known) → err ≡ lacks_text got w.folder w.core)
    → judgement_verdict j ≡ given 0 out err → JudgesCore j folder (Ok parts) files after faults now
core_judged P j w new folder parts files asked after faults now out err folder_is core_is none learns outs errs is =
    let knows : Knows files faults now (seen_in new.known) = learns.knows faults (omega arith) (knows_start files faults (seen_in w.known) none) in
    let got : Files = chosen files knows.got knows.missed in
    let agrees : Agrees got (seen_in new.known) = chosen_agrees files knows.got knows.missed (seen_in new.known) knows.had.told knows.agrees in
    record {
      got = got;
      missed = knows.missed;
      told = chosen_told files knows.got knows.missed;
      counted = knows.had.counted;
      asked_for = λ name among. missed_asked P files asked after faults now (seen_in w.known) (seen_in new.known) name learns none (knows.had.asked name among);
      is = is ∙ ap (λ o. given 0 o err) (outs got agrees) ∙ ap (given 0 (stacks_text got w.folder w.core)) (errs got agrees)
          ∙ ap (λ f. given 0 (stacks_text got f w.core) (lacks_text got f w.core)) folder_is ∙ ap (λ (c : CoreParts). given 0 (stacks_text got folder c) (lacks_text got folder c)) core_is;
    }

-- The bytes of a core file.

pub core_answered : {F : Type 0} (answer : Answer) (judged : Result Judgement F) (parts : CoreParts) (folder bytes : List ℕ) (files : Option Files) (asked : List (List ℕ)) (before after : ℕ) → core bytes ≡ Ok parts → AnswersJudged answer judged → IfOk judged (λ j. JudgesCore j folder (Ok parts) files asked before after) → AnswersCore answer folder bytes files asked before after
core_answered answer judged parts folder bytes files asked before after is says judges =
    answered answer judged (λ a. AnswersCore a folder bytes files asked before after) says (moved judged judges) tt
  where
    moved : {F : Type 0} (r : Result Judgement F) → IfOk r (λ j. JudgesCore j folder (Ok parts) files asked before after) → IfOk r (λ j. JudgesCore j folder (core bytes) files asked before after)
    moved (Ok j) says = subst (λ r. JudgesCore j folder r files asked before after) (sym is) says
    moved (Err e) says = tt

pub core_refused : (j : Judgement) (fault : CoreFault) (folder bytes text : List ℕ) (files : Option Files) (asked : List (List ℕ)) (faults now : ℕ) → core bytes ≡ Err fault → text ≡ core_line fault → Refuses j text → now ≡ faults → AnswersCore (Judged j) folder bytes files asked faults now
core_refused j fault folder bytes text files asked faults now is line refuses same = record {
  got = chosen files (λ name. None) [];
  missed = [];
  told = chosen_told files (λ name. None) [];
  counted = same;
  asked_for = λ name among. absurd (cc);
  is = refuses_verdict j text (core_line fault) line refuses ∙ ap (core_or_refused folder (chosen files (λ name. None) [])) (sym is);
}

-- The core file.

short_is : (folder : List ℕ) (got : Files) (bytes : List ℕ) → is_too_long bytes ≡ false → stacks_answer folder got bytes ≡ core_or_refused folder got (core bytes)
unfolding stacks_answer
short_is folder got bytes short = ap (λ b. cond b (refused too_long_line) (core_or_refused folder got (core bytes))) short

long_is : (folder : List ℕ) (got : Files) (bytes : List ℕ) → is_too_long bytes ≡ true → stacks_answer folder got bytes ≡ refused too_long_line
unfolding stacks_answer
long_is folder got bytes long = ap (λ b. cond b (refused too_long_line) (core_or_refused folder got (core bytes))) long

core_low : (folder : List ℕ) (got : Files) (found : Result CoreParts CoreFault) → (core_or_refused folder got found).status < 2
core_low folder got (Ok parts) = omega arith
core_low folder got (Err fault) = omega arith

stacks_low : (folder : List ℕ) (got : Files) (bytes : List ℕ) → (stacks_answer folder got bytes).status < 2
stacks_low folder got bytes = go (is_too_long bytes) refl
  where
    go : (b : Bool) → is_too_long bytes ≡ b → (stacks_answer folder got bytes).status < 2
    go true is = subst (λ (v : Verdict). v.status < 2) (sym (long_is folder got bytes is)) (omega arith)
    go false is = subst (λ (v : Verdict). v.status < 2) (sym (short_is folder got bytes is)) (core_low folder got (core bytes))

told_is : (name folder bytes : List ℕ) (files : Option Files) (got : Files) (missed : List (List ℕ)) (v : Verdict) → Tells files (λ f. f name ≡ Some bytes) → Tells files (λ f. got ≡ without missed f) → v ≡ stacks_answer folder got bytes → Tells files (λ f. v ≡ file_verdict (stacks_answer folder (without missed f)) (f name))
told_is name folder bytes None got missed v there told is = tt
told_is name folder bytes (Some f) got missed v there told is =
    is ∙ ap (λ (g : Files). stacks_answer folder g bytes) told ∙ ap (file_verdict (stacks_answer folder (without missed f))) (sym there)

-- A judgement on the bytes of the file.
judged_by : (j : Judgement) (name folder bytes : List ℕ) (files : Option Files) (before asked : List (List ℕ)) (faults now : ℕ) (got : Files) (missed : List (List ℕ)) → Tells files (λ f. f name ≡ Some bytes) → Tells files (λ f. got ≡ without missed f) → Counted missed faults now → ((n : List ℕ) → list_any (bytes_eq n) missed ≡ true → list_any (bytes_eq n) asked ≡ true)
    → judgement_verdict j ≡ stacks_answer folder got bytes → JudgesWords j (Some (stacks name folder)) (record { files = files; asked = before; asked_after = asked; faults = faults; faults_after = now })
judged_by j name folder bytes files before asked faults now got missed there told counted asked_for is =
    let low : j.status < 2 = subst (λ (v : Verdict). v.status < 2) (sym is) (stacks_low folder got bytes) in
    record {
      low = omega (arith, low);
      row = λ some. low;
      missed = missed;
      misses = (counted, asked_for);
      told = told_is name folder bytes files got missed (judgement_verdict j) there told is;
      kept = record { bytes = bytes; there = there; got = got; is = is };
    }

held_there : (files : Option Files) (name bytes : List ℕ) → HoldsFile files name (IsHeld bytes) → Tells files (λ f. f name ≡ Some bytes) × (is_too_long bytes ≡ false)
held_there None name bytes holds = (tt, holds)
held_there (Some f) name bytes holds = (holds.1 ∙ ap Some holds.2.0, holds.2.1)

past_there : (files : Option Files) (name : List ℕ) → HoldsFile files name IsPast → (bytes : List ℕ) × (Tells files (λ f. f name ≡ Some bytes) × (is_too_long bytes ≡ true))
past_there None name holds = (holds.0, (tt, holds.1))
past_there (Some f) name holds = (holds.0, (holds.1, holds.2))

counted_from : (missed : List (List ℕ)) (before mid after : ℕ) → mid ≡ before → Counted missed mid after → Counted missed before after
counted_from missed before mid after same counted = subst (λ n. Counted missed n after) same counted

pub stacks_read : (answer : Answer) (name folder bytes : List ℕ) (files mid_files : Option Files) (before asked : List (List ℕ)) (faults mid now : ℕ) → HoldsFile files name (IsHeld bytes) → mid_files ≡ files → mid ≡ faults → AnswersCore answer folder bytes mid_files asked mid now
    → AnswersWords answer (Some (stacks name folder)) (record { files = files; asked = before; asked_after = asked; faults = faults; faults_after = now })
stacks_read (Judged j) name folder bytes files mid_files before asked faults mid now holds same steady says =
    let there = held_there files name bytes holds in
    judged_by j name folder bytes files before asked faults now says.got says.missed there.0 (subst (λ (f : Option Files). Tells f (λ f. says.got ≡ without says.missed f)) same says.told) (counted_from says.missed faults mid now steady says.counted) says.asked_for
    (says.is ∙ sym (short_is folder says.got bytes there.1))
stacks_read (Unread m) name folder bytes files mid_files before asked faults mid now holds same steady says = absurd says
stacks_read NoMemory name folder bytes files mid_files before asked faults mid now holds same steady says = (refl, tt)

pub stacks_stopped : (answer : Answer) (stopped : Stop ReadEnd) (text name folder : List ℕ) (files : Option Files) (before asked : List (List ℕ)) (faults now : ℕ) → HeldRead (Err stopped) files name faults now → IsSteady (Err stopped) faults now → text ≡ unread_line → AnswersStop answer text stopped
    → AnswersWords answer (Some (stacks name folder)) (record { files = files; asked = before; asked_after = asked; faults = faults; faults_after = now })
stacks_stopped (Judged j) (Fault CantOpen) text name folder files before asked faults now read steady is says = absurd says
stacks_stopped (Judged j) (Fault CantRead) text name folder files before asked faults now read steady is says = absurd says
stacks_stopped (Judged j) (Fault TooLong) text name folder files before asked faults now read steady is says =
    let long = past_there files name read in
    judged_by j name folder long.0 files before asked faults now (chosen files (λ n. None) []) [] long.1.0 (chosen_told files (λ n. None) []) steady (λ n among. absurd (cc))
    (judges_refused j.out j.status (err_bytes j.err) too_long_line says ∙ sym (long_is folder (chosen files (λ n. None) []) long.0 long.1.1))
stacks_stopped (Judged j) stop.NoMemory text name folder files before asked faults now read steady is says = absurd says
stacks_stopped (Unread m) (Fault CantOpen) text name folder files before asked faults now read steady is says = (refl, read, says ∙ is)
stacks_stopped (Unread m) (Fault CantRead) text name folder files before asked faults now read steady is says = (refl, read, says ∙ is)
stacks_stopped (Unread m) (Fault TooLong) text name folder files before asked faults now read steady is says = absurd says
stacks_stopped (Unread m) stop.NoMemory text name folder files before asked faults now read steady is says = absurd says
stacks_stopped NoMemory stopped text name folder files before asked faults now read steady is says = (refl, tt)

-- The names that the command asks for.

row : (name folder : List ℕ) (files : Option Files) (before mid after : List (List ℕ)) → mid ≡ before ++ name ∷ [] → AsksSymbols folder mid after → AsksRow (Some (stacks name folder)) files before after
row name folder files before mid after first asks = record {
  untold = nothing;
  further = asks.0;
  are = asks.1.1;
  asks = (suc (length asks.0), omega arith, asks.1.0 ∙ ap (λ l. l ++ asks.0) first ∙ append_assoc before (name ∷ []) asks.0 ∙ ap (λ l. before ++ name ∷ l) (sym (take_all (length asks.0) asks.0 (omega arith))));
}

pub asks_behind : (read : List ℕ) (name folder : List ℕ) (files : Option Files) (before mid after : List (List ℕ)) → AsksOnce (Ok read) before name mid → AsksSymbols folder mid after → AsksRow (Some (stacks name folder)) files before after
asks_behind read name folder files before mid after first asks = row name folder files before mid after first asks

pub asks_core : (stopped : Stop ReadEnd) (name folder : List ℕ) (files : Option Files) (before after : List (List ℕ)) → AsksOnce (Err stopped) before name after → AsksRow (Some (stacks name folder)) files before after
asks_core (Fault f) name folder files before after asked = row name folder files before after after asked (nothing_asked folder after after refl)
asks_core stop.NoMemory name folder files before after (inl asked) = row name folder files before after after asked (nothing_asked folder after after refl)
asks_core stop.NoMemory name folder files before after (inr same) = record { untold = nothing; further = []; are = (tt, tt); asks = (0, omega arith, same ∙ sym (append-nil before)) }
