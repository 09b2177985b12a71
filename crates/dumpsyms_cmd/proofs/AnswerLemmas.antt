-- The answers of the commands on symbol files, for `answer_symbols`, `answer_query` and what they
-- call.
use Rattle.std.proofs.Common.{◌≡◌, inl, inr, ℕ, ◌+◌, ◌≤◌, ◌<◌, ◌^◌, Bool, true, false, cond, List, [], ◌∷◌, ◌++◌, take, Option, Some, None, Ok, Err, Result, length, nat_lt, zero, suc, replicate, refl, sym, ◌∙◌, ap, arith, append-nil, append_assoc, subst, IfOk}
use Rattle.std.proofs.lemmas.Bool.{cases_lt}
use Rattle.std.proofs.lemmas.Bool.Decides.{nat_tests}
use Rattle.std.proofs.lemmas.List.{length-replicate}
use Rattle.sym_edges.specs.Outside.{Files, Tells, Rose}
use Rattle.sym_edges.specs.WholeFile.{AsksOnce, HoldsFile, IsWhole, IsLonger, ReadAll}
use Rattle.sym_edges.specs.declared.fault.Stop.{Stop}
use Rattle.sym_edges.specs.declared.fault.Stop.TheVariants.{Fault}
use Rattle.sym_edges.specs.declared.fault.Stop.TheVariants as stop
use Rattle.sym_edges.specs.declared.whole_file.ReadEnd.{ReadEnd}
use Rattle.sym_edges.specs.declared.whole_file.ReadEnd.TheVariants.{CantOpen, CantRead, TooLong}
use Rattle.sym_records.specs.declared.line.SymLine.{SymLine}
use Rattle.sym_records.specs.Validity.{AreValid}
use Rattle.sym_findings.specs.Findings.{findings}
use Rattle.sym_findings.specs.declared.kind.Finding.{Finding}
use Rattle.sym_grammar.specs.Input.{file_reading, IsReading, SymRead, AsksName}
use Rattle.sym_grammar.specs.declared.refusal.SymRefusal.{SymRefusal}
use Rattle.sym_grammar.specs.declared.refusal.SymEnd.{SymEnd}
use Rattle.sym_grammar.specs.declared.refusal.SymEnd.TheVariants as end
use Rattle.state_file.specs.StateText.{state_of}
use Rattle.state_file.specs.declared.state.State.{State}
use Rattle.state_file.specs.declared.fault.StateFault.{StateFault}
use Rattle.dumpsyms_cmd.specs.Words.{Asked, check, names, reads_files, not_read_line, sym_command, state_command, if_records, second_of, second_told}
use Rattle.dumpsyms_cmd.specs.Refusals.{too_long_line, unread_line, state_line}
use Rattle.dumpsyms_cmd.specs.Verdict.{Verdict, refused, LIMIT}
use Rattle.dumpsyms_cmd.specs.Observed.{Asks}
use Rattle.dumpsyms_cmd.specs.Judgement.{out_bytes, err_bytes, judgement_verdict, RefusesOrGives}
use Rattle.dumpsyms_cmd.specs.SymbolInput.{refusal_line, by_records, symbol_verdict, file_verdict, AnswersBytes}
use Rattle.dumpsyms_cmd.specs.Answers.{IsVerdict, CommandPromises}
use Rattle.dumpsyms_cmd.specs.commands.Check.{findings_verdict, check_answer}
use Rattle.dumpsyms_cmd.specs.commands.Lookup.{lookup_answer}
use Rattle.dumpsyms_cmd.specs.commands.Names.{names_answer}
use Rattle.dumpsyms_cmd.specs.StateInput.{by_state, state_answer, both_answer, both_verdict, HasRecords, AnswersBoth, STATE_LIMIT}
use Rattle.dumpsyms_cmd.specs.commands.Walk.{walk_or_refused, walk_answer}
use Rattle.dumpsyms_cmd.specs.internal.Judged.{Refuses, IsJudged, AnswersCommand, AnswersStop, AnswersEnd, AnswersJudged, AnswersBytesOf, AnswersState, sym_answer, query_answer}
use Rattle.stack_walk.specs.declared.steps.Walk.{Walk}
use Rattle.stack_walk.specs.Walk.{walk_of}
use Rattle.dumpsyms_cmd.specs.declared.words.SymQuery.{SymQuery}
use Rattle.dumpsyms_cmd.specs.declared.words.SymQuery.TheVariants.{Check, Lookup, Names}
use Rattle.dumpsyms_cmd.specs.declared.words.StateQuery.{StateQuery}
use Rattle.dumpsyms_cmd.specs.declared.words.StateQuery.TheVariants as query
use Rattle.dumpsyms_cmd.specs.declared.judgement.Output.{Output}
use Rattle.dumpsyms_cmd.specs.declared.judgement.Output.TheVariants.{Nothing, Text, Bytes, Shared, Records}
use Rattle.dumpsyms_cmd.specs.declared.judgement.Judgement.{Judgement}
use Rattle.dumpsyms_cmd.specs.declared.judgement.Answer.{Answer}
use Rattle.dumpsyms_cmd.specs.declared.judgement.Answer.TheVariants.{Judged, Unread, NoMemory}
use Rattle.dumpsyms_cmd.proofs.JudgedLemmas.{told}
use Rattle.dumpsyms_cmd.proofs.NameLemmas.{names_read_back}

-- A refusal is the verdict with its line.
abbrev given : ℕ → List ℕ → List ℕ → Verdict
given status out err = record { status = status; out = out; err = err }

pub refuses_verdict : (j : Judgement) (text line : List ℕ) → text ≡ line → Refuses j text → judgement_verdict j ≡ refused line
refuses_verdict j text line same refuses =
    ap (λ n. given n (out_bytes j.out) (err_bytes j.err)) refuses.status
    ∙ ap (λ o. given 1 (out_bytes o) (err_bytes j.err)) refuses.out ∙ ap (given 1 []) (refuses.err ∙ same)

-- A judgement on the reading of a file.
by_reading : (files : Option Files) (name : List ℕ) (answer : List SymLine → Verdict) (read : Result (List SymLine) SymRefusal) (j : Judgement) → HoldsFile files name (IsReading LIMIT read) → judgement_verdict j ≡ by_records answer read → AnswersBytes name (symbol_verdict answer) files j
by_reading None name answer read j holds is = record { bytes = holds.0; there = tt; is = is ∙ ap (by_records answer) (sym holds.1) }
by_reading (Some files) name answer read j holds is = record { bytes = holds.0; there = holds.1; is = is ∙ ap (by_records answer) (sym holds.2) }

status_of : (j : Judgement) (v : Verdict) → judgement_verdict j ≡ v → j.status ≡ v.status
status_of j v is = ap (λ (w : Verdict). w.status) is

by_low : (answer : List SymLine → Verdict) (read : Result (List SymLine) SymRefusal) → ((lines : List SymLine) → (answer lines).status < 2) → (by_records answer read).status < 2
by_low answer (Ok lines) low = low lines
by_low answer (Err why) low = omega arith

found_low : (found : List Finding) → (findings_verdict found).status < 2
found_low [] = omega arith
found_low (f ∷ found) = omega arith

-- The answer is the judgement, or that memory ran out.
pub answered : {F : Type 0} (answer : Answer) (judged : Result Judgement F) (P : Answer → Type 0) → AnswersJudged answer judged → IfOk judged (λ j. P (Judged j)) → P NoMemory → P answer
answered answer (Ok j) P is good none = subst P (sym is) good
answered answer (Err e) P is good none = subst P (sym is) none

pub if_ok : {A F : Type 0} (r : Result A F) (P Q : A → Type 0) → ((x : A) → P x → Q x) → IfOk r P → IfOk r Q
if_ok (Ok x) P Q f is = f x is
if_ok (Err e) P Q f is = tt

-- A command on a symbol file alone.
sym_low : (q : SymQuery) (lines : List SymLine) → (sym_answer q lines).status < 2
sym_low Check lines = found_low (findings lines)
sym_low query lines = omega arith

one_low : (q : SymQuery) (j : Judgement) (name : List ℕ) (files : Option Files) → AnswersBytes name (symbol_verdict (sym_answer q)) files j → j.status < 2
one_low q j name files kept =
    let s = status_of j (symbol_verdict (sym_answer q) kept.bytes) kept.is in
    let few = by_low (sym_answer q) (file_reading LIMIT kept.bytes) (sym_low q) in omega (arith, s, few)

one_told : (j : Judgement) (name : List ℕ) (answer : List ℕ → Verdict) (files : Option Files) → AnswersBytes name answer files j → Tells files (λ f. judgement_verdict j ≡ file_verdict answer (f name))
one_told j name answer files kept =
    told (λ f. f name ≡ Some kept.bytes) (λ f. judgement_verdict j ≡ file_verdict answer (f name)) files (λ f there. kept.is ∙ ap (file_verdict answer) (sym there)) kept.there

one_judged : (j : Judgement) (command : Asked) (files : Option Files) → j.status < 2 → Tells files (λ f. IsVerdict (Some command) f [] (judgement_verdict j)) → CommandPromises (Some command) files j → IsJudged j (Some command) files
one_judged j command files low said kept = record { low = omega (arith, low); row = λ some. low; told = said; kept = kept }

sym_judged : (q : SymQuery) (j : Judgement) (name : List ℕ) (files : Option Files) (kept : AnswersBytes name (symbol_verdict (sym_answer q)) files j) → ((lines : List SymLine) → file_reading LIMIT kept.bytes ≡ Ok lines → AreValid lines) → IsJudged j (Some (sym_command q name)) files
unfolding check_answer lookup_answer names_answer
sym_judged Check j name files kept valid = one_judged j (check name) files (one_low Check j name files kept) (one_told j name check_answer files kept) kept
sym_judged Names j name files kept valid =
    one_judged j (names name) files (one_low Names j name files kept) (one_told j name names_answer files kept) (record { answers = kept; reads_back = λ lines is. names_read_back lines (valid lines is) })
sym_judged q j name files kept valid = one_judged j (sym_command q name) files (one_low q j name files kept) (one_told j name (symbol_verdict (sym_answer q)) files kept) kept

-- Commands on symbol files read files.
sym_reads : (q : SymQuery) (name : List ℕ) → reads_files (sym_command q name) ≡ true
sym_reads Check name = refl
sym_reads (Lookup address) name = refl
sym_reads Names name = refl

state_reads : (q : StateQuery) (name state : List ℕ) → reads_files (state_command q name state) ≡ true
state_reads (query.Frame address) name state = refl
state_reads query.Walk name state = refl

-- The records that were read are valid, and a file that is refused has none.
read_is : (a b : List SymLine) (read : Result (List SymLine) SymRefusal) → read ≡ Ok a → read ≡ Ok b → a ≡ b
read_is a b read first second = cc

refused_none : (why : SymRefusal) (lines : List SymLine) (read : Result (List SymLine) SymRefusal) → read ≡ Err why → read ≡ Ok lines → ⊥
refused_none why lines read first second = cc

held_valid : (files : Option Files) (name : List ℕ) (answer : List SymLine → Verdict) (held : List SymLine) (j : Judgement) (holds : HoldsFile files name (IsReading LIMIT (Ok held))) (is : judgement_verdict j ≡ by_records answer (Ok held))
    → AreValid held → (lines : List SymLine) → file_reading LIMIT (by_reading files name answer (Ok held) j holds is).bytes ≡ Ok lines → AreValid lines
unfolding by_reading
held_valid None name answer held j holds is valid lines read = subst AreValid (read_is held lines (file_reading LIMIT holds.0) holds.1 read) valid
held_valid (Some files) name answer held j holds is valid lines read = subst AreValid (read_is held lines (file_reading LIMIT holds.0) holds.2 read) valid

refused_valid : (files : Option Files) (name : List ℕ) (answer : List SymLine → Verdict) (why : SymRefusal) (j : Judgement) (holds : HoldsFile files name (IsReading LIMIT (Err why))) (is : judgement_verdict j ≡ by_records answer (Err why))
    → (lines : List SymLine) → file_reading LIMIT (by_reading files name answer (Err why) j holds is).bytes ≡ Ok lines → AreValid lines
unfolding by_reading
refused_valid None name answer why j holds is lines read = absurd (refused_none why lines (file_reading LIMIT holds.0) holds.1 read)
refused_valid (Some files) name answer why j holds is lines read = absurd (refused_none why lines (file_reading LIMIT holds.0) holds.2 read)

pub sym_read : {F : Type 0} (answer : Answer) (judged : Result Judgement F) (q : SymQuery) (name : List ℕ) (files : Option Files) (asked : List (List ℕ)) (before after : ℕ) (lines : List SymLine) → AreValid lines → HoldsFile files name (IsReading LIMIT (Ok lines)) → AnswersJudged answer judged → IfOk judged (λ j. judgement_verdict j ≡ sym_answer q lines) → AnswersCommand answer (Some (sym_command q name)) files asked before after
sym_read answer judged q name files asked before after lines valid holds is says =
    answered answer judged (λ a. AnswersCommand a (Some (sym_command q name)) files asked before after) is
    (if_ok judged (λ j. judgement_verdict j ≡ sym_answer q lines) (λ j. IsJudged j (Some (sym_command q name)) files) (λ j same. sym_judged q j name files (by_reading files name (sym_answer q) (Ok lines) j holds same) (held_valid files name (sym_answer q) lines j holds same valid)) says) refl

-- These commands do not name the file that could not be read.
sym_line : (q : SymQuery) (name line : List ℕ) (asked : List (List ℕ)) → line ≡ unread_line → line ≡ not_read_line (Some (sym_command q name)) asked
sym_line Check name line asked is = is
sym_line (Lookup address) name line asked is = is
sym_line Names name line asked is = is

state_line_is : (q : StateQuery) (name state line : List ℕ) (asked : List (List ℕ)) → line ≡ unread_line → line ≡ not_read_line (Some (state_command q name state)) asked
state_line_is (query.Frame address) name state line asked is = is
state_line_is query.Walk name state line asked is = is

pub sym_ended : (answer : Answer) (stopped : Stop SymEnd) (text : List ℕ) (q : SymQuery) (name : List ℕ) (files : Option Files) (asked : List (List ℕ)) (before after : ℕ) → SymRead (Err stopped) files name LIMIT before after → text ≡ unread_line → AnswersEnd answer text stopped → AnswersCommand answer (Some (sym_command q name)) files asked before after
sym_ended (Judged j) (Fault end.Unread) text q name files asked before after read is says = absurd says
sym_ended (Judged j) (Fault (end.Refused why)) text q name files asked before after read is says = sym_judged q j name files (by_reading files name (sym_answer q) (Err why) j read says) (refused_valid files name (sym_answer q) why j read says)
sym_ended (Judged j) stop.NoMemory text q name files asked before after read is says = absurd says
sym_ended (Unread m) (Fault end.Unread) text q name files asked before after read is says = (sym_reads q name, read, sym_line q name (err_bytes m) asked (says ∙ is))
sym_ended (Unread m) (Fault (end.Refused why)) text q name files asked before after read is says = absurd says
sym_ended (Unread m) stop.NoMemory text q name files asked before after read is says = absurd says
sym_ended NoMemory stopped text q name files asked before after read is says = refl

-- The name of a symbol file is asked for, and then perhaps that of a second file.
pub asks_symbols : {A F : Type 0} (read : Result A (Stop F)) (name : List ℕ) (later : List (List ℕ)) (before after : List (List ℕ)) → AsksName read before name after → Asks (name ∷ later) before after
asks_symbols (Ok x) name later before after asked = (1, omega arith, asked)
asks_symbols (Err (Fault f)) name later before after asked = (1, omega arith, asked)
asks_symbols (Err stop.NoMemory) name later before after (inl asked) = (1, omega arith, asked)
asks_symbols (Err stop.NoMemory) name later before after (inr same) = (0, omega arith, same ∙ sym (append-nil before))

pub asks_state : (read : Result (List ℕ) (Stop ReadEnd)) (name : List ℕ) (before after : List (List ℕ)) → AsksOnce read before name after → Asks (name ∷ []) before after
asks_state (Ok bytes) name before after asked = (1, omega arith, asked)
asks_state (Err (Fault f)) name before after asked = (1, omega arith, asked)
asks_state (Err stop.NoMemory) name before after (inl asked) = (1, omega arith, asked)
asks_state (Err stop.NoMemory) name before after (inr same) = (0, omega arith, same ∙ sym (append-nil before))

second_is : (files : Option Files) (name state : List ℕ) (lines : List SymLine) → HoldsFile files name (IsReading LIMIT (Ok lines)) → second_told files name state ≡ state ∷ []
second_is None name state lines holds = refl
second_is (Some files) name state lines holds = ap (λ (o : Option (List ℕ)). second_of o state) holds.1 ∙ ap (λ (r : Result (List SymLine) SymRefusal). if_records r state) holds.2

both_by : (n : ℕ) (name state : List ℕ) (before mid after : List (List ℕ)) → n ≤ 1 → mid ≡ before ++ name ∷ [] → after ≡ mid ++ take n (state ∷ []) → Asks (name ∷ state ∷ []) before after
both_by zero name state before mid after few first second = (1, omega arith, second ∙ append-nil mid ∙ first)
both_by (suc zero) name state before mid after few first second = (2, omega arith, second ∙ ap (λ m. m ++ state ∷ []) first ∙ append_assoc before (name ∷ []) (state ∷ []))
both_by (suc (suc n)) name state before mid after few first second = absurd (omega (arith, few))

pub asks_both : (files : Option Files) (name state : List ℕ) (lines : List SymLine) (before mid after : List (List ℕ)) → HoldsFile files name (IsReading LIMIT (Ok lines)) → AsksName {A = List SymLine} {F = SymEnd} (Ok lines) before name mid → Asks (state ∷ []) mid after → Asks (name ∷ second_told files name state) before after
asks_both files name state lines before mid after holds first second =
    subst (λ (later : List (List ℕ)). Asks (name ∷ later) before after) (sym (second_is files name state lines holds)) (both_by second.0 name state before mid after second.1 first second.2)

-- A state file, for any command on a state.
within_state : (lines : List SymLine) (ask : List SymLine → State → Verdict) (bytes : List ℕ) → length bytes ≤ STATE_LIMIT → state_answer ask lines bytes ≡ by_state ask lines (state_of bytes)
within_state lines ask bytes few =
    let no : nat_lt STATE_LIMIT (length bytes) ≡ false = grind (arith, nat_tests) in
    ap (λ b. cond b (refused too_long_line) (by_state ask lines (state_of bytes))) no

pub state_judged : (lines : List SymLine) (ask : List SymLine → State → Verdict) (bytes : List ℕ) (state : State) (j : Judgement) → length bytes ≤ STATE_LIMIT → state_of bytes ≡ Ok state → judgement_verdict j ≡ ask lines state → judgement_verdict j ≡ state_answer ask lines bytes
state_judged lines ask bytes state j few is says = says ∙ ap (by_state ask lines) (sym is) ∙ sym (within_state lines ask bytes few)

pub state_refused : (lines : List SymLine) (ask : List SymLine → State → Verdict) (bytes text : List ℕ) (fault : StateFault) (j : Judgement) → length bytes ≤ STATE_LIMIT → state_of bytes ≡ Err fault → text ≡ state_line fault → Refuses j text → judgement_verdict j ≡ state_answer ask lines bytes
state_refused lines ask bytes text fault j few is line refuses =
    refuses_verdict j text (state_line fault) line refuses ∙ ap (by_state ask lines) (sym is) ∙ sym (within_state lines ask bytes few)

state_held : (files : Option Files) (name : List ℕ) (lines : List SymLine) (ask : List SymLine → State → Verdict) (bytes : List ℕ) (j : Judgement) → HoldsFile files name (λ whole. IsWhole whole bytes STATE_LIMIT) → judgement_verdict j ≡ state_answer ask lines bytes → AnswersBytesOf lines ask name files j
state_held None name lines ask bytes j holds is = record { bytes = bytes; there = tt; is = is }
state_held (Some files) name lines ask bytes j holds is = record { bytes = bytes; there = holds.1 ∙ ap Some holds.2.0; is = is }

pub state_read : {F : Type 0} (answer : Answer) (judged : Result Judgement F) (lines : List SymLine) (ask : List SymLine → State → Verdict) (name : List ℕ) (files : Option Files) (before after : ℕ) (bytes held : List ℕ) → HoldsFile files name (λ whole. IsWhole whole bytes STATE_LIMIT) → held ≡ bytes → AnswersJudged answer judged → IfOk judged (λ j. judgement_verdict j ≡ state_answer ask lines held) → AnswersState answer lines ask name files before after
state_read answer judged lines ask name files before after bytes held holds same is says =
    answered answer judged (λ a. AnswersState a lines ask name files before after) is
    (if_ok judged (λ j. judgement_verdict j ≡ state_answer ask lines held) (λ j. AnswersBytesOf lines ask name files j) (λ j v. state_held files name lines ask bytes j holds (v ∙ ap (state_answer ask lines) same)) says) tt

-- A state file that is too long.
long_bytes : (limit : ℕ) → (bytes : List ℕ) × (limit < length bytes)
long_bytes limit = (replicate (limit + 1) 0, omega (arith, length-replicate {A = ℕ} (limit + 1) 0))

pub judges_refused : (o : Output) (status : ℕ) (err line : List ℕ) → RefusesOrGives o status err (λ e. e ≡ line) (λ lines e. ⊥) → given status (out_bytes o) err ≡ refused line
judges_refused Nothing status err line says = ap (λ n. given n [] err) says.0 ∙ ap (given 1 []) says.1
judges_refused (Text lines) status err line says = absurd says.1
judges_refused (Bytes text) status err line says = absurd says
judges_refused (Shared text) status err line says = absurd says
judges_refused (Records lines) status err line says = absurd says

longer_answer : (lines : List SymLine) (ask : List SymLine → State → Verdict) (bytes : List ℕ) → STATE_LIMIT < length bytes → refused too_long_line ≡ state_answer ask lines bytes
longer_answer lines ask bytes more =
    let yes : nat_lt STATE_LIMIT (length bytes) ≡ true = grind (arith, nat_tests) in
    sym (ap (λ b. cond b (refused too_long_line) (by_state ask lines (state_of bytes))) yes)

state_longer : (files : Option Files) (name : List ℕ) (lines : List SymLine) (ask : List SymLine → State → Verdict) (j : Judgement) → HoldsFile files name (λ whole. IsLonger whole STATE_LIMIT) → judgement_verdict j ≡ refused too_long_line → AnswersBytesOf lines ask name files j
state_longer None name lines ask j holds is =
    let long = long_bytes STATE_LIMIT in
    record { bytes = long.0; there = tt; is = is ∙ longer_answer lines ask long.0 long.1 }
state_longer (Some files) name lines ask j holds is = record { bytes = holds.0; there = holds.1; is = is ∙ longer_answer lines ask holds.0 holds.2 }

pub state_stopped : (answer : Answer) (stopped : Stop ReadEnd) (text : List ℕ) (lines : List SymLine) (ask : List SymLine → State → Verdict) (name : List ℕ) (files : Option Files) (left left_after : Option (List ℕ)) (before after : ℕ) → ReadAll (Err stopped) files name STATE_LIMIT left left_after before after → text ≡ unread_line → AnswersStop answer text stopped → AnswersState answer lines ask name files before after
state_stopped (Judged j) (Fault CantOpen) text lines ask name files left left_after before after read is says = absurd says
state_stopped (Judged j) (Fault CantRead) text lines ask name files left left_after before after read is says = absurd says
state_stopped (Judged j) (Fault TooLong) text lines ask name files left left_after before after read is says =
    state_longer files name lines ask j read (judges_refused j.out j.status (err_bytes j.err) too_long_line says)
state_stopped (Judged j) stop.NoMemory text lines ask name files left left_after before after read is says = absurd says
state_stopped (Unread m) (Fault CantOpen) text lines ask name files left left_after before after read is says = (read.0, says ∙ is)
state_stopped (Unread m) (Fault CantRead) text lines ask name files left left_after before after read is says = (read.0, says ∙ is)
state_stopped (Unread m) (Fault TooLong) text lines ask name files left left_after before after read is says = absurd says
state_stopped (Unread m) stop.NoMemory text lines ask name files left left_after before after read is says = absurd says
state_stopped NoMemory stopped text lines ask name files left left_after before after read is says = tt

-- Both files.
state_low : (ask : List SymLine → State → Verdict) (lines : List SymLine) (bytes : List ℕ) → ((state : State) → (ask lines state).status < 2) → (state_answer ask lines bytes).status < 2
state_low ask lines bytes low = go (nat_lt STATE_LIMIT (length bytes)) (state_of bytes)
  where
    go : (long : Bool) (read : Result State StateFault) → (cond long (refused too_long_line) (by_state ask lines read)).status < 2
    go true read = omega arith
    go false (Ok state) = low state
    go false (Err fault) = omega arith

second_same : (read : Result (List SymLine) SymRefusal) (ask : List SymLine → State → Verdict) (o : Option (List ℕ)) (bytes : List ℕ) → (HasRecords read → o ≡ Some bytes) → by_records (λ lines. state_answer ask lines bytes) read ≡ by_records (λ lines. file_verdict (state_answer ask lines) o) read
second_same (Ok lines) ask o bytes is = ap (file_verdict (state_answer ask lines)) (sym (is tt))
second_same (Err why) ask o bytes is = refl

both_told : (j : Judgement) (name state : List ℕ) (ask : List SymLine → State → Verdict) (files : Option Files) → AnswersBoth name state ask files j → Tells files (λ f. judgement_verdict j ≡ both_verdict ask (f name) (f state))
both_told j name state ask None kept = tt
both_told j name state ask (Some f) kept =
    kept.is ∙ second_same (file_reading LIMIT kept.bytes) ask (f state) kept.state_bytes kept.state_there
    ∙ ap (file_verdict (symbol_verdict (λ lines. file_verdict (state_answer ask lines) (f state)))) (sym kept.there)

walk_low : (lines : List SymLine) (walk : Option Walk) → (walk_or_refused lines walk).status < 2
walk_low lines None = omega arith
walk_low lines (Some walk) = omega arith

query_low : (q : StateQuery) (lines : List SymLine) (state : State) → (query_answer q lines state).status < 2
query_low query.Walk lines state = walk_low lines (walk_of lines state)
query_low other lines state = omega arith

both_low : (q : StateQuery) (j : Judgement) (name state : List ℕ) (files : Option Files) → AnswersBoth name state (query_answer q) files j → j.status < 2
both_low q j name state files kept =
    let s = status_of j (both_answer (query_answer q) kept.state_bytes kept.bytes) kept.is in
    let few = by_low (λ lines. state_answer (query_answer q) lines kept.state_bytes) (file_reading LIMIT kept.bytes) (λ lines. state_low (query_answer q) lines kept.state_bytes (query_low q lines)) in
    omega (arith, s, few)

below_three : (n : ℕ) → n < 2 → n < 3
below_three n low = omega arith

query_judged : (q : StateQuery) (j : Judgement) (name state : List ℕ) (files : Option Files) → AnswersBoth name state (query_answer q) files j → IsJudged j (Some (state_command q name state)) files
query_judged query.Walk j name state files kept =
    let low = both_low query.Walk j name state files kept in
    record { low = below_three j.status low; row = λ some. low; told = both_told j name state walk_answer files kept; kept = kept }
query_judged q j name state files kept =
    let low = both_low q j name state files kept in
    record { low = below_three j.status low; row = λ some. low; told = both_told j name state (query_answer q) files kept; kept = kept }

both_kept : (files : Option Files) (name state : List ℕ) (ask : List SymLine → State → Verdict) (lines : List SymLine) (j : Judgement) → HoldsFile files name (IsReading LIMIT (Ok lines)) → AnswersBytesOf lines ask state files j → AnswersBoth name state ask files j
both_kept None name state ask lines j holds says = record {
  bytes = holds.0;
  there = tt;
  state_bytes = says.bytes;
  state_there = λ has. tt;
  is = says.is ∙ ap (by_records (λ ls. state_answer ask ls says.bytes)) (sym holds.1);
}
both_kept (Some f) name state ask lines j holds says = record {
  bytes = holds.0;
  there = holds.1;
  state_bytes = says.bytes;
  state_there = λ has. says.there;
  is = says.is ∙ ap (by_records (λ ls. state_answer ask ls says.bytes)) (sym holds.2);
}

no_records : (read : Result (List SymLine) SymRefusal) (why : SymRefusal) → read ≡ Err why → HasRecords read → ⊥
no_records (Ok lines) why is has = cc
no_records (Err other) why is has = has

both_refused : (files : Option Files) (name state : List ℕ) (ask : List SymLine → State → Verdict) (why : SymRefusal) (j : Judgement) → HoldsFile files name (IsReading LIMIT (Err why)) → judgement_verdict j ≡ refused (refusal_line why) → AnswersBoth name state ask files j
both_refused None name state ask why j holds is = record {
  bytes = holds.0;
  there = tt;
  state_bytes = [];
  state_there = λ has. tt;
  is = is ∙ ap (by_records (λ ls. state_answer ask ls [])) (sym holds.1);
}
both_refused (Some f) name state ask why j holds is = record {
  bytes = holds.0;
  there = holds.1;
  state_bytes = [];
  state_there = λ has. absurd (no_records (file_reading LIMIT holds.0) why holds.2 has);
  is = is ∙ ap (by_records (λ ls. state_answer ask ls [])) (sym holds.2);
}

pub rose_later : (before mid after : ℕ) → before ≤ mid → mid ≤ after → Rose mid after → Rose before after
rose_later before mid after first second rose = λ small. elim (cases_lt (mid + 1) (2 ^ 64)) [
  | inl low ↦ (let up = rose low in omega (arith, up, first))
  | inr high ↦ omega (arith, high, small, second)
]

pub query_read : (answer : Answer) (q : StateQuery) (name state : List ℕ) (files files_mid : Option Files) (asked : List (List ℕ)) (before mid after : ℕ) (lines : List SymLine) → HoldsFile files name (IsReading LIMIT (Ok lines)) → files_mid ≡ files → before ≤ mid → mid ≤ after → AnswersState answer lines (query_answer q) state files_mid mid after → AnswersCommand answer (Some (state_command q name state)) files asked before after
query_read answer q name state files files_mid asked before mid after lines holds same first second says =
    go answer (subst (λ (f : Option Files). AnswersState answer lines (query_answer q) state f mid after) same says)
  where
    go : (answer : Answer) → AnswersState answer lines (query_answer q) state files mid after → AnswersCommand answer (Some (state_command q name state)) files asked before after
    go (Judged j) says = query_judged q j name state files (both_kept files name state (query_answer q) lines j holds says)
    go (Unread m) says = (state_reads q name state, rose_later before mid after first second says.0, state_line_is q name state (err_bytes m) asked says.1)
    go NoMemory says = refl

pub query_ended : (answer : Answer) (stopped : Stop SymEnd) (text : List ℕ) (q : StateQuery) (name state : List ℕ) (files : Option Files) (asked : List (List ℕ)) (before after : ℕ) → SymRead (Err stopped) files name LIMIT before after → text ≡ unread_line → AnswersEnd answer text stopped → AnswersCommand answer (Some (state_command q name state)) files asked before after
query_ended (Judged j) (Fault end.Unread) text q name state files asked before after read is says = absurd says
query_ended (Judged j) (Fault (end.Refused why)) text q name state files asked before after read is says = query_judged q j name state files (both_refused files name state (query_answer q) why j read says)
query_ended (Judged j) stop.NoMemory text q name state files asked before after read is says = absurd says
query_ended (Unread m) (Fault end.Unread) text q name state files asked before after read is says = (state_reads q name state, read, state_line_is q name state (err_bytes m) asked (says ∙ is))
query_ended (Unread m) (Fault (end.Refused why)) text q name state files asked before after read is says = absurd says
query_ended (Unread m) stop.NoMemory text q name state files asked before after read is says = absurd says
query_ended NoMemory stopped text q name state files asked before after read is says = refl
