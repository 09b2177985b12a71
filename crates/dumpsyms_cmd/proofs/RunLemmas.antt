-- The promises of a run, for each of the three kinds of answer.
use Rattle.std.proofs.Common.{◌≡◌, ◌⊎◌, inl, inr, ℕ, ◌<◌, ◌≤◌, Bool, true, false, Option, Some, None, IsSome, List, [], refl, sym, ◌∙◌, ap, arith, subst}
use Rattle.sym_edges.specs.Outside.{Files, Rose}
use Rattle.dumpsyms_cmd.specs.Words.{Asked, stacks, ReadsFiles, not_read_line}
use Rattle.dumpsyms_cmd.specs.Verdict.{Verdict, unread_by, no_memory}
use Rattle.dumpsyms_cmd.specs.Observed.{StoreSeen, SinkSeen, Stood, StoreFailed, SinkFailed, SinkStood, ReceivedWhole, AsksFor, Misses, IsSteady}
use Rattle.dumpsyms_cmd.specs.Judgement.{err_bytes, is_some_output, judgement_verdict}
use Rattle.dumpsyms_cmd.specs.internal.Judged.{has_output, answer_verdict, JudgesWords, AnswersCommand, AnswersWords, IsSteadyAnswer}
use Rattle.dumpsyms_cmd.specs.Answers.{IsUsage}
use Rattle.dumpsyms_cmd.specs.internal.Writes.{Writes}
use Rattle.dumpsyms_cmd.specs.Program.{Run, command, WasWritten, WasJudged, WasNotRead, HadNoMemory, Promises}
use Rattle.dumpsyms_cmd.specs.declared.judgement.Judgement.{Judgement}
use Rattle.dumpsyms_cmd.specs.declared.judgement.Answer.{Answer}
use Rattle.dumpsyms_cmd.specs.declared.judgement.Answer.TheVariants.{Judged, Unread, NoMemory}
use Rattle.dumpsyms_cmd.proofs.WriteLemmas.{nothing}
use Rattle.dumpsyms_cmd.proofs.SteadyLemmas.{any_steady}

none_some : {A : Type 0} (o : Option A) → o ≡ None → IsSome o → ⊥
none_some None is some = cc
none_some (Some x) is some = cc

-- A write failed.
some_failed : (has : Bool) (out err : SinkSeen) → (((has ≡ true) × SinkFailed out) ⊎ SinkFailed err) → SinkFailed out ⊎ SinkFailed err
some_failed has out err (inl failed) = inl failed.1
some_failed has out err (inr failed) = inr failed

err_failed : (has : Bool) (out err : SinkSeen) → has ≡ false → (((has ≡ true) × SinkFailed out) ⊎ SinkFailed err) → SinkFailed err
err_failed has out err none (inl failed) = absurd (let h = failed.0 in cc)
err_failed has out err none (inr failed) = failed

-- A count that rose is not unchanged.
stood_rose : (before after : ℕ) → Stood before after → Rose before after → ⊥
stood_rose before after stood rose = let more = rose stood.1 in let same = stood.0 in omega arith

no_failure : (out err : SinkSeen) → SinkStood out → SinkStood err → SinkFailed out ⊎ SinkFailed err → ⊥
no_failure out err quiet calm (inl failed) = stood_rose out.faults out.faults_after quiet failed
no_failure out err quiet calm (inr failed) = stood_rose err.faults err.faults_after calm failed

-- A judgement on invalid arguments is the usage line.
usage_by : (c : Option Asked) (store : StoreSeen) (j : Judgement) → JudgesWords j c store → c ≡ None → IsUsage j
usage_by None store j judged none = judged.kept
usage_by (Some asked) store j judged none = absurd (none_some (Some asked) none refl)

row_by : (c : Option Asked) (store : StoreSeen) (j : Judgement) → JudgesWords j c store → j.status ≡ 2 → c ≡ None
row_by None store j judged two = refl
row_by (Some asked) store j judged two = absurd (let low = judged.row refl in omega arith)

-- What a run wrote, given what its writing promises.
written : (run : Run) (v : Verdict) (has : Bool) → Writes run.status v has run.out run.err → WasWritten run v
written run v has (inl whole) = inl whole
written run v has (inr failed) = inr (failed.0, failed.1, some_failed has run.out run.err failed.2)

judged_run : (j : Judgement) (run : Run) → JudgesWords j (command run) run.store → Writes run.status (judgement_verdict j) (is_some_output j.out) run.out run.err → WasJudged run
judged_run j run judged writes = record { missed = judged.missed; misses = judged.misses; judgement = j; promised = judged.kept; verdict = judged.told; written = written run (judgement_verdict j) (is_some_output j.out) writes }

-- The status is that of what was written, or 4.
unlike : (run : Run) (v : Verdict) (has : Bool) (n : ℕ) → Writes run.status v has run.out run.err → run.status ≡ n → (v.status ≡ n → ⊥) → (n ≡ 4 → ⊥) → ⊥
unlike run v has n (inl whole) is other four = other (sym whole.0 ∙ is)
unlike run v has n (inr failed) is other four = four (sym is ∙ failed.0)

is_row : (c : Option Asked) → (c ≡ None → ⊥) → IsSome c
is_row None some = absurd (some refl)
is_row (Some asked) some = refl

row_run : (j : Judgement) (run : Run) → JudgesWords j (command run) run.store → Writes run.status (judgement_verdict j) (is_some_output j.out) run.out run.err → run.status < 2 → IsSome (command run)
row_run j run judged (inl whole) low =
    is_row (command run) (λ none. let two = (usage_by (command run) run.store j judged none).status in let same = whole.0 in absurd (omega arith))
row_run j run judged (inr failed) low = absurd (let is = failed.0 in omega arith)

usage_run : (j : Judgement) (run : Run) → JudgesWords j (command run) run.store → Writes run.status (judgement_verdict j) (is_some_output j.out) run.out run.err → run.status ≡ 2 → command run ≡ None
usage_run j run judged (inl whole) two = row_by (command run) run.store j judged (sym whole.0 ∙ two)
usage_run j run judged (inr failed) two = absurd (let is = failed.0 in omega arith)

no_row_run : (j : Judgement) (run : Run) → JudgesWords j (command run) run.store → Writes run.status (judgement_verdict j) (is_some_output j.out) run.out run.err → command run ≡ None → (run.status ≡ 2) ⊎ ((run.status ≡ 4) × SinkFailed run.err)
no_row_run j run judged (inl whole) none = inl (whole.0 ∙ (usage_by (command run) run.store j judged none).status)
no_row_run j run judged (inr failed) none =
    inr (failed.0, err_failed (is_some_output j.out) run.out run.err (ap is_some_output (usage_by (command run) run.store j judged none).out) failed.2)

unwritten_run : (run : Run) (v : Verdict) (has : Bool) → Writes run.status v has run.out run.err → (v.status ≡ 4 → ⊥) → run.status ≡ 4 → SinkFailed run.out ⊎ SinkFailed run.err
unwritten_run run v has (inl whole) known four = absurd (known (sym whole.0 ∙ four))
unwritten_run run v has (inr failed) known four = some_failed has run.out run.err failed.2

small : (run : Run) (v : Verdict) (has : Bool) → Writes run.status v has run.out run.err → v.status ≤ 5 → run.status ≤ 5
small run v has (inl whole) low = let is = whole.0 in omega arith
small run v has (inr failed) low = let is = failed.0 in omega arith

status_said : (run : Run) (v : Verdict) (has : Bool) → Writes run.status v has run.out run.err → SinkStood run.out → SinkStood run.err → run.status ≡ v.status
status_said run v has (inl whole) quiet calm = whole.0
status_said run v has (inr failed) quiet calm = absurd (no_failure run.out run.err quiet calm (some_failed has run.out run.err failed.2))

-- The answer is a judgement.
by_judgement : (j : Judgement) (run : Run) → JudgesWords j (command run) run.store → AsksFor run.store (command run) → Writes run.status (judgement_verdict j) (is_some_output j.out) run.out run.err → Promises run
by_judgement j run judged asks writes =
    let low : j.status < 3 = judged.low in
    let v : Verdict = judgement_verdict j in
    let has : Bool = is_some_output j.out in
    record {
      found = inl (judged_run j run judged writes);
      judged = λ below. (row_run j run judged writes below, judged_run j run judged writes);
      usage = usage_run j run judged writes;
      no_row = no_row_run j run judged writes;
      not_read = λ three. absurd (unlike run v has 3 writes three (λ is. omega arith) (λ is. omega arith));
      not_written = unwritten_run run v has writes (λ is. omega arith);
      out_of_memory = λ five. absurd (unlike run v has 5 writes five (λ is. omega arith) (λ is. omega arith));
      range = small run v has writes (omega arith);
      asked = asks;
      complete = λ stood quiet calm. inl (let same = status_said run v has writes quiet calm in omega arith);
    }

-- A file could not be read.
reads_some : (o : Option Asked) → ReadsFiles o → IsSome o
reads_some None reads = absurd reads
reads_some (Some asked) reads = refl

by_unread : (run : Run) (line : List ℕ) → ReadsFiles (command run) → StoreFailed run.store → line ≡ not_read_line (command run) run.store.asked_after → AsksFor run.store (command run) → Writes run.status (unread_by line) false run.out run.err → Promises run
by_unread run line reads failed is asks writes =
    let v : Verdict = unread_by line in
    let not_read : WasNotRead run = record { row = reads; failed = failed; written = subst (λ (t : List ℕ). WasWritten run (unread_by t)) is (written run v false writes) } in
    record {
      found = inr (inl not_read);
      judged = λ low. absurd (unlike run v false run.status writes refl (λ is. omega arith) (λ is. omega arith));
      usage = λ two. absurd (unlike run v false 2 writes two (λ is. omega arith) (λ is. omega arith));
      no_row = λ none. absurd (none_some (command run) none (reads_some (command run) reads));
      not_read = λ three. not_read;
      not_written = unwritten_run run v false writes (λ is. omega arith);
      out_of_memory = λ five. absurd (unlike run v false 5 writes five (λ is. omega arith) (λ is. omega arith));
      range = small run v false writes (omega arith);
      asked = asks;
      complete = λ stood quiet calm. absurd (stood_rose run.store.faults run.store.faults_after stood failed);
    }

-- Memory ran out.
whole_nothing : (run : Run) → Writes run.status no_memory false run.out run.err → run.status ≡ 5 → ReceivedWhole run.out run.err no_memory
whole_nothing run (inl whole) five = whole.1
whole_nothing run (inr failed) five = absurd (let is = failed.0 in omega arith)

by_no_memory : (run : Run) → IsSome (command run) → IsSteady (command run) run.store → run.status ≡ 5 → AsksFor run.store (command run) → Writes run.status no_memory false run.out run.err → Promises run
by_no_memory run some steady five asks writes =
    let texts : ReceivedWhole run.out run.err no_memory = whole_nothing run writes five in
    let none_left : HadNoMemory run = record { row = some; steady = steady; status = five; out = texts.out_text ∙ nothing run.out.taken; err = texts.err_text ∙ nothing run.err.taken } in
    record {
      found = inr (inr none_left);
      judged = λ low. absurd (omega (arith, low, five));
      usage = λ two. absurd (omega (arith, two, five));
      no_row = λ none. absurd (none_some (command run) none some);
      not_read = λ three. absurd (omega (arith, three, five));
      not_written = λ four. absurd (omega (arith, four, five));
      out_of_memory = λ is. none_left;
      range = omega (arith, five);
      asked = asks;
      complete = λ stood quiet calm. inr five;
    }

pub promises : (answer : Answer) (run : Run) → AnswersWords answer (command run) run.store → AsksFor run.store (command run) → Writes run.status (answer_verdict answer) (has_output answer) run.out run.err → (answer ≡ NoMemory → run.status ≡ 5) → Promises run
promises (Judged j) run says asks writes quiet = by_judgement j run says asks writes
promises (Unread m) run says asks writes quiet = by_unread run (err_bytes m) says.0 says.1 says.2 asks writes
promises NoMemory run says asks writes quiet = by_no_memory run says.0 says.1 (quiet refl) asks writes

-- A command that ends if a file cannot be read missed no file if it judged.
misses_none : (c : Option Asked) (store : StoreSeen) → store.faults_after ≡ store.faults → Misses c store []
misses_none (Some (stacks core folder)) store same = (same, λ name among. absurd (cc))
misses_none c store same = (refl, same)

stands : (c : Option Asked) (store : StoreSeen) → store.faults_after ≡ store.faults → IsSteady c store
stands (Some (stacks core folder)) store same = tt
stands c store same = same

pub words_answered : (answer : Answer) (c : Option Asked) (files : Option Files) (before asked : List (List ℕ)) (faults now : ℕ) → IsSteadyAnswer answer faults now → AnswersCommand answer c files asked faults now → AnswersWords answer c (record { files = files; asked = before; asked_after = asked; faults = faults; faults_after = now })
words_answered (Judged j) c files before asked faults now steady says = record {
  low = says.low;
  row = says.row;
  missed = [];
  misses = misses_none c (record { files = files; asked = before; asked_after = asked; faults = faults; faults_after = now }) steady;
  told = says.told;
  kept = says.kept;
}
words_answered (Unread m) c files before asked faults now steady says = says
words_answered NoMemory c files before asked faults now steady says = (says, stands c (record { files = files; asked = before; asked_after = asked; faults = faults; faults_after = now }) steady)

pub words_steady : (answer : Answer) (c : Option Asked) (files : Option Files) (before asked : List (List ℕ)) (faults now : ℕ) → now ≡ faults → AnswersCommand answer c files asked faults now → AnswersWords answer c (record { files = files; asked = before; asked_after = asked; faults = faults; faults_after = now })
words_steady answer c files before asked faults now same says = words_answered answer c files before asked faults now (any_steady answer faults now same) says
