-- What the program promises about its status, its two texts and the names that it asks for.
use Rattle.std.specs.Prelude.{◌≡◌, ◌⊎◌, ℕ, ◌<◌, ◌≤◌, List, Option, None, IsSome}
use Rattle.sym_edges.specs.Outside.{Tells}
use Rattle.dumpsyms_cmd.specs.Words.{Asked, ReadsFiles, command_of, not_read_line}
use Rattle.dumpsyms_cmd.specs.Verdict.{Verdict, unread_by}
use Rattle.dumpsyms_cmd.specs.Answers.{IsVerdict}
use Rattle.dumpsyms_cmd.specs.Observed.{StoreSeen, SinkSeen, StoreFailed, SinkFailed, StoreStood, SinkStood, ReceivedNothing, ReceivedWhole, ReceivedFronts, AsksFor, Misses, IsSteady}
use Rattle.dumpsyms_cmd.specs.Judgement.{judgement_verdict}
use Rattle.dumpsyms_cmd.specs.Answers.{CommandPromises}
use Rattle.dumpsyms_cmd.specs.declared.judgement.Judgement.{Judgement}

-- one run of the program: its arguments, the status that it returns, and what is observed of the store and of both sinks
pub record Run : Type 0 where
  pub words : List (List ℕ)
  pub status : ℕ
  pub store : StoreSeen
  pub out : SinkSeen
  pub err : SinkSeen

-- the command that the arguments ask for
abbrev pub command : Run → Option Asked
command run = command_of run.words

-- a verdict was written. Either both sinks received its texts whole, and the status is that of the verdict; or the status is 4, a sink failed, and
-- the sinks received prefixes of its texts
abbrev pub WasWritten : Run → Verdict → Type 0
WasWritten run v =
    ((run.status ≡ v.status) × ReceivedWhole run.out run.err v)
    ⊎ ((run.status ≡ 4) × ReceivedFronts run.out run.err v × (SinkFailed run.out ⊎ SinkFailed run.err))

-- the run judged: the verdict of a judgement was written. The judgement keeps the command's promises. If the store's files are known, this verdict is
-- the one for these files. The store did not fail, except at symbol files of `stacks`, which count as missing
pub record WasJudged (run : Run) : Type 0 where
  pub missed : List (List ℕ)
  pub misses : Misses (command run) run.store missed
  pub judgement : Judgement
  pub promised : CommandPromises (command run) run.store.files judgement
  pub verdict : Tells run.store.files (λ files. IsVerdict (command run) files missed (judgement_verdict judgement))
  pub written : WasWritten run (judgement_verdict judgement)

-- a command that reads files could not read one: the store failed, and the line about it was written. Under `--full` the line has the cleaned name of
-- the file that was asked for last
pub record WasNotRead (run : Run) : Type 0 where
  pub row : ReadsFiles (command run)
  pub failed : StoreFailed run.store
  pub written : WasWritten run (unread_by (not_read_line (command run) run.store.asked_after))

-- memory ran out: the status is 5, no sink received anything, and the store did not fail, except perhaps under `stacks`
pub record HadNoMemory (run : Run) : Type 0 where
  pub row : IsSome (command run)
  pub steady : IsSteady (command run) run.store
  pub status : run.status ≡ 5
  pub out : ReceivedNothing run.out
  pub err : ReceivedNothing run.err

-- the promises of a run
pub record Promises (run : Run) : Type 0 where
  -- everything is decided before anything is written, and the result is one of these
  pub found : WasJudged run ⊎ (WasNotRead run ⊎ HadNoMemory run)
  -- 0 and 1 come only for valid arguments, and only if the run judged
  pub judged : run.status < 2 → IsSome (command run) × WasJudged run
  -- 2 comes only for invalid arguments; these give 2, or 4 if err failed
  pub usage : run.status ≡ 2 → command run ≡ None
  pub no_row : command run ≡ None → (run.status ≡ 2) ⊎ ((run.status ≡ 4) × SinkFailed run.err)
  -- 3 comes only if the store failed
  pub not_read : run.status ≡ 3 → WasNotRead run
  -- 4 comes only if a sink failed
  pub not_written : run.status ≡ 4 → SinkFailed run.out ⊎ SinkFailed run.err
  -- 5 comes only if memory ran out
  pub out_of_memory : run.status ≡ 5 → HadNoMemory run
  -- no other status comes
  pub range : run.status ≤ 5
  -- the store was asked for a prefix of the command's files, and for no other name except the symbol files of `stacks`
  pub asked : AsksFor run.store (command run)
  -- if neither the store nor a sink failed, the run judged or memory ran out
  pub complete : StoreStood run.store → SinkStood run.out → SinkStood run.err → (run.status < 3) ⊎ (run.status ≡ 5)
