-- The verdict of each command, and what each command promises about its judgement, given the arguments and the files.
use Rattle.std.specs.Prelude.{◌≡◌, ℕ, List, [], Option, Some, None}
use Rattle.sym_edges.specs.Outside.{Files}
use Rattle.module_stacks.specs.SymbolFiles.{without}
use Rattle.dumpsyms_cmd.specs.Words.{Asked, dump, check, lookup, frame, sample, walk, names, judge, stacks, usage_line}
use Rattle.dumpsyms_cmd.specs.Verdict.{Verdict}
use Rattle.dumpsyms_cmd.specs.Judgement.{err_bytes, judgement_verdict}
use Rattle.dumpsyms_cmd.specs.SymbolInput.{file_verdict, AnswersBytes}
use Rattle.dumpsyms_cmd.specs.commands.Dump.{IsSourceVerdict, DumpPromises}
use Rattle.dumpsyms_cmd.specs.commands.Check.{check_answer}
use Rattle.dumpsyms_cmd.specs.commands.Lookup.{lookup_answer}
use Rattle.dumpsyms_cmd.specs.StateInput.{both_verdict, AnswersBoth}
use Rattle.dumpsyms_cmd.specs.commands.Frame.{frame_answer}
use Rattle.dumpsyms_cmd.specs.commands.Sample.{IsSampleVerdict}
use Rattle.dumpsyms_cmd.specs.commands.Walk.{walk_answer}
use Rattle.dumpsyms_cmd.specs.commands.Judge.{IsJudgeVerdict, JudgePromises}
use Rattle.dumpsyms_cmd.specs.commands.Names.{names_answer, NamesPromises}
use Rattle.dumpsyms_cmd.specs.commands.Stacks.{stacks_answer, StacksPromises}
use Rattle.dumpsyms_cmd.specs.declared.judgement.Output.TheVariants.{Nothing}
use Rattle.dumpsyms_cmd.specs.declared.judgement.Judgement.{Judgement}

-- the verdict on invalid arguments
abbrev pub usage : Verdict
usage = record { status = 2; out = []; err = usage_line }

-- the verdict of a command if the files with the names `missed` could not be read: `stacks` goes on without them. The verdict does not depend on the
-- number of workers
abbrev pub IsVerdict : Option Asked → Files → List (List ℕ) → Verdict → Type 0
IsVerdict None files missed v = v ≡ usage
IsVerdict (Some (dump source workers)) files missed v = IsSourceVerdict source files v
IsVerdict (Some (check sym)) files missed v = v ≡ file_verdict check_answer (files sym)
IsVerdict (Some (lookup sym address)) files missed v = v ≡ file_verdict (lookup_answer address) (files sym)
IsVerdict (Some (frame sym address state)) files missed v = v ≡ both_verdict (frame_answer address) (files sym) (files state)
IsVerdict (Some (sample units workers)) files missed v = IsSampleVerdict units v
IsVerdict (Some (walk sym state)) files missed v = v ≡ both_verdict walk_answer (files sym) (files state)
IsVerdict (Some (judge source sym)) files missed v = IsJudgeVerdict source sym files v
IsVerdict (Some (names sym)) files missed v = v ≡ file_verdict names_answer (files sym)
IsVerdict (Some (stacks core folder)) files missed v = v ≡ file_verdict (stacks_answer folder (without missed files)) (files core)

-- invalid arguments are answered with the usage line
pub record IsUsage (j : Judgement) : Type 0 where
  pub status : j.status ≡ 2
  pub out : j.out ≡ Nothing
  pub err : err_bytes j.err ≡ usage_line

-- what each command promises about its judgement
abbrev pub CommandPromises : Option Asked → Option Files → Judgement → Type 0
CommandPromises None files j = IsUsage j
CommandPromises (Some (dump source workers)) files j = DumpPromises source files j
CommandPromises (Some (check sym)) files j = AnswersBytes sym check_answer files j
CommandPromises (Some (lookup sym address)) files j = AnswersBytes sym (lookup_answer address) files j
CommandPromises (Some (frame sym address state)) files j = AnswersBoth sym state (frame_answer address) files j
CommandPromises (Some (sample units workers)) files j = IsSampleVerdict units (judgement_verdict j)
CommandPromises (Some (walk sym state)) files j = AnswersBoth sym state walk_answer files j
CommandPromises (Some (judge source sym)) files j = JudgePromises source sym files j
CommandPromises (Some (names sym)) files j = NamesPromises sym files j
CommandPromises (Some (stacks core folder)) files j = StacksPromises core folder files j
