-- Two runs on the same file write the same, by any numbers of workers.
use Rattle.std.proofs.Common.{◌≡◌, ◌⊎◌, inl, inr, ℕ, ◌<◌, List, [], ◌∷◌, Option, Some, refl, sym, ap, subst, ◌∙◌, arith}
use Rattle.sym_edges.specs.Outside.{Files, Tells, append_told}
use Rattle.dumpsyms_cmd.specs.Words.{Asked, stacks, not_read_line}
use Rattle.dumpsyms_cmd.specs.Verdict.{Verdict, unread_by}
use Rattle.dumpsyms_cmd.specs.Answers.{IsVerdict}
use Rattle.dumpsyms_cmd.specs.Observed.{StoreSeen, Stood, ReceivedWhole, Misses}
use Rattle.dumpsyms_cmd.specs.Judgement.{judgement_verdict}
use Rattle.dumpsyms_cmd.specs.Program.{Run, command, WasWritten, WasJudged, WasNotRead, HadNoMemory, Promises}
use Rattle.module_stacks.specs.SymbolFiles.{Counted}
use Rattle.worked.specs.Runs.{IsCalm, RunAlike, EndAlike}
use Rattle.worked.proofs.OneVerdict.{one_asked}

-- If the store of a run did not fail, the run missed no file.
none_counted : (missed : List (List ℕ)) (before after : ℕ) → Stood before after → Counted missed before after → missed ≡ []
none_counted [] before after stood counted = refl
none_counted (name ∷ missed) before after stood counted = absurd (let more = counted stood.1 in let same = stood.0 in omega arith)

none_missed : (c : Option Asked) (store : StoreSeen) (missed : List (List ℕ)) → IsCalm c store → Misses c store missed → missed ≡ []
none_missed (Some (stacks core folder)) store missed calm misses = none_counted missed store.faults store.faults_after calm misses.0
none_missed c store missed calm misses = misses.0

told_verdict : (run : Run) (files : Files) → run.store.files ≡ Some files → IsCalm (command run) run.store → (judged : WasJudged run) → IsVerdict (command run) files [] (judgement_verdict judged.judgement)
told_verdict run files tells calm judged =
    subst (λ missed. IsVerdict (command run) files missed (judgement_verdict judged.judgement)) (none_missed (command run) run.store judged.missed calm judged.misses)
    (subst (λ (told : Option Files). Tells told (λ known. IsVerdict (command run) known judged.missed (judgement_verdict judged.judgement))) tells judged.verdict)

-- A run that judged, and whose status is not 4, wrote its verdict whole.
pub whole_by : (run : Run) (v : Verdict) → WasWritten run v → run.status < 3 → (run.status ≡ v.status) × ReceivedWhole run.out run.err v
whole_by run v (inl whole) low = whole
whole_by run v (inr failed) low = absurd (let is = failed.0 in omega arith)

-- If the status is 0, 1 or 2, the run judged.
pub judging_by : (run : Run) → Promises run → run.status < 3 → WasJudged run
judging_by run p low = go p.found
  where
    other : (v : Verdict) → WasWritten run v → (v.status < 3 → ⊥) → ⊥
    other v (inl whole) high = high (let same = whole.0 in omega arith)
    other v (inr failed) high = (let is = failed.0 in absurd (omega arith))

    go : WasJudged run ⊎ (WasNotRead run ⊎ HadNoMemory run) → WasJudged run
    go (inl judged) = judged
    go (inr (inl unread_run)) = absurd (other (unread_by (not_read_line (command run) run.store.asked_after)) unread_run.written (λ is. omega arith))
    go (inr (inr none)) = absurd (let five = none.status in omega arith)

judged_alike : (one other : Run) → RunAlike one other → WasJudged one → WasJudged other → one.status < 3 → other.status < 3 → EndAlike one other
judged_alike one other runs p q low lower =
    let same : judgement_verdict p.judgement ≡ judgement_verdict q.judgement
    = one_asked (command one) (command other) runs.files [] _ _ runs.asked (told_verdict one runs.files runs.one_tells runs.one_calm p) (told_verdict other runs.files runs.other_tells runs.other_calm q) in
    let first = whole_by one (judgement_verdict p.judgement) p.written low in
    let second = whole_by other (judgement_verdict q.judgement) q.written lower in
    record {
      status = first.0 ∙ ap (λ (v : Verdict). v.status) same ∙ sym second.0;
      out = first.1.out_text ∙ (λ i. append_told (runs.out i) (same i).out) ∙ sym second.1.out_text;
      err = first.1.err_text ∙ (λ i. append_told (runs.err i) (same i).err) ∙ sym second.1.err_text;
    }

-- Two runs that keep the promises of `run` and that judged.
pub runs_end_alike : (one other : Run) → Promises one → Promises other → RunAlike one other → one.status < 3 → other.status < 3 → EndAlike one other
runs_end_alike one other p q runs low lower = judged_alike one other runs (judging_by one p low) (judging_by other q lower) low lower
