-- What `dump` writes gets a yes from `judge`.
use Rattle.std.proofs.Common.{◌≡◌, ℕ, zero, suc, ◌<◌, ◌≤◌, Bool, true, false, cond, nat_lt, List, [], length, take, ◌^◌, Option, Some, Result, Ok, Err, refl, sym, ap, subst, ◌∙◌, arith}
use Rattle.std.proofs.lemmas.Bool.Decides.{nat_tests}
use Rattle.sym_edges.specs.Outside.{Files, Tells, append_told}
use Rattle.sym_rules.specs.declared.text_fault.TextFault.{TextFault}
use Rattle.sym_records.specs.Reading.{reading}
use Rattle.sym_records.specs.declared.line.SymLine.{SymLine}
use Rattle.sym_grammar.specs.Input.{file_reading, whole_reading, front_reading, decided, nothing}
use Rattle.sym_grammar.specs.declared.refusal.SymRefusal.{SymRefusal}
use Rattle.sym_judge.specs.Rulings.{IsRuling}
use Rattle.sym_judge.specs.declared.ruling.Ruling.TheVariants.{Yes}
use Rattle.sym_judge.proofs.LawLemmas.{yes_of_itself}
use Rattle.dumpsyms_cmd.specs.Words.{Asked, dump, judge}
use Rattle.dumpsyms_cmd.specs.Verdict.{Verdict, LIMIT}
use Rattle.dumpsyms_cmd.specs.Answers.{IsVerdict}
use Rattle.dumpsyms_cmd.specs.Judgement.{judgement_verdict}
use Rattle.dumpsyms_cmd.specs.Program.{Run, command, WasJudged, Promises}
use Rattle.dumpsyms_cmd.specs.commands.Dump.{IsGivenVerdict, IsSourceVerdict}
use Rattle.dumpsyms_cmd.specs.ElfInput.{ElfSource, given_image}
use Rattle.elf_sections.specs.Image.{ImageParts}
use Rattle.dumpsyms_cmd.specs.commands.Judge.{ruling_verdict, IsReadVerdict, IsTextVerdict, IsDumpedVerdict, IsJudgeVerdict}
use Rattle.worked.specs.DumpedJudged.{JudgesWhatWasDumped, AnswersYes}
use Rattle.worked.proofs.OneVerdict.{one_source, one_ruling}
use Rattle.worked.proofs.OneRun.{whole_by, judging_by}

-- The reading of a file that is not too long is the reading of its text.
short_by : (long : Bool) (bytes : List ℕ) → long ≡ false → cond long (front_reading (decided (2 ^ 20) nothing (take LIMIT bytes))) (whole_reading (reading bytes)) ≡ whole_reading (reading bytes)
short_by false bytes is = refl
short_by true bytes is = absurd (cc)

short_reading : (bytes : List ℕ) → length bytes ≤ LIMIT → file_reading LIMIT bytes ≡ whole_reading (reading bytes)
unfolding file_reading
short_reading bytes few = let no : nat_lt LIMIT (length bytes) ≡ false = grind (arith, nat_tests) in short_by (nat_lt LIMIT (length bytes)) bytes no

-- The verdict on the records of a text and that text.
read_yes : (own : List SymLine) (read : Result (List SymLine) SymRefusal) (v : Verdict) → read ≡ Ok own → IsReadVerdict own read v → v ≡ ruling_verdict Yes
read_yes own (Ok other) v same is =
    let records : own ≡ other = cc in
    is.is ∙ ap ruling_verdict (one_ruling own own is.ruling Yes (subst (λ (lines : List SymLine). IsRuling own lines is.ruling) (sym records) is.ruling_is) (yes_of_itself own))
read_yes own (Err why) v same is = absurd (cc)

own_yes : (full : Bool) (name : List ℕ) (read : Result (List SymLine) TextFault) (text : List ℕ) (v : Verdict) → reading text ≡ read → length text ≤ LIMIT → IsTextVerdict full name read (Some text) v → v ≡ ruling_verdict Yes
own_yes full name (Ok own) text v is few verdict = read_yes own (file_reading LIMIT text) v (short_reading text few ∙ ap whole_reading is) verdict
own_yes full name (Err fault) text v is few verdict = absurd verdict

text_yes : (full : Bool) (name : List ℕ) (status : ℕ) (dumped : Verdict) (v : Verdict) → status ≡ 0 → length dumped.out ≤ LIMIT → IsDumpedVerdict full name status dumped (Some dumped.out) v → v ≡ ruling_verdict Yes
text_yes full name zero dumped v is few verdict = own_yes full name (reading dumped.out) dumped.out v refl few verdict
text_yes full name (suc status) dumped v is few verdict = absurd (omega (arith, is))

pub dumped_yes : (source : ElfSource) (name : List ℕ) (files : Files) (dumped v : Verdict) → IsSourceVerdict source files dumped → dumped.status ≡ 0 → length dumped.out ≤ LIMIT → files name ≡ Some dumped.out → IsJudgeVerdict source name files v → v ≡ ruling_verdict Yes
dumped_yes source name files dumped v first zero_is few kept is =
    let same : is.dumped ≡ dumped = one_source source files is.dumped dumped is.dumped_is first in
    text_yes source.full name dumped.status dumped v zero_is few
    (subst (λ (bytes : Option (List ℕ)). IsDumpedVerdict source.full name dumped.status dumped bytes v) kept (subst (λ (d : Verdict). IsDumpedVerdict source.full name d.status d (files name) v) same is.is))

-- Runs.
verdict_of : (run : Run) (asked : Asked) (files : Files) → run.store.files ≡ Some files → command run ≡ Some asked → (judged : WasJudged run) → IsVerdict (Some asked) files judged.missed (judgement_verdict judged.judgement)
verdict_of run asked files tells asks judged =
    subst (λ (c : Option Asked). IsVerdict c files judged.missed (judgement_verdict judged.judgement)) asks
    (subst (λ (told : Option Files). Tells told (λ known. IsVerdict (command run) known judged.missed (judgement_verdict judged.judgement))) tells judged.verdict)

first_text : (taken after : Option (List ℕ)) (text out : List ℕ) → taken ≡ Some [] → after ≡ Some text → after ≡ append_told taken out → out ≡ text
first_text taken after text out none wrote whole =
    some_is (sym (ap (λ t. append_told t out) none) ∙ sym whole ∙ wrote)
  where
    some_is : {a b : List ℕ} → ◌≡◌ {A = Option (List ℕ)} (Some a) (Some b) → a ≡ b
    some_is is = cc

pub dumped_texts_get_a_yes : (dumping judging : Run) → Promises dumping → Promises judging → JudgesWhatWasDumped dumping judging → judging.status < 3 → AnswersYes judging
dumped_texts_get_a_yes dumping judging p q runs low =
    let first : WasJudged dumping = judging_by dumping p (let done = runs.done in omega arith) in
    let second : WasJudged judging = judging_by judging q low in
    let v : Verdict = judgement_verdict first.judgement in
    let w : Verdict = judgement_verdict second.judgement in
    let dumped = whole_by dumping v first.written (let done = runs.done in omega arith) in
    let judged = whole_by judging w second.written low in
    let text : v.out ≡ runs.text = first_text dumping.out.taken dumping.out.taken_after runs.text v.out runs.out runs.wrote dumped.1.out_text in
    let few : length v.out ≤ LIMIT = subst (λ (t : List ℕ). length t ≤ LIMIT) (sym text) runs.fits in
    let yes : w ≡ ruling_verdict Yes
    = dumped_yes runs.source runs.sym runs.after v w
    (subst (λ (r : Result ImageParts Verdict). IsGivenVerdict runs.source r v) runs.same_image (verdict_of dumping (dump runs.source runs.workers) runs.before runs.dumping_tells runs.dumps first))
    (sym dumped.0 ∙ runs.done) few (runs.kept ∙ ap Some (sym text))
    (verdict_of judging (judge runs.source runs.sym) runs.after runs.judging_tells runs.judges second) in
    record {
      status = judged.0 ∙ ap (λ (x : Verdict). x.status) yes;
      out = judged.1.out_text ∙ ap (λ (x : Verdict). append_told judging.out.taken x.out) yes;
    }
