-- The judgement on an ELF file and a symbol file, for `judge_files`, `answer_sym` and
-- `answer_judge`.
use Rattle.std.proofs.Common.{◌≡◌, inl, inr, ℕ, suc, ◌+◌, ◌≤◌, ◌<◌, Bool, List, [], ◌∷◌, ◌++◌, take, Option, Some, None, Ok, Err, Result, refl, sym, ◌∙◌, ap, arith, append-nil, append_assoc, subst, IfOk}
use Rattle.sym_edges.specs.Outside.{Files, Tells}
use Rattle.sym_edges.specs.WholeFile.{HoldsFile}
use Rattle.sym_edges.specs.declared.fault.Stop.{Stop}
use Rattle.sym_edges.specs.declared.fault.Stop.TheVariants.{Fault}
use Rattle.sym_edges.specs.declared.fault.Stop.TheVariants as stop
use Rattle.elf_sections.specs.Image.{ImageParts}
use Rattle.debug_read.specs.DebugSays.{DebugSays}
use Rattle.debug_read.specs.declared.fault.DebugFault.{DebugFault}
use Rattle.sym_rules.specs.declared.text_fault.TextFault.{TextFault}
use Rattle.sym_records.specs.Canon.{canon_text}
use Rattle.sym_records.specs.Reading.{reading}
use Rattle.sym_records.specs.declared.line.SymLine.{SymLine}
use Rattle.sym_grammar.specs.Input.{file_reading, IsReading, SymRead, AsksName}
use Rattle.sym_grammar.specs.declared.refusal.SymRefusal.{SymRefusal}
use Rattle.sym_grammar.specs.declared.refusal.SymEnd.{SymEnd}
use Rattle.sym_grammar.specs.declared.refusal.SymEnd.TheVariants as end
use Rattle.sym_judge.specs.Rulings.{IsRuling}
use Rattle.sym_judge.specs.declared.ruling.Ruling.{Ruling}
use Rattle.sym_judge.specs.declared.ruling.Ruling.TheVariants.{Yes, No}
use Rattle.dumpsyms_cmd.specs.Words.{judge, last_name, if_image, if_dumped, dumped_told}
use Rattle.dumpsyms_cmd.specs.Refusals.{unread_lines}
use Rattle.dumpsyms_cmd.specs.ElfInput.{ElfSource, given_image}
use Rattle.dumpsyms_cmd.specs.Verdict.{Verdict, refused, LIMIT}
use Rattle.dumpsyms_cmd.specs.Observed.{Asks}
use Rattle.dumpsyms_cmd.specs.Judgement.{out_bytes, err_bytes, judgement_verdict, RefusesOrGives}
use Rattle.dumpsyms_cmd.specs.SymbolInput.{refusal_line}
use Rattle.dumpsyms_cmd.specs.commands.Dump.{IsSourceVerdict, DumpsSource, DumpPromises}
use Rattle.dumpsyms_cmd.specs.commands.Judge.{ruling_verdict, IsRuled, IsReadVerdict, IsSymVerdict, IsTextVerdict, IsJudgeVerdict, JudgesSym, RefusesElf, JudgePromises}
use Rattle.dumpsyms_cmd.specs.internal.Judged.{IsJudged, AnswersCommand, AnswersEnd, AnswersJudged, AnswersSym, AsksThen, IsNoText}
use Rattle.dumpsyms_cmd.specs.declared.judgement.Output.{Output}
use Rattle.dumpsyms_cmd.specs.declared.judgement.Output.TheVariants.{Nothing, Text, Bytes, Shared, Records}
use Rattle.dumpsyms_cmd.specs.declared.judgement.Judgement.{Judgement}
use Rattle.dumpsyms_cmd.specs.declared.judgement.Answer.{Answer}
use Rattle.dumpsyms_cmd.specs.declared.judgement.Answer.TheVariants.{Judged, Unread, NoMemory}
use Rattle.dumpsyms_cmd.proofs.JudgedLemmas.{dumped_verdict, unread_last}
use Rattle.dumpsyms_cmd.proofs.AnswerLemmas.{answered, if_ok, rose_later}

ruled_one : (own other : List SymLine) (ruling : Ruling) (j : Judgement) → IsRuling own other ruling → judgement_verdict j ≡ ruling_verdict ruling → IsRuled own other (judgement_verdict j)
ruled_one own other ruling j says is = record { ruling = ruling; ruling_is = says; is = is }

pub ruled_by : {F : Type 0} (own other : List SymLine) (ruling : Ruling) (judged : Result Judgement F) → IsRuling own other ruling → IfOk judged (λ j. judgement_verdict j ≡ ruling_verdict ruling) → IfOk judged (λ j. IsRuled own other (judgement_verdict j))
ruled_by own other ruling judged says is = if_ok judged (λ j. judgement_verdict j ≡ ruling_verdict ruling) (λ j. IsRuled own other (judgement_verdict j)) (λ j same. ruled_one own other ruling j says same) is

-- The symbol file.
read_is : (own : List SymLine) (name : List ℕ) (files : Option Files) (read : Result (List SymLine) SymRefusal) (j : Judgement) → HoldsFile files name (IsReading LIMIT read) → IsReadVerdict own read (judgement_verdict j) → JudgesSym own name files j
read_is own name None read j holds is = record { bytes = holds.0; there = tt; is = subst (λ (r : Result (List SymLine) SymRefusal). IsReadVerdict own r (judgement_verdict j)) (sym holds.1) is }
read_is own name (Some files) read j holds is = record { bytes = holds.0; there = holds.1; is = subst (λ (r : Result (List SymLine) SymRefusal). IsReadVerdict own r (judgement_verdict j)) (sym holds.2) is }

pub sym_read : {F : Type 0} (answer : Answer) (judged : Result Judgement F) (own other : List SymLine) (full : Bool) (name : List ℕ) (files : Option Files) (asked : List (List ℕ)) (before after : ℕ) → HoldsFile files name (IsReading LIMIT (Ok other)) → AnswersJudged answer judged → IfOk judged (λ j. IsRuled own other (judgement_verdict j)) → AnswersSym answer own full name files asked before after
sym_read answer judged own other full name files asked before after holds is says =
    answered answer judged (λ a. AnswersSym a own full name files asked before after) is
    (if_ok judged (λ j. IsRuled own other (judgement_verdict j)) (λ j. JudgesSym own name files j) (λ j v. read_is own name files (Ok other) j holds v) says) tt

pub sym_ended : (answer : Answer) (stopped : Stop SymEnd) (text : List ℕ) (own : List SymLine) (full : Bool) (name : List ℕ) (files : Option Files) (asked asked_after : List (List ℕ)) (before after : ℕ) → SymRead (Err stopped) files name LIMIT before after → AsksName {A = List SymLine} (Err stopped) asked name asked_after → text ≡ unread_lines full name → AnswersEnd answer text stopped
    → AnswersSym answer own full name files asked_after before after
sym_ended (Judged j) (Fault end.Unread) text own full name files asked asked_after before after read once is says = absurd says
sym_ended (Judged j) (Fault (end.Refused why)) text own full name files asked asked_after before after read once is says = read_is own name files (Err why) j read says
sym_ended (Judged j) stop.NoMemory text own full name files asked asked_after before after read once is says = absurd says
sym_ended (Unread m) (Fault end.Unread) text own full name files asked asked_after before after read once is says = (read, unread_last full (err_bytes m) name asked asked_after (says ∙ is) once)
sym_ended (Unread m) (Fault (end.Refused why)) text own full name files asked asked_after before after read once is says = absurd says
sym_ended (Unread m) stop.NoMemory text own full name files asked asked_after before after read once is says = absurd says
sym_ended NoMemory stopped text own full name files asked asked_after before after read once is says = tt

-- The verdict if the store's files are known.
ruling_low : (ruling : Ruling) → (ruling_verdict ruling).status < 2
ruling_low Yes = omega arith
ruling_low (No a p) = omega arith

status_of : (j : Judgement) (v : Verdict) → judgement_verdict j ≡ v → j.status ≡ v.status
status_of j v is = ap (λ (w : Verdict). w.status) is

read_low : (own : List SymLine) (read : Result (List SymLine) SymRefusal) (j : Judgement) → IsReadVerdict own read (judgement_verdict j) → j.status < 2
read_low own (Ok other) j is = let s = status_of j (ruling_verdict is.ruling) is.is in let few = ruling_low is.ruling in omega (arith, s, few)
read_low own (Err why) j is = let s = status_of j (refused (refusal_line why)) is in omega (arith, s)

refused_verdict : (source : ElfSource) (sym : List ℕ) (files : Files) (err : List ℕ) (v : Verdict) → IsSourceVerdict source files (refused err) → v ≡ refused err → IsJudgeVerdict source sym files v
refused_verdict source sym files err v told is = record { dumped = refused err; dumped_is = told; is = is }

both_verdict : (source : ElfSource) (name : List ℕ) (files : Files) (own : List SymLine) (err : List ℕ) (j : Judgement) → reading (canon_text own) ≡ Ok own → DumpsSource source files own err → (bytes : List ℕ) → files name ≡ Some bytes → IsReadVerdict own (file_reading LIMIT bytes) (judgement_verdict j)
    → IsJudgeVerdict source name files (judgement_verdict j)
both_verdict source name files own err j reads dumps bytes there is = record {
  dumped = record { status = 0; out = canon_text own; err = err };
  dumped_is = dumped_verdict source (given_image source files) own err dumps;
  is = subst (λ (r : Result (List SymLine) TextFault). IsTextVerdict source.full name r (files name) (judgement_verdict j)) (sym reads) (subst (λ (o : Option (List ℕ)). IsSymVerdict source.full name own o (judgement_verdict j)) (sym there) is);
}

both_told : (source : ElfSource) (name : List ℕ) (files : Option Files) (j : Judgement) → JudgePromises source name files j → Tells files (λ f. IsJudgeVerdict source name f (judgement_verdict j))
both_told source name None j kept = tt
both_told source name (Some f) j (inl refuses) = refused_verdict source name f refuses.err (judgement_verdict j) refuses.told refuses.is
both_told source name (Some f) j (inr both) = both_verdict source name f both.own both.err j both.reads both.dumps both.judged.bytes both.judged.there both.judged.is

both_low : (source : ElfSource) (name : List ℕ) (files : Option Files) (j : Judgement) → JudgePromises source name files j → j.status < 2
both_low source name files j (inl refuses) = let s = status_of j (refused refuses.err) refuses.is in omega (arith, s)
both_low source name files j (inr both) = read_low both.own (file_reading LIMIT both.judged.bytes) j both.judged.is

judged_both : (source : ElfSource) (name : List ℕ) (files : Option Files) (j : Judgement) → JudgePromises source name files j → IsJudged j (Some (judge source name)) files
judged_both source name files j kept = let low = both_low source name files j kept in record { low = omega (arith, low); row = λ some. low; told = both_told source name files j kept; kept = kept }

-- A dump that gave no text.
no_text : (o : Output) → ((lines : List SymLine) → o ≡ Text lines → ⊥) → IsNoText o
no_text Nothing none = tt
no_text (Text lines) none = none lines refl
no_text (Bytes text) none = tt
no_text (Shared text) none = tt
no_text (Records lines) none = tt

abbrev Refusing : ElfSource → Option Files → List ℕ → Type 0
Refusing source files e = Tells files (λ f. IsSourceVerdict source f (refused e))

abbrev Giving : ElfSource → Option Files → List SymLine → List ℕ → Type 0
Giving source files lines e = (reading (canon_text lines) ≡ Ok lines) × Tells files (λ f. DumpsSource source f lines e)

abbrev given : ℕ → List ℕ → List ℕ → Verdict
given status out err = record { status = status; out = out; err = err }

refuses_by : (source : ElfSource) (files : Option Files) (j : Judgement) (o : Output) → j.out ≡ o → IsNoText o → RefusesOrGives o j.status (err_bytes j.err) (Refusing source files) (Giving source files) → RefusesElf source files j
refuses_by source files j Nothing is textless says = record {
  err = err_bytes j.err;
  is = ap (λ n. given n (out_bytes j.out) (err_bytes j.err)) says.0 ∙ ap (λ o. given 1 (out_bytes o) (err_bytes j.err)) is;
  told = says.1;
}
refuses_by source files j (Text lines) is textless says = absurd textless
refuses_by source files j (Bytes text) is textless says = absurd says
refuses_by source files j (Shared text) is textless says = absurd says
refuses_by source files j (Records lines) is textless says = absurd says

pub no_text_judged : (source : ElfSource) (name : List ℕ) (files : Option Files) (j : Judgement) → ((lines : List SymLine) → j.out ≡ Text lines → ⊥) → DumpPromises source files j → IsJudged j (Some (judge source name)) files
no_text_judged source name files j none kept = judged_both source name files j (inl (refuses_by source files j j.out refl (no_text j.out none) kept))

-- A dump that gave a text.
gives_by : (source : ElfSource) (files : Option Files) (j : Judgement) (lines : List SymLine) → j.out ≡ Text lines → DumpPromises source files j → Giving source files lines (err_bytes j.err)
gives_by source files j lines is kept = (subst (λ o. RefusesOrGives o j.status (err_bytes j.err) (Refusing source files) (Giving source files)) is kept).1

both_judged : (source : ElfSource) (name : List ℕ) (files : Option Files) (dumped j : Judgement) (lines : List SymLine) → dumped.out ≡ Text lines → DumpPromises source files dumped → JudgesSym lines name files j → IsJudged j (Some (judge source name)) files
both_judged source name files dumped j lines is kept says =
    let gives : Giving source files lines (err_bytes dumped.err) = gives_by source files dumped lines is kept in
    judged_both source name files j (inr (record { own = lines; err = err_bytes dumped.err; reads = gives.0; dumps = gives.1; judged = says }))

pub text_judged : (answer : Answer) (source : ElfSource) (full : Bool) (name : List ℕ) (files : Option Files) (asked : List (List ℕ)) (dumped : Judgement) (lines own : List SymLine) (before after : ℕ) → source.full ≡ full → dumped.out ≡ Text lines → own ≡ lines → DumpPromises source files dumped → AnswersSym answer own full name files asked before after
    → AnswersCommand answer (Some (judge source name)) files asked before after
text_judged (Judged j) source full name files asked dumped lines own before after both is same kept says = both_judged source name files dumped j lines is kept (subst (λ ls. JudgesSym ls name files j) same says)
text_judged (Unread m) source full name files asked dumped lines own before after both is same kept says = (refl, says.0, says.1 ∙ sym (ap (λ (b : Bool). unread_lines b (last_name asked)) both))
text_judged NoMemory source full name files asked dumped lines own before after both is same kept says = refl

-- The names that are asked for.
pub not_asked : (names before after : List (List ℕ)) → after ≡ before → Asks names before after
not_asked names before after same = (0, omega arith, same ∙ sym (append-nil before))

told_behind : (source : ElfSource) (name : List ℕ) (files : Option Files) (lines : List SymLine) (err : List ℕ) → Tells files (λ f. DumpsSource source f lines err) → dumped_told files source name ≡ name ∷ []
told_behind source name None lines err dumps = refl
told_behind source name (Some f) lines err dumps = ap (λ (r : Result ImageParts Verdict). if_image r name) dumps.image_is ∙ ap (λ (d : Result DebugSays DebugFault). if_dumped d name) dumps.dumps.found_is

textless_then : (o : Output) (names before after : List (List ℕ)) → IsNoText o → after ≡ before → AsksThen o names before after
textless_then Nothing names before after textless same = same
textless_then (Text lines) names before after textless same = absurd textless
textless_then (Bytes text) names before after textless same = same
textless_then (Shared text) names before after textless same = same
textless_then (Records lines) names before after textless same = same

pub no_text_asked : (j : Judgement) (names before after : List (List ℕ)) → ((lines : List SymLine) → j.out ≡ Text lines → ⊥) → after ≡ before → AsksThen j.out names before after
no_text_asked j names before after none same = textless_then j.out names before after (no_text j.out none) same

pub asks_later : (elf : List ℕ) (later before mid after : List (List ℕ)) → mid ≡ before ++ elf ∷ [] → Asks later mid after → Asks (elf ∷ later) before after
asks_later elf later before mid after first asked =
    let one : asked.0 + 1 ≡ suc asked.0 = omega arith in
    (asked.0 + 1, omega (arith, asked.1), asked.2 ∙ ap (λ m. m ++ take asked.0 later) first ∙ append_assoc before (elf ∷ []) (take asked.0 later) ∙ ap (λ n. before ++ take n (elf ∷ later)) (sym one))

-- The answer after a dump, together with the dump.
later_answered : (answer : Answer) (source : ElfSource) (name : List ℕ) (files : Option Files) (asked : List (List ℕ)) (before mid after : ℕ) → before ≤ mid → mid ≤ after → AnswersCommand answer (Some (judge source name)) files asked mid after → AnswersCommand answer (Some (judge source name)) files asked before after
later_answered (Judged j) source name files asked before mid after first second says = says
later_answered (Unread m) source name files asked before mid after first second says = (says.0, rose_later before mid after first second says.1, says.2)
later_answered NoMemory source name files asked before mid after first second says = says

pub judge_answered : (answer : Answer) (source : ElfSource) (name : List ℕ) (files mid_files : Option Files) (j : Judgement) (asked : List (List ℕ)) (before mid after : ℕ) → mid_files ≡ files → before ≤ mid → mid ≤ after → DumpPromises source files j
    → ((s : ElfSource) → s.full ≡ source.full → DumpPromises s mid_files j → AnswersCommand answer (Some (judge s name)) mid_files asked mid after) → AnswersCommand answer (Some (judge source name)) files asked before after
judge_answered answer source name files mid_files j asked before mid after same first second kept says =
    let kept_mid : DumpPromises source mid_files j = subst (λ (f : Option Files). DumpPromises source f j) (sym same) kept in
    later_answered answer source name files asked before mid after first second (subst (λ (f : Option Files). AnswersCommand answer (Some (judge source name)) f asked mid after) same (says source refl kept_mid))
