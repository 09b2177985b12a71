-- The counts of a generated file, for `sample` and `read_back`.
use Rattle.std.proofs.Common.{◌≡◌, ℕ, ◌<◌, false, List, [], ◌∷◌, Option, Some, Result, Ok, Err, IfOk, length, refl, sym, ap, subst, ◌∙◌, arith, append-nil}
use Rattle.sym_edges.specs.Outside.{Files, MatchStop}
use Rattle.sym_edges.specs.declared.fault.Stop.{Stop}
use Rattle.sym_edges.specs.declared.fault.Stop.TheVariants.{Fault}
use Rattle.elf_sections.specs.Image.{ImageParts, image}
use Rattle.elf_sections.specs.declared.fault.ElfFault.{ElfFault}
use Rattle.debug_read.specs.DebugSays.{DebugSays, debug_says, IsDebugRead}
use Rattle.debug_read.specs.Each.{Match}
use Rattle.debug_read.specs.declared.fault.DebugFault.{DebugFault}
use Rattle.debug_read.specs.declared.found.DebugRead.{DebugRead}
use Rattle.debug_read.proofs.KeptLemmas.{kept}
use Rattle.rule_postfix.specs.Written.{omitted}
use Rattle.sample_elf.specs.Made.{made}
use Rattle.sym_records.specs.declared.line.SymLine.{SymLine}
use Rattle.sym_grammar.specs.Answer.{answer}
use Rattle.dumpsyms_cmd.specs.Words.{sample}
use Rattle.dumpsyms_cmd.specs.Refusals.{elf_line, debug_line}
use Rattle.dumpsyms_cmd.specs.Verdict.{Verdict}
use Rattle.dumpsyms_cmd.specs.Observed.{AsksRow}
use Rattle.dumpsyms_cmd.specs.Judgement.{judgement_verdict}
use Rattle.dumpsyms_cmd.specs.Answers.{IsVerdict}
use Rattle.dumpsyms_cmd.specs.commands.Dump.{Assembles}
use Rattle.dumpsyms_cmd.specs.commands.Sample.{counts_line, IsCountsVerdict, IsImageCounts}
use Rattle.dumpsyms_cmd.specs.internal.Judged.{Refuses, AnswersCommand, AnswersJudged}
use Rattle.dumpsyms_cmd.specs.internal.Counting.{CountsParts, CountsBytes, CountsSample}
use Rattle.dumpsyms_cmd.proofs.JudgedLemmas.{always, asks_row}
use Rattle.dumpsyms_cmd.proofs.AnswerLemmas.{refuses_verdict}
use Rattle.dumpsyms_cmd.specs.declared.judgement.Judgement.{Judgement}
use Rattle.dumpsyms_cmd.specs.declared.judgement.Answer.{Answer}

-- The counts of a dump.
abbrev pub given : ℕ → List ℕ → List ℕ → Verdict
given status out err = record { status = status; out = out; err = err }

match_length : {A B : Type 0} (R : A → B → Type 0) (xs : List A) (ys : List B) → Match R xs ys → length ys ≡ length xs
match_length R [] [] same = refl
match_length R [] (y ∷ ys) same = absurd same
match_length R (x ∷ xs) [] same = absurd same
match_length R (x ∷ xs) (y ∷ ys) same = omega (arith, match_length R xs ys same.1)

said : {x y : DebugSays} → ◌≡◌ {A = Result DebugSays DebugFault} (Ok x) (Ok y) → x ≡ y
said is = cc

pub records_counted : (v : Verdict) (parts : ImageParts) (read : DebugRead) (lines : List SymLine) (err text : List ℕ) (left units : ℕ) → IsDebugRead parts read → Assembles false parts [] lines err left → units ≡ length read.units → text ≡ counts_line units lines left → v ≡ given 0 text [] → IsCountsVerdict (debug_says parts) parts v
records_counted v parts read lines err text left units says dumps number line is =
    let k = kept parts read says in
    let d = dumps.dumps in
    let same : k.says ≡ d.found = said (sym k.says_is ∙ d.found_is) in
    let many : units ≡ length d.found.units = number ∙ match_length _ k.says.units read.units k.units ∙ ap (λ (f : DebugSays). length f.units) same in
    let gone : left ≡ length (omitted parts.code d.found.first d.found.second) = dumps.counted d.found d.found_is in
    let V : List ℕ → Verdict = λ t. record { status = 0; out = t; err = [] } in
    subst (λ (r : Result DebugSays DebugFault). IsCountsVerdict r parts v) (sym d.found_is)
    (record { lines = lines; canon = d.canon; is = is ∙ ap V (line ∙ ap (λ n. counts_line n lines left) many ∙ ap (counts_line (length d.found.units) lines) gone) })

-- A fault after the image.
pub stop_counted : {A : Type 0} (j : Judgement) (parts : ImageParts) (text : List ℕ) (P : A → Type 0) (read : Result A (Stop DebugFault)) (end : Stop DebugFault) (fault : DebugFault) → MatchStop read P (λ f. debug_says parts ≡ Err f) (Prim.Unit {0}) → read ≡ Err end → end ≡ Fault fault → text ≡ debug_line fault → Refuses j text → CountsParts j parts
stop_counted {A = A} j parts text P read end fault says is ends line refuses =
    let R : Result A (Stop DebugFault) → Type 0 = λ r. MatchStop r P (λ f. debug_says parts ≡ Err f) (Prim.Unit {0}) in
    let S : Stop DebugFault → Type 0 = λ e. MatchStop {A = A} (Err e) P (λ f. debug_says parts ≡ Err f) (Prim.Unit {0}) in
    let faulty : debug_says parts ≡ Err fault = subst S ends (subst R is says) in
    subst (λ (r : Result DebugSays DebugFault). IsCountsVerdict r parts (judgement_verdict j)) (sym faulty) (refuses_verdict j text (debug_line fault) line refuses)

-- A judgement on the image is one on the bytes of the file.
pub parts_counted : (j : Judgement) (bytes : List ℕ) (parts : ImageParts) → image bytes ≡ Ok parts → CountsParts j parts → CountsBytes j bytes
parts_counted j bytes parts is says = subst (λ (i : Result ImageParts ElfFault). IsImageCounts i (judgement_verdict j)) (sym is) says

pub fault_counted : (j : Judgement) (bytes text : List ℕ) (fault : ElfFault) → image bytes ≡ Err fault → text ≡ elf_line fault → Refuses j text → CountsBytes j bytes
fault_counted j bytes text fault is line refuses = subst (λ (i : Result ImageParts ElfFault). IsImageCounts i (judgement_verdict j)) (sym is) (refuses_verdict j text (elf_line fault) line refuses)

pub sample_counted : (j : Judgement) (bytes : List ℕ) (units : ℕ) → bytes ≡ made units → CountsBytes j bytes → CountsSample j units
sample_counted j bytes units is says = subst (CountsBytes j) is says

-- It is a judgement of the command.
counts_low : (says : Result DebugSays DebugFault) (parts : ImageParts) (v : Verdict) → IsCountsVerdict says parts v → v.status < 2
counts_low (Err fault) parts v is = subst (λ (w : Verdict). w.status < 2) (sym is) (omega arith)
counts_low (Ok found) parts v is = subst (λ (w : Verdict). w.status < 2) (sym is.is) (omega arith)

image_low : (read : Result ImageParts ElfFault) (v : Verdict) → IsImageCounts read v → v.status < 2
image_low (Err fault) v is = subst (λ (w : Verdict). w.status < 2) (sym is) (omega arith)
image_low (Ok parts) v is = counts_low (debug_says parts) parts v is

pub sample_answered : {F : Type 0} (answer : Answer) (judged : Result Judgement F) (units workers : ℕ) → AnswersJudged answer judged → IfOk judged (λ j. CountsSample j units) → (files : Option Files) (asked : List (List ℕ)) (before after : ℕ) → AnswersCommand answer (Some (sample units workers)) files asked before after
sample_answered answer (Err e) units workers is says files asked before after = subst (λ (a : Answer). AnswersCommand a (Some (sample units workers)) files asked before after) (sym is) refl
sample_answered answer (Ok j) units workers is says files asked before after =
    let low : j.status < 2 = image_low (image (made units)) (judgement_verdict j) says in
    subst (λ (a : Answer). AnswersCommand a (Some (sample units workers)) files asked before after) (sym is)
    (record { low = omega arith; row = λ some. low; told = always (λ f. IsVerdict (Some (sample units workers)) f [] (judgement_verdict j)) files (λ f. says); kept = says })

pub asks_nothing : (units workers : ℕ) (files : Option Files) (before after : List (List ℕ)) → after ≡ before → AsksRow (Some (sample units workers)) files before after
asks_nothing units workers files before after same = asks_row (Some (sample units workers)) files before after (0, omega arith, same ∙ sym (append-nil before))
