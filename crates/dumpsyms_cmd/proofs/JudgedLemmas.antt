-- Judgements, from the parts of an image up to the arguments.
use Rattle.std.proofs.Common.{◌≡◌, ℕ, ◌<◌, Bool, true, false, List, [], ◌∷◌, ◌++◌, Option, Some, None, IsSome, Ok, Err, Result, length, nat_lt, refl, sym, ◌∙◌, ap, arith, append-nil, subst}
use Rattle.std.proofs.lemmas.Bool.Decides.{nat_tests}
use Rattle.sym_edges.specs.Outside.{Files, Tells, MatchStop}
use Rattle.sym_edges.specs.WholeFile.{AsksOnce, HoldsFile, IsWhole, IsLonger, ReadAll}
use Rattle.sym_edges.specs.declared.fault.Stop.{Stop}
use Rattle.sym_edges.specs.declared.fault.Stop.TheVariants.{Fault}
use Rattle.sym_edges.specs.declared.fault.Stop.TheVariants as stop
use Rattle.sym_edges.specs.declared.whole_file.ReadEnd.{ReadEnd}
use Rattle.sym_edges.specs.declared.whole_file.ReadEnd.TheVariants.{CantOpen, CantRead, TooLong}
use Rattle.elf_sections.specs.Image.{ImageParts}
use Rattle.full_image.specs.FullImage.{any_image}
use Rattle.elf_sections.specs.declared.fault.ElfFault.{ElfFault}
use Rattle.abbrev_units.specs.declared.unit.Unit.{Unit}
use Rattle.debug_read.specs.DebugSays.{DebugSays, debug_says, IsKept, IsDebugRead}
use Rattle.debug_read.specs.declared.fault.DebugFault.{DebugFault}
use Rattle.debug_read.specs.declared.found.DebugRead.{DebugRead}
use Rattle.sym_records.specs.Canon.{canon_text}
use Rattle.sym_records.specs.Reading.{reading}
use Rattle.sym_records.specs.declared.line.SymLine.{SymLine}
use Rattle.rule_postfix.specs.declared.omission.Omission.{Omission}
use Rattle.rule_postfix.specs.Written.{omitted}
use Rattle.dumpsyms_cmd.specs.Words.{Asked, dump, stacks, files_of, last_name, module_name, usage_line}
use Rattle.dumpsyms_cmd.specs.ElfInput.{ElfSource, Untold, or_refused, unless_longer, file_by, file_image, given_image}
use Rattle.dumpsyms_cmd.specs.Refusals.{debug_line, too_long_line, unread_lines}
use Rattle.dumpsyms_cmd.specs.Verdict.{Verdict, refused, LIMIT}
use Rattle.dumpsyms_cmd.specs.commands.Dump.{IsDebugVerdict, IsPartsVerdict, IsGivenVerdict}
use Rattle.dumpsyms_cmd.specs.Answers.{IsVerdict}
use Rattle.dumpsyms_cmd.specs.internal.LeftOut.{left_of}
use Rattle.dumpsyms_cmd.specs.internal.Spelled.{DumpsRead}
use Rattle.dumpsyms_cmd.specs.Observed.{Asks, AsksRow, AreFurther}
use Rattle.dumpsyms_cmd.specs.Judgement.{out_bytes, err_bytes, judgement_verdict, RefusesOrGives, Judges}
use Rattle.dumpsyms_cmd.specs.internal.Judged.{Refuses, JudgesParts, JudgesGiven, IsJudged, AnswersCommand, AnswersImage, AnswersStop}
use Rattle.dumpsyms_cmd.specs.commands.Dump.{DumpsParts, Assembles, DumpsGiven, ImagePromises, DumpPromises}
use Rattle.dumpsyms_cmd.specs.Answers.{IsUsage}
use Rattle.debug_read.proofs.KeptLemmas.{Kept, kept}
use Rattle.dumpsyms_cmd.proofs.LeftLemmas.{left_said}
use Rattle.dumpsyms_cmd.specs.declared.judgement.Output.{Output}
use Rattle.dumpsyms_cmd.specs.declared.judgement.Output.TheVariants.{Nothing, Text, Bytes, Shared, Records}
use Rattle.dumpsyms_cmd.specs.declared.judgement.Judgement.{Judgement}
use Rattle.dumpsyms_cmd.specs.declared.judgement.Answer.{Answer}
use Rattle.dumpsyms_cmd.specs.declared.judgement.Answer.TheVariants.{Judged, Unread, NoMemory}

-- What follows from what is known.
pub told : {A : Type 0} (P Q : A → Type 0) (o : Option A) → ((x : A) → P x → Q x) → Tells o P → Tells o Q
told P Q None f h = tt
told P Q (Some x) f h = f x h

pub always : {A : Type 0} (Q : A → Type 0) (o : Option A) → ((x : A) → Q x) → Tells o Q
always Q None f = tt
always Q (Some x) f = f x

-- A refusal is a judgement with its line.
refusing : (j : Judgement) (text : List ℕ) (P : List ℕ → Type 0) (Q : List SymLine → List ℕ → Type 0) → Refuses j text → P text → Judges j P Q
refusing j text P Q refuses p =
    let R : Output → Type 0 = λ o. RefusesOrGives o j.status (err_bytes j.err) P Q in
    subst R (sym refuses.out) (refuses.status, subst P (sym refuses.err) p)

-- If the line or the records imply more, the judgement does too.
pub judging : (o : Output) (status : ℕ) (err : List ℕ) (P P' : List ℕ → Type 0) (Q Q' : List SymLine → List ℕ → Type 0) → ((e : List ℕ) → P e → P' e) → ((lines : List SymLine) (e : List ℕ) → Q lines e → Q' lines e) → RefusesOrGives o status err P Q → RefusesOrGives o status err P' Q'
judging Nothing status err P P' Q Q' f g says = (says.0, f err says.1)
judging (Text lines) status err P P' Q Q' f g says = (says.0, g lines err says.1)
judging (Bytes text) status err P P' Q Q' f g says = absurd says
judging (Shared text) status err P P' Q Q' f g says = absurd says
judging (Records lines) status err P P' Q Q' f g says = absurd says

-- A refusal with a line that is the text.
line_refused : (P : Verdict → Type 0) (line text : List ℕ) → text ≡ line → P (refused line) → P (refused text)
line_refused P line text same is = subst (λ (t : List ℕ). P (refused t)) (sym same) is

-- A fault after the image is refused with its line.
fault_by : (full : Bool) (parts : ImageParts) (name : List ℕ) (fault : DebugFault) → debug_says parts ≡ Err fault → IsPartsVerdict full parts name (refused (debug_line fault))
fault_by full parts name fault is = subst (λ (r : Result DebugSays DebugFault). IsDebugVerdict full r parts name (refused (debug_line fault))) (sym is) refl

debug_judged : (j : Judgement) (full : Bool) (parts : ImageParts) (name text : List ℕ) (fault : DebugFault) → debug_says parts ≡ Err fault → text ≡ debug_line fault → Refuses j text → JudgesParts j full name parts
debug_judged j full parts name text fault is line refuses =
    refusing j text (λ err. IsPartsVerdict full parts name (refused err)) (DumpsParts full parts name) refuses
    (line_refused (IsPartsVerdict full parts name) (debug_line fault) text line (fault_by full parts name fault is))

-- A reading that ended with a fault is refused with the fault's line.
pub stop_judged : {A : Type 0} (j : Judgement) (full : Bool) (parts : ImageParts) (name text : List ℕ) (P : A → Type 0) (read : Result A (Stop DebugFault)) (end : Stop DebugFault) (fault : DebugFault) → MatchStop read P (λ f. debug_says parts ≡ Err f) (Prim.Unit {0}) → read ≡ Err end → end ≡ Fault fault → text ≡ debug_line fault → Refuses j text → JudgesParts j full name parts
stop_judged {A = A} j full parts name text P read end fault says is ends line refuses =
    let R : Result A (Stop DebugFault) → Type 0 = λ r. MatchStop r P (λ f. debug_says parts ≡ Err f) (Prim.Unit {0}) in
    let S : Stop DebugFault → Type 0 = λ e. MatchStop {A = A} (Err e) P (λ f. debug_says parts ≡ Err f) (Prim.Unit {0}) in
    debug_judged j full parts name text fault (subst S ends (subst R is says)) line refuses

-- The verdict on an image without faults.
abbrev given : ℕ → List ℕ → List ℕ → Verdict
given status out err = record { status = status; out = out; err = err }

found_told : (full : Bool) (parts : ImageParts) (name : List ℕ) (lines : List SymLine) (text : List ℕ) → DumpsParts full parts name lines text → IsPartsVerdict full parts name (given 0 (canon_text lines) text)
found_told full parts name lines text dumps =
    subst (λ (r : Result DebugSays DebugFault). IsDebugVerdict full r parts name (given 0 (canon_text lines) text)) (sym dumps.found_is)
    (record { lines = lines; canon = dumps.canon; is = ap (given 0 (canon_text lines)) dumps.text_is })

kept_is : (parts : ImageParts) (read : DebugRead) (k : Kept parts read) → IsKept parts.code k.says read
kept_is parts read k = record { headers = k.headers; sup_headers = k.sup_headers; units = k.units; first = k.first; second = k.second }

-- The records of a file, given what was read of it.
pub dumps_parts : (full : Bool) (parts : ImageParts) (name text : List ℕ) (read : DebugRead) (lines : List SymLine) (left : List Omission) → IsDebugRead parts read → DumpsRead parts name read lines left → text ≡ left_of full parts read left → DumpsParts full parts name lines text
dumps_parts full parts name text read lines left says dumps is =
    let k = kept parts read says in
    let same : k.says ≡ dumps.found = said (sym k.says_is ∙ dumps.found_is) in
    record {
      found = dumps.found;
      found_is = dumps.found_is;
      canon = dumps.canon;
      text_is = is ∙ left_said full parts dumps.found read left (subst (λ (f : DebugSays). IsKept parts.code f read) same (kept_is parts read k)) dumps.left_is;
      reads = dumps.reads;
      frames = dumps.frames;
      means = dumps.means;
      names = dumps.names;
      clean = dumps.clean;
    }
  where
    said : {x y : DebugSays} → ◌≡◌ {A = Result DebugSays DebugFault} (Ok x) (Ok y) → x ≡ y
    said is = cc

-- The same, with the number of omitted entries.
pub assembles : (full : Bool) (parts : ImageParts) (name text : List ℕ) (read : DebugRead) (lines : List SymLine) (left : List Omission) (count : ℕ) → IsDebugRead parts read → DumpsRead parts name read lines left → text ≡ left_of full parts read left → count ≡ length left → Assembles full parts name lines text count
assembles full parts name text read lines left count says dumps is number =
    record {
      dumps = dumps_parts full parts name text read lines left says dumps is;
      counted = λ found found_is. number ∙ ap length dumps.left_is ∙ ap (λ (f : DebugSays). length (omitted parts.code f.first f.second)) (said (sym dumps.found_is ∙ found_is));
    }
  where
    said : {x y : DebugSays} → ◌≡◌ {A = Result DebugSays DebugFault} (Ok x) (Ok y) → x ≡ y
    said is = cc

-- The module is named by the path of the file.
pub dumps_named : (full : Bool) (parts : ImageParts) (name path held : List ℕ) (lines : List SymLine) (text : List ℕ) (count : ℕ) → Assembles full parts name lines text count → name ≡ module_name held → held ≡ path → DumpsParts full parts (module_name path) lines text
dumps_named full parts name path held lines text count dumps named same = subst (λ (n : List ℕ). DumpsParts full parts n lines text) (named ∙ ap module_name same) dumps.dumps

-- A judgement on the parts of an image is one on the image that is given; the same holds for the
-- line of a refusal.
pub given_parts : (j : Judgement) (source : ElfSource) (given : Result ImageParts Verdict) (parts : ImageParts) → given ≡ Ok parts → JudgesParts j source.full (module_name source.elf) parts → JudgesGiven j source given
given_parts j source given parts is says =
    judging j.out j.status (err_bytes j.err)
    (λ err. IsPartsVerdict source.full parts (module_name source.elf) (refused err)) (λ err. IsGivenVerdict source given (refused err))
    (DumpsParts source.full parts (module_name source.elf)) (DumpsGiven source given)
    (λ err same. subst (λ (r : Result ImageParts Verdict). IsGivenVerdict source r (refused err)) (sym is) same)
    (λ lines err dumps. record { parts = parts; image_is = is; dumps = dumps })
    says

pub given_refused : (j : Judgement) (source : ElfSource) (text line : List ℕ) (given : Result ImageParts Verdict) → given ≡ Err (refused line) → text ≡ line → Refuses j text → JudgesGiven j source given
given_refused j source text line given is same refuses =
    refusing j text (λ err. IsGivenVerdict source given (refused err)) (DumpsGiven source given) refuses
    (subst (λ (r : Result ImageParts Verdict). IsGivenVerdict source r (refused text)) (sym is) (ap refused same))

-- If the store's files are known, they give the image of a file that was read; of a file that is
-- too long they give a refusal.
pub held_by : (image : List ℕ → Result ImageParts ElfFault) (full : Bool) (line : ElfFault → List ℕ) (files : Option Files) (path bytes : List ℕ) → HoldsFile files path (λ whole. IsWhole whole bytes LIMIT) → Tells files (λ f. file_by full image line path (f path) ≡ or_refused line (image bytes))
held_by image full line None path bytes holds = tt
held_by image full line (Some files) path bytes holds =
    let few = holds.2.1 in
    let no : nat_lt LIMIT (length bytes) ≡ false = grind (arith, nat_tests) in
    ap (file_by full image line path) (holds.1 ∙ ap Some holds.2.0) ∙ ap (λ (b : Bool). unless_longer b (or_refused line (image bytes))) no

pub held_image : (full : Bool) (line : ElfFault → List ℕ) (files : Option Files) (path bytes : List ℕ) → HoldsFile files path (λ whole. IsWhole whole bytes LIMIT) → Tells files (λ f. file_image full line path (f path) ≡ or_refused line (any_image full bytes))
held_image full line files path bytes holds = held_by (any_image full) full line files path bytes holds

pub longer_image : (image : List ℕ → Result ImageParts ElfFault) (full : Bool) (line : ElfFault → List ℕ) (files : Option Files) (path : List ℕ) → HoldsFile files path (λ whole. IsLonger whole LIMIT) → Tells files (λ f. file_by full image line path (f path) ≡ Err (refused too_long_line))
longer_image image full line None path holds = tt
longer_image image full line (Some files) path holds =
    let more = holds.2 in
    let yes : nat_lt LIMIT (length holds.0) ≡ true = grind (arith, nat_tests) in
    ap (file_by full image line path) holds.1 ∙ ap (λ (b : Bool). unless_longer b (or_refused line (image holds.0))) yes

-- A judgement on the image that is given is one on the files, if they give this image.
pub given_promised : (j : Judgement) (given_by : Files → Result ImageParts Verdict) (source : ElfSource) (files : Option Files) (image_given : Result ImageParts Verdict) → Tells files (λ f. given_by f ≡ image_given) → JudgesGiven j source image_given → ImagePromises given_by source files j
given_promised j given_by source files image_given same says =
    judging j.out j.status (err_bytes j.err)
    (λ err. IsGivenVerdict source image_given (refused err)) (λ err. Tells files (λ f. IsGivenVerdict source (given_by f) (refused err)))
    (DumpsGiven source image_given) (λ lines err. (reading (canon_text lines) ≡ Ok lines) × Tells files (λ f. DumpsGiven source (given_by f) lines err))
    (λ err is. told (λ f. given_by f ≡ image_given) (λ f. IsGivenVerdict source (given_by f) (refused err)) files
    (λ f e. subst (λ (r : Result ImageParts Verdict). IsGivenVerdict source r (refused err)) (sym e) is) same)
    (λ lines err dumps. (
      dumps.dumps.reads,
      told (λ f. given_by f ≡ image_given) (λ f. DumpsGiven source (given_by f) lines err) files
          (λ f e. subst (λ (r : Result ImageParts Verdict). DumpsGiven source r lines err) (sym e) dumps) same,
    ))
    says

-- The verdict on an image that was dumped.
pub dumped_verdict : (source : ElfSource) (image_given : Result ImageParts Verdict) (lines : List SymLine) (text : List ℕ) → DumpsGiven source image_given lines text → IsGivenVerdict source image_given (given 0 (canon_text lines) text)
dumped_verdict source image_given lines text dumps =
    subst (λ (r : Result ImageParts Verdict). IsGivenVerdict source r (given 0 (canon_text lines) text)) (sym dumps.image_is)
    (found_told source.full dumps.parts (module_name source.elf) lines text dumps.dumps)

-- The promises of a dump give its status, and say that it is the verdict.
promised_low : (o : Output) (status : ℕ) (err : List ℕ) (P : List ℕ → Type 0) (Q : List SymLine → List ℕ → Type 0) → RefusesOrGives o status err P Q → status < 2
promised_low Nothing status err P Q says = let is = says.0 in omega arith
promised_low (Text lines) status err P Q says = let is = says.0 in omega arith
promised_low (Bytes text) status err P Q says = absurd says
promised_low (Shared text) status err P Q says = absurd says
promised_low (Records lines) status err P Q says = absurd says

promised_told : (o : Output) (status : ℕ) (err : List ℕ) (source : ElfSource) (given_by : Files → Result ImageParts Verdict) (files : Option Files) → RefusesOrGives o status err (λ e. Tells files (λ f. IsGivenVerdict source (given_by f) (refused e))) (λ lines e. (reading (canon_text lines) ≡ Ok lines) × Tells files (λ f. DumpsGiven source (given_by f) lines e)) →
    Tells files (λ f. IsGivenVerdict source (given_by f) (given status (out_bytes o) err))
promised_told Nothing status err source given_by files says =
    told (λ f. IsGivenVerdict source (given_by f) (refused err)) (λ f. IsGivenVerdict source (given_by f) (given status (out_bytes Nothing) err)) files
    (λ f same. subst (λ (n : ℕ). IsGivenVerdict source (given_by f) (given n (out_bytes Nothing) err)) (sym says.0) same) says.1
promised_told (Text lines) status err source given_by files says =
    told (λ f. DumpsGiven source (given_by f) lines err) (λ f. IsGivenVerdict source (given_by f) (given status (out_bytes (Text lines)) err)) files
    (λ f dumps. subst (λ (n : ℕ). IsGivenVerdict source (given_by f) (given n (out_bytes (Text lines)) err)) (sym says.0) (dumped_verdict source (given_by f) lines err dumps)) says.1.1
promised_told (Bytes text) status err source given_by files says = absurd says
promised_told (Shared text) status err source given_by files says = absurd says
promised_told (Records lines) status err source given_by files says = absurd says

below_three : (n : ℕ) → n < 2 → n < 3
below_three n low = omega arith

pub dump_judged : (j : Judgement) (source : ElfSource) (workers : ℕ) (files : Option Files) → DumpPromises source files j → IsJudged j (Some (dump source workers)) files
dump_judged j source workers files kept =
    let low : j.status < 2 = promised_low j.out j.status (err_bytes j.err) (λ e. Tells files (λ f. IsGivenVerdict source (given_image source f) (refused e))) (λ lines e. (reading (canon_text lines) ≡ Ok lines) × Tells files (λ f. DumpsGiven source (given_image source f) lines e)) kept in
    record {
      low = below_three j.status low;
      row = λ some. low;
      told = promised_told j.out j.status (err_bytes j.err) source (given_image source) files kept;
      kept = kept;
    }

-- A file that is too long is refused.
pub too_long_judged : (j : Judgement) (line text : List ℕ) → text ≡ too_long_line → Refuses j text → AnswersStop (Judged j) line (Fault TooLong)
too_long_judged j line text is refuses = refusing j text (λ err. err ≡ too_long_line) (λ lines err. ⊥) refuses is

longer_judged : (j : Judgement) (source : ElfSource) (line : List ℕ) → AnswersStop (Judged j) line (Fault TooLong) → JudgesGiven j source (Err (refused too_long_line))
longer_judged j source line says =
    judging j.out j.status (err_bytes j.err)
    (λ err. err ≡ too_long_line) (λ err. IsGivenVerdict source (Err (refused too_long_line)) (refused err))
    (λ lines err. ⊥) (DumpsGiven source (Err (refused too_long_line)))
    (λ err is. ap refused is)
    (λ lines err no. absurd no)
    says

-- The name that was asked for last.
pub last_is : (before : List (List ℕ)) (name : List ℕ) → last_name (before ++ name ∷ []) ≡ name
last_is [] name = refl
last_is (a ∷ []) name = refl
last_is (a ∷ b ∷ before) name = last_is (b ∷ before) name

pub unread_last : (full : Bool) (line name : List ℕ) (before after : List (List ℕ)) → line ≡ unread_lines full name → after ≡ before ++ name ∷ [] → line ≡ unread_lines full (last_name after)
unread_last full line name before after is asked = is ∙ sym (ap (unread_lines full) (ap last_name asked ∙ last_is before name))

-- If a file could not be read whole, the files give no image.
pub stop_image : (answer : Answer) (end : Stop ReadEnd) (image : List ℕ → Result ImageParts ElfFault) (line : ElfFault → List ℕ) (given_by : Files → Result ImageParts Verdict) (path text : List ℕ) (source : ElfSource) (files : Option Files) (left left_after : Option (List ℕ)) (asked asked_after : List (List ℕ)) (before after : ℕ) → ((f : Files) (ended : Verdict) → file_by source.full image line path (f path) ≡ Err ended → given_by f ≡ Err ended)
    → ReadAll (Err end) files path LIMIT left left_after before after → AsksOnce (Err end) asked path asked_after → text ≡ unread_lines source.full path → AnswersStop answer text end → AnswersImage answer given_by source files asked_after before after
stop_image (Judged j) (Fault CantOpen) image line given_by path text source files left left_after asked asked_after before after follows read once is says = absurd says
stop_image (Judged j) (Fault CantRead) image line given_by path text source files left left_after asked asked_after before after follows read once is says = absurd says
stop_image (Judged j) (Fault TooLong) image line given_by path text source files left left_after asked asked_after before after follows read once is says =
    given_promised j given_by source files (Err (refused too_long_line))
    (told (λ f. file_by source.full image line path (f path) ≡ Err (refused too_long_line)) (λ f. given_by f ≡ Err (refused too_long_line)) files (λ f is. follows f (refused too_long_line) is) (longer_image image source.full line files path read))
    (longer_judged j source text says)
stop_image (Judged j) stop.NoMemory image line given_by path text source files left left_after asked asked_after before after follows read once is says = absurd says
stop_image (Unread m) (Fault CantOpen) image line given_by path text source files left left_after asked asked_after before after follows read once is says = (read.0, unread_last source.full (err_bytes m) path asked asked_after (says ∙ is) once)
stop_image (Unread m) (Fault CantRead) image line given_by path text source files left left_after asked asked_after before after follows read once is says = (read.0, unread_last source.full (err_bytes m) path asked asked_after (says ∙ is) once)
stop_image (Unread m) (Fault TooLong) image line given_by path text source files left left_after asked asked_after before after follows read once is says = absurd says
stop_image (Unread m) stop.NoMemory image line given_by path text source files left left_after asked asked_after before after follows read once is says = absurd says
stop_image NoMemory end image line given_by path text source files left left_after asked asked_after before after follows read once is says = tt

-- The usage line.
none_some : (o : Option Asked) → o ≡ None → IsSome o → ⊥
none_some None is some = cc
none_some (Some x) is some = cc

pub usage_judged : (j : Judgement) (files : Option Files) (asked : List (List ℕ)) (before after : ℕ) → IsUsage j → AnswersCommand (Judged j) None files asked before after
usage_judged j files asked before after is =
    let two = is.status in
    record {
      low = omega arith;
      row = λ some. absurd (none_some None refl some);
      told = always (λ f. IsVerdict None f [] (judgement_verdict j)) files (λ f.
          sym (ap (λ (n : ℕ). (let v : Verdict = record { status = n; out = []; err = usage_line } in v)) (sym is.status)
          ∙ ap (λ (o : Output). (let v : Verdict = record { status = j.status; out = out_bytes o; err = usage_line } in v)) (sym is.out)
          ∙ ap (λ (e : List ℕ). (let v : Verdict = record { status = j.status; out = out_bytes j.out; err = e } in v)) (sym is.err)));
      kept = is;
    }

-- A command asks for no other names than those of its files.
no_further : (command : Option Asked) → AreFurther command []
no_further (Some (stacks core folder)) = (tt, tt)
no_further command = refl

pub row_asked : (command : Option Asked) (files : Option Files) (untold : Untold) (before after : List (List ℕ)) → Asks (files_of command files untold) before after → AsksRow command files before after
row_asked command files untold before after asked =
    record { untold = untold; further = []; are = no_further command; asks = subst (λ names. Asks names before after) (sym (append-nil (files_of command files untold))) asked }

-- Nothing is known.
abbrev pub nothing : Untold
nothing = record { id = []; link = None }

pub asks_row : (command : Option Asked) (files : Option Files) (before after : List (List ℕ)) → Asks (files_of command files nothing) before after → AsksRow command files before after
asks_row command files before after asked = row_asked command files nothing before after asked

pub asks_none : (files : Option Files) (before after : List (List ℕ)) → after ≡ before → AsksRow None files before after
asks_none files before after same = row_asked None files nothing before after (0, omega arith, same ∙ sym (append-nil before))
