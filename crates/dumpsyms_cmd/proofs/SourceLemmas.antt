-- The image that the files of a source give, for the functions of `elf_input`.
use Rattle.std.proofs.Common.{◌≡◌, inl, inr, ℕ, ◌≤◌, Bool, true, false, List, [], ◌∷◌, ◌++◌, Option, Some, None, Ok, Err, Result, length, codes, refl, sym, ◌∙◌, ap, arith, append-nil, append_assoc, subst, IfOk}
use Rattle.std.specs.Option.{option_to_list}
use Rattle.std.proofs.lemmas.Bool.{cond-true, cond-false}
use Rattle.std.proofs.lemmas.List.{take-append-le, take_all, length-append}
use Rattle.sym_edges.specs.Outside.{Files, Tells}
use Rattle.sym_edges.specs.WholeFile.{HoldsFile, AsksOnce, IsWhole, ReadAll}
use Rattle.sym_edges.specs.declared.fault.Stop.{Stop}
use Rattle.sym_edges.specs.declared.fault.Stop.TheVariants.{Fault}
use Rattle.sym_edges.specs.declared.fault.Stop.TheVariants as stop
use Rattle.sym_edges.specs.declared.whole_file.ReadEnd.{ReadEnd}
use Rattle.sym_edges.specs.declared.whole_file.ReadEnd.TheVariants.{CantOpen, CantRead, TooLong}
use Rattle.elf_sections.specs.Image.{ImageParts}
use Rattle.elf_sections.specs.declared.fault.ElfFault.{ElfFault}
use Rattle.full_image.specs.FullImage.{any_image, Packed}
use Rattle.debug_pair.specs.DebugPath.{debug_path}
use Rattle.debug_pair.specs.FaultWords.{pair_word, short_id_word}
use Rattle.debug_pair.specs.Pairing.{pair_of}
use Rattle.debug_pair.specs.SupLink.{SupLink, sup_link}
use Rattle.debug_pair.specs.SupPath.{sup_path}
use Rattle.debug_pair.specs.declared.fault.PairFault.{PairFault}
use Rattle.debug_pair.specs.declared.fault.PairFault.TheVariants.{NoBuildId}
use Rattle.debug_pair.specs.declared.fault.SupFault.{SupFault}
use Rattle.sym_records.specs.Canon.{canon_text, spaced}
use Rattle.sym_records.specs.Reading.{reading}
use Rattle.dumpsyms_cmd.specs.Words.{dump, judge, dumped_told}
use Rattle.stack_text.specs.Lines.{line}
use Rattle.dumpsyms_cmd.specs.Refusals.{elf_line, debug_elf_line, pair_line, too_long_line, unread_lines}
use Rattle.dumpsyms_cmd.specs.Verdict.{Verdict, refused, LIMIT}
use Rattle.dumpsyms_cmd.specs.ElfInput.{DebugFile, at_path, below_root, ElfSource, Untold, or_refused, file_image, elf_image, or_short, path_below, path_of, root_of, or_nowhere, then_path, then_sup, then_link, then_pair, debug_given, file_pair, with_file, with_debug, then_debug, given_image, path_names, link_names, sup_names, read_names, pair_names, debug_names, names_behind, untold_sup, untold_file, untold_names, debug_told, elf_names}
use Rattle.dumpsyms_cmd.specs.commands.Dump.{IsGivenVerdict, DumpsGiven, DumpPromises}
use Rattle.dumpsyms_cmd.specs.Judgement.{err_bytes, RefusesOrGives}
use Rattle.dumpsyms_cmd.specs.Observed.{Asks, AsksRow}
use Rattle.dumpsyms_cmd.specs.internal.Judged.{AnswersCommand, AnswersImage, AnswersMade, AnswersStop, AsksAll, AsksFile, AsksPath, AsksDebug, AsksBehind, AsksBy, AsksNames, AsksSource, AsksThen, IsNoText, HasNoText}
use Rattle.dumpsyms_cmd.specs.declared.judgement.Output.{Output}
use Rattle.dumpsyms_cmd.specs.declared.judgement.Output.TheVariants.{Nothing, Text, Bytes, Shared, Records}
use Rattle.dumpsyms_cmd.specs.declared.judgement.Judgement.{Judgement}
use Rattle.dumpsyms_cmd.specs.declared.judgement.Answer.{Answer}
use Rattle.dumpsyms_cmd.specs.declared.judgement.Answer.TheVariants.{Judged, Unread, NoMemory}
use Rattle.dumpsyms_cmd.proofs.JudgedLemmas.{judging, row_asked, told, always, given_refused, given_promised, held_image, longer_image, stop_image, nothing, dump_judged}
use Rattle.dumpsyms_cmd.proofs.AnswerLemmas.{rose_later}
use Rattle.dumpsyms_cmd.proofs.JudgeLemmas.{asks_later}

-- A refusal with a line.
pub line_answered : {F : Type 0} (answer : Answer) (made : Result (List ℕ) F) (line : List ℕ) (given_by : Files → Result ImageParts Verdict) (source : ElfSource) (files : Option Files) (asked : List (List ℕ)) (before after : ℕ) → ((f : Files) → given_by f ≡ Err (refused line)) → IfOk made (λ text. text ≡ line) → AnswersMade answer made → AnswersImage answer given_by source files asked before after
line_answered (Judged j) (Ok text) line given_by source files asked before after is same says =
    given_promised j given_by source files (Err (refused line)) (always (λ f. given_by f ≡ Err (refused line)) files is) (given_refused j source text line (Err (refused line)) refl same says)
line_answered (Judged j) (Err e) line given_by source files asked before after is same says = absurd says
line_answered (Unread m) made line given_by source files asked before after is same says = absurd says
line_answered NoMemory made line given_by source files asked before after is same says = tt

-- An answer for an image that the files give holds for each other way to give the same image.
told_both : {A : Type 0} (P Q R : A → Type 0) (o : Option A) → ((x : A) → P x → Q x → R x) → Tells o P → Tells o Q → Tells o R
told_both P Q R None f p q = tt
told_both P Q R (Some x) f p q = f x p q

image_moved : (answer : Answer) (one other : Files → Result ImageParts Verdict) (source : ElfSource) (files : Option Files) (asked : List (List ℕ)) (before mid after : ℕ) → Tells files (λ f. other f ≡ one f) → before ≤ mid → mid ≤ after → AnswersImage answer one source files asked mid after → AnswersImage answer other source files asked before after
image_moved (Judged j) one other source files asked before mid after same first second says =
    judging j.out j.status (err_bytes j.err)
    (λ err. Tells files (λ f. IsGivenVerdict source (one f) (refused err))) (λ err. Tells files (λ f. IsGivenVerdict source (other f) (refused err)))
    (λ lines err. (reading (canon_text lines) ≡ Ok lines) × Tells files (λ f. DumpsGiven source (one f) lines err))
    (λ lines err. (reading (canon_text lines) ≡ Ok lines) × Tells files (λ f. DumpsGiven source (other f) lines err))
    (λ err is. told_both (λ f. other f ≡ one f) (λ f. IsGivenVerdict source (one f) (refused err)) (λ f. IsGivenVerdict source (other f) (refused err)) files
    (λ f e v. subst (λ (r : Result ImageParts Verdict). IsGivenVerdict source r (refused err)) (sym e) v) same is)
    (λ lines err is. (
      is.0,
      told_both (λ f. other f ≡ one f) (λ f. DumpsGiven source (one f) lines err) (λ f. DumpsGiven source (other f) lines err) files
          (λ f e v. subst (λ (r : Result ImageParts Verdict). DumpsGiven source r lines err) (sym e) v) same is.1,
    ))
    says
image_moved (Unread m) one other source files asked before mid after same first second says = (rose_later before mid after first second says.0, says.1)
image_moved NoMemory one other source files asked before mid after same first second says = tt

-- The names that are asked for.
pub none_all : (answer : Answer) (before after : List (List ℕ)) → after ≡ before → AsksAll answer [] before after
none_all (Judged j) before after same = same ∙ sym (append-nil before)
none_all (Unread m) before after same = (0, omega arith, same ∙ sym (append-nil before))
none_all NoMemory before after same = (0, omega arith, same ∙ sym (append-nil before))

pub none_asked : (names before after : List (List ℕ)) → after ≡ before → AsksAll NoMemory names before after
none_asked names before after same = (0, omega arith, same ∙ sym (append-nil before))

pub no_path_asked : (answer : Answer) (ended : Verdict) (found : Result (List ℕ) Verdict) (before after : List (List ℕ)) → found ≡ Err ended → after ≡ before → AsksAll answer (path_names found) before after
no_path_asked answer ended found before after is same = subst (λ (r : Result (List ℕ) Verdict). AsksAll answer (path_names r) before after) (sym is) (none_all answer before after same)

pub all_asked : (answer : Answer) (path : List ℕ) (before after : List (List ℕ)) → after ≡ before ++ path ∷ [] → AsksAll answer (path ∷ []) before after
all_asked (Judged j) path before after asked = asked
all_asked (Unread m) path before after asked = (1, omega arith, asked)
all_asked NoMemory path before after asked = (1, omega arith, asked)

pub stop_asked : (answer : Answer) (end : Stop ReadEnd) (text path : List ℕ) (before after : List (List ℕ)) → AsksOnce (Err end) before path after → AnswersStop answer text end → AsksAll answer (path ∷ []) before after
stop_asked answer (Fault end) text path before after asked says = all_asked answer path before after asked
stop_asked answer stop.NoMemory text path before after (inl asked) says = all_asked answer path before after asked
stop_asked (Judged j) stop.NoMemory text path before after (inr same) says = absurd says
stop_asked (Unread m) stop.NoMemory text path before after (inr same) says = absurd says
stop_asked NoMemory stop.NoMemory text path before after (inr same) says = none_asked (path ∷ []) before after same

-- The same image, given in another way.
pub same_image : (answer : Answer) (one other : Files → Result ImageParts Verdict) (source : ElfSource) (files : Option Files) (asked : List (List ℕ)) (before after : ℕ) → ((f : Files) → other f ≡ one f) → AnswersImage answer one source files asked before after → AnswersImage answer other source files asked before after
same_image (Judged j) one other source files asked before after same says = image_moved (Judged j) one other source files asked before before before (always (λ f. other f ≡ one f) files same) (omega arith) (omega arith) says
same_image (Unread m) one other source files asked before after same says = says
same_image NoMemory one other source files asked before after same says = tt

-- Both files.
pub pair_answered : (answer : Answer) (source : ElfSource) (path : List ℕ) (binary debug both : ImageParts) (files : Option Files) (asked : List (List ℕ)) (before after : ℕ) → pair_of binary debug ≡ Ok both → AnswersImage answer (then_sup source path both) source files asked before after
    → AnswersImage answer (then_link source path (or_refused pair_line (pair_of binary debug))) source files asked before after
pair_answered answer source path binary debug both files asked before after is says =
    same_image answer (then_sup source path both) (then_link source path (or_refused pair_line (pair_of binary debug))) source files asked before after (λ f. ap (λ r. then_link source path (or_refused pair_line r) f) is) says

pub pair_asked : (answer : Answer) (source : ElfSource) (path : List ℕ) (binary debug both : ImageParts) (before after : List (List ℕ)) → pair_of binary debug ≡ Ok both → AsksAll answer (sup_names source path both) before after → AsksAll answer (read_names source path (or_refused pair_line (pair_of binary debug))) before after
pair_asked answer source path binary debug both before after is asked = subst (λ r. AsksAll answer (read_names source path (or_refused pair_line r)) before after) (sym is) asked

pub pair_refused : {F : Type 0} (answer : Answer) (made : Result (List ℕ) F) (source : ElfSource) (path : List ℕ) (binary debug : ImageParts) (fault : PairFault) (files : Option Files) (asked : List (List ℕ)) (before after : ℕ) → pair_of binary debug ≡ Err fault → IfOk made (λ text. text ≡ pair_line fault) → AnswersMade answer made
    → AnswersImage answer (then_link source path (or_refused pair_line (pair_of binary debug))) source files asked before after
pair_refused answer made source path binary debug fault files asked before after is same says =
    line_answered answer made (pair_line fault) (then_link source path (or_refused pair_line (pair_of binary debug))) source files asked before after (λ f. ap (λ r. then_link source path (or_refused pair_line r) f) is) same says

pub no_pair_asked : (answer : Answer) (source : ElfSource) (path : List ℕ) (binary debug : ImageParts) (fault : PairFault) (before after : List (List ℕ)) → pair_of binary debug ≡ Err fault → after ≡ before → AsksAll answer (read_names source path (or_refused pair_line (pair_of binary debug))) before after
no_pair_asked answer source path binary debug fault before after is same = subst (λ r. AsksAll answer (read_names source path (or_refused pair_line r)) before after) (sym is) (none_all answer before after same)

-- The bytes of the debug file.
pub debug_answered : (answer : Answer) (source : ElfSource) (path : List ℕ) (full : Bool) (bytes : List ℕ) (binary debug : ImageParts) (files : Option Files) (asked : List (List ℕ)) (before after : ℕ) → any_image full bytes ≡ Ok debug → AnswersImage answer (then_link source path (or_refused pair_line (pair_of binary debug))) source files asked before after
    → AnswersImage answer (then_link source path (debug_given binary (any_image full bytes))) source files asked before after
debug_answered answer source path full bytes binary debug files asked before after is says =
    subst (λ (r : Result ImageParts ElfFault). AnswersImage answer (then_link source path (debug_given binary r)) source files asked before after) (sym is) says

pub debug_asked : (answer : Answer) (source : ElfSource) (path : List ℕ) (full : Bool) (bytes : List ℕ) (binary debug : ImageParts) (before after : List (List ℕ)) → any_image full bytes ≡ Ok debug → AsksAll answer (read_names source path (or_refused pair_line (pair_of binary debug))) before after → AsksAll answer (read_names source path (debug_given binary (any_image full bytes))) before after
debug_asked answer source path full bytes binary debug before after is asked = subst (λ (r : Result ImageParts ElfFault). AsksAll answer (read_names source path (debug_given binary r)) before after) (sym is) asked

pub debug_refused : {F : Type 0} (answer : Answer) (made : Result (List ℕ) F) (source : ElfSource) (path : List ℕ) (full : Bool) (bytes : List ℕ) (binary : ImageParts) (fault : ElfFault) (files : Option Files) (asked : List (List ℕ)) (before after : ℕ) → any_image full bytes ≡ Err fault → IfOk made (λ text. text ≡ debug_elf_line fault) → AnswersMade answer made
    → AnswersImage answer (then_link source path (debug_given binary (any_image full bytes))) source files asked before after
debug_refused answer made source path full bytes binary fault files asked before after is same says =
    line_answered answer made (debug_elf_line fault) (then_link source path (debug_given binary (any_image full bytes))) source files asked before after (λ f. ap (λ (r : Result ImageParts ElfFault). then_link source path (debug_given binary r) f) is) same says

pub no_debug_asked : (answer : Answer) (source : ElfSource) (path : List ℕ) (full : Bool) (bytes : List ℕ) (binary : ImageParts) (fault : ElfFault) (before after : List (List ℕ)) → any_image full bytes ≡ Err fault → after ≡ before → AsksAll answer (read_names source path (debug_given binary (any_image full bytes))) before after
no_debug_asked answer source path full bytes binary fault before after is same = subst (λ (r : Result ImageParts ElfFault). AsksAll answer (read_names source path (debug_given binary r)) before after) (sym is) (none_all answer before after same)

pub debug_opened : (answer : Answer) (source : ElfSource) (path : List ℕ) (binary : ImageParts) (full : Bool) (bytes : List ℕ) (packed : Packed) (files : Option Files) (asked : List (List ℕ)) (before after : ℕ) → packed ≡ record { full = full; file = bytes } → AnswersImage answer (then_link source path (debug_given binary (any_image packed.full packed.file))) source files asked before after
    → AnswersImage answer (then_link source path (debug_given binary (any_image full bytes))) source files asked before after
debug_opened answer source path binary full bytes packed files asked before after is says = subst (λ (p : Packed). AnswersImage answer (then_link source path (debug_given binary (any_image p.full p.file))) source files asked before after) is says

pub debug_opened_asked : (answer : Answer) (source : ElfSource) (path : List ℕ) (binary : ImageParts) (full : Bool) (bytes : List ℕ) (packed : Packed) (before after : List (List ℕ)) → packed ≡ record { full = full; file = bytes } → AsksAll answer (read_names source path (debug_given binary (any_image packed.full packed.file))) before after
    → AsksAll answer (read_names source path (debug_given binary (any_image full bytes))) before after
debug_opened_asked answer source path binary full bytes packed before after is asked = subst (λ (p : Packed). AsksAll answer (read_names source path (debug_given binary (any_image p.full p.file))) before after) is asked

-- The debug file was read.
tells_pair : (source : ElfSource) (binary : ImageParts) (path bytes : List ℕ) (files : Option Files) → HoldsFile files path (λ whole. IsWhole whole bytes LIMIT) → Tells files (λ f. file_pair source binary path f ≡ debug_given binary (any_image source.full bytes))
tells_pair source binary path bytes files holds =
    told (λ f. file_image source.full debug_elf_line path (f path) ≡ or_refused debug_elf_line (any_image source.full bytes)) (λ f. file_pair source binary path f ≡ debug_given binary (any_image source.full bytes)) files
    (λ f e. ap (then_pair binary) e) (held_image source.full debug_elf_line files path bytes holds)

pub file_read : (answer : Answer) (source : ElfSource) (binary : ImageParts) (path bytes held : List ℕ) (files files_mid : Option Files) (asked : List (List ℕ)) (before mid after : ℕ) → HoldsFile files path (λ whole. IsWhole whole bytes LIMIT) → held ≡ bytes → files_mid ≡ files → before ≤ mid → mid ≤ after
    → AnswersImage answer (then_link source path (debug_given binary (any_image source.full held))) source files_mid asked mid after → AnswersImage answer (with_file source binary path) source files asked before after
file_read answer source binary path bytes held files files_mid asked before mid after holds same_bytes same first second says =
    let tells : Tells files (λ f. with_file source binary path f ≡ then_link source path (debug_given binary (any_image source.full bytes)) f) =
    told (λ f. file_pair source binary path f ≡ debug_given binary (any_image source.full bytes)) (λ f. with_file source binary path f ≡ then_link source path (debug_given binary (any_image source.full bytes)) f) files
    (λ f e. ap (λ (r : Result ImageParts Verdict). then_link source path r f) e) (tells_pair source binary path bytes files holds) in
    let by_bytes : AnswersImage answer (then_link source path (debug_given binary (any_image source.full bytes))) source files_mid asked mid after = subst (λ (b : List ℕ). AnswersImage answer (then_link source path (debug_given binary (any_image source.full b))) source files_mid asked mid after) same_bytes says in
    let by_files : AnswersImage answer (then_link source path (debug_given binary (any_image source.full bytes))) source files asked mid after = subst (λ (o : Option Files). AnswersImage answer (then_link source path (debug_given binary (any_image source.full bytes))) source o asked mid after) same by_bytes in
    image_moved answer (then_link source path (debug_given binary (any_image source.full bytes))) (with_file source binary path) source files asked before mid after tells first second by_files

all_behind : (answer : Answer) (path : List ℕ) (names before mid after : List (List ℕ)) → mid ≡ before ++ path ∷ [] → AsksAll answer names mid after → AsksAll answer (path ∷ names) before after
all_behind (Judged j) path names before mid after first asked = asked ∙ ap (λ l. l ++ names) first ∙ append_assoc before (path ∷ []) names
all_behind (Unread m) path names before mid after first asked = asks_later path names before mid after first asked
all_behind NoMemory path names before mid after first asked = asks_later path names before mid after first asked

pub file_named : (answer : Answer) (source : ElfSource) (binary : ImageParts) (path bytes held : List ℕ) (files : Option Files) (before mid after : List (List ℕ)) → HoldsFile files path (λ whole. IsWhole whole bytes LIMIT) → held ≡ bytes → mid ≡ before ++ path ∷ []
    → AsksAll answer (read_names source path (debug_given binary (any_image source.full held))) mid after → AsksFile answer source binary path files before after
file_named answer source binary path bytes held files before mid after holds same first asked = record {
  read = debug_given binary (any_image source.full bytes);
  told = tells_pair source binary path bytes files holds;
  asks = all_behind answer path (read_names source path (debug_given binary (any_image source.full bytes))) before mid after first (subst (λ (b : List ℕ). AsksAll answer (read_names source path (debug_given binary (any_image source.full b))) mid after) same asked);
}

pub file_stopped : (answer : Answer) (end : Stop ReadEnd) (source : ElfSource) (binary : ImageParts) (path text : List ℕ) (files : Option Files) (left left_after : Option (List ℕ)) (asked asked_after : List (List ℕ)) (before after : ℕ) → ReadAll (Err end) files path LIMIT left left_after before after → AsksOnce (Err end) asked path asked_after → text ≡ unread_lines source.full path → AnswersStop answer text end
    → AnswersImage answer (with_file source binary path) source files asked_after before after
file_stopped answer end source binary path text files left left_after asked asked_after before after read once is says =
    stop_image answer end (any_image source.full) debug_elf_line (with_file source binary path) path text source files left left_after asked asked_after before after (λ f ended e. ap (λ (r : Result ImageParts Verdict). then_link source path (then_pair binary r) f) e) read once is says

-- If a file could not be read whole, at most its own name was asked for, and what it would give may
-- be assumed.
told_longer : (files : Option Files) (path : List ℕ) (source : ElfSource) (binary : ImageParts) → (read : Result ImageParts Verdict) × Tells files (λ f. file_pair source binary path f ≡ read)
told_longer None path source binary = (Err (refused []), tt)
told_longer (Some f) path source binary = (file_pair source binary path f, refl)

one_of : (path : List ℕ) (names before after : List (List ℕ)) → after ≡ before ++ path ∷ [] → Asks (path ∷ names) before after
one_of path names before after asked = (1, omega arith, asked)

front_of : (end : Stop ReadEnd) (path : List ℕ) (names before after : List (List ℕ)) → AsksOnce (Err end) before path after → Asks (path ∷ names) before after
front_of (Fault end) path names before after asked = one_of path names before after asked
front_of stop.NoMemory path names before after (inl asked) = one_of path names before after asked
front_of stop.NoMemory path names before after (inr same) = (0, omega arith, same ∙ sym (append-nil before))

-- A file that is too long gives no image, so nothing is asked for after it.
pub file_not_read : (answer : Answer) (end : Stop ReadEnd) (text : List ℕ) (source : ElfSource) (binary : ImageParts) (path : List ℕ) (files : Option Files) (left left_after : Option (List ℕ)) (before after : List (List ℕ)) (faults faults_after : ℕ) → ReadAll (Err end) files path LIMIT left left_after faults faults_after → AsksOnce (Err end) before path after → AnswersStop answer text end → AsksFile answer source binary path files before after
file_not_read (Judged j) (Fault CantOpen) text source binary path files left left_after before after faults faults_after read asked says = absurd says
file_not_read (Judged j) (Fault CantRead) text source binary path files left left_after before after faults faults_after read asked says = absurd says
file_not_read (Judged j) stop.NoMemory text source binary path files left left_after before after faults faults_after read asked says = absurd says
file_not_read (Judged j) (Fault TooLong) text source binary path files left left_after before after faults faults_after read asked says = record {
  read = Err (refused too_long_line);
  told = told (λ f. file_image source.full debug_elf_line path (f path) ≡ Err (refused too_long_line)) (λ f. file_pair source binary path f ≡ Err (refused too_long_line)) files (λ f e. ap (then_pair binary) e) (longer_image (any_image source.full) source.full debug_elf_line files path read);
  asks = asked;
}
file_not_read (Unread m) end text source binary path files left left_after before after faults faults_after read asked says =
    let some = told_longer files path source binary in
    record { read = some.0; told = some.1; asks = front_of end path (read_names source path some.0) before after asked }
file_not_read NoMemory end text source binary path files left left_after before after faults faults_after read asked says =
    let some = told_longer files path source binary in
    record { read = some.0; told = some.1; asks = front_of end path (read_names source path some.0) before after asked }

pub file_unread : (source : ElfSource) (binary : ImageParts) (path : List ℕ) (files : Option Files) (before after : List (List ℕ)) → after ≡ before → AsksFile NoMemory source binary path files before after
file_unread source binary path files before after same =
    let some = told_longer files path source binary in
    record { read = some.0; told = some.1; asks = (0, omega arith, same ∙ sym (append-nil before)) }

-- The path of the debug file below a root directory.
pub placed_below : (root i path : List ℕ) (id : Option (List ℕ)) → Some i ≡ id → debug_path root i ≡ Some path → path_below root id ≡ Ok path
placed_below root i path id same is = ap (path_below root) (sym same) ∙ ap or_short is

pub short_below : (root i word : List ℕ) (id : Option (List ℕ)) → Some i ≡ id → debug_path root i ≡ None → word ≡ short_id_word → path_below root id ≡ Err (refused (line (spaced (codes "refused pair") (word ∷ []))))
short_below root i word id same is said = ap (path_below root) (sym same) ∙ ap or_short is ∙ ap (λ (w : List ℕ). (let r : Result (List ℕ) Verdict = Err (refused (line (spaced (codes "refused pair") (w ∷ [])))) in r)) (sym said)

pub none_below : (root word : List ℕ) (id : Option (List ℕ)) → None ≡ id → word ≡ pair_word NoBuildId → path_below root id ≡ Err (refused (line (spaced (codes "refused pair") (word ∷ []))))
none_below root word id same said = ap (path_below root) (sym same) ∙ ap (λ (w : List ℕ). (let r : Result (List ℕ) Verdict = Err (refused (line (spaced (codes "refused pair") (w ∷ [])))) in r)) (sym said)

-- The answer by the path, or by the word that says why there is none.
pub path_answered : (answer : Answer) (reads : List ℕ → Files → Result ImageParts Verdict) (source : ElfSource) (path held : List ℕ) (found : Result (List ℕ) Verdict) (files : Option Files) (asked : List (List ℕ)) (before after : ℕ) → found ≡ Ok path → held ≡ path → AnswersImage answer (reads held) source files asked before after
    → AnswersImage answer (then_path reads found) source files asked before after
path_answered answer reads source path held found files asked before after is same says =
    subst (λ (r : Result (List ℕ) Verdict). AnswersImage answer (then_path reads r) source files asked before after) (sym is)
    (subst (λ (p : List ℕ). AnswersImage answer (reads p) source files asked before after) same says)

pub path_refused : {F : Type 0} (answer : Answer) (made : Result (List ℕ) F) (line : List ℕ) (reads : List ℕ → Files → Result ImageParts Verdict) (source : ElfSource) (found : Result (List ℕ) Verdict) (files : Option Files) (asked : List (List ℕ)) (before after : ℕ) → found ≡ Err (refused line) → IfOk made (λ text. text ≡ line) → AnswersMade answer made
    → AnswersImage answer (then_path reads found) source files asked before after
path_refused answer made line reads source found files asked before after is same says =
    line_answered answer made line (then_path reads found) source files asked before after (λ f. ap (λ (r : Result (List ℕ) Verdict). then_path reads r f) is) same says

pub path_asked : (answer : Answer) (path held : List ℕ) (found : Result (List ℕ) Verdict) (before after : List (List ℕ)) → found ≡ Ok path → held ≡ path → AsksAll answer (held ∷ []) before after → AsksAll answer (path_names found) before after
path_asked answer path held found before after is same asked =
    subst (λ (r : Result (List ℕ) Verdict). AsksAll answer (path_names r) before after) (sym is) (subst (λ (p : List ℕ). AsksAll answer (p ∷ []) before after) same asked)

-- The answer for a debug file.
pub file_answered : (answer : Answer) (source : ElfSource) (binary : ImageParts) (path held : List ℕ) (found : Result (List ℕ) Verdict) (files : Option Files) (asked : List (List ℕ)) (before after : ℕ) → found ≡ Ok path → held ≡ path → AnswersImage answer (with_file source binary held) source files asked before after
    → AnswersImage answer (then_path (with_file source binary) found) source files asked before after
file_answered answer source binary path held found files asked before after is same says = path_answered answer (with_file source binary) source path held found files asked before after is same says

pub file_asked : (answer : Answer) (source : ElfSource) (binary : ImageParts) (path held : List ℕ) (found : Result (List ℕ) Verdict) (files : Option Files) (before after : List (List ℕ)) → found ≡ Ok path → held ≡ path → AsksFile answer source binary held files before after → AsksPath answer source binary found files before after
file_asked answer source binary path held found files before after is same asked =
    subst (λ (r : Result (List ℕ) Verdict). AsksPath answer source binary r files before after) (sym is) (subst (λ (p : List ℕ). AsksFile answer source binary p files before after) same asked)

pub file_refused : {F : Type 0} (answer : Answer) (made : Result (List ℕ) F) (line : List ℕ) (source : ElfSource) (binary : ImageParts) (found : Result (List ℕ) Verdict) (files : Option Files) (asked : List (List ℕ)) (before after : ℕ) → found ≡ Err (refused line) → IfOk made (λ text. text ≡ line) → AnswersMade answer made
    → AnswersImage answer (then_path (with_file source binary) found) source files asked before after
file_refused answer made line source binary found files asked before after is same says = path_refused answer made line (with_file source binary) source found files asked before after is same says

pub no_file_asked : (answer : Answer) (ended : Verdict) (source : ElfSource) (binary : ImageParts) (found : Result (List ℕ) Verdict) (files : Option Files) (before after : List (List ℕ)) → found ≡ Err ended → after ≡ before → AsksPath answer source binary found files before after
no_file_asked answer ended source binary found files before after is same = subst (λ (r : Result (List ℕ) Verdict). AsksPath answer source binary r files before after) (sym is) (none_all answer before after same)

-- Memory ran out before the path was known.
pub path_unknown : (source : ElfSource) (binary : ImageParts) (found : Result (List ℕ) Verdict) (files : Option Files) (before after : List (List ℕ)) → after ≡ before → AsksPath NoMemory source binary found files before after
path_unknown source binary (Ok path) files before after same = file_unread source binary path files before after same
path_unknown source binary (Err ended) files before after same = none_all NoMemory before after same

-- A binary alone, or with a debug file.
pub none_answered : (answer : Answer) (source : ElfSource) (debug : Option DebugFile) (name : List ℕ) (binary : ImageParts) (files : Option Files) (asked : List (List ℕ)) (before after : ℕ) → debug ≡ None → name ≡ source.elf → AnswersImage answer (then_sup source name binary) source files asked before after
    → AnswersImage answer (with_debug source debug binary) source files asked before after
none_answered answer source debug name binary files asked before after none same says =
    subst (λ (d : Option DebugFile). AnswersImage answer (with_debug source d binary) source files asked before after) (sym none)
    (subst (λ (n : List ℕ). AnswersImage answer (then_sup source n binary) source files asked before after) same says)

pub none_named : (answer : Answer) (source : ElfSource) (debug : Option DebugFile) (name : List ℕ) (binary : ImageParts) (files : Option Files) (before after : List (List ℕ)) → debug ≡ None → name ≡ source.elf → AsksAll answer (sup_names source name binary) before after → AsksDebug answer source debug binary files before after
none_named answer source debug name binary files before after none same asked =
    subst (λ (d : Option DebugFile). AsksDebug answer source d binary files before after) (sym none) (subst (λ (n : List ℕ). AsksAll answer (sup_names source n binary) before after) same asked)

pub some_answered : (answer : Answer) (source : ElfSource) (debug : Option DebugFile) (file : DebugFile) (binary : ImageParts) (files : Option Files) (asked : List (List ℕ)) (before after : ℕ) → debug ≡ Some file → AnswersImage answer (then_path (with_file source binary) (path_of file binary)) source files asked before after
    → AnswersImage answer (with_debug source debug binary) source files asked before after
some_answered answer source debug file binary files asked before after is says =
    subst (λ (d : Option DebugFile). AnswersImage answer (with_debug source d binary) source files asked before after) (sym is) says

pub some_asked : (answer : Answer) (source : ElfSource) (debug : Option DebugFile) (file : DebugFile) (binary : ImageParts) (files : Option Files) (before after : List (List ℕ)) → debug ≡ Some file → AsksPath answer source binary (path_of file binary) files before after → AsksDebug answer source debug binary files before after
some_asked answer source debug file binary files before after is asked = subst (λ (d : Option DebugFile). AsksDebug answer source d binary files before after) (sym is) asked

-- The image of the ELF file.
pub binary_answered : (answer : Answer) (source : ElfSource) (full : Bool) (bytes : List ℕ) (binary : ImageParts) (files : Option Files) (asked : List (List ℕ)) (before after : ℕ) → any_image full bytes ≡ Ok binary → AnswersImage answer (with_debug source source.debug binary) source files asked before after
    → AnswersImage answer (then_debug source (or_refused elf_line (any_image full bytes))) source files asked before after
binary_answered answer source full bytes binary files asked before after is says =
    subst (λ (r : Result ImageParts ElfFault). AnswersImage answer (then_debug source (or_refused elf_line r)) source files asked before after) (sym is) says

pub binary_asked : (answer : Answer) (source : ElfSource) (full : Bool) (bytes : List ℕ) (binary : ImageParts) (files : Option Files) (before after : List (List ℕ)) → any_image full bytes ≡ Ok binary → AsksDebug answer source source.debug binary files before after → AsksBehind answer source (or_refused elf_line (any_image full bytes)) files before after
binary_asked answer source full bytes binary files before after is asked = subst (λ (r : Result ImageParts ElfFault). AsksBehind answer source (or_refused elf_line r) files before after) (sym is) asked

pub binary_refused : {F : Type 0} (answer : Answer) (made : Result (List ℕ) F) (source : ElfSource) (full : Bool) (bytes : List ℕ) (fault : ElfFault) (files : Option Files) (asked : List (List ℕ)) (before after : ℕ) → any_image full bytes ≡ Err fault → IfOk made (λ text. text ≡ elf_line fault) → AnswersMade answer made
    → AnswersImage answer (then_debug source (or_refused elf_line (any_image full bytes))) source files asked before after
binary_refused answer made source full bytes fault files asked before after is same says =
    line_answered answer made (elf_line fault) (then_debug source (or_refused elf_line (any_image full bytes))) source files asked before after (λ f. ap (λ (r : Result ImageParts ElfFault). then_debug source (or_refused elf_line r) f) is) same says

made_no_text : {F : Type 0} (answer : Answer) (made : Result (List ℕ) F) → AnswersMade answer made → HasNoText answer
made_no_text (Judged j) (Ok text) says = subst IsNoText (sym says.out) tt
made_no_text (Judged j) (Err e) says = absurd says
made_no_text (Unread m) made says = tt
made_no_text NoMemory made says = tt

pub refused_asked : {F : Type 0} (answer : Answer) (made : Result (List ℕ) F) (source : ElfSource) (full : Bool) (bytes : List ℕ) (fault : ElfFault) (files : Option Files) (before after : List (List ℕ)) → any_image full bytes ≡ Err fault → AnswersMade answer made → after ≡ before → AsksBehind answer source (or_refused elf_line (any_image full bytes)) files before after
refused_asked answer made source full bytes fault files before after is says same = subst (λ (r : Result ImageParts ElfFault). AsksBehind answer source (or_refused elf_line r) files before after) (sym is) (same, made_no_text answer made says)

unknown_debug : (source : ElfSource) (debug : Option DebugFile) (binary : ImageParts) (files : Option Files) (before after : List (List ℕ)) → after ≡ before → AsksDebug NoMemory source debug binary files before after
unknown_debug source None binary files before after same = none_asked (sup_names source source.elf binary) before after same
unknown_debug source (Some debug) binary files before after same = path_unknown source binary (path_of debug binary) files before after same

pub memory_asked : (source : ElfSource) (read : Result ImageParts Verdict) (files : Option Files) (before after : List (List ℕ)) → after ≡ before → AsksBehind NoMemory source read files before after
memory_asked source (Ok binary) files before after same = unknown_debug source source.debug binary files before after same
memory_asked source (Err ended) files before after same = (same, tt)

pub opened_answered : (answer : Answer) (source : ElfSource) (full : Bool) (bytes : List ℕ) (packed : Packed) (files : Option Files) (asked : List (List ℕ)) (before after : ℕ) → packed ≡ record { full = full; file = bytes } → AnswersImage answer (then_debug source (or_refused elf_line (any_image packed.full packed.file))) source files asked before after
    → AnswersImage answer (then_debug source (or_refused elf_line (any_image full bytes))) source files asked before after
opened_answered answer source full bytes packed files asked before after is says = subst (λ (p : Packed). AnswersImage answer (then_debug source (or_refused elf_line (any_image p.full p.file))) source files asked before after) is says

pub opened_asked : (answer : Answer) (source : ElfSource) (full : Bool) (bytes : List ℕ) (packed : Packed) (files : Option Files) (before after : List (List ℕ)) → packed ≡ record { full = full; file = bytes } → AsksBehind answer source (or_refused elf_line (any_image packed.full packed.file)) files before after → AsksBehind answer source (or_refused elf_line (any_image full bytes)) files before after
opened_asked answer source full bytes packed files before after is asked = subst (λ (p : Packed). AsksBehind answer source (or_refused elf_line (any_image p.full p.file)) files before after) is asked

-- The ELF file was read, or it could not be read.
pub elf_read : (answer : Answer) (source : ElfSource) (bytes held : List ℕ) (files files_mid : Option Files) (asked : List (List ℕ)) (before mid after : ℕ) → HoldsFile files source.elf (λ whole. IsWhole whole bytes LIMIT) → held ≡ bytes → files_mid ≡ files → before ≤ mid → mid ≤ after
    → AnswersImage answer (then_debug source (or_refused elf_line (any_image source.full held))) source files_mid asked mid after → AnswersImage answer (given_image source) source files asked before after
elf_read answer source bytes held files files_mid asked before mid after holds same_bytes same first second says =
    let tells : Tells files (λ f. given_image source f ≡ then_debug source (or_refused elf_line (any_image source.full bytes)) f) = told (λ f. elf_image source f ≡ or_refused elf_line (any_image source.full bytes)) (λ f. given_image source f ≡ then_debug source (or_refused elf_line (any_image source.full bytes)) f) files
    (λ f e. ap (λ (r : Result ImageParts Verdict). then_debug source r f) e) (held_image source.full elf_line files source.elf bytes holds) in
    let by_bytes : AnswersImage answer (then_debug source (or_refused elf_line (any_image source.full bytes))) source files_mid asked mid after = subst (λ (b : List ℕ). AnswersImage answer (then_debug source (or_refused elf_line (any_image source.full b))) source files_mid asked mid after) same_bytes says in
    let by_files : AnswersImage answer (then_debug source (or_refused elf_line (any_image source.full bytes))) source files asked mid after = subst (λ (o : Option Files). AnswersImage answer (then_debug source (or_refused elf_line (any_image source.full bytes))) source o asked mid after) same by_bytes in
    image_moved answer (then_debug source (or_refused elf_line (any_image source.full bytes))) (given_image source) source files asked before mid after tells first second by_files

pub elf_stopped : (answer : Answer) (end : Stop ReadEnd) (source : ElfSource) (text : List ℕ) (files : Option Files) (left left_after : Option (List ℕ)) (asked asked_after : List (List ℕ)) (before after : ℕ) → ReadAll (Err end) files source.elf LIMIT left left_after before after → AsksOnce (Err end) asked source.elf asked_after → text ≡ unread_lines source.full source.elf → AnswersStop answer text end
    → AnswersImage answer (given_image source) source files asked_after before after
elf_stopped answer end source text files left left_after asked asked_after before after read once is says =
    stop_image answer end (any_image source.full) elf_line (given_image source) source.elf text source files left left_after asked asked_after before after (λ f ended e. ap (λ (r : Result ImageParts Verdict). then_debug source r f) e) read once is says

-- The name of a supplementary file is that for some link, or there is none.
abbrev SomeLink : ElfSource → List ℕ → List (List ℕ) → Type 0
SomeLink source name names = (link : Option (List ℕ)) × (names ≡ untold_sup source name link)

nowhere_list : (o : Option (List ℕ)) → path_names (or_nowhere o) ≡ option_to_list o
nowhere_list None = refl
nowhere_list (Some path) = refl

link_untold : (source : ElfSource) (name : List ℕ) (found : Result (Option SupLink) SupFault) → source.full ≡ true → SomeLink source name (link_names source name found)
link_untold source name (Ok None) full = (None, refl)
link_untold source name (Ok (Some link)) full = (Some link.path, nowhere_list (sup_path (root_of source.debug) name link.path) ∙ sym (cond-true _ _ _ full))
link_untold source name (Err fault) full = (None, refl)

sup_untold : (source : ElfSource) (name : List ℕ) (image : ImageParts) → SomeLink source name (sup_names source name image)
sup_untold source name image = go source.full refl
  where
    go : (full : Bool) → source.full ≡ full → SomeLink source name (sup_names source name image)
    go true is =
        let some = link_untold source name (sup_link image) is in
        (some.0, cond-true _ _ _ is ∙ some.1)
    go false is = (None, cond-false _ _ _ is)

read_untold : (source : ElfSource) (name : List ℕ) (read : Result ImageParts Verdict) → SomeLink source name (read_names source name read)
read_untold source name (Ok image) = sup_untold source name image
read_untold source name (Err ended) = (None, refl)

-- The names after the ELF file.
front_none : (names before after : List (List ℕ)) → after ≡ before → Asks names before after
front_none names before after same = (0, omega arith, same ∙ sym (append-nil before))

textless_by : (o : Output) (names before after : List (List ℕ)) → IsNoText o → Asks names before after → AsksBy o names before after
textless_by Nothing names before after textless asked = asked
textless_by (Text lines) names before after textless asked = absurd textless
textless_by (Bytes text) names before after textless asked = asked
textless_by (Shared text) names before after textless asked = asked
textless_by (Records lines) names before after textless asked = asked

textless_names : (answer : Answer) (names before after : List (List ℕ)) → HasNoText answer → Asks names before after → AsksNames answer names before after
textless_names (Judged j) names before after textless asked = textless_by j.out names before after textless asked
textless_names (Unread m) names before after textless asked = asked
textless_names NoMemory names before after textless asked = asked

asks_whole : (names before after : List (List ℕ)) → after ≡ before ++ names → Asks names before after
asks_whole names before after asked = (length names, omega arith, asked ∙ ap (λ l. before ++ l) (sym (take_all (length names) names (omega arith))))

whole_by : (o : Output) (names before after : List (List ℕ)) → after ≡ before ++ names → AsksBy o names before after
whole_by Nothing names before after asked = asks_whole names before after asked
whole_by (Text lines) names before after asked = asked
whole_by (Bytes text) names before after asked = asks_whole names before after asked
whole_by (Shared text) names before after asked = asks_whole names before after asked
whole_by (Records lines) names before after asked = asks_whole names before after asked

behind : (answer : Answer) (elf : List ℕ) (names before mid after : List (List ℕ)) → mid ≡ before ++ elf ∷ [] → AsksAll answer names mid after → AsksNames answer (elf ∷ names) before after
behind (Judged j) elf names before mid after first asked = whole_by j.out (elf ∷ names) before after (asked ∙ ap (λ l. l ++ names) first ∙ append_assoc before (elf ∷ []) names)
behind (Unread m) elf names before mid after first asked = asks_later elf names before mid after first asked
behind NoMemory elf names before mid after first asked = asks_later elf names before mid after first asked

-- All names after that of the ELF file, whether the store's files are known or not.
abbrev AllBehind : Answer → ElfSource → Option DebugFile → ImageParts → Option Files → List (List ℕ) → List (List ℕ) → Type 0
AllBehind answer source debug binary None before after = (untold : Untold) × AsksAll answer (untold_names source debug untold) before after
AllBehind answer source debug binary (Some f) before after = AsksAll answer (debug_names source debug binary f) before after

file_behind : (answer : Answer) (source : ElfSource) (path : List ℕ) (read : Result ImageParts Verdict) (untold : List ℕ → Option (List ℕ) → List (List ℕ)) (before after : List (List ℕ)) → AsksAll answer (path ∷ read_names source path read) before after → (link : Option (List ℕ)) × AsksAll answer (path ∷ untold_sup source path link) before after
file_behind answer source path read untold before after asked =
    let some = read_untold source path read in
    (some.0, subst (λ names. AsksAll answer (path ∷ names) before after) some.1 asked)

root_behind : (answer : Answer) (source : ElfSource) (root : List ℕ) (binary : ImageParts) (id : Option (List ℕ)) (before after : List (List ℕ)) → AsksPath answer source binary (path_below root id) None before after → (untold : Untold) × AsksAll answer (untold_file source untold (debug_path root untold.id)) before after
root_behind answer source root binary None before after asked = (nothing, asked)
root_behind answer source root binary (Some id) before after asked = go (debug_path root id) refl asked
  where
    go : (path : Option (List ℕ)) → debug_path root id ≡ path → AsksPath answer source binary (or_short path) None before after → (untold : Untold) × AsksAll answer (untold_file source untold (debug_path root untold.id)) before after
    go None is asked = (record { id = id; link = None }, subst (λ (p : Option (List ℕ)). AsksAll answer (untold_file source (record { id = id; link = None }) p) before after) (sym is) asked)
    go (Some path) is asked =
        let some = read_untold source path asked.read in
        (record { id = id; link = some.0 }, subst (λ (p : Option (List ℕ)). AsksAll answer (untold_file source (record { id = id; link = some.0 }) p) before after) (sym is) (subst (λ names. AsksAll answer (path ∷ names) before after) some.1 asked.asks))

told_behind : (answer : Answer) (source : ElfSource) (binary : ImageParts) (found : Result (List ℕ) Verdict) (f : Files) (before after : List (List ℕ)) → AsksPath answer source binary found (Some f) before after → AsksAll answer (pair_names source binary found f) before after
told_behind answer source binary (Ok path) f before after asked = subst (λ (r : Result ImageParts Verdict). AsksAll answer (path ∷ read_names source path r) before after) (sym asked.told) asked.asks
told_behind answer source binary (Err ended) f before after asked = asked

all_behind_debug : (answer : Answer) (source : ElfSource) (debug : Option DebugFile) (binary : ImageParts) (files : Option Files) (before after : List (List ℕ)) → AsksDebug answer source debug binary files before after → AllBehind answer source debug binary files before after
all_behind_debug answer source None binary None before after asked =
    let some = sup_untold source source.elf binary in
    (record { id = []; link = some.0 }, subst (λ names. AsksAll answer names before after) some.1 asked)
all_behind_debug answer source (Some (at_path path)) binary None before after asked =
    let some = read_untold source path asked.read in
    (record { id = []; link = some.0 }, subst (λ names. AsksAll answer (path ∷ names) before after) some.1 asked.asks)
all_behind_debug answer source (Some (below_root root)) binary None before after asked = root_behind answer source root binary binary.build_id before after asked
all_behind_debug answer source None binary (Some f) before after asked = asked
all_behind_debug answer source (Some debug) binary (Some f) before after asked = told_behind answer source binary (path_of debug binary) f before after asked

behind_read : (answer : Answer) (source : ElfSource) (read : Result ImageParts Verdict) (files : Option Files) (before mid after : List (List ℕ)) → Tells files (λ f. elf_image source f ≡ read) → mid ≡ before ++ source.elf ∷ [] → AsksBehind answer source read files mid after → AsksSource answer source files before after
behind_read answer source (Ok binary) None before mid after is first asked =
    let some = all_behind_debug answer source source.debug binary None mid after asked in
    record { untold = some.0; asks = behind answer source.elf (untold_names source source.debug some.0) before mid after first some.1 }
behind_read answer source (Err ended) None before mid after is first asked =
    let names : List (List ℕ) = untold_names source source.debug (nothing) in
    record { untold = nothing; asks = textless_names answer (source.elf ∷ names) before after asked.1 (asks_later source.elf names before mid after first (front_none names mid after asked.0)) }
behind_read answer source (Ok binary) (Some f) before mid after is first asked =
    record {
      untold = nothing;
      asks = behind answer source.elf (names_behind source (elf_image source f) f) before mid after first
          (subst (λ (r : Result ImageParts Verdict). AsksAll answer (names_behind source r f) mid after) (sym is) (all_behind_debug answer source source.debug binary (Some f) mid after asked));
    }
behind_read answer source (Err ended) (Some f) before mid after is first asked =
    let names : List (List ℕ) = names_behind source (elf_image source f) f in
    record { untold = nothing; asks = textless_names answer (source.elf ∷ names) before after asked.1 (asks_later source.elf names before mid after first (front_none names mid after asked.0)) }

pub elf_asked : (answer : Answer) (source : ElfSource) (bytes held : List ℕ) (files files_mid : Option Files) (before mid after : List (List ℕ)) → HoldsFile files source.elf (λ whole. IsWhole whole bytes LIMIT) → held ≡ bytes → files_mid ≡ files → mid ≡ before ++ source.elf ∷ [] → AsksBehind answer source (or_refused elf_line (any_image source.full held)) files_mid mid after → AsksSource answer source files before after
elf_asked answer source bytes held files files_mid before mid after holds same same_files first asked =
    behind_read answer source (or_refused elf_line (any_image source.full bytes)) files before mid after (held_image source.full elf_line files source.elf bytes holds) first
    (subst (λ (b : List ℕ). AsksBehind answer source (or_refused elf_line (any_image source.full b)) files mid after) same
    (subst (λ (o : Option Files). AsksBehind answer source (or_refused elf_line (any_image source.full held)) o mid after) same_files asked))

-- The ELF file could not be read.
longer_no_text : (o : Output) (status : ℕ) (err : List ℕ) → RefusesOrGives o status err (λ e. e ≡ too_long_line) (λ lines e. ⊥) → IsNoText o
longer_no_text Nothing status err says = tt
longer_no_text (Text lines) status err says = says.1
longer_no_text (Bytes text) status err says = tt
longer_no_text (Shared text) status err says = tt
longer_no_text (Records lines) status err says = tt

stop_no_text : (answer : Answer) (end : Stop ReadEnd) (text : List ℕ) → AnswersStop answer text end → HasNoText answer
stop_no_text (Judged j) (Fault CantOpen) text says = absurd says
stop_no_text (Judged j) (Fault CantRead) text says = absurd says
stop_no_text (Judged j) (Fault TooLong) text says = longer_no_text j.out j.status (err_bytes j.err) says
stop_no_text (Judged j) stop.NoMemory text says = absurd says
stop_no_text (Unread m) end text says = tt
stop_no_text NoMemory end text says = tt

asks_front : (end : Stop ReadEnd) (elf : List ℕ) (later before after : List (List ℕ)) → AsksOnce (Err end) before elf after → Asks (elf ∷ later) before after
asks_front (Fault end) elf later before after asked = (1, omega arith, asked)
asks_front stop.NoMemory elf later before after (inl asked) = (1, omega arith, asked)
asks_front stop.NoMemory elf later before after (inr same) = front_none (elf ∷ later) before after same

pub elf_not_read : (answer : Answer) (end : Stop ReadEnd) (text : List ℕ) (source : ElfSource) (files : Option Files) (before after : List (List ℕ)) → AsksOnce (Err end) before source.elf after → AnswersStop answer text end → AsksSource answer source files before after
elf_not_read answer end text source files before after asked says =
    record { untold = nothing; asks = textless_names answer (elf_names files source nothing) before after (stop_no_text answer end text says) (asks_front end source.elf (debug_told files source nothing) before after asked) }

pub nothing_asked : (source : ElfSource) (files : Option Files) (before after : List (List ℕ)) → after ≡ before → AsksSource NoMemory source files before after
nothing_asked source files before after same = record { untold = nothing; asks = front_none (elf_names files source nothing) before after same }

-- The answer for the source is the answer of the command.
front_by : (o : Output) (names before after : List (List ℕ)) → AsksBy o names before after → Asks names before after
front_by Nothing names before after asked = asked
front_by (Text lines) names before after asked = asks_whole names before after asked
front_by (Bytes text) names before after asked = asked
front_by (Shared text) names before after asked = asked
front_by (Records lines) names before after asked = asked

pub names_front : (answer : Answer) (names before after : List (List ℕ)) → AsksNames answer names before after → Asks names before after
names_front (Judged j) names before after asked = front_by j.out names before after asked
names_front (Unread m) names before after asked = asked
names_front NoMemory names before after asked = asked

pub dump_asked : (answer : Answer) (source : ElfSource) (workers : ℕ) (files : Option Files) (before after : List (List ℕ)) → AsksSource answer source files before after → AsksRow (Some (dump source workers)) files before after
dump_asked answer source workers files before after asked = row_asked (Some (dump source workers)) files asked.untold before after (names_front answer (elf_names files source asked.untold) before after asked.asks)

pub dump_answered : (answer : Answer) (source : ElfSource) (workers : ℕ) (files : Option Files) (asked : List (List ℕ)) (before after : ℕ) → AnswersImage answer (given_image source) source files asked before after → AnswersCommand answer (Some (dump source workers)) files asked before after
dump_answered (Judged j) source workers files asked before after says = dump_judged j source workers files says
dump_answered (Unread m) source workers files asked before after says = (refl, says.0, says.1)
dump_answered NoMemory source workers files asked before after says = refl

-- The answer for the source and the symbol file is the answer of `judge`.
asks_more : (names rest before after : List (List ℕ)) → Asks names before after → Asks (names ++ rest) before after
asks_more names rest before after asked = (asked.0, omega (arith, asked.1, length-append names rest), asked.2 ∙ ap (λ l. before ++ l) (sym (take-append-le asked.0 names rest asked.1)))

asks_behind : (names rest before mid after : List (List ℕ)) → mid ≡ before ++ names → Asks rest mid after → Asks (names ++ rest) before after
asks_behind [] rest before mid after first asked = subst (λ (m : List (List ℕ)). Asks rest m after) (first ∙ append-nil before) asked
asks_behind (name ∷ names) rest before mid after first asked =
    asks_later name (names ++ rest) before (before ++ name ∷ []) after refl
    (asks_behind names rest (before ++ name ∷ []) mid after (first ∙ sym (append_assoc before (name ∷ []) names)) asked)

then_by : (o : Output) (names rest before mid after : List (List ℕ)) → AsksBy o names before mid → AsksThen o rest mid after → Asks (names ++ rest) before after
then_by Nothing names rest before mid after first same = subst (λ (m : List (List ℕ)). Asks (names ++ rest) before m) (sym same) (asks_more names rest before mid first)
then_by (Text lines) names rest before mid after first asked = asks_behind names rest before mid after first asked
then_by (Bytes text) names rest before mid after first same = subst (λ (m : List (List ℕ)). Asks (names ++ rest) before m) (sym same) (asks_more names rest before mid first)
then_by (Shared text) names rest before mid after first same = subst (λ (m : List (List ℕ)). Asks (names ++ rest) before m) (sym same) (asks_more names rest before mid first)
then_by (Records lines) names rest before mid after first same = subst (λ (m : List (List ℕ)). Asks (names ++ rest) before m) (sym same) (asks_more names rest before mid first)

pub judge_asked : (j : Judgement) (source : ElfSource) (name : List ℕ) (files mid_files : Option Files) (before mid after : List (List ℕ)) → mid_files ≡ files → AsksSource (Judged j) source files before mid → DumpPromises source files j
    → ((s : ElfSource) → DumpPromises s mid_files j → AsksThen j.out (dumped_told mid_files s name) mid after) → AsksRow (Some (judge source name)) files before after
judge_asked j source name files mid_files before mid after same first kept asked =
    let kept_mid : DumpPromises source mid_files j = subst (λ (f : Option Files). DumpPromises source f j) (sym same) kept in
    row_asked (Some (judge source name)) files first.untold before after (then_by j.out (elf_names files source first.untold) (dumped_told files source name) before mid after first.asks (subst (λ (f : Option Files). AsksThen j.out (dumped_told f source name) mid after) same (asked source kept_mid)))

pub other_asked : (answer : Answer) (source : ElfSource) (name : List ℕ) (files : Option Files) (before after : List (List ℕ)) → AsksSource answer source files before after → AsksRow (Some (judge source name)) files before after
other_asked answer source name files before after asked = row_asked (Some (judge source name)) files asked.untold before after (asks_more (elf_names files source asked.untold) (dumped_told files source name) before after (names_front answer (elf_names files source asked.untold) before after asked.asks))

pub other_answered : (answer : Answer) (source : ElfSource) (name : List ℕ) (files : Option Files) (asked : List (List ℕ)) (before after : ℕ) → ((j : Judgement) → answer ≡ Judged j → ⊥) → AnswersImage answer (given_image source) source files asked before after → AnswersCommand answer (Some (judge source name)) files asked before after
other_answered (Judged j) source name files asked before after never says = absurd (never j refl)
other_answered (Unread m) source name files asked before after never says = (refl, says.0, says.1)
other_answered NoMemory source name files asked before after never says = refl
