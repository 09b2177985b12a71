-- An image and its supplementary file, for the functions of `sup_input`.
use Rattle.std.proofs.Common.{◌≡◌, ℕ, Bool, true, false, cond, List, Option, Some, None, Ok, Err, Result, refl, sym, ◌∙◌, ap, subst, IfOk}
use Rattle.std.proofs.lemmas.Bool.{cond-true, cond-false}
use Rattle.sym_edges.specs.Outside.{Files}
use Rattle.sym_edges.specs.WholeFile.{HoldsFile, AsksOnce, IsWhole, ReadAll}
use Rattle.sym_edges.specs.Results.{◌>>=◌}
use Rattle.sym_edges.specs.declared.fault.Stop.{Stop}
use Rattle.sym_edges.specs.declared.whole_file.ReadEnd.{ReadEnd}
use Rattle.elf_sections.specs.Image.{ImageParts}
use Rattle.elf_sections.specs.Supplement.{with_sup}
use Rattle.elf_sections.specs.declared.fault.ElfFault.{ElfFault}
use Rattle.full_image.specs.SupImage.{sup_image}
use Rattle.debug_pair.specs.SupLink.{SupLink, sup_link, is_of_link}
use Rattle.debug_pair.specs.SupPath.{sup_path}
use Rattle.debug_pair.specs.declared.fault.SupFault.{SupFault}
use Rattle.debug_pair.specs.declared.fault.SupFault.TheVariants.{Link, BuildId}
use Rattle.dumpsyms_cmd.specs.Words.{module_name}
use Rattle.dumpsyms_cmd.specs.Refusals.{sup_elf_line, sup_line, unread_lines}
use Rattle.dumpsyms_cmd.specs.Verdict.{Verdict, refused, LIMIT}
use Rattle.dumpsyms_cmd.specs.ElfInput.{DebugFile, ElfSource, or_refused, file_by, root_of, or_nowhere, sup_place, joined, with_sup_file, then_path, with_link, then_sup, path_names, link_names, sup_names}
use Rattle.dumpsyms_cmd.specs.internal.Judged.{Refuses, JudgesParts, JudgesGiven, JudgesSup, AnswersImage, AnswersMade, AnswersJudged, AnswersStop, AsksAll}
use Rattle.dumpsyms_cmd.specs.declared.judgement.Judgement.{Judgement}
use Rattle.dumpsyms_cmd.specs.declared.judgement.Answer.{Answer}
use Rattle.dumpsyms_cmd.specs.declared.judgement.Answer.TheVariants.{Judged}
use Rattle.dumpsyms_cmd.proofs.JudgedLemmas.{told, always, given_parts, given_refused, given_promised, held_by, stop_image}
use Rattle.dumpsyms_cmd.proofs.AnswerLemmas.{answered, if_ok}
use Rattle.dumpsyms_cmd.proofs.SourceLemmas.{same_image, line_answered, path_answered, path_refused, none_all}

-- An image with its supplementary file.
pub joined_judged : (j : Judgement) (source : ElfSource) (image sup parts : ImageParts) (link : SupLink) (same : Bool) → same ≡ is_of_link link sup → same ≡ true → parts ≡ with_sup image sup → JudgesParts j source.full (module_name source.elf) parts → JudgesGiven j source (joined image link sup)
joined_judged j source image sup parts link same is holds with_both says =
    given_parts j source (joined image link sup) parts (cond-true _ _ _ (sym is ∙ holds) ∙ ap Ok (sym with_both)) says

pub joined_refused : (j : Judgement) (source : ElfSource) (text : List ℕ) (image sup : ImageParts) (link : SupLink) (same : Bool) → same ≡ is_of_link link sup → same ≡ false → text ≡ sup_line BuildId → Refuses j text → JudgesGiven j source (joined image link sup)
joined_refused j source text image sup link same is fails line refuses =
    given_refused j source text (sup_line BuildId) (joined image link sup) (cond-false _ _ _ (sym is ∙ fails)) line refuses

abbrev sup_given : ImageParts → SupLink → Result ImageParts ElfFault → Result ImageParts Verdict
sup_given image link read = or_refused sup_elf_line read >>= joined image link

pub sup_judged : (j : Judgement) (source : ElfSource) (image sup : ImageParts) (link : SupLink) (bytes : List ℕ) → sup_image bytes ≡ Ok sup → JudgesGiven j source (joined image link sup) → JudgesSup j source image link (sup_image bytes)
sup_judged j source image sup link bytes is says = subst (λ (r : Result ImageParts ElfFault). JudgesSup j source image link r) (sym is) says

pub sup_refused : (j : Judgement) (source : ElfSource) (text : List ℕ) (image : ImageParts) (link : SupLink) (bytes : List ℕ) (fault : ElfFault) → sup_image bytes ≡ Err fault → text ≡ sup_elf_line fault → Refuses j text → JudgesSup j source image link (sup_image bytes)
sup_refused j source text image link bytes fault is line refuses =
    given_refused j source text (sup_elf_line fault) (sup_given image link (sup_image bytes)) (ap (sup_given image link) is) line refuses

pub sup_opened : {F : Type 0} (judged : Result Judgement F) (source : ElfSource) (image : ImageParts) (link : SupLink) (held bytes : List ℕ) → held ≡ bytes → IfOk judged (λ j. JudgesSup j source image link (sup_image held)) → IfOk judged (λ j. JudgesSup j source image link (sup_image bytes))
sup_opened judged source image link held bytes is says = subst (λ (b : List ℕ). IfOk judged (λ j. JudgesSup j source image link (sup_image b))) is says

-- The supplementary file was read, or it could not be read.
pub sup_read : {F : Type 0} (answer : Answer) (judged : Result Judgement F) (source : ElfSource) (image : ImageParts) (link : SupLink) (path bytes held : List ℕ) (files : Option Files) (asked : List (List ℕ)) (before after : ℕ) → HoldsFile files path (λ whole. IsWhole whole bytes LIMIT) → held ≡ bytes → AnswersJudged answer judged → IfOk judged (λ j. JudgesSup j source image link (sup_image held))
    → AnswersImage answer (with_sup_file source.full image link path) source files asked before after
sup_read answer judged source image link path bytes held files asked before after holds same is says =
    let tells = told (λ f. file_by source.full sup_image sup_elf_line path (f path) ≡ or_refused sup_elf_line (sup_image bytes)) (λ f. with_sup_file source.full image link path f ≡ sup_given image link (sup_image bytes)) files
    (λ f e. ap (λ (r : Result ImageParts Verdict). r >>= joined image link) e) (held_by sup_image source.full sup_elf_line files path bytes holds) in
    answered answer judged (λ a. AnswersImage a (with_sup_file source.full image link path) source files asked before after) is
    (if_ok judged (λ j. JudgesSup j source image link (sup_image held)) (λ j. AnswersImage (Judged j) (with_sup_file source.full image link path) source files asked before after)
    (λ j v. given_promised j (with_sup_file source.full image link path) source files (sup_given image link (sup_image bytes)) tells (subst (λ (b : List ℕ). JudgesSup j source image link (sup_image b)) same v)) says) tt

pub sup_stopped : (answer : Answer) (end : Stop ReadEnd) (source : ElfSource) (image : ImageParts) (link : SupLink) (path text : List ℕ) (files : Option Files) (left left_after : Option (List ℕ)) (asked asked_after : List (List ℕ)) (before after : ℕ) → ReadAll (Err end) files path LIMIT left left_after before after → AsksOnce (Err end) asked path asked_after → text ≡ unread_lines source.full path → AnswersStop answer text end
    → AnswersImage answer (with_sup_file source.full image link path) source files asked_after before after
sup_stopped answer end source image link path text files left left_after asked asked_after before after read once is says =
    stop_image answer end sup_image sup_elf_line (with_sup_file source.full image link path) path text source files left left_after asked asked_after before after (λ f ended e. ap (λ (r : Result ImageParts Verdict). r >>= joined image link) e) read once is says

-- The path of the supplementary file.
pub placed : (debug : Option DebugFile) (root : Option (List ℕ)) (name held path : List ℕ) (link : SupLink) → root ≡ root_of debug → held ≡ link.path → sup_path root name held ≡ Some path → sup_place debug name link ≡ Ok path
placed debug root name held path link given same is = ap or_nowhere (ap (λ r. sup_path r name link.path) (sym given) ∙ ap (sup_path root name) (sym same) ∙ is)

pub nowhere : (debug : Option DebugFile) (root : Option (List ℕ)) (name held : List ℕ) (link : SupLink) (fault : SupFault) → root ≡ root_of debug → held ≡ link.path → (fault ≡ Link) × (sup_path root name held ≡ None) → sup_place debug name link ≡ Err (refused (sup_line fault))
nowhere debug root name held link fault given same is =
    ap or_nowhere (ap (λ r. sup_path r name link.path) (sym given) ∙ ap (sup_path root name) (sym same) ∙ is.1)
    ∙ ap (λ (f : SupFault). (let r : Result (List ℕ) Verdict = Err (refused (sup_line f)) in r)) (sym is.0)

pub place_answered : (answer : Answer) (source : ElfSource) (image : ImageParts) (link : SupLink) (path held : List ℕ) (found : Result (List ℕ) Verdict) (files : Option Files) (asked : List (List ℕ)) (before after : ℕ) → found ≡ Ok path → held ≡ path → AnswersImage answer (with_sup_file source.full image link held) source files asked before after
    → AnswersImage answer (then_path (with_sup_file source.full image link) found) source files asked before after
place_answered answer source image link path held found files asked before after is same says = path_answered answer (with_sup_file source.full image link) source path held found files asked before after is same says

pub place_refused : {F : Type 0} (answer : Answer) (made : Result (List ℕ) F) (line : List ℕ) (source : ElfSource) (image : ImageParts) (link : SupLink) (found : Result (List ℕ) Verdict) (files : Option Files) (asked : List (List ℕ)) (before after : ℕ) → found ≡ Err (refused line) → IfOk made (λ text. text ≡ line) → AnswersMade answer made
    → AnswersImage answer (then_path (with_sup_file source.full image link) found) source files asked before after
place_refused answer made line source image link found files asked before after is same says = path_refused answer made line (with_sup_file source.full image link) source found files asked before after is same says

-- An image without a supplementary file.
image_alone : {F : Type 0} (answer : Answer) (judged : Result Judgement F) (source : ElfSource) (image : ImageParts) (files : Option Files) (asked : List (List ℕ)) (before after : ℕ) → AnswersJudged answer judged → IfOk judged (λ j. JudgesParts j source.full (module_name source.elf) image) → AnswersImage answer (λ f. Ok image) source files asked before after
image_alone answer judged source image files asked before after is says =
    answered answer judged (λ a. AnswersImage a (λ f. Ok image) source files asked before after) is
    (if_ok judged (λ j. JudgesParts j source.full (module_name source.elf) image) (λ j. AnswersImage (Judged j) (λ f. Ok image) source files asked before after)
    (λ j v. given_promised j (λ f. Ok image) source files (Ok image) (always (λ f. ◌≡◌ {A = Result ImageParts Verdict} (Ok image) (Ok image)) files (λ f. refl)) (given_parts j source (Ok image) image refl v)) says) tt

pub plain_answered : {F : Type 0} (answer : Answer) (judged : Result Judgement F) (source : ElfSource) (name : List ℕ) (image : ImageParts) (files : Option Files) (asked : List (List ℕ)) (before after : ℕ) → source.full ≡ false → AnswersJudged answer judged → IfOk judged (λ j. JudgesParts j source.full (module_name source.elf) image)
    → AnswersImage answer (then_sup source name image) source files asked before after
plain_answered answer judged source name image files asked before after fails is says =
    same_image answer (λ f. Ok image) (then_sup source name image) source files asked before after (λ f. cond-false _ _ _ fails) (image_alone answer judged source image files asked before after is says)

-- An image, given its link.
linked_is : (source : ElfSource) (name : List ℕ) (image : ImageParts) (found : Result (Option SupLink) SupFault) (f : Files) → source.full ≡ true → sup_link image ≡ found → then_sup source name image f ≡ with_link source name image found f
linked_is source name image found f holds is = cond-true _ _ _ holds ∙ ap (λ (r : Result (Option SupLink) SupFault). with_link source name image r f) is

pub alone_answered : {F : Type 0} (answer : Answer) (judged : Result Judgement F) (source : ElfSource) (name : List ℕ) (image : ImageParts) (files : Option Files) (asked : List (List ℕ)) (before after : ℕ) → source.full ≡ true → sup_link image ≡ Ok None → AnswersJudged answer judged → IfOk judged (λ j. JudgesParts j source.full (module_name source.elf) image)
    → AnswersImage answer (then_sup source name image) source files asked before after
alone_answered answer judged source name image files asked before after holds none is says =
    same_image answer (λ f. Ok image) (then_sup source name image) source files asked before after (λ f. linked_is source name image (Ok None) f holds none) (image_alone answer judged source image files asked before after is says)

pub link_answered : (answer : Answer) (source : ElfSource) (name : List ℕ) (image : ImageParts) (link : SupLink) (files : Option Files) (asked : List (List ℕ)) (before after : ℕ) → source.full ≡ true → sup_link image ≡ Ok (Some link) → AnswersImage answer (then_path (with_sup_file source.full image link) (sup_place source.debug name link)) source files asked before after
    → AnswersImage answer (then_sup source name image) source files asked before after
link_answered answer source name image link files asked before after holds some says =
    same_image answer (then_path (with_sup_file source.full image link) (sup_place source.debug name link)) (then_sup source name image) source files asked before after (λ f. linked_is source name image (Ok (Some link)) f holds some) says

pub link_refused : {F : Type 0} (answer : Answer) (made : Result (List ℕ) F) (source : ElfSource) (name : List ℕ) (image : ImageParts) (fault : SupFault) (files : Option Files) (asked : List (List ℕ)) (before after : ℕ) → source.full ≡ true → sup_link image ≡ Err fault → IfOk made (λ text. text ≡ sup_line fault) → AnswersMade answer made
    → AnswersImage answer (then_sup source name image) source files asked before after
link_refused answer made source name image fault files asked before after holds bad same says =
    line_answered answer made (sup_line fault) (then_sup source name image) source files asked before after (λ f. linked_is source name image (Err fault) f holds bad) same says

-- The name that is asked for.
named_is : (source : ElfSource) (name : List ℕ) (image : ImageParts) (found : Result (Option SupLink) SupFault) → source.full ≡ true → sup_link image ≡ found → sup_names source name image ≡ link_names source name found
named_is source name image found holds is = cond-true _ _ _ holds ∙ ap (link_names source name) is

pub plain_asked : (answer : Answer) (source : ElfSource) (name : List ℕ) (image : ImageParts) (before after : List (List ℕ)) → source.full ≡ false → after ≡ before → AsksAll answer (sup_names source name image) before after
plain_asked answer source name image before after fails same = subst (λ names. AsksAll answer names before after) (sym (cond-false _ _ _ fails)) (none_all answer before after same)

pub alone_asked : (answer : Answer) (source : ElfSource) (name : List ℕ) (image : ImageParts) (before after : List (List ℕ)) → source.full ≡ true → sup_link image ≡ Ok None → after ≡ before → AsksAll answer (sup_names source name image) before after
alone_asked answer source name image before after holds none same = subst (λ names. AsksAll answer names before after) (sym (named_is source name image (Ok None) holds none)) (none_all answer before after same)

pub link_asked : (answer : Answer) (source : ElfSource) (name : List ℕ) (image : ImageParts) (link : SupLink) (before after : List (List ℕ)) → source.full ≡ true → sup_link image ≡ Ok (Some link) → AsksAll answer (path_names (sup_place source.debug name link)) before after → AsksAll answer (sup_names source name image) before after
link_asked answer source name image link before after holds some asked = subst (λ names. AsksAll answer names before after) (sym (named_is source name image (Ok (Some link)) holds some)) asked

pub bad_link_asked : (answer : Answer) (source : ElfSource) (name : List ℕ) (image : ImageParts) (fault : SupFault) (before after : List (List ℕ)) → source.full ≡ true → sup_link image ≡ Err fault → after ≡ before → AsksAll answer (sup_names source name image) before after
bad_link_asked answer source name image fault before after holds bad same = subst (λ names. AsksAll answer names before after) (sym (named_is source name image (Err fault) holds bad)) (none_all answer before after same)
