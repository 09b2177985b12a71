-- Arguments and files have only one verdict.
use Rattle.std.proofs.Common.{◌≡◌, ℕ, Bool, true, false, List, [], ◌++◌, Option, None, Some, Result, Ok, Err, length, nat_lt, if◌then◌else◌, refl, sym, ap, subst, ◌∙◌, zero, suc, inl, inr, arith}
use Rattle.sym_edges.specs.Outside.{Files}
use Rattle.sym_edges.specs.Results.{◌>>=◌}
use Rattle.elf_sections.specs.Image.{ImageParts, parts_of, image_fault, image_by, image, with_sections}
use Rattle.elf_sections.specs.Programs.{base, code}
use Rattle.elf_sections.specs.Sections.{sections}
use Rattle.elf_sections.specs.declared.fault.ElfFault.{ElfFault}
use Rattle.elf_sections.specs.Pair.{paired}
use Rattle.elf_sections.specs.Supplement.{with_sup}
use Rattle.full_image.specs.FullImage.{full_sections, full_fault, full_image, any_image}
use Rattle.full_image.specs.SupImage.{sup_image}
use Rattle.debug_pair.specs.Pairing.{pair_fault, pair_by, pair_of}
use Rattle.debug_pair.specs.SupLink.{SupLink, sup_link, is_of_link}
use Rattle.debug_pair.specs.declared.fault.PairFault.{PairFault}
use Rattle.debug_pair.specs.declared.fault.SupFault.{SupFault}
use Rattle.debug_pair.specs.declared.fault.SupFault.TheVariants.{BuildId}
use Rattle.sym_records.specs.Canon.{canon_text}
use Rattle.sym_records.specs.declared.line.SymLine.{SymLine}
use Rattle.debug_read.specs.declared.fault.DebugFault.{DebugFault}
use Rattle.debug_read.specs.DebugSays.{DebugSays, debug_says}
use Rattle.debug_read.specs.Each.{Match}
use Rattle.dumpsyms_cmd.specs.Words.{Asked, dump, command_of, module_name, sample, judge}
use Rattle.dumpsyms_cmd.specs.commands.Dump.{identity_lines, public_lines, frame_lines, CanonFile}
use Rattle.dumpsyms_cmd.specs.Verdict.{Verdict, refused, LIMIT}
use Rattle.dumpsyms_cmd.specs.Refusals.{elf_line, debug_elf_line, pair_line, sup_elf_line, sup_line}
use Rattle.dumpsyms_cmd.specs.ElfInput.{DebugFile, ElfSource, or_refused, unless_longer, file_by, file_image, elf_image, path_of, sup_place, joined, with_sup_file, then_path, with_link, then_link, file_pair, with_file, with_debug, then_debug, given_image}
use Rattle.dumpsyms_cmd.specs.commands.Dump.{left_out, GivesText, IsDebugVerdict, IsDumpVerdict, IsSourceVerdict}
use Rattle.dumpsyms_cmd.specs.commands.Sample.{counts_line, IsCountsVerdict, IsImageCounts}
use Rattle.dumpsyms_cmd.specs.commands.Judge.{ruling_verdict, IsReadVerdict, IsSymVerdict, IsTextVerdict, IsDumpedVerdict, IsJudgeVerdict}
use Rattle.sym_rules.specs.declared.text_fault.TextFault.{TextFault}
use Rattle.sym_records.specs.Reading.{reading}
use Rattle.sym_grammar.specs.Input.{file_reading}
use Rattle.sym_grammar.specs.declared.refusal.SymRefusal.{SymRefusal}
use Rattle.sym_judge.specs.Alike.{first_unlike}
use Rattle.sym_judge.specs.Rulings.{IsRuling}
use Rattle.sym_judge.specs.declared.ruling.Aspect.{Aspect}
use Rattle.sym_judge.specs.declared.ruling.Ruling.{Ruling}
use Rattle.sym_judge.specs.declared.ruling.Ruling.TheVariants.{Yes, No}
use Rattle.std.proofs.lemmas.Bool.{cases_lt}
use Rattle.dumpsyms_cmd.specs.Answers.{IsVerdict}
use Rattle.rule_postfix.specs.Written.{omitted}
use Rattle.sample_elf.specs.Made.{made}
use Rattle.worked.specs.Runs.{AskAlike, by_one_worker}
use Rattle.worked.proofs.OneUnits.{EndBelow, code_below, small_units}
use Rattle.debug_read.proofs.SameLemmas.{same_units}
use Rattle.debug_read.specs.SameUnits.{SameUnit}
use Rattle.worked.proofs.OneRecords.{same_pieces, same_records}

-- A file without fault has only one list of records.
one_canon : (parts : ImageParts) (name : List ℕ) (found : DebugSays) (xs ys : List SymLine) → EndBelow parts.code → CanonFile parts name found xs → CanonFile parts name found ys → xs ≡ ys
one_canon parts name found xs ys below p q =
    let same : Match SameUnit p.units q.units = same_units parts.code found.units p.units q.units p.units_are q.units_are in
    let pieces : p.pieces ≡ q.pieces = same_pieces p.units q.units p.pieces q.pieces same p.pieces_are q.pieces_are in
    let functions : p.functions ≡ q.functions
    = same_records parts.base p.units q.units p.pieces q.pieces p.functions q.functions same (small_units parts.code found.units p.units below p.units_are) p.pieces_are q.pieces_are p.functions_are q.functions_are in
    p.whole ∙ (λ i. identity_lines parts name ++ (functions i ++ (public_lines parts (pieces i) ++ frame_lines parts found))) ∙ sym q.whole

abbrev given : Bool → ImageParts → DebugSays → List SymLine → Verdict
given full parts found lines = record { status = 0; out = canon_text lines; err = left_out full parts found }

one_text : (full : Bool) (parts : ImageParts) (name : List ℕ) (found : DebugSays) (v w : Verdict) → EndBelow parts.code → GivesText full parts name found v → GivesText full parts name found w → v ≡ w
one_text full parts name found v w below p q = p.is ∙ ap (given full parts found) (one_canon parts name found p.lines q.lines below p.canon q.canon) ∙ sym q.is

-- Code ends below 2^64.
code_ends : (file : List ℕ) → EndBelow (code file)
unfolding code
code_ends file = code_below (base file) (sections file)

parts_end : (file : List ℕ) → EndBelow (parts_of file).code
unfolding parts_of
parts_end file = code_ends file

made_ends : (fault : Option ElfFault) (made parts : ImageParts) → EndBelow made.code → image_by fault made ≡ Ok parts → EndBelow parts.code
made_ends None made parts below is = (let same : made ≡ parts = cc in subst (λ (p : ImageParts). EndBelow p.code) same below)
made_ends (Some fault) made parts below is = absurd (cc)

image_ends : (file : List ℕ) (parts : ImageParts) → image file ≡ Ok parts → EndBelow parts.code
unfolding image
image_ends file parts is = made_ends (image_fault file) (parts_of file) parts (parts_end file) is

-- Code ends below 2^64 even if compressed sections are read, since these are no code.
full_end : (file : List ℕ) → EndBelow (with_sections (full_sections file) (parts_of file)).code
unfolding with_sections
full_end file = parts_end file

any_ends : (full : Bool) (file : List ℕ) (parts : ImageParts) → any_image full file ≡ Ok parts → EndBelow parts.code
unfolding full_image
any_ends true file parts is = made_ends (full_fault file) (with_sections (full_sections file) (parts_of file)) parts (full_end file) is
any_ends false file parts is = image_ends file parts is

-- Verdict by verdict.
one_debug : (full : Bool) (says : Result DebugSays DebugFault) (parts : ImageParts) (name : List ℕ) (v w : Verdict) → EndBelow parts.code → IsDebugVerdict full says parts name v → IsDebugVerdict full says parts name w → v ≡ w
one_debug full (Err fault) parts name v w below p q = p ∙ sym q
one_debug full (Ok found) parts name v w below p q = one_text full parts name found v w below p q

one_given : (full : Bool) (read : Result ImageParts Verdict) (name : List ℕ) (v w : Verdict) → ((parts : ImageParts) → read ≡ Ok parts → EndBelow parts.code) → IsDumpVerdict full read name v → IsDumpVerdict full read name w → v ≡ w
one_given full (Err ended) name v w below p q = p ∙ sym q
one_given full (Ok parts) name v w below p q = one_debug full (debug_says parts) parts name v w (below parts refl) p q

-- The image that files give has code that ends below 2^64.
read_ends : (line : ElfFault → List ℕ) (read : Result ImageParts ElfFault) (parts : ImageParts) → ((p : ImageParts) → read ≡ Ok p → EndBelow p.code) → or_refused line read ≡ Ok parts → EndBelow parts.code
read_ends line (Ok other) parts below is = (let same : other ≡ parts = cc in subst (λ (p : ImageParts). EndBelow p.code) same (below other refl))
read_ends line (Err fault) parts below is = absurd (cc)

longer_ends : (longer full : Bool) (line : ElfFault → List ℕ) (bytes : List ℕ) (parts : ImageParts) → unless_longer longer (or_refused line (any_image full bytes)) ≡ Ok parts → EndBelow parts.code
longer_ends true full line bytes parts is = absurd (cc)
longer_ends false full line bytes parts is = read_ends line (any_image full bytes) parts (any_ends full bytes) is

file_ends : (full : Bool) (line : ElfFault → List ℕ) (name : List ℕ) (file : Option (List ℕ)) (parts : ImageParts) → file_image full line name file ≡ Ok parts → EndBelow parts.code
file_ends full line name None parts is = absurd (cc)
file_ends full line name (Some bytes) parts is = longer_ends (nat_lt LIMIT (length bytes)) full line bytes parts is

-- The code of a pair is that of the binary.
paired_ends : (binary debug : ImageParts) → EndBelow binary.code → EndBelow (paired binary debug).code
unfolding paired
paired_ends binary debug below = below

fault_ends : (fault : Option PairFault) (binary debug parts : ImageParts) → EndBelow binary.code → or_refused pair_line (pair_by fault (paired binary debug)) ≡ Ok parts → EndBelow parts.code
fault_ends None binary debug parts below is = (let same : paired binary debug ≡ parts = cc in subst (λ (p : ImageParts). EndBelow p.code) same (paired_ends binary debug below))
fault_ends (Some fault) binary debug parts below is = absurd (cc)

debug_ends : (read : Result ImageParts Verdict) (binary parts : ImageParts) → EndBelow binary.code → (read >>= (λ debug. or_refused pair_line (pair_of binary debug))) ≡ Ok parts → EndBelow parts.code
debug_ends (Ok debug) binary parts below is = fault_ends (pair_fault binary.build_id debug.build_id) binary debug parts below is
debug_ends (Err ended) binary parts below is = absurd (cc)

pair_ends : (source : ElfSource) (binary : ImageParts) (path : List ℕ) (files : Files) (parts : ImageParts) → EndBelow binary.code → file_pair source binary path files ≡ Ok parts → EndBelow parts.code
pair_ends source binary path files parts below is = debug_ends (file_image source.full debug_elf_line path (files path)) binary parts below is

-- A supplementary file adds no code.
sup_ends : (image sup : ImageParts) → EndBelow image.code → EndBelow (with_sup image sup).code
unfolding with_sup
sup_ends image sup below = below

same_ends : (image parts : ImageParts) → EndBelow image.code → ◌≡◌ {A = Result ImageParts Verdict} (Ok image) (Ok parts) → EndBelow parts.code
same_ends image parts below is = (let same : image ≡ parts = cc in subst (λ (p : ImageParts). EndBelow p.code) same below)

joined_by : (linked : Bool) (image sup parts : ImageParts) → EndBelow image.code → (if linked then Ok (with_sup image sup) else Err (refused (sup_line BuildId))) ≡ Ok parts → EndBelow parts.code
joined_by true image sup parts below is = same_ends (with_sup image sup) parts (sup_ends image sup below) is
joined_by false image sup parts below is = absurd (cc)

joined_ends : (read : Result ImageParts Verdict) (image : ImageParts) (link : SupLink) (parts : ImageParts) → EndBelow image.code → (read >>= joined image link) ≡ Ok parts → EndBelow parts.code
joined_ends (Ok sup) image link parts below is = joined_by (is_of_link link sup) image sup parts below is
joined_ends (Err ended) image link parts below is = absurd (cc)

sup_file_ends : (full : Bool) (found : Result (List ℕ) Verdict) (image : ImageParts) (link : SupLink) (files : Files) (parts : ImageParts) → EndBelow image.code → then_path (with_sup_file full image link) found files ≡ Ok parts → EndBelow parts.code
sup_file_ends full (Ok path) image link files parts below is = joined_ends (file_by full sup_image sup_elf_line path (files path)) image link parts below is
sup_file_ends full (Err ended) image link files parts below is = absurd (cc)

link_ends : (source : ElfSource) (name : List ℕ) (image : ImageParts) (link : Result (Option SupLink) SupFault) (files : Files) (parts : ImageParts) → EndBelow image.code → with_link source name image link files ≡ Ok parts → EndBelow parts.code
link_ends source name image (Ok None) files parts below is = same_ends image parts below is
link_ends source name image (Ok (Some link)) files parts below is = sup_file_ends source.full (sup_place source.debug name link) image link files parts below is
link_ends source name image (Err fault) files parts below is = absurd (cc)

followed_ends : (full : Bool) (source : ElfSource) (name : List ℕ) (image : ImageParts) (files : Files) (parts : ImageParts) → EndBelow image.code → (if full then with_link source name image (sup_link image) files else Ok image) ≡ Ok parts → EndBelow parts.code
followed_ends true source name image files parts below is = link_ends source name image (sup_link image) files parts below is
followed_ends false source name image files parts below is = same_ends image parts below is

then_ends : (read : Result ImageParts Verdict) (source : ElfSource) (name : List ℕ) (files : Files) (parts : ImageParts) → ((p : ImageParts) → read ≡ Ok p → EndBelow p.code) → then_link source name read files ≡ Ok parts → EndBelow parts.code
then_ends (Ok image) source name files parts below is = followed_ends source.full source name image files parts (below image refl) is
then_ends (Err ended) source name files parts below is = absurd (cc)

path_ends : (source : ElfSource) (found : Result (List ℕ) Verdict) (binary : ImageParts) (files : Files) (parts : ImageParts) → EndBelow binary.code → then_path (with_file source binary) found files ≡ Ok parts → EndBelow parts.code
path_ends source (Ok path) binary files parts below is = then_ends (file_pair source binary path files) source path files parts (λ p. pair_ends source binary path files p below) is
path_ends source (Err ended) binary files parts below is = absurd (cc)

with_ends : (source : ElfSource) (debug : Option DebugFile) (binary : ImageParts) (files : Files) (parts : ImageParts) → EndBelow binary.code → with_debug source debug binary files ≡ Ok parts → EndBelow parts.code
with_ends source None binary files parts below is = followed_ends source.full source source.elf binary files parts below is
with_ends source (Some debug) binary files parts below is = path_ends source (path_of debug binary) binary files parts below is

binary_ends : (read : Result ImageParts Verdict) (source : ElfSource) (files : Files) (parts : ImageParts) → ((p : ImageParts) → read ≡ Ok p → EndBelow p.code) → then_debug source read files ≡ Ok parts → EndBelow parts.code
binary_ends (Ok binary) source files parts below is = with_ends source source.debug binary files parts (below binary refl) is
binary_ends (Err ended) source files parts below is = absurd (cc)

pub one_source : (source : ElfSource) (files : Files) (v w : Verdict) → IsSourceVerdict source files v → IsSourceVerdict source files w → v ≡ w
one_source source files v w p q =
    one_given source.full (given_image source files) (module_name source.elf) v w
    (λ parts is. binary_ends (elf_image source files) source files parts (file_ends source.full elf_line source.elf (files source.elf)) is) p q

-- The counts of a made file.
abbrev counted : ImageParts → DebugSays → List SymLine → Verdict
counted parts found lines = record { status = 0; out = counts_line (length found.units) lines (length (omitted parts.code found.first found.second)); err = [] }

one_counts : (says : Result DebugSays DebugFault) (parts : ImageParts) (v w : Verdict) → EndBelow parts.code → IsCountsVerdict says parts v → IsCountsVerdict says parts w → v ≡ w
one_counts (Err fault) parts v w below p q = p ∙ sym q
one_counts (Ok found) parts v w below p q = p.is ∙ ap (counted parts found) (one_canon parts [] found p.lines q.lines below p.canon q.canon) ∙ sym q.is

one_sample : (read : Result ImageParts ElfFault) (v w : Verdict) → ((parts : ImageParts) → read ≡ Ok parts → EndBelow parts.code) → IsImageCounts read v → IsImageCounts read w → v ≡ w
one_sample (Err fault) v w below p q = p ∙ sym q
one_sample (Ok parts) v w below p q = one_counts (debug_says parts) parts v w (below parts refl) p q

-- Two lists of records have only one ruling.
clash : {P : Type 0} {p : Aspect} → ◌≡◌ {A = Option Aspect} None (Some p) → P
clash is = absurd (cc)

same_address : (own other : List SymLine) (x y : ℕ) (f g : Aspect) → x ≡ y → first_unlike own other x ≡ Some f → first_unlike own other y ≡ Some g → No x f ≡ No y g
same_address own other x y f g same p q =
    let aspects : f ≡ g = some_is (sym p ∙ ap (first_unlike own other) same ∙ q) in
    ap (λ a. No a f) same ∙ ap (λ h. No y h) aspects
  where
    some_is : {a b : Aspect} → ◌≡◌ {A = Option Aspect} (Some a) (Some b) → a ≡ b
    some_is is = cc

pub one_ruling : (own other : List SymLine) (a b : Ruling) → IsRuling own other a → IsRuling own other b → a ≡ b
one_ruling own other Yes Yes p q = refl
one_ruling own other Yes (No x f) p q = clash (sym (p x q.address_fits) ∙ q.differ)
one_ruling own other (No x f) Yes p q = clash (sym (q x p.address_fits) ∙ p.differ)
one_ruling own other (No x f) (No y g) p q = elim (cases_lt x y) [
  | inl below ↦ clash (sym (q.alike_below x below) ∙ p.differ)
  | inr upto ↦ elim (cases_lt y x) [
    | inl above ↦ clash (sym (p.alike_below y above) ∙ q.differ)
    | inr down ↦ same_address own other x y f g (omega arith) p.differ q.differ
  ]
]

one_read : (own : List SymLine) (read : Result (List SymLine) SymRefusal) (v w : Verdict) → IsReadVerdict own read v → IsReadVerdict own read w → v ≡ w
one_read own (Ok other) v w p q = p.is ∙ ap ruling_verdict (one_ruling own other p.ruling q.ruling p.ruling_is q.ruling_is) ∙ sym q.is
one_read own (Err why) v w p q = p ∙ sym q

one_sym : (full : Bool) (name : List ℕ) (own : List SymLine) (bytes : Option (List ℕ)) (v w : Verdict) → IsSymVerdict full name own bytes v → IsSymVerdict full name own bytes w → v ≡ w
one_sym full name own None v w p q = p ∙ sym q
one_sym full name own (Some bytes) v w p q = one_read own (file_reading LIMIT bytes) v w p q

one_own : (full : Bool) (name : List ℕ) (read : Result (List SymLine) TextFault) (bytes : Option (List ℕ)) (v w : Verdict) → IsTextVerdict full name read bytes v → IsTextVerdict full name read bytes w → v ≡ w
one_own full name (Ok own) bytes v w p q = one_sym full name own bytes v w p q
one_own full name (Err fault) bytes v w p q = absurd p

one_dumped : (full : Bool) (name : List ℕ) (status : ℕ) (dumped : Verdict) (bytes : Option (List ℕ)) (v w : Verdict) → IsDumpedVerdict full name status dumped bytes v → IsDumpedVerdict full name status dumped bytes w → v ≡ w
one_dumped full name zero dumped bytes v w p q = one_own full name (reading dumped.out) bytes v w p q
one_dumped full name (suc status) dumped bytes v w p q = p ∙ sym q

one_judged : (source : ElfSource) (name : List ℕ) (files : Files) (v w : Verdict) → IsJudgeVerdict source name files v → IsJudgeVerdict source name files w → v ≡ w
one_judged source name files v w p q =
    let same : p.dumped ≡ q.dumped = one_source source files p.dumped q.dumped p.dumped_is q.dumped_is in
    one_dumped source.full name q.dumped.status q.dumped (files name) v w (subst (λ (d : Verdict). IsDumpedVerdict source.full name d.status d (files name) v) same p.is) q.is

-- A command asks for the same as itself.
alike : (c : Option Asked) → AskAlike c c
alike None = tt
alike (Some c) = refl

-- The number of workers does not matter.
any_workers : (c : Asked) (files : Files) (missed : List (List ℕ)) (v : Verdict) → IsVerdict (Some c) files missed v → IsVerdict (Some (by_one_worker c)) files missed v
any_workers (dump source workers) files missed v is = is
any_workers other files missed v is = is

one_command : (c : Asked) (files : Files) (missed : List (List ℕ)) (v w : Verdict) → IsVerdict (Some c) files missed v → IsVerdict (Some c) files missed w → v ≡ w
one_command (dump source workers) files missed v w p q = one_source source files v w p q
one_command (sample units workers) files missed v w p q = one_sample (image (made units)) v w (image_ends (made units)) p q
one_command (judge source name) files missed v w p q = one_judged source name files v w p q
one_command other files missed v w p q = p ∙ sym q

-- Two commands that ask for the same have one verdict.
pub one_asked : (c d : Option Asked) (files : Files) (missed : List (List ℕ)) (v w : Verdict) → AskAlike c d → IsVerdict c files missed v → IsVerdict d files missed w → v ≡ w
one_asked None None files missed v w same p q = p ∙ sym q
one_asked None (Some d) files missed v w same p q = absurd same
one_asked (Some c) None files missed v w same p q = absurd same
one_asked (Some c) (Some d) files missed v w same p q =
    one_command (by_one_worker d) files missed v w (subst (λ (x : Asked). IsVerdict (Some x) files missed v) same (any_workers c files missed v p)) (any_workers d files missed w q)

-- Arguments and files have only one verdict, also if some files cannot be read.
pub one_verdict : (words : List (List ℕ)) (files : Files) (missed : List (List ℕ)) (v w : Verdict) → IsVerdict (command_of words) files missed v → IsVerdict (command_of words) files missed w → v ≡ w
one_verdict words files missed v w p q = one_asked (command_of words) (command_of words) files missed v w (alike (command_of words)) p q
