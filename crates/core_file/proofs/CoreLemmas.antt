-- The faults of a core file in their order, and the parts of a core.
use Rattle.std.proofs.Common.{◌≡◌, ℕ, ◌+◌, ◌<◌, Bool, true, false, List, [], ◌∷◌, ◌^◌, zero, suc, Option, None, Some, length, take, find, refl, sym, ◌∙◌, ap, arith, if◌then◌else◌}
use Rattle.std.specs.Prelude.{not, position, map, filter, min, nat_lt, ◌||◌}
use Rattle.std.proofs.lemmas.Bool.{lt-ltb}
use Rattle.std.proofs.lemmas.Bool.Decides.{nat_tests}
use Rattle.std.proofs.lemmas.List.{length-take, length-map}
use Rattle.std.specs.List.{list_any}
use Rattle.std.specs.Option.{option_map, option_map_or}
use Rattle.elf_sections.specs.FileHeader.{header_of}
use Rattle.elf_sections.specs.Notes.{NoteParts}
use Rattle.core_file.specs.declared.fault.CoreFault.{CoreFault}
use Rattle.core_file.specs.declared.fault.CoreFault.TheVariants.{BadSegment, BadNote, NoThread}
use Rattle.std.specs.Prelude.{Err}
use Rattle.sym_edges.specs.declared.fault.Stop.{Stop}
use Rattle.sym_edges.specs.declared.fault.Stop.TheVariants.{Fault, NoMemory}
use Rattle.sym_edges.specs.Outside.{MatchStop}
use Rattle.core_file.proofs.SegmentLemmas.{length_segments}
use Rattle.core_file.specs.CoreHeader.{header_fault}
use Rattle.core_file.specs.Segments.{segments, segments_from, is_bad, segment_fault}
use Rattle.core_file.specs.CoreNotes.{is_prstatus, is_files, has_bad_note, note_fault, all_notes}
use Rattle.core_file.specs.Threads.{thread_of, threads_in}
use Rattle.core_file.specs.MappedFiles.{files_of, files_in}
use Rattle.core_file.specs.Core.{has_no_thread, core_fault, memory_of, parts_upto}
use Rattle.core_file.specs.internal.Gathering.{Gathered, gathered, threads_of, first_files}
use Rattle.std.specs.Prelude.{is_some}
use Rattle.std.specs.Ordering.{nat_cmp}
use Rattle.std.specs.BTreeSet.{contains}
use Rattle.step_maps.specs.Stepping.{Stepping, value_at}
use Rattle.step_maps.specs.Covers.{AreStretches, reaches, first_item}
use Rattle.step_maps.specs.declared.stretch.Stretch.{Stretch}
use Rattle.step_maps.specs.declared.stretch.FirstItem.{FirstItem}
use Rattle.core_file.specs.declared.segments.Segment.{Segment}
use Rattle.core_file.specs.declared.threads.Thread.{Thread}
use Rattle.core_file.specs.declared.modules.Module.{Module}
use Rattle.core_file.specs.declared.modules.Listing.{Listing}
use Rattle.core_file.specs.Memory.{Memory}
use Rattle.core_file.specs.Modules.{is_own_page, modules_from, modules_in}
use Rattle.core_file.specs.Code.{has_code, is_code}
use Rattle.core_file.specs.internal.Listings.{IsListing}
use Rattle.core_file.specs.internal.CodeMaps.{IsCodeMap, files_by}
use Rattle.core_file.proofs.CodeLemmas.{first_some}

pub fault_header : (file : List ℕ) (fault : CoreFault) → header_fault file ≡ Some fault → core_fault file ≡ Some fault
unfolding core_fault
fault_header file fault is = rw is refl

pub segments_are : (file : List ℕ) (table count : ℕ) → table ≡ (header_of file).program_table → count ≡ (header_of file).program_count → segments_from file table count ≡ segments file
unfolding segments
segments_are file table count tables counts = rw (tables, counts) refl

pub few_segments : (file : List ℕ) (table count : ℕ) → count < 2 ^ 16 → length (segments_from file table count) < 2 ^ 16
few_segments file table count few = omega (arith, length_segments file table count)

pub header_stop : {A B : Type 0} (file : List ℕ) (stop : Stop CoreFault) (P : A → Type 0) (Q : B → Type 0) → MatchStop (Err stop) P (λ fault. header_fault file ≡ Some fault) (Unit {0}) → MatchStop (Err stop) Q (λ fault. core_fault file ≡ Some fault) (Unit {0})
header_stop file (Fault fault) P Q is = fault_header file fault is
header_stop file NoMemory P Q is = tt

pub fault_segment : (file : List ℕ) (index : ℕ) → header_fault file ≡ None → position (is_bad file) (segments file) ≡ Some index → core_fault file ≡ Some (BadSegment index)
unfolding core_fault segment_fault
fault_segment file index header is = rw (header, is) refl

pub fault_note : (file : List ℕ) (index : ℕ) → header_fault file ≡ None → position (is_bad file) (segments file) ≡ None → position (has_bad_note file) (segments file) ≡ Some index → core_fault file ≡ Some (BadNote index)
unfolding core_fault segment_fault note_fault
fault_note file index header fine is = rw (header, fine, is) refl

last_fault : (file : List ℕ) (b : Bool) → header_fault file ≡ None → position (is_bad file) (segments file) ≡ None → position (has_bad_note file) (segments file) ≡ None → has_no_thread file ≡ b → core_fault file ≡ (if b then Some NoThread else None)
unfolding core_fault segment_fault note_fault
last_fault file b header fine whole is = rw (header, fine, whole, is) refl

-- The threads among notes.
any_by : (b : Bool) (n : ℕ) → (b || nat_lt 0 n) ≡ nat_lt 0 (if b then n + 1 else n)
any_by true n = sym (lt-ltb 0 (n + 1) (omega arith))
any_by false n = refl

length_by : {X : Type 0} (b : Bool) (x : X) (xs : List X) → length (if b then x ∷ xs else xs) ≡ (if b then length xs + 1 else length xs)
length_by true x xs = omega arith
length_by false x xs = refl

any_is : {X : Type 0} (p : X → Bool) (xs : List X) → list_any p xs ≡ nat_lt 0 (length (filter p xs))
any_is p [] = refl
any_is p (x ∷ xs) =
    ap (λ b. p x || b) (any_is p xs) ∙ any_by (p x) (length (filter p xs)) ∙ sym (ap (nat_lt 0) (length_by (p x) x (filter p xs)))

found_by : {X : Type 0} (limit : ℕ) (xs : List X) (n : ℕ) → 0 < limit → n ≡ min limit (length xs) → nat_lt 0 (length xs) ≡ nat_lt 0 n
found_by limit xs n some is = grind (arith, nat_tests)

-- The core has no thread if and only if none was gathered.
pub none_found : (limit : ℕ) (file : List ℕ) (n : ℕ) → 0 < limit → n ≡ length (threads_in limit (all_notes file (segments file))) → has_no_thread file ≡ not (nat_lt 0 n)
unfolding threads_in has_no_thread
none_found limit file n some is =
    let notes = all_notes file (segments file) in
    ap not (any_is is_prstatus notes ∙ found_by limit (filter is_prstatus notes) n some
    (is ∙ length-take limit (map (λ note. thread_of note.descriptor) (filter is_prstatus notes)) ∙ ap (min limit) (length-map (filter is_prstatus notes) (λ note. thread_of note.descriptor))))

pub fault_thread : (limit : ℕ) (file : List ℕ) (n : ℕ) → header_fault file ≡ None → position (is_bad file) (segments file) ≡ None → position (has_bad_note file) (segments file) ≡ None → 0 < limit → n ≡ length (threads_in limit (all_notes file (segments file))) → n ≡ 0 → core_fault file ≡ Some NoThread
fault_thread limit file n header fine whole some is none =
    last_fault file true header fine whole (none_found limit file n some is ∙ ap (λ k. not (nat_lt 0 k)) none)

pub no_fault : (limit : ℕ) (file : List ℕ) (n : ℕ) → header_fault file ≡ None → position (is_bad file) (segments file) ≡ None → position (has_bad_note file) (segments file) ≡ None → 0 < limit → n ≡ length (threads_in limit (all_notes file (segments file))) → 0 < n → core_fault file ≡ None
no_fault limit file n header fine whole some is found =
    last_fault file false header fine whole (none_found limit file n some is ∙ ap not (lt-ltb 0 n found))

-- The threads and files that are gathered over all notes.
pub all_threads : (limit : ℕ) (a : Gathered) (notes : List NoteParts) → a.threads ≡ [] → (gathered limit a notes).threads ≡ threads_in limit notes
unfolding gathered threads_of threads_in
all_threads limit a notes none = rw none refl

pub all_files : (limit : ℕ) (a : Gathered) (notes : List NoteParts) → a.files ≡ None → (gathered limit a notes).files ≡ first_files notes
unfolding gathered
all_files limit a notes none = rw none refl

files_map : (o : Option NoteParts) → option_map_or (λ note. files_of note.descriptor) o [] ≡ files_by (option_map (λ (note : NoteParts). note.descriptor) o)
files_map None = refl
files_map (Some note) = refl

pub files_are : (notes : List NoteParts) → files_in notes ≡ files_by (first_files notes)
unfolding files_in first_files
files_are notes = files_map (find is_files notes)

take_none : (limit : ℕ) → let none : List Module = [] in none ≡ take limit none
take_none zero = refl
take_none (suc n) = refl

-- Without a note of mapped files there is no module.
pub no_modules : (limit : ℕ) (memory : Memory) (files : Option (List ℕ)) → files ≡ None → [] ≡ modules_in limit memory (files_by files)
unfolding modules_in modules_from
no_modules limit memory files none = rw none (take_none limit)

or_none : (b : Bool) → b ≡ (b || false)
or_none true = refl
or_none false = refl

-- There is no module yet.
pub first_listing : (memory : Memory) (l : Listing) (before : List Stretch) → l.modules.items ≡ [] → before ≡ [] → ((a : ℕ) → contains nat_cmp l.pages a ≡ false) → AreStretches l.code.items → ((a : ℕ) → a < 2 ^ 64 → list_any (λ s. reaches s a) l.code.items ≡ (list_any (λ s. reaches s a) before || list_any (has_code a) memory.segments)) → IsListing memory l
unfolding is_own_page is_code
first_listing memory l before none empty pages some code = record {
  pages = λ a. rw none (pages a);
  code = λ a below. rw none (code a below ∙ rw empty (or_none (list_any (has_code a) memory.segments)));
  some = some;
}

-- The step map of first stretches has a value where the address is code.
pub code_map : (memory : Memory) (l : Listing) (steps : Stepping (Option FirstItem)) → IsListing memory l → ((a : ℕ) → a < 2 ^ 64 → value_at None steps a ≡ first_item l.code.items a) → IsCodeMap memory l.modules.items steps
code_map memory l steps listing is a below = ap is_some (is a below) ∙ first_some l.code.items a ∙ listing.code a below

pub parts_are : (limit : ℕ) (file : List ℕ) (memory : Memory) (threads : List Thread) (modules : List Module) (files : Option (List ℕ)) → memory ≡ memory_of file → threads ≡ threads_in limit (all_notes file (segments file)) → files ≡ first_files (all_notes file (segments file)) → modules ≡ modules_in limit memory (files_by files) → record { memory = memory; threads = threads; modules = modules } ≡ parts_upto limit file
unfolding parts_upto
parts_are limit file memory threads modules files memories thread note listed =
    rw (listed, thread, memories, note, ← files_are (all_notes file (segments file))) refl

-- The threads that were gathered from the segments.
pub found_threads : (limit : ℕ) (file : List ℕ) (segs : List Segment) (a b : Gathered) → segs ≡ segments file → a.threads ≡ [] → b ≡ gathered limit a (all_notes file segs) → b.threads ≡ threads_in limit (all_notes file (segments file))
found_threads limit file segs a b same none is =
    ap (λ (g : Gathered). g.threads) is ∙ all_threads limit a (all_notes file segs) none ∙ ap (λ l. threads_in limit (all_notes file l)) same

pub found_files : (limit : ℕ) (file : List ℕ) (segs : List Segment) (a b : Gathered) → segs ≡ segments file → a.files ≡ None → b ≡ gathered limit a (all_notes file segs) → b.files ≡ first_files (all_notes file (segments file))
found_files limit file segs a b same none is =
    ap (λ (g : Gathered). g.files) is ∙ all_files limit a (all_notes file segs) none ∙ ap (λ l. first_files (all_notes file l)) same

pub memory_is : (file : List ℕ) (memory : Memory) (segs : List Segment) → memory ≡ record { file = file; segments = segs } → segs ≡ segments file → memory ≡ memory_of file
unfolding memory_of
memory_is file memory segs is same = is ∙ rw same refl
