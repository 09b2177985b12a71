-- Entries of the tables: an entry takes some bytes, and an entry of version 5 is read pair by pair.
use Rattle.std.proofs.Common.{◌≡◌, ◌≤◌, ◌<◌, ℕ, ◌+◌, ◌-◌, ◌==◌, Bool, cond, true, false, List, [], ◌∷◌, ◌++◌, length, get_or, drop, Option, Some, None, Result, Ok, Err, refl, sym, ◌∙◌, ap, arith}
use Rattle.std.specs.List.{find}
use Rattle.std.specs.Option.{option_map, option_or}
use Rattle.std.proofs.lemmas.List.{drop_more, drop_all}
use Rattle.sym_edges.specs.Results.{◌>>=◌}
use Rattle.leb_cursor.specs.Ahead.{Ahead}
use Rattle.leb_cursor.specs.Lists.{list_at, list_cases, GoesOn}
use Rattle.leb_cursor.specs.Readings.{uleb_at, text_at}
use Rattle.leb_cursor.proofs.ListLemmas.{goes_of, list_follows, behind as done_behind, none_behind, list_more, list_ends, list_refused, shorter_by}
use Rattle.leb_cursor.proofs.PassLemmas.{uleb_passes, text_passes, passes_then}
use Rattle.abbrev_units.specs.declared.value.Value.{Value}
use Rattle.abbrev_units.specs.DebugSections.{DebugSections}
use Rattle.line_program.specs.declared.entry_format.EntryFormat.{EntryFormat}
use Rattle.line_program.specs.Faults.{Fault, in_line}
use Rattle.line_program.specs.FileFields.{FileFields}
use Rattle.line_program.specs.Opcodes.{file_behind}
use Rattle.line_program.specs.FileTables.{old_entry_at, pair_at, value_at, Content, values_at, content_of, entry_of, entry_at}
use Rattle.line_program.specs.Lists.{several_at}
use Rattle.line_program.proofs.ListLemmas.{several_more, several_cut, several_out}
use Rattle.line_program.proofs.GoingLemmas.{line_passes, Goes, either, stays, behind}

file_passes : (path : List ℕ) (c : Ahead) → Goes c (file_behind path c)
unfolding file_behind
file_passes path c =
    behind 1 c (in_line (uleb_at c)) _ (line_passes 1 c (uleb_at c) (uleb_passes c))
    (λ directory. behind 1 directory.1 (in_line (uleb_at directory.1)) _ (line_passes 1 directory.1 (uleb_at directory.1) (uleb_passes directory.1))
    (λ time. behind 1 time.1 (in_line (uleb_at time.1)) _ (line_passes 1 time.1 (uleb_at time.1) (uleb_passes time.1))
    (λ size. stays _ size.1)))

pub old_entry_goes : (of_files : Bool) (c : Ahead) → GoesOn c (old_entry_at of_files c)
unfolding old_entry_at
old_entry_goes of_files c =
    goes_of (old_entry_at of_files c) c
    (passes_then (in_line (text_at c)) _ 1 0 c (line_passes 1 c (text_at c) (text_passes c))
    (λ path. (either (length path.0 == 0) path.1 _ _ (stays None path.1)
    (either of_files path.1 _ _ (behind 0 path.1 (file_behind path.0 path.1) _ (file_passes path.0 path.1).passes (λ file. stays (Some file.0) file.1))
    (stays (Some _) path.1))).passes))

pub old_entries_follow : (of_files : Bool) (c : Ahead) → list_at (old_entry_at of_files) c ≡ list_cases (old_entry_at of_files) c
old_entries_follow of_files c = list_follows (old_entry_at of_files) (old_entry_goes of_files) c

-- An entry made of the values that were kept so far and those that are still to be read.
abbrev pub entry_from : DebugSections → Option Value → Option Value → Result (List Content × Ahead) Fault → Result (FileFields × Ahead) Fault
entry_from sections path directory values =
    values >>= λ later. Ok (entry_of sections (option_or path (content_of 1 later.0)) (option_or directory (content_of 2 later.0)), later.1)

pub entry_begins : (sections : DebugSections) (pairs : List EntryFormat) (wide : Bool) (c : Ahead) → entry_from sections None None (values_at (drop 0 pairs) wide c) ≡ entry_at sections pairs wide c
unfolding entry_at
entry_begins sections pairs wide c = refl

abbrev pub kept_by : Option Value → ℕ → ℕ → Value → Option Value
kept_by kept content of value = option_or kept (cond (of == content) (Some value) None)

found_by : (t : Bool) (kept : Option Value) (x : Content) (later : Option Content) → option_or kept (option_map (λ v. v.value) (cond t (Some x) later)) ≡ option_or (option_or kept (cond t (Some x.value) None)) (option_map (λ v. v.value) later)
found_by t (Some value) x later = refl
found_by true None x later = refl
found_by false None x later = refl

content_step : (kept : Option Value) (content : ℕ) (x : Content) (later : List Content) → option_or kept (content_of content (x ∷ later)) ≡ option_or (kept_by kept content x.content x.value) (content_of content later)
unfolding content_of
content_step kept content x later = found_by (x.content == content) kept x (find (λ v. v.content == content) later)

pub entry_step : (sections : DebugSections) (path directory : Option Value) (x : Content) (later : Result (List Content × Ahead) Fault) → entry_from sections path directory (later >>= λ values. Ok (x ∷ values.0, values.1)) ≡ entry_from sections (kept_by path 1 x.content x.value) (kept_by directory 2 x.content x.value) later
entry_step sections path directory x (Ok values) =
    ap (λ p. Ok (entry_of sections p (option_or directory (content_of 2 (x ∷ values.0))), values.1)) (content_step path 1 x values.0)
    ∙ ap (λ d. Ok (entry_of sections (option_or (kept_by path 1 x.content x.value) (content_of 1 values.0)) d, values.1)) (content_step directory 2 x values.0)
entry_step sections path directory x (Err fault) = refl

turn : (pairs : List EntryFormat) (i : ℕ) (pair d : EntryFormat) (wide : Bool) (c : Ahead) → i < length pairs → pair ≡ get_or pairs i d → values_at (drop i pairs) wide c ≡ (value_at wide pair.form c >>= λ value. values_at (drop (i + 1) pairs) wide value.1 >>= λ later. Ok (record { content = pair.content; value = value.0 } ∷ later.0, later.1))
unfolding values_at
turn pairs i pair d wide c inside at =
    ap (λ l. values_at l wide c) (drop_more pairs i d inside)
    ∙ ap (λ (p : EntryFormat). value_at wide p.form c >>= λ value. values_at (drop (i + 1) pairs) wide value.1 >>= λ later. Ok (record { content = p.content; value = value.0 } ∷ later.0, later.1)) (sym at)

pub entry_more : (sections : DebugSections) (pairs : List EntryFormat) (i : ℕ) (pair d : EntryFormat) (wide : Bool) (c later : Ahead) (value : Value) (path directory next_path next_directory : Option Value)
    → i < length pairs → pair ≡ get_or pairs i d → Ok (value, later) ≡ value_at wide pair.form c
    → next_path ≡ kept_by path 1 pair.content value → next_directory ≡ kept_by directory 2 pair.content value
    → entry_from sections path directory (values_at (drop i pairs) wide c) ≡ entry_from sections next_path next_directory (values_at (drop (i + 1) pairs) wide later)
entry_more sections pairs i pair d wide c later value path directory next_path next_directory inside at is is_path is_directory =
    ap (entry_from sections path directory) (turn pairs i pair d wide c inside at ∙ ap (λ r. r >>= λ v. values_at (drop (i + 1) pairs) wide v.1 >>= λ l. Ok (record { content = pair.content; value = v.0 } ∷ l.0, l.1)) (sym is))
    ∙ entry_step sections path directory (record { content = pair.content; value = value }) (values_at (drop (i + 1) pairs) wide later)
    ∙ ap (λ p. entry_from sections p (kept_by directory 2 pair.content value) (values_at (drop (i + 1) pairs) wide later)) (sym is_path)
    ∙ ap (λ d. entry_from sections next_path d (values_at (drop (i + 1) pairs) wide later)) (sym is_directory)

pub entry_cut : (sections : DebugSections) (pairs : List EntryFormat) (i : ℕ) (pair d : EntryFormat) (wide : Bool) (c : Ahead) (fault : Fault) (path directory : Option Value) → i < length pairs → pair ≡ get_or pairs i d → Err fault ≡ value_at wide pair.form c → entry_from sections path directory (values_at (drop i pairs) wide c) ≡ Err fault
entry_cut sections pairs i pair d wide c fault path directory inside at is =
    ap (entry_from sections path directory) (turn pairs i pair d wide c inside at ∙ ap (λ r. r >>= λ v. values_at (drop (i + 1) pairs) wide v.1 >>= λ l. Ok (record { content = pair.content; value = v.0 } ∷ l.0, l.1)) (sym is))

or_none : (kept : Option Value) (content : ℕ) → option_or kept (content_of content []) ≡ kept
unfolding content_of
or_none None content = refl
or_none (Some value) content = refl

pub entry_ends : (sections : DebugSections) (pairs : List EntryFormat) (i : ℕ) (wide : Bool) (c : Ahead) (path directory : Option Value) → length pairs ≤ i → entry_from sections path directory (values_at (drop i pairs) wide c) ≡ Ok (entry_of sections path directory, c)
unfolding values_at
entry_ends sections pairs i wide c path directory all =
    ap (λ l. entry_from sections path directory (values_at l wide c)) (drop_all i pairs all)
    ∙ ap (λ p. Ok (entry_of sections p (option_or directory (content_of 2 [])), c)) (or_none path 1)
    ∙ ap (λ d. Ok (entry_of sections path d, c)) (or_none directory 2)

-- A list of versions 2 to 4, read one entry after another.
pub list_begins : (of_files : Bool) (done : List FileFields) (c : Ahead) → done ≡ [] → done_behind done (list_at (old_entry_at of_files) c) ≡ list_at (old_entry_at of_files) c
list_begins of_files done c none = none_behind done (list_at (old_entry_at of_files) c) none

pub list_one : (of_files : Bool) (done more : List FileFields) (entry : FileFields) (c later : Ahead) → Ok (Some entry, later) ≡ old_entry_at of_files c → more ≡ done ++ entry ∷ [] → done_behind done (list_at (old_entry_at of_files) c) ≡ done_behind more (list_at (old_entry_at of_files) later)
list_one of_files done more entry c later is added = list_more (old_entry_at of_files) (old_entry_goes of_files) done more entry c later is added

pub list_done : (of_files : Bool) (done : List FileFields) (c later : Ahead) → Ok (None, later) ≡ old_entry_at of_files c → done_behind done (list_at (old_entry_at of_files) c) ≡ Ok (done, later)
list_done of_files done c later is = list_ends (old_entry_at of_files) (old_entry_goes of_files) done c later is

pub list_cut : (of_files : Bool) (done : List FileFields) (c : Ahead) (fault : Fault) → Err fault ≡ old_entry_at of_files c → done_behind done (list_at (old_entry_at of_files) c) ≡ Err fault
list_cut of_files done c fault is = list_refused (old_entry_at of_files) (old_entry_goes of_files) done c fault is

pub list_shorter : (of_files : Bool) (entry : FileFields) (c later : Ahead) → Ok (Some entry, later) ≡ old_entry_at of_files c → length later.bytes < length c.bytes
list_shorter of_files entry c later is = shorter_by (old_entry_at of_files c) entry c later (old_entry_goes of_files c) is

-- The pairs of a format, read one after another.
pub pairs_begin : (n : ℕ) (done : List EntryFormat) (c : Ahead) → done ≡ [] → done_behind done (several_at pair_at (n - 0) c) ≡ several_at pair_at n c
pairs_begin n done c none = none_behind done (several_at pair_at (n - 0) c) none ∙ ap (λ k. several_at pair_at k c) (let same : n - 0 ≡ n = omega arith in same)

pub pairs_one : (n less : ℕ) (done more : List EntryFormat) (pair : EntryFormat) (c later : Ahead) → n ≡ less + 1 → Ok (pair, later) ≡ pair_at c → more ≡ done ++ pair ∷ [] → done_behind done (several_at pair_at n c) ≡ done_behind more (several_at pair_at less later)
pairs_one n less done more pair c later count is added = several_more pair_at n less done more pair c later count is added

pub pairs_done : (n : ℕ) (done : List EntryFormat) (c : Ahead) → n ≡ 0 → done_behind done (several_at pair_at n c) ≡ Ok (done, c)
pairs_done n done c none = several_out pair_at n done c none

pub pairs_cut : (n : ℕ) (done : List EntryFormat) (c : Ahead) (fault : Fault) → 0 < n → Err fault ≡ pair_at c → done_behind done (several_at pair_at n c) ≡ Err fault
pairs_cut n done c fault some is = several_cut pair_at n (n - 1) done c fault (omega arith) is

-- Entries of version 5, read one after another.
pub entries_begin : (sections : DebugSections) (pairs : List EntryFormat) (wide : Bool) (n : ℕ) (done : List FileFields) (c : Ahead) → done ≡ [] → done_behind done (several_at (entry_at sections pairs wide) (n - 0) c) ≡ several_at (entry_at sections pairs wide) n c
entries_begin sections pairs wide n done c none = none_behind done (several_at (entry_at sections pairs wide) (n - 0) c) none ∙ ap (λ k. several_at (entry_at sections pairs wide) k c) (let same : n - 0 ≡ n = omega arith in same)

pub entries_one : (sections : DebugSections) (pairs : List EntryFormat) (wide : Bool) (n less : ℕ) (done more : List FileFields) (entry : FileFields) (c later : Ahead) → n ≡ less + 1 → Ok (entry, later) ≡ entry_at sections pairs wide c → more ≡ done ++ entry ∷ [] → done_behind done (several_at (entry_at sections pairs wide) n c) ≡ done_behind more (several_at (entry_at sections pairs wide) less later)
entries_one sections pairs wide n less done more entry c later count is added = several_more (entry_at sections pairs wide) n less done more entry c later count is added

pub entries_done : (sections : DebugSections) (pairs : List EntryFormat) (wide : Bool) (n : ℕ) (done : List FileFields) (c : Ahead) → n ≡ 0 → done_behind done (several_at (entry_at sections pairs wide) n c) ≡ Ok (done, c)
entries_done sections pairs wide n done c none = several_out (entry_at sections pairs wide) n done c none

pub entries_cut : (sections : DebugSections) (pairs : List EntryFormat) (wide : Bool) (n : ℕ) (done : List FileFields) (c : Ahead) (fault : Fault) → 0 < n → Err fault ≡ entry_at sections pairs wide c → done_behind done (several_at (entry_at sections pairs wide) n c) ≡ Err fault
entries_cut sections pairs wide n done c fault some is = several_cut (entry_at sections pairs wide) n (n - 1) done c fault (omega arith) is
