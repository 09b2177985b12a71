-- The threads and files that are gathered over notes, one by one.
use Rattle.std.proofs.Common.{◌≡◌, ℕ, zero, suc, ◌+◌, ◌<◌, ◌≤◌, Bool, true, false, List, [], ◌∷◌, ◌++◌, length, take, drop, get_or, refl, sym, ◌∙◌, ap, arith, length-drop, append_assoc}
use Rattle.std.specs.Prelude.{◌==◌, ◌||◌, not, count_by, nat_le, Option, None, Some, find, filter, map, position}
use Rattle.std.proofs.lemmas.List.{get_or-drop, take-append-le, append-nil, take_all}
use Rattle.std.proofs.lemmas.List.Sums.{count_by_more_yes, count_by_more_no}
use Rattle.std.proofs.lemmas.Bool.{eq-eqb, eqb-true, leb-true}
use Rattle.std.specs.Str.{bytes_eq}
use Rattle.std.specs.Option.{option_or, option_map}
use Rattle.std.specs.List.{flat_map}
use Rattle.std.proofs.lemmas.List.{map-append, drop_more, drop_all}
use Rattle.std.proofs.lemmas.List.Elements.{filter-append}
use Rattle.std.proofs.lemmas.List.Folds.{find-append}
use Rattle.core_file.specs.declared.segments.Segment.{Segment}
use Rattle.core_file.specs.Segments.{is_bad}
use Rattle.core_file.proofs.PositionLemmas.{place_no}
use Rattle.elf_sections.specs.Notes.{NoteParts, notes, has_note, note_at, after_note}
use Rattle.core_file.proofs.NoteLemmas.{notes_here}
use Rattle.core_file.specs.CoreNumbers.{core_owner}
use Rattle.core_file.specs.CoreNotes.{is_prstatus, is_files, has_state, has_files, is_whole_note, notes_of, all_notes}
use Rattle.core_file.specs.Threads.{thread_of}
use Rattle.core_file.specs.declared.threads.Thread.{Thread}
use Rattle.core_file.specs.internal.Gathering.{Gathered, gathered, threads_of, first_files}
use Rattle.core_file.proofs.BoolLemmas.{and_right, and_false}

pub zeros_yes : (bytes : List ℕ) (from i : ℕ) → from + i < length bytes → get_or bytes (from + i) 0 ≡ 0 → count_by (λ b. b == 0) (take (i + 1) (drop from bytes)) ≡ count_by (λ b. b == 0) (take i (drop from bytes)) + 1
zeros_yes bytes from i inside is =
    count_by_more_yes (λ b. b == 0) (drop from bytes) i 0 (omega (arith, length-drop from bytes)) (eq-eqb (get_or (drop from bytes) i 0) 0 (get_or-drop from bytes i 0 ∙ is))

pub zeros_no : (bytes : List ℕ) (from i : ℕ) → from + i < length bytes → (get_or bytes (from + i) 0 == 0) ≡ false → count_by (λ b. b == 0) (take (i + 1) (drop from bytes)) ≡ count_by (λ b. b == 0) (take i (drop from bytes))
zeros_no bytes from i inside is =
    count_by_more_no (λ b. b == 0) (drop from bytes) i 0 (omega (arith, length-drop from bytes)) (ap (λ b. b == 0) (get_or-drop from bytes i 0) ∙ is)

pub thread_room : {X : Type 0} (limit : ℕ) (xs more : List X) (x : X) → take limit (xs ++ x ∷ more) ≡ take limit ((xs ++ x ∷ []) ++ more)
thread_room limit xs more x = ap (take limit) (sym (append_assoc xs (x ∷ []) more))

pub thread_full : {X : Type 0} (limit : ℕ) (xs more : List X) (x : X) → limit ≤ length xs → take limit (xs ++ x ∷ more) ≡ take limit (xs ++ more)
thread_full limit xs more x full = take-append-le limit xs (x ∷ more) full ∙ sym (take-append-le limit xs more full)

-- A state of a thread is not a note of mapped files.
state_no_files : (note : NoteParts) → is_prstatus note ≡ true → is_files note ≡ false
unfolding is_prstatus is_files
state_no_files note is =
    let k : note.kind ≡ 1 = eqb-true note.kind 1 (and_right (bytes_eq note.name core_owner) (note.kind == 1) is) in
    rw k (and_false (bytes_eq note.name core_owner))

-- What each type of note requires.
pub whole_state : (note : NoteParts) → is_prstatus note ≡ true → is_whole_note note ≡ nat_le 272 (length note.descriptor)
unfolding is_whole_note has_state
whole_state note is = rw is refl

pub whole_files : (note : NoteParts) → is_prstatus note ≡ false → is_files note ≡ true → is_whole_note note ≡ has_files note.descriptor
unfolding is_whole_note
whole_files note other is = rw (other, is) refl

pub whole_other : (note : NoteParts) → is_prstatus note ≡ false → is_files note ≡ false → is_whole_note note ≡ true
unfolding is_whole_note
whole_other note other none = rw (other, none) refl

first_state : (a : Option (List ℕ)) (note : NoteParts) (more : List NoteParts) → is_files note ≡ false → option_or a (first_files (note ∷ more)) ≡ option_or a (first_files more)
unfolding first_files
first_state a note more none = rw none refl

first_here : (a : Option (List ℕ)) (note : NoteParts) (more : List NoteParts) → is_files note ≡ true → option_or a (first_files (note ∷ more)) ≡ option_or (option_or a (Some note.descriptor)) (first_files more)
unfolding first_files
first_here None note more is = rw is refl
first_here (Some d) note more is = refl

threads_here : (note : NoteParts) (more : List NoteParts) → is_prstatus note ≡ true → threads_of (note ∷ more) ≡ thread_of note.descriptor ∷ threads_of more
unfolding threads_of
threads_here note more is = rw is refl

threads_later : (note : NoteParts) (more : List NoteParts) → is_prstatus note ≡ false → threads_of (note ∷ more) ≡ threads_of more
unfolding threads_of
threads_later note more none = rw none refl

-- A state adds its thread.
pub gathered_state : (limit : ℕ) (a b : Gathered) (note : NoteParts) → is_prstatus note ≡ true → b.files ≡ a.files → ((more : List Thread) → take limit (a.threads ++ thread_of note.descriptor ∷ more) ≡ take limit (b.threads ++ more)) → (more : List NoteParts) → gathered limit a (note ∷ more) ≡ gathered limit b more
unfolding gathered
gathered_state limit a b note is files threads more =
    let t : take limit (a.threads ++ threads_of (note ∷ more)) ≡ take limit (b.threads ++ threads_of more) =
    ap (λ l. take limit (a.threads ++ l)) (threads_here note more is) ∙ threads (threads_of more) in
    let f : option_or a.files (first_files (note ∷ more)) ≡ option_or b.files (first_files more) =
    first_state a.files note more (state_no_files note is) ∙ ap (λ o. option_or o (first_files more)) (sym files) in
    rw (t, f) refl

-- A note of mapped files is kept if it is the first one.
pub gathered_files : (limit : ℕ) (a b : Gathered) (note : NoteParts) → is_prstatus note ≡ false → is_files note ≡ true → b.threads ≡ a.threads → b.files ≡ option_or a.files (Some note.descriptor) → (more : List NoteParts) → gathered limit a (note ∷ more) ≡ gathered limit b more
unfolding gathered
gathered_files limit a b note other is threads files more =
    let t : take limit (a.threads ++ threads_of (note ∷ more)) ≡ take limit (b.threads ++ threads_of more) =
    ap (λ l. take limit (a.threads ++ l)) (threads_later note more other) ∙ ap (λ l. take limit (l ++ threads_of more)) (sym threads) in
    let f : option_or a.files (first_files (note ∷ more)) ≡ option_or b.files (first_files more) =
    first_here a.files note more is ∙ ap (λ o. option_or o (first_files more)) (sym files) in
    rw (t, f) refl

-- A note of another type adds nothing.
pub gathered_other : (limit : ℕ) (a : Gathered) (note : NoteParts) → is_prstatus note ≡ false → is_files note ≡ false → (more : List NoteParts) → gathered limit a (note ∷ more) ≡ gathered limit a more
unfolding gathered
gathered_other limit a note other none more =
    let t : take limit (a.threads ++ threads_of (note ∷ more)) ≡ take limit (a.threads ++ threads_of more) =
    ap (λ l. take limit (a.threads ++ l)) (threads_later note more other) in
    let f : option_or a.files (first_files (note ∷ more)) ≡ option_or a.files (first_files more) = first_state a.files note more none in
    rw (t, f) refl

or_none : {X : Type 0} (o : Option X) → option_or o None ≡ o
or_none None = refl
or_none (Some x) = refl

-- No note is left.
pub gathered_end : (limit : ℕ) (a : Gathered) → length a.threads ≤ limit → gathered limit a [] ≡ a
unfolding gathered threads_of first_files
gathered_end limit a few =
    let t : take limit (a.threads ++ []) ≡ a.threads = ap (take limit) (append-nil a.threads) ∙ take_all limit a.threads few in
    let f : option_or a.files None ≡ a.files = or_none a.files in
    rw (t, f) refl

-- One note is taken, and the others are left.
pub gather_step : (limit own : ℕ) (a b : Gathered) (bytes rest : List ℕ) (note : NoteParts) → own ≡ limit → has_note bytes ≡ true → note ≡ note_at bytes → rest ≡ after_note bytes → ((more : List NoteParts) → gathered own a (note ∷ more) ≡ gathered own b more) → gathered limit b (notes rest) ≡ gathered limit a (notes bytes)
gather_step limit own a b bytes rest note same has is after taken =
    ap (λ n. gathered n b (notes rest)) (sym same) ∙ sym (taken (notes rest))
    ∙ ap (λ n. gathered n a (note ∷ notes rest)) same
    ∙ ap (gathered limit a) (ap (λ n. n ∷ notes rest) is ∙ ap (λ l. note_at bytes ∷ notes l) after ∙ sym (notes_here bytes has))

or_false : (l m : Bool) → (not l || m) ≡ false → l ≡ true
or_false true m is = refl
or_false false m is = cc

-- A segment of notes that is not bad lies in the file.
pub noted_inside : (file : List ℕ) (s : Segment) → is_bad file s ≡ false → s.kind ≡ 4 → s.offset + s.file_size ≤ length file
unfolding is_bad
noted_inside file s fine kind =
    let k : (s.kind == 4) ≡ true = eq-eqb s.kind 4 kind in
    leb-true (s.offset + s.file_size) (length file) (or_false (nat_le (s.offset + s.file_size) (length file)) _ (rw k at fine))

-- No segment up to this one is bad.
pub segment_fine : (file : List ℕ) (segments : List Segment) (k : ℕ) (d : Segment) → position (is_bad file) segments ≡ None → k < length segments → is_bad file (get_or segments k d) ≡ false
segment_fine file segments k d fine inside = place_no (is_bad file) segments k d fine inside

or_map : {X Y : Type 0} (f : X → Y) (a : Option Y) (x y : Option X) → option_or a (option_map f (option_or x y)) ≡ option_or (option_or a (option_map f x)) (option_map f y)
or_map f None None y = refl
or_map f None (Some x) y = refl
or_map f (Some a) None y = refl
or_map f (Some a) (Some x) y = refl

first_or : (xs ys : List NoteParts) (a : Option (List ℕ)) → option_or a (first_files (xs ++ ys)) ≡ option_or (option_or a (first_files xs)) (first_files ys)
unfolding first_files
first_or xs ys a = ap (λ o. option_or a (option_map (λ note. note.descriptor) o)) (find-append is_files xs ys) ∙ or_map (λ note. note.descriptor) a (find is_files xs) (find is_files ys)

threads_append : (xs ys : List NoteParts) → threads_of (xs ++ ys) ≡ threads_of xs ++ threads_of ys
unfolding threads_of
threads_append xs ys = ap (map (λ note. thread_of note.descriptor)) (filter-append is_prstatus xs ys) ∙ map-append (λ note. thread_of note.descriptor) (filter is_prstatus xs) (filter is_prstatus ys)

take_front : {X : Type 0} (n : ℕ) (xs ys : List X) → take n (take n xs ++ ys) ≡ take n (xs ++ ys)
take_front zero xs ys = refl
take_front (suc n) [] ys = refl
take_front (suc n) (x ∷ xs) ys = ap (λ l. x ∷ l) (take_front n xs ys)

-- The notes of one list, and then those of another.
pub gathered_append : (limit : ℕ) (a : Gathered) (xs ys : List NoteParts) → gathered limit a (xs ++ ys) ≡ gathered limit (gathered limit a xs) ys
unfolding gathered
gathered_append limit a xs ys =
    let t : take limit (a.threads ++ threads_of (xs ++ ys)) ≡ take limit (take limit (a.threads ++ threads_of xs) ++ threads_of ys) =
    ap (λ l. take limit (a.threads ++ l)) (threads_append xs ys)
    ∙ ap (take limit) (sym (append_assoc a.threads (threads_of xs) (threads_of ys)))
    ∙ sym (take_front limit (a.threads ++ threads_of xs) (threads_of ys)) in
    rw (t, first_or xs ys a.files) refl

-- The notes of one segment, and then those of the segments that are left.
pub segments_step : (file : List ℕ) (segments : List Segment) (k limit own : ℕ) (d : Segment) (a b : Gathered) → k < length segments → own ≡ limit → b ≡ gathered own a (notes_of file (get_or segments k d)) → gathered limit b (all_notes file (drop (k + 1) segments)) ≡ gathered limit a (all_notes file (drop k segments))
unfolding all_notes
segments_step file segments k limit own d a b inside same is =
    ap (λ g. gathered limit g (all_notes file (drop (k + 1) segments))) (is ∙ ap (λ n. gathered n a (notes_of file (get_or segments k d))) same)
    ∙ sym (gathered_append limit a (notes_of file (get_or segments k d)) (all_notes file (drop (k + 1) segments)))
    ∙ ap (λ l. gathered limit a (flat_map (notes_of file) l)) (sym (drop_more segments k d inside))

pub segments_end : (file : List ℕ) (segments : List Segment) (k limit : ℕ) (a : Gathered) → length segments ≤ k → length a.threads ≤ limit → gathered limit a (all_notes file (drop k segments)) ≡ a
unfolding all_notes
segments_end file segments k limit a past few =
    ap (λ l. gathered limit a (flat_map (notes_of file) l)) (drop_all k segments past) ∙ gathered_end limit a few
