-- The mappings of a note, read one by one.
use Rattle.std.proofs.Common.{◌≡◌, ℕ, suc, ◌+◌, ◌-◌, ◌*◌, ◌<◌, ◌≤◌, true, false, List, [], ◌∷◌, ◌++◌, length, drop, get_or, min, refl, sym, ◌∙◌, ap, arith, length-drop, append_assoc}
use Rattle.std.specs.Prelude.{◌==◌, not, map, nat_le}
use Rattle.std.specs.List.{prefix_len}
use Rattle.std.proofs.lemmas.List.{get_or-drop, drop_all, map-append, append-nil}
use Rattle.std.proofs.lemmas.List.Sums.{prefix_len-drop_no, prefix_len-drop_yes}
use Rattle.std.proofs.lemmas.Bool.{leb-true}
use Rattle.leb_cursor.specs.Readings.{fixed_sum}
use Rattle.elf_sections.specs.Numbers.{u64_at}
use Rattle.core_file.specs.CoreNotes.{has_files, file_count, files_size}
use Rattle.core_file.specs.MappedFiles.{MappedFile, front_text, behind_text, files_from, files_of}
use Rattle.core_file.specs.declared.files.FilePlace.{FilePlace}
use Rattle.core_file.specs.internal.FilePlaces.{file_view, IsInside}
use Rattle.core_file.proofs.BoolLemmas.{and_left, and_right}
use Rattle.core_file.proofs.PartLemmas.{drop_drop}
use Rattle.core_file.proofs.NoteLemmas.{rest_behind}

-- A text ends at a zero.
pub text_ends : (note : List ℕ) (from size : ℕ) → from + size < length note → get_or note (from + size) 0 ≡ 0 → size + prefix_len (λ b. not (b == 0)) (drop size (drop from note)) ≡ size
text_ends note from size inside zeros =
    let e : prefix_len (λ b. not (b == 0)) (drop size (drop from note)) ≡ 0 =
    prefix_len-drop_no (λ b. not (b == 0)) (drop from note) size 0 (omega (arith, length-drop from note))
    (ap (λ b. not (b == 0)) (get_or-drop from note size 0 ∙ zeros)) in
    omega arith

pub text_more : (note : List ℕ) (from size : ℕ) → from + size < length note → (get_or note (from + size) 0 == 0) ≡ false → size + prefix_len (λ b. not (b == 0)) (drop size (drop from note)) ≡ (size + 1) + prefix_len (λ b. not (b == 0)) (drop (size + 1) (drop from note))
text_more note from size inside other =
    let e : prefix_len (λ b. not (b == 0)) (drop size (drop from note)) ≡ 1 + prefix_len (λ b. not (b == 0)) (drop (size + 1) (drop from note)) =
    prefix_len-drop_yes (λ b. not (b == 0)) (drop from note) size 0 (omega (arith, length-drop from note))
    (ap (λ b. not (b == 0)) (get_or-drop from note size 0) ∙ ap not other) in
    omega arith

pub text_past : (note : List ℕ) (from size : ℕ) → length note ≤ from + size → size + prefix_len (λ b. not (b == 0)) (drop size (drop from note)) ≡ size
text_past note from size past =
    let e : drop size (drop from note) ≡ [] = drop_all size (drop from note) (omega (arith, length-drop from note)) in
    ap (λ l. size + prefix_len (λ b. not (b == 0)) l) e ∙ omega arith

-- A note that has its files has all numbers of the files.
pub numbers_there : (note : List ℕ) → has_files note ≡ true → 16 + 24 * file_count note ≤ length note
unfolding has_files files_size
numbers_there note has =
    leb-true (16 + 24 * file_count note) (length note) (and_left (nat_le (16 + 24 * file_count note) (length note)) _ (and_right (nat_le 16 (length note)) _ has))

pub first_there : (note : List ℕ) → has_files note ≡ true → 16 ≤ length note
unfolding has_files
first_there note has = leb-true 16 (length note) (and_left (nat_le 16 (length note)) _ has)

number_at : (note : List ℕ) (m k n : ℕ) → n ≡ m + k → u64_at (drop m note) k ≡ u64_at note n
unfolding u64_at
number_at note m k n is = ap (λ l. fixed_sum 8 l) (drop_drop k m note ∙ ap (λ i. drop i note) (sym is))

next_text : (note : List ℕ) (text k next : ℕ) → text ≤ length note → next ≡ min (length note) (text + k) → drop next note ≡ drop k (drop text note)
next_text note text k next inside is =
    let e : next ≡ text + min (length note - text) k = omega arith in
    rest_behind note text k next inside e

-- One mapping more.
pub files_more : (note : List ℕ) (done : List FilePlace) (f : FilePlace) (left n at text next : ℕ) → left ≡ n + 1 → text ≤ length note → f.start ≡ u64_at note at → f.end ≡ u64_at note (at + 8) → f.offset ≡ u64_at note (at + 16) → f.text ≡ text → f.size ≡ prefix_len (λ b. not (b == 0)) (drop text note) → next ≡ min (length note) (text + f.size + 1) → map (file_view note) (done ++ f ∷ []) ++ files_from n (drop (at + 24) note) (drop next note) ≡ map (file_view note) done ++ files_from left (drop at note) (drop text note)
unfolding files_from front_text behind_text
files_more note done f left n at text next is inside start end offset place size after =
    let more : left ≡ suc n = omega arith in
    let s : u64_at (drop at note) 0 ≡ u64_at note at = let y : at ≡ at + 0 = omega arith in number_at note at 0 at y in
    let e : u64_at (drop at note) 8 ≡ u64_at note (at + 8) = number_at note at 8 (at + 8) refl in
    let o : u64_at (drop at note) 16 ≡ u64_at note (at + 16) = number_at note at 16 (at + 16) refl in
    let d : drop 24 (drop at note) ≡ drop (at + 24) note = drop_drop 24 at note in
    let z : f.size + 1 ≡ prefix_len (λ b. not (b == 0)) (drop text note) + 1 = ap (λ k. k + 1) size in
    let c : next ≡ min (length note) (text + (f.size + 1)) = omega arith in
    let b : drop next note ≡ drop (prefix_len (λ b. not (b == 0)) (drop text note) + 1) (drop text note) =
    next_text note text (f.size + 1) next inside c ∙ ap (λ k. drop k (drop text note)) z in
    ap (λ l. l ++ files_from n (drop (at + 24) note) (drop next note)) (map-append (file_view note) done (f ∷ []))
    ∙ append_assoc (map (file_view note) done) (file_view note f ∷ []) (files_from n (drop (at + 24) note) (drop next note))
    ∙ ap (λ l. map (file_view note) done ++ l) (rw (more, start, end, offset, place, size, s, e, o, d, b) refl)

pub inside_push : (len : ℕ) (files : List FilePlace) (f : FilePlace) → IsInside len files → f.text + f.size ≤ len → IsInside len (files ++ f ∷ [])
inside_push len [] f all last = (last, tt)
inside_push len (g ∷ files) f all last = (all.0, inside_push len files f all.1 last)

-- No mapping is read yet, or all are.
pub files_none : (note : List ℕ) → files_from (file_count note) (drop 16 note) (drop (16 + 24 * file_count note) note) ≡ files_of note
unfolding files_of files_size
files_none note = refl

pub files_all : (note : List ℕ) (done : List MappedFile) (left : ℕ) (numbers texts : List ℕ) → left ≡ 0 → done ++ files_from left numbers texts ≡ done
unfolding files_from
files_all note done left numbers texts none =
    ap (λ n. done ++ files_from n numbers texts) none ∙ append-nil done

pub count_there : (note : List ℕ) (n : ℕ) → has_files note ≡ true → n ≡ u64_at note 0 → 16 + 24 * n ≤ length note
unfolding file_count
count_there note n has is = rw is (numbers_there note has)

pub files_begin : (note : List ℕ) (n : ℕ) → n ≡ u64_at note 0 → files_from (n - 0) (drop 16 note) (drop (16 + 24 * n) note) ≡ files_of note
unfolding file_count
files_begin note n is = let e : n - 0 ≡ n = omega arith in rw (e, is) (files_none note)
