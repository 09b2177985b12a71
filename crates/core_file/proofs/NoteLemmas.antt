-- Notes at a place of the bytes, and the notes after them.
use Rattle.std.proofs.Common.{◌≡◌, ℕ, zero, suc, ◌+◌, ◌-◌, ◌<◌, ◌≤◌, true, false, List, [], ◌∷◌, length, take, drop, min, if◌then◌else◌, refl, sym, ◌∙◌, ap, arith, length-drop, ◌⊎◌, inl, inr}
use Rattle.leb_cursor.specs.Readings.{fixed_sum}
use Rattle.std.proofs.lemmas.List.{drop_all}
use Rattle.std.proofs.lemmas.Bool.Decides.{nat_tests}
use Rattle.elf_sections.specs.Numbers.{u32_at}
use Rattle.std.specs.Prelude.{◌==◌}
use Rattle.elf_sections.specs.Notes.{padded, note_len, has_note, note_at, after_note, notes_in, notes}
use Rattle.core_file.specs.CoreNotes.{left_over, is_whole_note, are_whole_notes}
use Rattle.core_file.proofs.BoolLemmas.{and_false}
use Rattle.core_file.specs.declared.notes.NotePlace.{NotePlace}
use Rattle.core_file.specs.internal.NotePlaces.{note_view}
use Rattle.core_file.proofs.PartLemmas.{drop_drop}

-- A number in the rest of the bytes is a number in all bytes.
pub number_behind : (bytes : List ℕ) (at k n : ℕ) → n ≡ at + k → u32_at bytes n ≡ u32_at (drop at bytes) k
unfolding u32_at
number_behind bytes at k n is = ap (λ l. fixed_sum 4 l) (ap (λ i. drop i bytes) is ∙ sym (drop_drop k at bytes))

pub part_behind : (bytes : List ℕ) (at k n size : ℕ) → n ≡ at + k → take size (drop n bytes) ≡ take size (drop k (drop at bytes))
part_behind bytes at k n size is = ap (take size) (ap (λ i. drop i bytes) is ∙ sym (drop_drop k at bytes))

rest_by : (bytes : List ℕ) (at k m : ℕ) → (m ≡ k) ⊎ ((m ≡ length bytes - at) × (length bytes - at ≤ k)) → at ≤ length bytes → drop (at + m) bytes ≡ drop k (drop at bytes)
rest_by bytes at k m (inl is) inside = ap (λ j. drop (at + j) bytes) is ∙ sym (drop_drop k at bytes)
rest_by bytes at k m (inr past) inside =
    drop_all (at + m) bytes (omega (arith, past.0)) ∙ sym (drop_all k (drop at bytes) (omega (arith, length-drop at bytes, past.1)))

min_cases : (a b : ℕ) → (min a b ≡ b) ⊎ ((min a b ≡ a) × (a ≤ b))
min_cases a b = grind arith

-- The bytes after a note, even if its padding is missing.
pub rest_behind : (bytes : List ℕ) (at k n : ℕ) → at ≤ length bytes → n ≡ at + min (length bytes - at) k → drop n bytes ≡ drop k (drop at bytes)
rest_behind bytes at k n inside is =
    ap (λ i. drop i bytes) is ∙ rest_by bytes at k (min (length bytes - at) k) (min_cases (length bytes - at) k) inside

-- The two lengths in the note at a place.
name_len_at : (bytes : List ℕ) (at : ℕ) → u32_at (drop at bytes) 0 ≡ u32_at bytes at
name_len_at bytes at = let e : at ≡ at + 0 = omega arith in sym (number_behind bytes at 0 at e)

-- No note fits at the place.
pub no_fit : (bytes : List ℕ) (at name_len size : ℕ) → at ≤ length bytes → name_len ≡ u32_at bytes at → size ≡ u32_at bytes (at + 4) → length bytes - at < 12 + padded name_len + size → has_note (drop at bytes) ≡ false
unfolding has_note note_len
no_fit bytes at name_len size inside name descriptor past =
    let l : length (drop at bytes) ≡ length bytes - at = length-drop at bytes in
    let e : padded (u32_at (drop at bytes) 0) ≡ padded name_len = ap padded (name_len_at bytes at ∙ sym name) in
    let f : u32_at (drop at bytes) 4 ≡ size = sym (number_behind bytes at 4 (at + 4) refl) ∙ sym descriptor in
    rw (e, f, l) (grind (arith, nat_tests))

-- A note fits at the place.
pub fits_here : (bytes : List ℕ) (at : ℕ) → at ≤ length bytes → 12 + padded (u32_at bytes at) + u32_at bytes (at + 4) ≤ length bytes - at → has_note (drop at bytes) ≡ true
unfolding has_note note_len
fits_here bytes at inside fits =
    let l : length (drop at bytes) ≡ length bytes - at = length-drop at bytes in
    let e : u32_at (drop at bytes) 0 ≡ u32_at bytes at = name_len_at bytes at in
    let f : u32_at (drop at bytes) 4 ≡ u32_at bytes (at + 4) = sym (number_behind bytes at 4 (at + 4) refl) in
    rw (e, f, l) (grind (arith, nat_tests))

pub note_here : (bytes : List ℕ) (p : NotePlace) (at : ℕ) → p.name ≡ at + 12 → p.name_len ≡ u32_at bytes at → p.kind ≡ u32_at bytes (at + 8) → p.descriptor ≡ at + (12 + padded (u32_at bytes at)) → p.size ≡ u32_at bytes (at + 4) → note_view bytes p ≡ note_at (drop at bytes)
unfolding note_at
note_here bytes p at name name_len kind descriptor size =
    let e : u32_at (drop at bytes) 0 ≡ u32_at bytes at = name_len_at bytes at in
    let f : u32_at (drop at bytes) 4 ≡ u32_at bytes (at + 4) = sym (number_behind bytes at 4 (at + 4) refl) in
    let k : u32_at (drop at bytes) 8 ≡ u32_at bytes (at + 8) = sym (number_behind bytes at 8 (at + 8) refl) in
    let n : take (u32_at bytes at) (drop (at + 12) bytes) ≡ take (u32_at bytes at) (drop 12 (drop at bytes)) = part_behind bytes at 12 (at + 12) (u32_at bytes at) refl in
    let d : take (u32_at bytes (at + 4)) (drop (at + (12 + padded (u32_at bytes at))) bytes) ≡ take (u32_at bytes (at + 4)) (drop (12 + padded (u32_at bytes at)) (drop at bytes)) =
    part_behind bytes at (12 + padded (u32_at bytes at)) (at + (12 + padded (u32_at bytes at))) (u32_at bytes (at + 4)) refl in
    rw (name, name_len, kind, descriptor, size, e, f, k, n, d) refl

pub after_here : (bytes : List ℕ) (at next : ℕ) → at ≤ length bytes → next ≡ at + min (length bytes - at) (12 + padded (u32_at bytes at) + padded (u32_at bytes (at + 4))) → drop next bytes ≡ after_note (drop at bytes)
unfolding after_note
after_here bytes at next inside is =
    let e : u32_at (drop at bytes) 0 ≡ u32_at bytes at = name_len_at bytes at in
    let f : u32_at (drop at bytes) 4 ≡ u32_at bytes (at + 4) = sym (number_behind bytes at 4 (at + 4) refl) in
    rw (e, f) (rest_behind bytes at (12 + padded (u32_at bytes at) + padded (u32_at bytes (at + 4))) next inside is)

no_bytes : (bytes : List ℕ) → length bytes ≤ 0 → has_note bytes ≡ false
unfolding has_note
no_bytes [] within = refl
no_bytes (b ∷ bytes) within = absurd (omega arith)

after_less : (n : ℕ) (bytes : List ℕ) → length bytes ≤ suc n → length (after_note bytes) ≤ n
unfolding after_note
after_less n bytes within = omega (arith, length-drop (12 + padded (u32_at bytes 0) + padded (u32_at bytes 4)) bytes)

-- More steps than bytes find no more notes.
notes_enough : (n m : ℕ) (bytes : List ℕ) → length bytes ≤ n → length bytes ≤ m → notes_in n bytes ≡ notes_in m bytes
unfolding notes_in
notes_enough zero zero bytes a b = refl
notes_enough zero (suc m) bytes a b = rw (no_bytes bytes a) refl
notes_enough (suc n) zero bytes a b = rw (no_bytes bytes b) refl
notes_enough (suc n) (suc m) bytes a b =
    ap (λ l. if has_note bytes then note_at bytes ∷ l else []) (notes_enough n m (after_note bytes) (after_less n bytes a) (after_less m bytes b))

left_enough : (n m : ℕ) (bytes : List ℕ) → length bytes ≤ n → length bytes ≤ m → left_over n bytes ≡ left_over m bytes
unfolding left_over
left_enough zero zero bytes a b = refl
left_enough zero (suc m) bytes a b = rw (no_bytes bytes a) refl
left_enough (suc n) zero bytes a b = rw (no_bytes bytes b) refl
left_enough (suc n) (suc m) bytes a b =
    ap (λ l. if has_note bytes then l else bytes) (left_enough n m (after_note bytes) (after_less n bytes a) (after_less m bytes b))

-- The notes are the first one and those after it.
pub notes_each : (bytes : List ℕ) → notes bytes ≡ (if has_note bytes then note_at bytes ∷ notes (after_note bytes) else [])
unfolding notes notes_in
notes_each bytes =
    let more : length bytes ≤ suc (length bytes) = omega arith in
    notes_enough (length bytes) (suc (length bytes)) bytes (omega arith) more
    ∙ ap (λ l. if has_note bytes then note_at bytes ∷ l else [])
    (notes_enough (length bytes) (length (after_note bytes)) (after_note bytes) (after_less (length bytes) bytes more) (omega arith))

left_each : (bytes : List ℕ) → left_over (length bytes) bytes ≡ (if has_note bytes then left_over (length (after_note bytes)) (after_note bytes) else bytes)
unfolding left_over
left_each bytes =
    let more : length bytes ≤ suc (length bytes) = omega arith in
    left_enough (length bytes) (suc (length bytes)) bytes (omega arith) more
    ∙ ap (λ l. if has_note bytes then l else bytes)
    (left_enough (length bytes) (length (after_note bytes)) (after_note bytes) (after_less (length bytes) bytes more) (omega arith))

pub notes_here : (bytes : List ℕ) → has_note bytes ≡ true → notes bytes ≡ note_at bytes ∷ notes (after_note bytes)
notes_here bytes is = notes_each bytes ∙ rw is refl

pub notes_end : (bytes : List ℕ) → has_note bytes ≡ false → notes bytes ≡ []
notes_end bytes none = notes_each bytes ∙ rw none refl

-- Whether all notes are whole, if the first one is.
pub whole_here : (bytes : List ℕ) → has_note bytes ≡ true → is_whole_note (note_at bytes) ≡ true → are_whole_notes bytes ≡ are_whole_notes (after_note bytes)
unfolding are_whole_notes
whole_here bytes is whole =
    let l : left_over (length bytes) bytes ≡ left_over (length (after_note bytes)) (after_note bytes) = left_each bytes ∙ rw is refl in
    rw (l, notes_here bytes is, whole) refl

pub whole_bad : (bytes : List ℕ) → has_note bytes ≡ true → is_whole_note (note_at bytes) ≡ false → are_whole_notes bytes ≡ false
unfolding are_whole_notes
whole_bad bytes is bad = rw (notes_here bytes is, bad) (and_false (length (left_over (length bytes) bytes) == 0))

pub whole_none : (bytes : List ℕ) → has_note bytes ≡ false → 0 < length bytes → are_whole_notes bytes ≡ false
unfolding are_whole_notes
whole_none bytes none some =
    let l : left_over (length bytes) bytes ≡ bytes = left_each bytes ∙ rw none refl in
    let e : (length bytes == 0) ≡ false = grind (arith, nat_tests) in
    rw (l, e) refl

pub whole_end : (bytes : List ℕ) → length bytes ≡ 0 → are_whole_notes bytes ≡ true
unfolding are_whole_notes left_over notes notes_in
whole_end [] none = refl
whole_end (b ∷ bytes) none = absurd (omega arith)

pub notes_of_none : (bytes : List ℕ) → length bytes ≡ 0 → notes bytes ≡ []
unfolding notes notes_in
notes_of_none [] none = refl
notes_of_none (b ∷ bytes) none = absurd (omega arith)
