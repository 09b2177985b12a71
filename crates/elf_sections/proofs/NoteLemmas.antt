use Rattle.std.proofs.Common.{◌≡◌, ℕ, zero, suc, ◌+◌, ◌<◌, ◌≤◌, true, false, List, [], ◌∷◌, ◌++◌, Option, Some, None, length, drop, get_or, find, if◌then◌else◌, refl, sym, ◌∙◌, ap, arith, add-one, length-drop}
use Rattle.std.specs.Option.{option_map, option_or}
use Rattle.std.specs.List.{flat_map}
use Rattle.std.proofs.lemmas.List.{drop_all}
use Rattle.std.proofs.lemmas.List.Folds.{find-append}
use Rattle.std.proofs.Math.Seq.{drop-cons}
use Rattle.elf_sections.specs.declared.section.SectionHeader.{SectionHeader}
use Rattle.elf_sections.specs.Notes.{NoteParts, notes, notes_in, has_note, note_at, after_note, padded, first_id, is_build_id, notes_of}
use Rattle.elf_sections.specs.Numbers.{u32_at}

-- If no note is in front, there is no build id.
pub no_note : (n : ℕ) (bytes : List ℕ) → has_note bytes ≡ false → first_id (notes_in n bytes) ≡ None
unfolding first_id notes_in
no_note zero bytes none = refl
no_note (suc n) bytes none = rw none refl

-- A build id in front is the first.
pub next_id : (n m : ℕ) (bytes : List ℕ) → n ≡ m + 1 → has_note bytes ≡ true → is_build_id (note_at bytes) ≡ true → first_id (notes_in n bytes) ≡ Some (note_at bytes).descriptor
unfolding first_id notes_in
next_id n m bytes is some test = ap (λ k. first_id (notes_in k bytes)) (is ∙ add-one m) ∙ rw some (rw test refl)

-- If another note is in front, the first build id is that of the rest.
pub next_other : (n m : ℕ) (bytes : List ℕ) → n ≡ m + 1 → has_note bytes ≡ true → is_build_id (note_at bytes) ≡ false → first_id (notes_in n bytes) ≡ first_id (notes_in m (after_note bytes))
unfolding first_id notes_in
next_other n m bytes is some test = ap (λ k. first_id (notes_in k bytes)) (is ∙ add-one m) ∙ rw some (rw test refl)

pub notes_end : (n : ℕ) (bytes : List ℕ) → n ≡ 0 → first_id (notes_in n bytes) ≡ None
unfolding first_id notes_in
notes_end n bytes is = ap (λ k. first_id (notes_in k bytes)) is

map_or_some : (a b : Option NoteParts) (id : List ℕ) → option_map (λ note. note.descriptor) a ≡ Some id → option_map (λ note. note.descriptor) (option_or a b) ≡ Some id
map_or_some None b id is = cc
map_or_some (Some note) b id is = is

map_or_none : (a b : Option NoteParts) → option_map (λ note. note.descriptor) a ≡ None → option_map (λ note. note.descriptor) (option_or a b) ≡ option_map (λ note. note.descriptor) b
map_or_none None b is = refl
map_or_none (Some note) b is = cc

pub notes_begin : (bytes : List ℕ) (n : ℕ) → n ≡ length bytes → first_id (notes_in n bytes) ≡ first_id (notes bytes)
unfolding notes
notes_begin bytes n is = ap (λ k. first_id (notes_in k bytes)) is

-- A build id among the first notes is the first of all notes.
id_before : (first later : List NoteParts) (id : List ℕ) → first_id first ≡ Some id → first_id (first ++ later) ≡ Some id
unfolding first_id
id_before first later id is = ap (option_map (λ note. note.descriptor)) (find-append is_build_id first later) ∙ map_or_some (find is_build_id first) (find is_build_id later) id is

-- Without a build id among the first notes, that of the later notes counts.
id_behind : (first later : List NoteParts) → first_id first ≡ None → first_id (first ++ later) ≡ first_id later
unfolding first_id
id_behind first later none = ap (option_map (λ note. note.descriptor)) (find-append is_build_id first later) ∙ map_or_none (find is_build_id first) (find is_build_id later) none

-- If a section has a build id, it is the first.
pub id_here : (file : List ℕ) (all : List SectionHeader) (i : ℕ) (d : SectionHeader) (id : List ℕ) → i < length all → Some id ≡ first_id (notes_of file (get_or all i d)) → Some id ≡ first_id (flat_map (notes_of file) (drop i all))
id_here file all i d id inside found =
    sym (ap (λ l. first_id (flat_map (notes_of file) l)) (drop-cons all i d inside) ∙ id_before (notes_of file (get_or all i d)) (flat_map (notes_of file) (drop (suc i) all)) id (sym found))

-- If a section has no build id, that of the later sections counts.
pub id_later : (file : List ℕ) (all : List SectionHeader) (i : ℕ) (d : SectionHeader) → i < length all → None ≡ first_id (notes_of file (get_or all i d)) → first_id (flat_map (notes_of file) (drop (i + 1) all)) ≡ first_id (flat_map (notes_of file) (drop i all))
id_later file all i d inside none =
    sym (ap (λ l. first_id (flat_map (notes_of file) l)) (drop-cons all i d inside)
    ∙ id_behind (notes_of file (get_or all i d)) (flat_map (notes_of file) (drop (suc i) all)) (sym none)
    ∙ ap (λ j. first_id (flat_map (notes_of file) (drop j all))) (sym (add-one i)))

pub id_end : (file : List ℕ) (all : List SectionHeader) (i : ℕ) → length all ≤ i → None ≡ first_id (flat_map (notes_of file) (drop i all))
unfolding first_id
id_end file all i past = sym (ap (λ l. option_map (λ (note : NoteParts). note.descriptor) (find is_build_id (flat_map (notes_of file) l))) (drop_all i all past))

no_bytes : (bytes : List ℕ) → length bytes ≤ 0 → has_note bytes ≡ false
unfolding has_note
no_bytes [] within = refl
no_bytes (b ∷ bytes) within = absurd (omega arith)

after_less : (n : ℕ) (bytes : List ℕ) → length bytes ≤ suc n → length (after_note bytes) ≤ n
unfolding after_note
after_less n bytes within = omega (arith, length-drop (12 + padded (u32_at bytes 0) + padded (u32_at bytes 4)) bytes)

-- With at least as many steps as bytes, all notes are found.
notes_enough : (n m : ℕ) (bytes : List ℕ) → length bytes ≤ n → length bytes ≤ m → notes_in n bytes ≡ notes_in m bytes
unfolding notes_in
notes_enough zero zero bytes a b = refl
notes_enough zero (suc m) bytes a b = rw (no_bytes bytes a) refl
notes_enough (suc n) zero bytes a b = rw (no_bytes bytes b) refl
notes_enough (suc n) (suc m) bytes a b =
    ap (λ l. if has_note bytes then note_at bytes ∷ l else []) (notes_enough n m (after_note bytes) (after_less n bytes a) (after_less m bytes b))

-- The notes are the one in front and those after it.
pub notes_each : (bytes : List ℕ) → notes bytes ≡ (if has_note bytes then note_at bytes ∷ notes (after_note bytes) else [])
unfolding notes notes_in
notes_each bytes =
    let more : length bytes ≤ suc (length bytes) = omega arith in
    notes_enough (length bytes) (suc (length bytes)) bytes (omega arith) more
    ∙ ap (λ l. if has_note bytes then note_at bytes ∷ l else [])
    (notes_enough (length bytes) (length (after_note bytes)) (after_note bytes) (after_less (length bytes) bytes more) (omega arith))
