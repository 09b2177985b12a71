-- The first build id among notes, found one by one.
use Rattle.std.proofs.Common.{◌≡◌, ℕ, ◌+◌, ◌<◌, ◌≤◌, ◌^◌, true, false, List, [], ◌∷◌, ◌++◌, Option, Some, None, length, drop, get_or, find, refl, sym, ◌∙◌, ap}
use Rattle.std.specs.Option.{option_map, option_or}
use Rattle.std.specs.List.{flat_map}
use Rattle.std.proofs.lemmas.List.{drop_all, drop_more}
use Rattle.std.proofs.lemmas.List.Folds.{find-append}
use Rattle.elf_sections.specs.Notes.{NoteParts, notes, has_note, note_at, after_note, first_id, is_build_id}
use Rattle.core_file.specs.Memory.{Memory, front_at}
use Rattle.core_file.proofs.NoteLemmas.{notes_here, notes_end, notes_of_none}
use Rattle.core_file.proofs.ImageLemmas.{past_empty}

first_front : (note : NoteParts) (later : List NoteParts) → is_build_id note ≡ true → first_id (note ∷ later) ≡ Some note.descriptor
unfolding first_id
first_front note later is = rw is refl

first_later : (note : NoteParts) (later : List NoteParts) → is_build_id note ≡ false → first_id (note ∷ later) ≡ first_id later
unfolding first_id
first_later note later none = rw none refl

pub first_none : first_id [] ≡ None
unfolding first_id
first_none = refl

-- The first note has a build id, or has none.
pub id_in_front : (bytes : List ℕ) (note : NoteParts) → has_note bytes ≡ true → note ≡ note_at bytes → is_build_id note ≡ true → Some note.descriptor ≡ first_id (notes bytes)
id_in_front bytes note has is test =
    sym (ap first_id (notes_here bytes has ∙ ap (λ n. n ∷ notes (after_note bytes)) (sym is)) ∙ first_front note (notes (after_note bytes)) test)

pub id_not_in_front : (bytes rest : List ℕ) (note : NoteParts) → has_note bytes ≡ true → note ≡ note_at bytes → rest ≡ after_note bytes → is_build_id note ≡ false → first_id (notes rest) ≡ first_id (notes bytes)
id_not_in_front bytes rest note has is after test =
    sym (ap first_id (notes_here bytes has ∙ ap (λ n. n ∷ notes (after_note bytes)) (sym is)) ∙ first_later note (notes (after_note bytes)) test
    ∙ ap (λ l. first_id (notes l)) (sym after))

pub id_of_none : (bytes : List ℕ) → has_note bytes ≡ false → None ≡ first_id (notes bytes)
id_of_none bytes none = sym (ap first_id (notes_end bytes none) ∙ first_none)

pub id_at_end : (bytes : List ℕ) → length bytes ≡ 0 → None ≡ first_id (notes bytes)
id_at_end bytes none = sym (ap first_id (notes_of_none bytes none) ∙ first_none)

-- There are no notes at or above address 2^64.
pub id_past : (memory : Memory) (a n : ℕ) → 2 ^ 64 ≤ a → None ≡ first_id (notes (front_at memory a n))
id_past memory a n past = id_at_end (front_at memory a n) (past_empty memory a n past)

or_some : (a b : Option NoteParts) (id : List ℕ) → option_map (λ note. note.descriptor) a ≡ Some id → option_map (λ note. note.descriptor) (option_or a b) ≡ Some id
or_some None b id is = cc
or_some (Some note) b id is = is

or_none : (a b : Option NoteParts) → option_map (λ note. note.descriptor) a ≡ None → option_map (λ note. note.descriptor) (option_or a b) ≡ option_map (λ note. note.descriptor) b
or_none None b is = refl
or_none (Some note) b is = cc

id_before : (first later : List NoteParts) (id : List ℕ) → first_id first ≡ Some id → first_id (first ++ later) ≡ Some id
unfolding first_id
id_before first later id is = ap (option_map (λ note. note.descriptor)) (find-append is_build_id first later) ∙ or_some (find is_build_id first) (find is_build_id later) id is

id_behind : (first later : List NoteParts) → first_id first ≡ None → first_id (first ++ later) ≡ first_id later
unfolding first_id
id_behind first later none = ap (option_map (λ note. note.descriptor)) (find-append is_build_id first later) ∙ or_none (find is_build_id first) (find is_build_id later) none

-- This segment has a build id, or has none.
pub id_here : {X : Type 0} (f : X → List NoteParts) (all : List X) (k : ℕ) (d : X) (id : List ℕ) → k < length all → Some id ≡ first_id (f (get_or all k d)) → Some id ≡ first_id (flat_map f (drop k all))
id_here f all k d id inside is =
    sym (ap (λ l. first_id (flat_map f l)) (drop_more all k d inside) ∙ id_before (f (get_or all k d)) (flat_map f (drop (k + 1) all)) id (sym is))

pub id_later : {X : Type 0} (f : X → List NoteParts) (all : List X) (k : ℕ) (d : X) → k < length all → None ≡ first_id (f (get_or all k d)) → first_id (flat_map f (drop (k + 1) all)) ≡ first_id (flat_map f (drop k all))
id_later f all k d inside none =
    sym (ap (λ l. first_id (flat_map f l)) (drop_more all k d inside) ∙ id_behind (f (get_or all k d)) (flat_map f (drop (k + 1) all)) (sym none))

pub id_end : {X : Type 0} (f : X → List NoteParts) (all : List X) (k : ℕ) → length all ≤ k → None ≡ first_id (flat_map f (drop k all))
id_end f all k past = sym (ap (λ l. first_id (flat_map f l)) (drop_all k all past) ∙ first_none)
