-- Sections by their names, with their bytes.
use Rattle.std.proofs.Common.{◌≡◌, ℕ, ◌≤◌, Bool, true, false, cond, List, [], length, get_or, map, Option, None, Some, unwrap_or, refl, sym, ap, ◌∙◌, arith}
use Rattle.std.specs.List.{find, position, position_or_len, slice_get}
use Rattle.std.specs.Option.{option_map}
use Rattle.std.proofs.lemmas.Bool.Decides.{nat_tests}
use Rattle.std.proofs.lemmas.List.Folds.{find_at}
use Rattle.std.proofs.lemmas.Option.{slice_get-map, slice_get_past, slice_get-get_or}
use Rattle.std.proofs.lemmas.List.Quantifiers.{position-Some}
use Rattle.elf_sections.specs.Sections.{sections, names, bytes_of}
use Rattle.elf_sections.specs.declared.section.SectionHeader.{SectionHeader}
use Rattle.sym_edges.specs.declared.part.Sect.{Sect}
use Rattle.full_image.specs.Compressed.{Stream, is_called, is_packed, stream_in, stream_of}
use Rattle.full_image.specs.FullImage.{streams, outcome_of, outcomes_of, full_bytes, full_part_of, full_part}
use Rattle.full_image.specs.internal.Front.{bytes_by}

found_at : {X : Type 0} (p : X → Bool) (xs : List X) (i : ℕ) → position p xs ≡ Some i → find p xs ≡ slice_get xs i
found_at p xs i is = let at : position_or_len p xs ≡ i = grind (arith, nat_tests) in find_at p xs ∙ ap (slice_get xs) at

not_found : {X : Type 0} (p : X → Bool) (xs : List X) → position p xs ≡ None → find p xs ≡ None
not_found p xs is = let past : length xs ≤ position_or_len p xs = grind (arith, nat_tests) in find_at p xs ∙ slice_get_past xs (position_or_len p xs) past

pub part_none : (file : List ℕ) (which : Sect) → position (is_called (names file) which) (sections file) ≡ None → full_part file which ≡ record { bytes = []; address = 0 }
unfolding full_part
part_none file which is = ap (full_part_of file) (not_found (is_called (names file) which) (sections file) is)

-- The bytes of a compressed section are what its data inflates to.
bytes_cases : (b : Bool) (stream : Option Stream) (plain : List ℕ) → cond b (unwrap_or (outcome_of stream) []) plain ≡ cond b (unwrap_or (outcome_of (cond b stream None)) []) plain
bytes_cases true stream plain = refl
bytes_cases false stream plain = refl

outcome_at : (file : List ℕ) (index : ℕ) (s : SectionHeader) → slice_get (sections file) index ≡ Some s → slice_get (outcomes_of (record { full = true; file = file })) index ≡ Some (outcome_of (stream_of file (names file) s))
unfolding outcomes_of streams
outcome_at file index s is =
    slice_get-map outcome_of (map (stream_of file (names file)) (sections file)) index
    ∙ ap (option_map outcome_of) (slice_get-map (stream_of file (names file)) (sections file) index ∙ ap (option_map (stream_of file (names file))) is)

bytes_are : (file : List ℕ) (index : ℕ) (s : SectionHeader) → slice_get (sections file) index ≡ Some s → full_bytes file s ≡ bytes_by (outcomes_of (record { full = true; file = file })) file index s
unfolding full_bytes stream_of
bytes_are file index s is =
    bytes_cases (is_packed (names file) s) (stream_in file s) (bytes_of file s)
    ∙ ap (λ o. cond (is_packed (names file) s) (unwrap_or (unwrap_or o None) []) (bytes_of file s)) (sym (outcome_at file index s is))

pub part_some : (file : List ℕ) (which : Sect) (outcomes : List (Option (List ℕ))) (index : ℕ) (s : SectionHeader) → outcomes ≡ outcomes_of (record { full = true; file = file }) → position (is_called (names file) which) (sections file) ≡ Some index → slice_get (sections file) index ≡ Some s
    → full_part file which ≡ record { bytes = bytes_by outcomes file index s; address = s.address }
unfolding full_part
part_some file which outcomes index s are is there =
    ap (full_part_of file) (found_at (is_called (names file) which) (sections file) index is ∙ there)
    ∙ ap (λ b. record { bytes = b; address = s.address }) (bytes_are file index s there ∙ ap (λ o. bytes_by o file index s) (sym are))

pub part_there : (file : List ℕ) (which : Sect) (outcomes : List (Option (List ℕ))) (index : ℕ) (s d : SectionHeader) (bytes : List ℕ) → outcomes ≡ outcomes_of (record { full = true; file = file }) → position (is_called (names file) which) (sections file) ≡ Some index → s ≡ get_or (sections file) index d
    → bytes ≡ bytes_by outcomes file index s → full_part file which ≡ record { bytes = bytes; address = s.address }
part_there file which outcomes index s d bytes are is at says =
    let there : slice_get (sections file) index ≡ Some s = slice_get-get_or (sections file) index d (position-Some (is_called (names file) which) (sections file) index d is).0 ∙ ap Some (sym at) in
    part_some file which outcomes index s are is there ∙ ap (λ b. record { bytes = b; address = s.address }) (sym says)
