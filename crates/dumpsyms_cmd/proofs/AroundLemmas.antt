-- The records before and after those of functions.
use Rattle.std.proofs.Common.{◌≡◌, ℕ, true, map, List, [], ◌∷◌, ◌++◌, Option, None, Some, refl}
use Rattle.std.specs.List.{list_all}
use Rattle.elf_sections.specs.Image.{ImageParts}
use Rattle.sym_records.specs.declared.line.SymLine.{SymLine}
use Rattle.sym_meaning.specs.Plain.{ArePlain, HaveNoFile, HaveNoOrigin}
use Rattle.sym_meaning.specs.Findings.{are_sized}
use Rattle.rule_postfix.proofs.SayingLemmas.{written_plain, written_no_file, written_no_origin}
use Rattle.func_flatten.specs.declared.piece.Piece.{Piece}
use Rattle.func_flatten.specs.Publics.{PublicParts, publics}
use Rattle.debug_read.specs.DebugSays.{DebugSays}
use Rattle.dumpsyms_cmd.specs.commands.Dump.{module_line, info_line, info_lines, identity_lines, public_line, public_lines, frame_lines, written_of}

-- The records of the binary.
infos_plain : (id : Option (List ℕ)) → ArePlain (info_lines id)
unfolding info_line
infos_plain None = tt
infos_plain (Some id) = (tt, tt)

pub identity_plain : (image : ImageParts) (name : List ℕ) → ArePlain (identity_lines image name)
unfolding module_line
identity_plain image name = (tt, infos_plain image.build_id)

infos_no_file : (id : Option (List ℕ)) → HaveNoFile (info_lines id)
unfolding info_line
infos_no_file None = tt
infos_no_file (Some id) = (tt, tt)

pub identity_no_file : (image : ImageParts) (name : List ℕ) → HaveNoFile (identity_lines image name)
unfolding module_line
identity_no_file image name = (tt, infos_no_file image.build_id)

infos_no_origin : (id : Option (List ℕ)) → HaveNoOrigin (info_lines id)
unfolding info_line
infos_no_origin None = tt
infos_no_origin (Some id) = (tt, tt)

pub identity_no_origin : (image : ImageParts) (name : List ℕ) → HaveNoOrigin (identity_lines image name)
unfolding module_line
identity_no_origin image name = (tt, infos_no_origin image.build_id)

infos_sized : (id : Option (List ℕ)) → list_all are_sized (info_lines id) ≡ true
unfolding info_line
infos_sized None = refl
infos_sized (Some id) = refl

pub identity_sized : (image : ImageParts) (name : List ℕ) → list_all are_sized (identity_lines image name) ≡ true
unfolding module_line
identity_sized image name = infos_sized image.build_id

-- What is true of a list, and stays true if a record of this kind is put before it, is true after
-- all these records are put before it.
publics_over : (P : List SymLine → Type 0) (base : ℕ) (ps : List PublicParts) (rest : List SymLine) → ((p : PublicParts) (later : List SymLine) → P later → P (public_line base p ∷ later)) → P rest → P (map (public_line base) ps ++ rest)
publics_over P base [] rest more is = is
publics_over P base (p ∷ ps) rest more is = more p (map (public_line base) ps ++ rest) (publics_over P base ps rest more is)

-- The records after those of functions are plain: none is a FILE or an INLINE_ORIGIN.
pub frames_plain : (image : ImageParts) (found : DebugSays) → ArePlain (frame_lines image found)
frames_plain image found = written_plain image.base (written_of image found)

pub behind_plain : (image : ImageParts) (pieces : List Piece) (found : DebugSays) → ArePlain (public_lines image pieces ++ frame_lines image found)
behind_plain image pieces found = publics_over (λ (l : List SymLine). ArePlain l) image.base (publics pieces image.symbols) (frame_lines image found) (λ p later is. (tt, is)) (frames_plain image found)

pub behind_no_file : (image : ImageParts) (pieces : List Piece) (found : DebugSays) → HaveNoFile (public_lines image pieces ++ frame_lines image found)
behind_no_file image pieces found =
    let P : List SymLine → Type 0 = λ l. HaveNoFile l in
    publics_over P image.base (publics pieces image.symbols) (frame_lines image found) (λ p later is. (tt, is))
    (written_no_file image.base (written_of image found))

pub behind_no_origin : (image : ImageParts) (pieces : List Piece) (found : DebugSays) → HaveNoOrigin (public_lines image pieces ++ frame_lines image found)
behind_no_origin image pieces found =
    let P : List SymLine → Type 0 = λ l. HaveNoOrigin l in
    publics_over P image.base (publics pieces image.symbols) (frame_lines image found) (λ p later is. (tt, is))
    (written_no_origin image.base (written_of image found))

pub behind_sized : (image : ImageParts) (pieces : List Piece) (found : DebugSays) → list_all are_sized (frame_lines image found) ≡ true → list_all are_sized (public_lines image pieces ++ frame_lines image found) ≡ true
behind_sized image pieces found sized = publics_over (λ (l : List SymLine). list_all are_sized l ≡ true) image.base (publics pieces image.symbols) (frame_lines image found) (λ p later is. is) sized
