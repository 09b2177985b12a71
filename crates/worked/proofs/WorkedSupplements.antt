-- Worked examples: files with names and entries in a supplementary file, as dwz makes them (DWARF
-- 5, 7.3.6).
use Rattle.std.proofs.Common.{◌≡◌, ℕ, ◌+◌, Bool, true, false, List, [], ◌∷◌, ◌++◌, codes, length, Option, None, Some, Result, Ok, Err, if◌then◌else◌, refl}
use Prim.Native.String.{String}
use Rattle.std.specs.Str.{bytes_eq}
use Rattle.sym_edges.proofs.Hex.{little}
use Rattle.sym_edges.proofs.Shown.{shown}
use Rattle.sym_edges.specs.Outside.{Files}
use Rattle.elf_sections.specs.Image.{ImageParts}
use Rattle.debug_pair.proofs.Computing.{debug_pair_computes}
use Rattle.debug_read.specs.DebugSays.{DebugSays, debug_says}
use Rattle.debug_read.specs.SaidNames.{said_name}
use Rattle.debug_read.specs.SaidOwners.{SaidEntry, said_owner}
use Rattle.debug_read.specs.UnitSays.{UnitSays}
use Rattle.debug_read.specs.declared.fault.DebugFault.{DebugFault}
use Rattle.dumpsyms_cmd.specs.Words.{Asked, dump, command_of}
use Rattle.dumpsyms_cmd.specs.Verdict.{Verdict}
use Rattle.dumpsyms_cmd.specs.Refusals.{debug_line}
use Rattle.dumpsyms_cmd.specs.ElfInput.{given_image}
use Rattle.dumpsyms_cmd.specs.commands.Dump.{left_out}
use Rattle.worked.proofs.Elf.{Section, null, plain, progbits, code, loaded, file_of, id_note, hex}
use Rattle.worked.proofs.Small.{Told, told, id, text, refused, files}

-- The ELF file `d/a.out`, and its supplementary file at `d/s`.
unfoldable both : List ℕ → Option (List ℕ) → Files
both elf sup asked = if bytes_eq asked (codes "d/a.out") then Some elf else if bytes_eq asked (codes "d/s") then sup else None

-- The name of the function that owns 1000.
abbrev name_by : List UnitSays → Option SaidEntry → List ℕ
name_by units None = codes "no function"
name_by units (Some e) = said_name units e.unit e.entry

-- The verdict, if the file is refused or cannot be read. Otherwise status 0, this name, and what
-- standard error gets.
abbrev debug_told : Bool → ImageParts → Result DebugSays DebugFault → Told
debug_told full parts (Err fault) = refused (shown (debug_line fault))
debug_told full parts (Ok found) = Some (0, shown (name_by found.units (said_owner parts.code found.units 0x1000)), shown (left_out full parts found))

abbrev image_told : Bool → Result ImageParts Verdict → Told
image_told full (Err ended) = told (Some ended)
image_told full (Ok parts) = debug_told full parts (debug_says parts)

abbrev command_told : Option Asked → Files → Told
command_told (Some (dump source workers)) known = image_told source.full (given_image source known)
command_told other known = None

-- The same for `dump --full d/a.out`, and for `dump d/a.out`.
unfoldable names : List ℕ → Option (List ℕ) → Told
names elf sup = command_told (command_of (codes "dump" ∷ codes "--full" ∷ codes "d/a.out" ∷ [])) (both elf sup)

unfoldable plain_names : List ℕ → Option (List ℕ) → Told
plain_names elf sup = command_told (command_of (codes "dump" ∷ codes "d/a.out" ∷ [])) (both elf sup)

abbrev named : String → String → Told
named name err = Some (0, name, err)

-- A unit of version 4 or of another version, by its entries, which begin at b.
unfoldable unit_of : String → String → List ℕ
unit_of version entries = little 4 (7 + length (hex entries)) ++ hex version ++ hex "00000000 08" ++ hex entries

-- A section that links to the path `s` with an id. There is a zero byte between them.
unfoldable link : String → Section
link rest = progbits ".gnu_debugaltlink" (codes "s" ++ hex rest)

abbrev right : Section
right = link "00 a0a1a2a3"

-- An ELF file with a build id, code from 1000 to 1010, a link, and these units and abbreviations.
unfoldable linking : Section → String → String → List ℕ
linking to entries abbreviations =
    file_of (loaded 0 ∷ []) (null ∷ id ∷ code 0x1000 text ∷ progbits ".debug_info" (unit_of "0400" entries) ∷ progbits ".debug_abbrev" (hex abbreviations) ∷ to ∷ [])

-- A function from 1000 to 1010 whose declaration is at 12 of the supplementary file
-- (DW_AT_specification, DW_FORM_GNU_ref_alt).
unfoldable declared_there : Section → List ℕ
declared_there to = linking to "01 02 0010000000000000 10 12000000 00" "01 11 01 00 00   02 2e 00 11 01 12 0b 47 a03e 00 00   00"

-- A function `f` from 1000 to 1010 in a structure `S` in a namespace `n`, whose names are in the
-- supplementary file (DW_FORM_GNU_strp_alt).
unfoldable named_there : Section → List ℕ
named_there to =
    linking to "01 02 00000000 03 02000000 04 04000000 0010000000000000 10 00 00 00"
    "01 11 01 00 00   02 39 01 03 a13e 00 00   03 13 01 03 a13e 00 00   04 2e 00 03 a13e 11 01 12 0b 00 00   00"

-- A supplementary file with a build id and texts. Its unit has a namespace `n`, in it a structure
-- `S`, and in that, at 12, a declaration of `f`.
unfoldable sup_of : String → List ℕ
sup_of version =
    file_of [] (
    null ∷ plain ".note.gnu.build-id" 7 (id_note (hex "a0a1a2a3"))
    ∷ progbits ".debug_info" (unit_of version "01 02 6e00 03 5300 04 6600 00 00 00")
    ∷ progbits ".debug_abbrev" (hex "01 3c 01 00 00   02 39 01 03 08 00 00   03 13 01 03 08 00 00   04 2e 00 03 08 3c 19 00 00   00")
    ∷ progbits ".debug_str" (hex "6e00 5300 6600") ∷ [])

abbrev sup : Option (List ℕ)
sup = Some (sup_of "0400")

a_declaration_there : names (declared_there right) sup ≡ named "n::S::f" ""
unfolding files debug_pair_computes said_name said_owner both names plain_names unit_of link linking declared_there named_there sup_of
a_declaration_there = refl

names_there : names (named_there right) sup ≡ named "n::S::f" ""
unfolding files debug_pair_computes said_name said_owner both names plain_names unit_of link linking declared_there named_there sup_of
names_there = refl

-- Links are followed only with `--full`.
a_declaration_that_is_not_read : plain_names (declared_there right) sup ≡ named "<name omitted>" ""
unfolding files debug_pair_computes said_name said_owner both names plain_names unit_of link linking declared_there named_there sup_of
a_declaration_that_is_not_read = refl

names_that_are_not_read : plain_names (named_there right) sup ≡ named "<name omitted>" ""
unfolding files debug_pair_computes said_name said_owner both names plain_names unit_of link linking declared_there named_there sup_of
names_that_are_not_read = refl

a_bad_link_that_is_not_followed : plain_names (declared_there (link "")) None ≡ named "<name omitted>" ""
unfolding files debug_pair_computes said_name said_owner both names plain_names unit_of link linking declared_there named_there sup_of
a_bad_link_that_is_not_followed = refl

-- An id with another last byte, a link without its zero byte, and one without an id.
another_id : names (declared_there (link "00 a0a1a2a4")) sup ≡ refused "refused sup build-id\n"
unfolding files debug_pair_computes said_name said_owner both names plain_names unit_of link linking declared_there named_there sup_of
another_id = refl

no_zero_byte : names (declared_there (link "")) sup ≡ refused "refused sup link\n"
unfolding files debug_pair_computes said_name said_owner both names plain_names unit_of link linking declared_there named_there sup_of
no_zero_byte = refl

no_id : names (declared_there (link "00")) sup ≡ refused "refused sup link\n"
unfolding files debug_pair_computes said_name said_owner both names plain_names unit_of link linking declared_there named_there sup_of
no_id = refl

-- The supplementary file does not exist.
not_there : names (declared_there right) None ≡ Some (3, "", "cannot read d/s\n")
unfolding files debug_pair_computes said_name said_owner both names plain_names unit_of link linking declared_there named_there sup_of
not_there = refl

-- The unit of the supplementary file is skipped. It is listed if an entry refers to it.
a_skipped_unit : names (declared_there right) (Some (sup_of "0300")) ≡ named "<name omitted>" "skipped sup_info 0 version 3\n"
unfolding files debug_pair_computes said_name said_owner both names plain_names unit_of link linking declared_there named_there sup_of
a_skipped_unit = refl

a_skipped_unit_that_is_not_needed : names (named_there right) (Some (sup_of "0300")) ≡ named "n::S::f" ""
unfolding files debug_pair_computes said_name said_owner both names plain_names unit_of link linking declared_there named_there sup_of
a_skipped_unit_that_is_not_needed = refl
