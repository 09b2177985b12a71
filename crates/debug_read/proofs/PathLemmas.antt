-- The paths of all line tables that are read are cleaned; for the law `paths_are_clean`.
use Rattle.std.proofs.Common.{◌≡◌, ℕ, Bool, true, false, cond, nat_lt, length, map, drop, List, [], ◌∷◌, ◌++◌, Option, None, Some, unwrap_or, Result, Ok, Err, sym, subst}
use Rattle.sym_edges.specs.Addresses.{Range}
use Rattle.sym_edges.specs.Results.{◌>>=◌}
use Rattle.sym_edges.specs.declared.located.Located.{Located}
use Rattle.sym_edges.specs.declared.part.Sect.TheVariants.{Line}
use Rattle.leb_cursor.specs.Ahead.{Ahead}
use Rattle.elf_sections.specs.Image.{ImageParts}
use Rattle.abbrev_units.specs.declared.fault.DwarfKind.{DwarfKind}
use Rattle.abbrev_units.specs.declared.unit.Unit.{Unit}
use Rattle.abbrev_units.specs.DebugSections.{DebugSections}
use Rattle.abbrev_units.specs.Abbreviations.{abbrevs_of}
use Rattle.abbrev_units.specs.Faults.{as_header}
use Rattle.die_walk.specs.EntryTable.{RootFields, entry_table}
use Rattle.line_program.specs.FileFields.{FileFields}
use Rattle.line_program.specs.FileTables.{Tables, tables_at}
use Rattle.line_program.specs.Headers.{table_at}
use Rattle.line_program.specs.LineAt.{Lines}
use Rattle.line_program.specs.LineMaps.{LineMap}
use Rattle.line_program.specs.LineRows.{State, line_rows}
use Rattle.line_program.specs.LineTables.{lines_of, lines_at, unit_lines}
use Rattle.line_program.specs.Paths.{directories_of, file_path}
use Rattle.debug_units.specs.declared.unit_read.UnitRead.{UnitRead}
use Rattle.sym_edges.specs.declared.part.Sect.TheVariants.{EhFrame, DebugFrame}
use Rattle.abbrev_units.specs.UnitPlaces.{read_units}
use Rattle.abbrev_units.specs.Units.{units_in}
use Rattle.frame_entries.specs.FrameEntries.{frame_entries}
use Rattle.debug_read.specs.declared.fault.DebugFault.{DebugFault}
use Rattle.debug_read.specs.DebugSays.{FileSays, BothSays, DebugSays, as_dwarf, as_sup, as_frame, file_says, both_says, debug_says, IsDebugRead}
use Rattle.debug_read.specs.declared.found.DebugRead.{DebugRead}
use Rattle.debug_read.proofs.KeptLemmas.{kept}
use Rattle.debug_read.specs.Each.{each_of, Match}
use Rattle.debug_read.specs.ImageSections.{sections_of, sup_sections_of}
use Rattle.debug_read.specs.UnitSays.{UnitSays, lines_by, root_lines, unit_pairs, unit_says}
use Rattle.debug_read.specs.UnitsRead.{IsUnitRead, KeepsLines, has_function}
use Rattle.clean_names.specs.Cleaning.{AreClean}
use Rattle.debug_units.specs.CleanPaths.{HaveCleanPaths}
use Rattle.clean_names.proofs.CleanLemmas.{cleaned_again}

-- What holds for the value of a result, if there is a value.
abbrev Holds : {A F : Type 0} → (A → Type 0) → Result A F → Type 0
Holds P (Ok x) = P x
Holds P (Err fault) = Prim.Unit {0}

then_holds : {A B F : Type 0} (P : B → Type 0) (first : Result A F) (next : A → Result B F) → ((x : A) → Holds P (next x)) → Holds P (first >>= next)
then_holds P (Ok x) next each = each x
then_holds P (Err fault) next each = tt

made_holds : {A B F : Type 0} (P : A → Type 0) (Q : B → Type 0) (first : Result A F) (make : A → B) → Holds P first → ((x : A) → P x → Q (make x)) → Holds Q (first >>= λ x. Ok (make x))
made_holds P Q (Ok x) make holds each = each x holds
made_holds P Q (Err fault) make holds each = tt

also_holds : {A B F : Type 0} (P : A → Type 0) (Q : B → Type 0) (first : Result A F) (next : A → Result B F) → Holds P first → ((x : A) → P x → Holds Q (next x)) → Holds Q (first >>= next)
also_holds P Q (Ok x) next holds each = each x holds
also_holds P Q (Err fault) next holds each = tt

-- The paths of a line table.
files_clean : (directories : List (List ℕ)) (files : List FileFields) → AreClean (map (file_path directories) files)
unfolding file_path
files_clean directories [] = tt
files_clean directories (file ∷ files) = (cleaned_again _, files_clean directories files)

abbrev HasCleanFiles : Lines → Type 0
HasCleanFiles lines = AreClean lines.files

table_clean : (comp_dir : List ℕ) (version : ℕ) (tables : Tables) (state : State) → HasCleanFiles (lines_of comp_dir version tables state)
unfolding lines_of
table_clean comp_dir version tables state = files_clean (directories_of version comp_dir tables.directories) (tables.files ++ state.files)

lines_clean : (sections : DebugSections) (comp_dir : List ℕ) (c : Ahead) → Holds HasCleanFiles (lines_at sections comp_dir c)
unfolding lines_at
lines_clean sections comp_dir c =
    then_holds HasCleanFiles (as_header Line c.at (table_at c)) _ (λ header.
    then_holds HasCleanFiles (tables_at sections c.at header) _ (λ tables.
    then_holds HasCleanFiles (line_rows header.program header.opcodes) _ (λ state. table_clean comp_dir header.program.version tables state)))

cut_clean : (outside : Bool) (fault : Located DwarfKind) (sections : DebugSections) (comp_dir : List ℕ) (c : Ahead) → Holds HasCleanFiles (cond outside (Err fault) (lines_at sections comp_dir c))
cut_clean true fault sections comp_dir c = tt
cut_clean false fault sections comp_dir c = lines_clean sections comp_dir c

unit_clean : (sections : DebugSections) (offset place : ℕ) (comp_dir : List ℕ) → Holds HasCleanFiles (unit_lines sections offset place comp_dir)
unfolding unit_lines
unit_clean sections offset place comp_dir = cut_clean (nat_lt (length sections.line) offset) _ sections comp_dir (record { bytes = drop offset sections.line; at = offset })

-- The paths of a unit, if it has a table.
abbrev MayHaveClean : Option Lines → Type 0
MayHaveClean None = Prim.Unit {0}
MayHaveClean (Some lines) = HasCleanFiles lines

root_clean : (sections : DebugSections) (root : RootFields) (place : Option ℕ) → Holds MayHaveClean (lines_by sections root place)
root_clean sections root None = tt
root_clean sections root (Some offset) =
    made_holds HasCleanFiles MayHaveClean (unit_lines sections offset root.at (unwrap_or root.comp_dir [])) (λ lines. Some lines) (unit_clean sections offset root.at (unwrap_or root.comp_dir [])) (λ lines clean. clean)

abbrev SaysClean : UnitSays → Type 0
SaysClean says = MayHaveClean says.lines

says_clean : (sections : DebugSections) (unit : Unit) → Holds SaysClean (unit_says sections unit)
unfolding unit_says root_lines
says_clean sections unit =
    then_holds SaysClean (abbrevs_of sections unit) _ (λ abbrevs.
    then_holds SaysClean (entry_table sections unit abbrevs) _ (λ table.
    then_holds SaysClean (unit_pairs sections unit table) _ (λ pairs.
    made_holds MayHaveClean SaysClean (lines_by sections table.root table.root.stmt_list) (λ lines. record { table = table; pairs = pairs; lines = lines }) (root_clean sections table.root table.root.stmt_list) (λ lines clean. clean))))

abbrev AllSayClean : List UnitSays → Type 0
AllSayClean [] = Prim.Unit {0}
AllSayClean (says ∷ all) = SaysClean says × AllSayClean all

units_clean : (sections : DebugSections) (units : List Unit) → Holds AllSayClean (each_of (unit_says sections) units)
unfolding each_of
units_clean sections [] = tt
units_clean sections (unit ∷ units) =
    also_holds SaysClean AllSayClean (unit_says sections unit) _ (says_clean sections unit) (λ says clean.
    made_holds AllSayClean AllSayClean (each_of (unit_says sections) units) (λ rest. says ∷ rest) (units_clean sections units) (λ rest all. (clean, all)))

-- The paths that are kept.
kept_clean : (code : List Range) (asked : Bool) (lines : Option Lines) (kept : LineMap) → MayHaveClean lines → KeepsLines code asked lines kept → AreClean kept.paths
kept_clean code true (Some lines) kept clean says = subst AreClean (sym says.paths) clean
kept_clean code true None kept clean says = subst (λ (m : LineMap). AreClean m.paths) (sym says) tt
kept_clean code false lines kept clean says = subst (λ (m : LineMap). AreClean m.paths) (sym says) tt

all_clean : (code : List Range) (says : List UnitSays) (parts : List UnitRead) → AllSayClean says → Match (IsUnitRead code) says parts → HaveCleanPaths parts
all_clean code [] [] clean are = tt
all_clean code [] (part ∷ parts) clean are = absurd are
all_clean code (s ∷ says) [] clean are = absurd are
all_clean code (s ∷ says) (part ∷ parts) clean are =
    (kept_clean code (has_function s.table.dies) s.lines part.lines clean.0 are.0.lines, all_clean code says parts clean.1 are.1)

-- The paths of a file, and of its supplementary file.
both_clean : (all more : List UnitSays) → AllSayClean all → AllSayClean more → AllSayClean (all ++ more)
both_clean [] more clean other = other
both_clean (says ∷ all) more clean other = (clean.0, both_clean all more clean.1 other)

abbrev FileClean : FileSays → Type 0
FileClean says = AllSayClean says.units

file_clean : (sections : DebugSections) → Holds FileClean (file_says sections)
unfolding file_says
file_clean sections =
    then_holds FileClean (units_in sections.info) _ (λ headers.
    made_holds AllSayClean FileClean (each_of (unit_says sections) (read_units headers)) (λ units. record { headers = headers; units = units }) (units_clean sections (read_units headers)) (λ units clean. clean))

dwarf_clean : (given : Result FileSays (Located DwarfKind)) → Holds FileClean given → Holds FileClean (as_dwarf given)
dwarf_clean (Ok says) clean = clean
dwarf_clean (Err fault) clean = tt

sup_clean : (given : Result FileSays (Located DwarfKind)) → Holds FileClean given → Holds FileClean (as_sup given)
sup_clean (Ok says) clean = clean
sup_clean (Err fault) clean = tt

abbrev BothClean : BothSays → Type 0
BothClean says = AllSayClean says.units

units_of_both : (image : ImageParts) → Holds BothClean (both_says image)
unfolding both_says
units_of_both image =
    also_holds FileClean BothClean (as_dwarf (file_says (sections_of image))) _ (dwarf_clean (file_says (sections_of image)) (file_clean (sections_of image))) (λ own clean.
    also_holds FileClean BothClean (as_sup (file_says (sup_sections_of image.sup))) _ (sup_clean (file_says (sup_sections_of image.sup)) (file_clean (sup_sections_of image.sup))) (λ sup other.
    both_clean own.units sup.units clean other))

abbrev DebugClean : DebugSays → Type 0
DebugClean says = AllSayClean says.units

image_clean : (image : ImageParts) → Holds DebugClean (debug_says image)
unfolding debug_says
image_clean image =
    also_holds BothClean DebugClean (both_says image) _ (units_of_both image) (λ both clean.
    then_holds DebugClean (as_frame (frame_entries image.eh_frame.bytes image.eh_frame.address EhFrame)) _ (λ first.
    then_holds DebugClean (as_frame (frame_entries image.debug_frame.bytes image.debug_frame.address DebugFrame)) _ (λ second. clean)))

said_clean : (image : ImageParts) (says : DebugSays) → debug_says image ≡ Ok says → AllSayClean says.units
said_clean image says is = subst (λ (r : Result DebugSays DebugFault). Holds DebugClean r) is (image_clean image)

pub read_clean : (image : ImageParts) (read : DebugRead) → IsDebugRead image read → HaveCleanPaths read.units
read_clean image read is = let k = kept image read is in all_clean image.code k.says.units read.units (said_clean image k.says k.says_is) k.units
