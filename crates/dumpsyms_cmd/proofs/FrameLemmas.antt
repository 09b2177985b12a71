-- The lines about omitted entries, and what the records of a file say of its frame entries.
use Rattle.std.proofs.Common.{◌≡◌, ℕ, ◌+◌, ◌≤◌, true, List, [], ◌∷◌, ◌++◌, map, length, take, Option, Some, None, refl, ◌∙◌, ap}
use Rattle.std.specs.List.{flat_map, list_all}
use Rattle.std.proofs.lemmas.List.{take_all}
use Rattle.elf_sections.specs.Image.{ImageParts}
use Rattle.abbrev_units.specs.DebugSections.{DebugSections}
use Rattle.abbrev_units.specs.declared.unit.Unit.{Unit}
use Rattle.debug_units.specs.declared.unit_read.UnitRead.{UnitRead}
use Rattle.func_flatten.specs.declared.piece.Piece.{Piece}
use Rattle.func_flatten.specs.declared.line_run.LineRun.{LineRun}
use Rattle.func_flatten.specs.Publics.{PublicParts, publics}
use Rattle.inline_chain.specs.InlineRuns.{InlineParts}
use Rattle.func_records.specs.FuncRecords.{Part, file_lines, origin_lines, inline_record, line_record, part_lines, AreFuncRecords}
use Rattle.sym_records.specs.declared.line.SymLine.{SymLine}
use Rattle.rule_postfix.specs.declared.omission.Omission.{Omission}
use Rattle.dumpsyms_cmd.specs.Refusals.{omitted_line, omitted_text, skipped_of, skipped_text, unit_left, units_left_text}
use Rattle.sym_meaning.specs.Inits.{is_frameless}
use Rattle.sym_meaning.proofs.InitLemmas.{both_frameless}
use Rattle.dumpsyms_cmd.specs.commands.Dump.{module_line, info_line, info_lines, identity_lines, public_line, public_lines}

-- After the last line.
pub lines_end : (before text : List ℕ) (omissions : List Omission) (i : ℕ) → length omissions ≤ i → text ≡ before ++ flat_map omitted_line (take i omissions) → text ≡ before ++ omitted_text omissions
unfolding omitted_text
lines_end before text omissions i past is = is ∙ ap (λ l. before ++ flat_map omitted_line l) (take_all i omissions past)

pub skipped_end : (before text : List ℕ) (units : List Unit) (i : ℕ) → length units ≤ i → text ≡ before ++ flat_map skipped_of (take i units) → text ≡ before ++ skipped_text units
unfolding skipped_text
skipped_end before text units i past is = is ∙ ap (λ l. before ++ flat_map skipped_of l) (take_all i units past)

pub left_end : (before text : List ℕ) (sections : DebugSections) (units : List Unit) (i : ℕ) → length units ≤ i → text ≡ before ++ flat_map (unit_left sections) (take i units) → text ≡ before ++ units_left_text sections units
unfolding units_left_text
left_end before text sections units i past is = is ∙ ap (λ l. before ++ flat_map (unit_left sections) l) (take_all i units past)

-- The records before those of frames have no frame rules.
infos_frameless : (id : Option (List ℕ)) → list_all is_frameless (info_lines id) ≡ true
unfolding info_line
infos_frameless None = refl
infos_frameless (Some id) = refl

identity_frameless : (image : ImageParts) (name : List ℕ) → list_all is_frameless (identity_lines image name) ≡ true
unfolding module_line
identity_frameless image name = infos_frameless image.build_id

files_frameless : (k : ℕ) (paths : List (List ℕ)) → list_all is_frameless (file_lines k paths) ≡ true
files_frameless k [] = refl
files_frameless k (path ∷ paths) = files_frameless (k + 1) paths

runs_frameless : (base : ℕ) (paths : List (List ℕ)) (units : List UnitRead) (unit : ℕ) (runs : List LineRun) → list_all is_frameless (map (line_record base paths units unit) runs) ≡ true
runs_frameless base paths units unit [] = refl
runs_frameless base paths units unit (r ∷ runs) = runs_frameless base paths units unit runs

origins_frameless : (k : ℕ) (names : List (List ℕ)) → list_all is_frameless (origin_lines k names) ≡ true
origins_frameless k [] = refl
origins_frameless k (name ∷ names) = origins_frameless (k + 1) names

copies_frameless : (base : ℕ) (paths names : List (List ℕ)) (units : List UnitRead) (unit : ℕ) (copies : List InlineParts) → list_all is_frameless (map (inline_record base paths names units unit) copies) ≡ true
copies_frameless base paths names units unit [] = refl
copies_frameless base paths names units unit (c ∷ copies) = copies_frameless base paths names units unit copies

parts_frameless : (base : ℕ) (paths names : List (List ℕ)) (units : List UnitRead) (parts : List Part) → list_all is_frameless (part_lines base paths names units parts) ≡ true
parts_frameless base paths names units [] = refl
parts_frameless base paths names units (p ∷ parts) =
    both_frameless (map (inline_record base paths names units p.piece.unit) p.copies) (map (line_record base paths units p.piece.unit) p.lines ++ part_lines base paths names units parts) (copies_frameless base paths names units p.piece.unit p.copies)
    (both_frameless (map (line_record base paths units p.piece.unit) p.lines) (part_lines base paths names units parts) (runs_frameless base paths units p.piece.unit p.lines) (parts_frameless base paths names units parts))

functions_frameless : (base : ℕ) (units : List UnitRead) (pieces : List Piece) (records : List SymLine) → AreFuncRecords base units pieces records → list_all is_frameless records ≡ true
functions_frameless base units pieces records are = rw are.whole
    (both_frameless (file_lines 0 are.paths) (origin_lines 0 are.names ++ part_lines base are.paths are.names units are.parts) (files_frameless 0 are.paths)
    (both_frameless (origin_lines 0 are.names) (part_lines base are.paths are.names units are.parts) (origins_frameless 0 are.names) (parts_frameless base are.paths are.names units are.parts)))

publics_frameless : (base : ℕ) (ps : List PublicParts) → list_all is_frameless (map (public_line base) ps) ≡ true
publics_frameless base [] = refl
publics_frameless base (p ∷ ps) = publics_frameless base ps

pub head_frameless : (image : ImageParts) (name : List ℕ) (units : List UnitRead) (pieces : List Piece) (functions : List SymLine) → AreFuncRecords image.base units pieces functions → list_all is_frameless (identity_lines image name ++ (functions ++ public_lines image pieces)) ≡ true
head_frameless image name units pieces functions are =
    both_frameless (identity_lines image name) (functions ++ public_lines image pieces) (identity_frameless image name)
    (both_frameless functions (public_lines image pieces) (functions_frameless image.base units pieces functions are) (publics_frameless image.base (publics pieces image.symbols)))
