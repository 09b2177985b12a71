-- A checker finds nothing in the records that `dump_file` spells.
use Rattle.std.proofs.Common.{◌≡◌, ℕ, ◌^◌, true, List, ◌++◌, sym, subst}
use Rattle.std.specs.List.{list_all}
use Rattle.elf_sections.specs.Image.{ImageParts}
use Rattle.sym_records.specs.declared.line.SymLine.{SymLine}
use Rattle.sym_meaning.specs.Findings.{are_sized, HasNoFuncFindings, HasNoFindings}
use Rattle.rule_postfix.specs.Covering.{SaysFrames}
use Rattle.rule_postfix.proofs.SayingLemmas.{written_once}
use Rattle.debug_units.specs.declared.unit_read.UnitRead.{UnitRead}
use Rattle.func_flatten.specs.declared.piece.Piece.{Piece}
use Rattle.func_flatten.specs.Pieces.{ArePieces}
use Rattle.func_records.specs.FuncRecords.{AreFuncRecords, BeginAbove, EndBelow}
use Rattle.func_records.proofs.FindingLemmas.{none_found}
use Rattle.debug_read.specs.DebugSays.{DebugSays}
use Rattle.dumpsyms_cmd.specs.commands.Dump.{identity_lines, public_lines, frame_lines, written_of}
use Rattle.dumpsyms_cmd.proofs.AroundLemmas.{identity_plain, identity_no_file, identity_no_origin, identity_sized, behind_plain, behind_no_file, behind_no_origin, behind_sized}

-- A checker finds nothing in the records of a file.
pub file_clean : (image : ImageParts) (name : List ℕ) (found : DebugSays) (units : List UnitRead) (pieces : List Piece) (functions lines : List SymLine) → ArePieces units pieces → BeginAbove image.base pieces → EndBelow (2 ^ 64) pieces → AreFuncRecords image.base units pieces functions → lines ≡ identity_lines image name ++ (functions ++ (public_lines image pieces ++ frame_lines image found)) → list_all are_sized (frame_lines image found) ≡ true → SaysFrames image.base (written_of image found) lines → HasNoFindings lines
file_clean image name found units pieces functions lines pieced above below records whole sized frames =
    record {
      functions = subst (λ (l : List SymLine). HasNoFuncFindings l) (sym whole)
          (none_found image.base units pieces (identity_lines image name) functions (public_lines image pieces ++ frame_lines image found) pieced above below records
          (identity_plain image name) (identity_no_file image name) (identity_no_origin image name) (identity_sized image name)
          (behind_plain image pieces found) (behind_no_file image pieces found) (behind_no_origin image pieces found) (behind_sized image pieces found sized));
      inits_apart = written_once image.base (written_of image found) lines frames;
      changes_rise = frames.nested;
    }
