-- The verdict on arguments and files, computed. This covers dumps of files of which no unit is
-- read, refusals, and the commands on symbol files.
use Rattle.std.specs.Prelude.{◌≡◌, ℕ, Bool, List, [], ◌∷◌, ◌++◌, Option, Some, None, Result, Ok, Err}
use Rattle.std.proofs.Common.{refl, sym, subst}
use Rattle.std.specs.List.Sorted.{IsStrictlySortedBy}
use Rattle.sym_edges.specs.Outside.{Files}
use Rattle.elf_sections.specs.Image.{ImageParts}
use Rattle.debug_read.specs.declared.fault.DebugFault.{DebugFault}
use Rattle.debug_read.specs.DebugSays.{DebugSays, debug_says}
use Rattle.debug_read.specs.Each.{Match}
use Rattle.debug_read.specs.UnitSays.{UnitSays}
use Rattle.debug_read.specs.UnitsRead.{IsUnitRead}
use Rattle.debug_units.specs.Owners.{owner}
use Rattle.func_flatten.specs.Pieces.{owner_place, ArePieces}
use Rattle.func_records.specs.FuncRecords.{AreFuncRecords}
use Rattle.sym_records.specs.Canon.{canon_text}
use Rattle.sym_records.specs.declared.line.SymLine.{SymLine}
use Rattle.dumpsyms_cmd.specs.Words.{Asked, dump, check, lookup, frame, sample, walk, names, stacks, command_of, module_name, judge}
use Rattle.dumpsyms_cmd.specs.SymbolInput.{file_verdict as checked}
use Rattle.dumpsyms_cmd.specs.commands.Check.{check_answer}
use Rattle.dumpsyms_cmd.specs.commands.Lookup.{lookup_answer}
use Rattle.dumpsyms_cmd.specs.StateInput.{both_verdict}
use Rattle.dumpsyms_cmd.specs.commands.Frame.{frame_answer}
use Rattle.dumpsyms_cmd.specs.commands.Walk.{walk_answer}
use Rattle.dumpsyms_cmd.specs.commands.Judge.{IsJudgeVerdict}
use Rattle.dumpsyms_cmd.specs.commands.Names.{names_answer}
use Rattle.dumpsyms_cmd.specs.commands.Stacks.{stacks_answer}
use Rattle.module_stacks.specs.SymbolFiles.{without}
use Rattle.dumpsyms_cmd.specs.Refusals.{debug_line}
use Rattle.dumpsyms_cmd.specs.commands.Dump.{identity_lines, public_lines, frame_lines, CanonFile}
use Rattle.dumpsyms_cmd.specs.Verdict.{Verdict, refused}
use Rattle.dumpsyms_cmd.specs.ElfInput.{ElfSource, given_image}
use Rattle.dumpsyms_cmd.specs.commands.Dump.{left_out, GivesText, IsDebugVerdict, IsDumpVerdict}
use Rattle.dumpsyms_cmd.specs.Answers.{IsVerdict, usage}
use Rattle.worked.proofs.PlainJudge.{dumped_verdict, dumped_is}
use Rattle.worked.proofs.OneVerdict.{one_verdict}

-- The records of a file of which no unit is read.
abbrev pub plain_lines : ImageParts → List ℕ → DebugSays → List SymLine
plain_lines parts name found = identity_lines parts name ++ (public_lines parts [] ++ frame_lines parts found)

-- The verdict, given the units that are read. If there is one, nothing is computed.
abbrev pub found_verdict : Bool → List UnitSays → ImageParts → List ℕ → DebugSays → Option Verdict
found_verdict full [] parts name found = Some (record { status = 0; out = canon_text (plain_lines parts name found); err = left_out full parts found })
found_verdict full (unit ∷ units) parts name found = None

abbrev pub debug_verdict : Bool → Result DebugSays DebugFault → ImageParts → List ℕ → Option Verdict
debug_verdict full (Err fault) parts name = Some (refused (debug_line fault))
debug_verdict full (Ok found) parts name = found_verdict full found.units parts name found

abbrev pub image_verdict : Bool → Result ImageParts Verdict → List ℕ → Option Verdict
image_verdict full (Err ended) name = Some ended
image_verdict full (Ok parts) name = debug_verdict full (debug_says parts) parts name

abbrev pub source_verdict : ElfSource → Files → Option Verdict
source_verdict source files = image_verdict source.full (given_image source files) (module_name source.elf)

-- The verdict of `judge`, given that of `dump`.
abbrev pub judge_verdict : Bool → List ℕ → Option Verdict → Option (List ℕ) → Option Verdict
judge_verdict full name None bytes = None
judge_verdict full name (Some dumped) bytes = dumped_verdict full name dumped.status dumped bytes

abbrev pub command_verdict : Option Asked → Files → Option Verdict
command_verdict None files = Some usage
command_verdict (Some (dump source workers)) files = source_verdict source files
command_verdict (Some (check name)) files = Some (checked check_answer (files name))
command_verdict (Some (lookup name address)) files = Some (checked (lookup_answer address) (files name))
command_verdict (Some (frame name address state)) files = Some (both_verdict (frame_answer address) (files name) (files state))
command_verdict (Some (sample units workers)) files = None
command_verdict (Some (walk name state)) files = Some (both_verdict walk_answer (files name) (files state))
command_verdict (Some (judge source name)) files = judge_verdict source.full name (source_verdict source files) (files name)
command_verdict (Some (names name)) files = Some (checked names_answer (files name))
command_verdict (Some (stacks name folder)) files = Some (checked (stacks_answer folder (without [] files)) (files name))

abbrev pub plain_verdict : List (List ℕ) → Files → Option Verdict
plain_verdict words files = command_verdict (command_of words) files

-- If there are no units, nothing has an owner, and there are no records of functions.
no_pieces : ArePieces [] []
unfolding owner owner_place
no_pieces = record { runs = record { apart = tt; values = λ a. refl }; marks = tt }

no_records : (base : ℕ) → AreFuncRecords base [] [] []
unfolding IsStrictlySortedBy
no_records base = record {
  parts = [];
  paths = [];
  names = [];
  whole = refl;
  pieces_are = refl;
  inlined = tt;
  lines_are = tt;
  used = record { sorted = tt; same = λ path. refl };
  origins = record { sorted = tt; same = λ name. refl };
}

plain_canon : (parts : ImageParts) (name : List ℕ) (found : DebugSays) → found.units ≡ [] → CanonFile parts name found (plain_lines parts name found)
plain_canon parts name found none = record {
  units = [];
  units_are = subst (λ (us : List UnitSays). Match (IsUnitRead parts.code) us []) (sym none) tt;
  pieces = [];
  pieces_are = no_pieces;
  functions = [];
  functions_are = no_records parts.base;
  whole = refl;
}

the_same : {A : Type 0} {x y : A} → ◌≡◌ {A = Option A} (Some x) (Some y) → y ≡ x
the_same is = cc

not_told : {A : Type 0} {x : A} → ◌≡◌ {A = Option A} None (Some x) → ⊥
not_told is = cc

found_is : (full : Bool) (units : List UnitSays) (parts : ImageParts) (name : List ℕ) (found : DebugSays) (v : Verdict) → found.units ≡ units → found_verdict full units parts name found ≡ Some v → GivesText full parts name found v
found_is full [] parts name found v none is = record { lines = plain_lines parts name found; canon = plain_canon parts name found none; is = the_same is }
found_is full (unit ∷ units) parts name found v same is = absurd (not_told is)

debug_is : (full : Bool) (says : Result DebugSays DebugFault) (parts : ImageParts) (name : List ℕ) (v : Verdict) → debug_verdict full says parts name ≡ Some v → IsDebugVerdict full says parts name v
debug_is full (Err fault) parts name v is = the_same is
debug_is full (Ok found) parts name v is = found_is full found.units parts name found v refl is

image_is : (full : Bool) (read : Result ImageParts Verdict) (name : List ℕ) (v : Verdict) → image_verdict full read name ≡ Some v → IsDumpVerdict full read name v
image_is full (Err ended) name v is = the_same is
image_is full (Ok parts) name v is = debug_is full (debug_says parts) parts name v is

judge_is : (source : ElfSource) (name : List ℕ) (files : Files) (v : Verdict) (dumped : Option Verdict) → source_verdict source files ≡ dumped → judge_verdict source.full name dumped (files name) ≡ Some v → IsJudgeVerdict source name files v
judge_is source name files v None told is = absurd (not_told is)
judge_is source name files v (Some dumped) told is =
    record { dumped = dumped; dumped_is = image_is source.full (given_image source files) (module_name source.elf) dumped told; is = dumped_is source.full name dumped.status dumped (files name) v is }

command_is : (command : Option Asked) (files : Files) (v : Verdict) → command_verdict command files ≡ Some v → IsVerdict command files [] v
command_is None files v is = the_same is
command_is (Some (dump source workers)) files v is = image_is source.full (given_image source files) (module_name source.elf) v is
command_is (Some (sample units workers)) files v is = absurd (not_told is)
command_is (Some (judge source name)) files v is = judge_is source name files v (source_verdict source files) refl is
command_is (Some other) files v is = the_same is

-- A verdict that is computed is a verdict on the arguments and files.
pub plain_is_verdict : (words : List (List ℕ)) (files : Files) (v : Verdict) → plain_verdict words files ≡ Some v → IsVerdict (command_of words) files [] v
plain_is_verdict words files v is = command_is (command_of words) files v is

-- It is the only one, since arguments and files have only one verdict.
pub plain_is_only_verdict : (words : List (List ℕ)) (files : Files) (v w : Verdict) → plain_verdict words files ≡ Some v → IsVerdict (command_of words) files [] w → w ≡ v
plain_is_only_verdict words files v w is other = one_verdict words files [] w v other (plain_is_verdict words files v is)
