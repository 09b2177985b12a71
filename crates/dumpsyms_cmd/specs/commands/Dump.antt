-- `dump ELF`, also with `--full`, and with `--debug FILE` or `--debug-root DIR`: the records of an image (Breakpad's symbol_files.md), the verdict of
-- a dump, and what its text means. All these definitions take an image; `ElfInput` defines which image is dumped.
use Rattle.std.specs.Prelude.{◌≡◌, ℕ, ◌-◌, Bool, length, List, [], ◌∷◌, ◌++◌, Option, Some, None, Result, Ok, Err, map, codes}
use Rattle.hex.specs.Hex.{encode_upper}
use Rattle.sym_edges.specs.Outside.{Files, Tells}
use Rattle.elf_sections.specs.Image.{ImageParts}
use Rattle.debug_pair.specs.ModuleId.{module_id}
use Rattle.clean_names.specs.Cleaning.{cleaned}
use Rattle.sym_records.specs.Canon.{canon_text}
use Rattle.sym_records.specs.Reading.{reading}
use Rattle.sym_records.specs.declared.line.SymLine.{SymLine}
use Rattle.sym_records.specs.declared.line.SymLine.TheVariants.{Module, Info, Public}
use Rattle.sym_meaning.specs.Findings.{HasNoFindings}
use Rattle.frame_entries.specs.FdeFields.{FdeFields}
use Rattle.rule_postfix.specs.Written.{written, written_lines, omitted}
use Rattle.rule_postfix.specs.Covering.{SaysFrames}
use Rattle.rule_postfix.specs.FrameMeaning.{KeepsFrames}
use Rattle.debug_units.specs.declared.unit_read.UnitRead.{UnitRead}
use Rattle.func_flatten.specs.declared.piece.Piece.{Piece}
use Rattle.func_flatten.specs.Pieces.{ArePieces}
use Rattle.func_flatten.specs.Publics.{PublicParts, publics}
use Rattle.func_records.specs.FuncRecords.{AreFuncRecords}
use Rattle.func_records.specs.TextNames.{Names}
use Rattle.debug_read.specs.Each.{Match}
use Rattle.debug_read.specs.ImageSections.{sections_of}
use Rattle.debug_read.specs.UnitsRead.{IsUnitRead}
use Rattle.debug_read.specs.DebugSays.{DebugSays, debug_says}
use Rattle.debug_read.specs.declared.fault.DebugFault.{DebugFault}
use Rattle.dumpsyms_cmd.specs.Words.{module_name}
use Rattle.dumpsyms_cmd.specs.Refusals.{debug_line, omitted_text, units_text}
use Rattle.dumpsyms_cmd.specs.SupUnits.{own_entries, sup_skipped_text}
use Rattle.dumpsyms_cmd.specs.Verdict.{Verdict, refused}
use Rattle.dumpsyms_cmd.specs.ElfInput.{ElfSource, given_image}
use Rattle.dumpsyms_cmd.specs.Judgement.{Judges}
use Rattle.dumpsyms_cmd.specs.declared.judgement.Judgement.{Judgement}

-- the MODULE record of the binary
unfoldable pub module_line : List ℕ → List ℕ → SymLine
module_line identity name = Module (record { os = codes "Linux"; arch = codes "x86_64"; id = module_id identity; name = name })

-- the INFO record of a build id
unfoldable pub info_line : List ℕ → SymLine
info_line id = Info (codes "CODE_ID " ++ encode_upper id)

-- the INFO record of the build id, if there is one
abbrev pub info_lines : Option (List ℕ) → List SymLine
info_lines None = []
info_lines (Some id) = info_line id ∷ []

-- the MODULE and INFO records of the binary. MODULE has the cleaned name: what follows the last slash of the file's path
abbrev pub identity_lines : ImageParts → List ℕ → List SymLine
identity_lines image name = module_line image.identity (cleaned name) ∷ info_lines image.build_id

-- the PUBLIC record for an address with function symbols
abbrev pub public_line : ℕ → PublicParts → SymLine
public_line base p = Public p.many (p.address - base) 0 p.name

-- the PUBLIC records of the function symbols that no piece of a function covers
abbrev pub public_lines : ImageParts → List Piece → List SymLine
public_lines image pieces = map (public_line image.base) (publics pieces image.symbols)

-- the frame entries that are written, and their records
abbrev pub written_of : ImageParts → DebugSays → List FdeFields
written_of image found = written image.code found.first found.second

abbrev pub frame_lines : ImageParts → DebugSays → List SymLine
frame_lines image found = written_lines image.base (written_of image found)

-- the records of a file without fault: first those of the binary; then those of functions, inlined copies and lines, by what was read of the units;
-- then those of symbols outside functions; and last those of frames
pub record CanonFile (image : ImageParts) (name : List ℕ) (found : DebugSays) (lines : List SymLine) : Type 0 where
  pub units : List UnitRead
  pub units_are : Match (IsUnitRead image.code) found.units units
  pub pieces : List Piece
  pub pieces_are : ArePieces units pieces
  pub functions : List SymLine
  pub functions_are : AreFuncRecords image.base units pieces functions
  pub whole : lines ≡ identity_lines image name ++ (functions ++ (public_lines image pieces ++ frame_lines image found))

-- what standard error gets for a file without fault. It lists the units that are skipped, and if `full` also those whose entries are in another file;
-- then the skipped units of the supplementary file to which entries refer; and then the frame entries that are left out
abbrev pub left_out : Bool → ImageParts → DebugSays → List ℕ
left_out full parts found =
    units_text full (sections_of parts) found.headers ++ (sup_skipped_text (own_entries found) found.sup_headers ++ omitted_text (omitted parts.code found.first found.second))

-- the verdict of a dump of a file without fault: out has the records, and err says what is left out
pub record GivesText (full : Bool) (parts : ImageParts) (name : List ℕ) (found : DebugSays) (v : Verdict) : Type 0 where
  pub lines : List SymLine
  pub canon : CanonFile parts name found lines
  pub is : v ≡ record { status = 0; out = canon_text lines; err = left_out full parts found }

-- the verdict on what is read after the image: the first fault, or the records
abbrev pub IsDebugVerdict : Bool → Result DebugSays DebugFault → ImageParts → List ℕ → Verdict → Type 0
IsDebugVerdict full (Err fault) parts name v = v ≡ refused (debug_line fault)
IsDebugVerdict full (Ok found) parts name v = GivesText full parts name found v

-- the verdict on the parts of the image
abbrev pub IsPartsVerdict : Bool → ImageParts → List ℕ → Verdict → Type 0
IsPartsVerdict full parts name v = IsDebugVerdict full (debug_says parts) parts name v

-- the verdict on the image that the files give; if they give none, it is the verdict of the failed step
abbrev pub IsDumpVerdict : Bool → Result ImageParts Verdict → List ℕ → Verdict → Type 0
IsDumpVerdict full (Err ended) name v = v ≡ ended
IsDumpVerdict full (Ok parts) name v = IsPartsVerdict full parts name v

-- the verdict on the image that is given for a source
abbrev pub IsGivenVerdict : ElfSource → Result ImageParts Verdict → Verdict → Type 0
IsGivenVerdict source given v = IsDumpVerdict source.full given (module_name source.elf) v

-- the verdict of a dump
abbrev pub IsSourceVerdict : ElfSource → Files → Verdict → Type 0
IsSourceVerdict source files v = IsGivenVerdict source (given_image source files) v

-- the records of an image, and the text about what is left out. The frame records cover exactly the addresses of the written entries. Evaluating them
-- gives, at each of these addresses and for all registers and all memory, what DWARF's row gives there. At each address a look-up in the records
-- names the function that owns it in the file, its inline chain and its line. A checker finds nothing in the records
pub record DumpsParts (full : Bool) (parts : ImageParts) (name : List ℕ) (lines : List SymLine) (text : List ℕ) : Type 0 where
  pub found : DebugSays
  pub found_is : debug_says parts ≡ Ok found
  pub canon : CanonFile parts name found lines
  pub text_is : text ≡ left_out full parts found
  pub reads : reading (canon_text lines) ≡ Ok lines
  pub frames : SaysFrames parts.base (written_of parts found) lines
  pub means : KeepsFrames parts.base (written_of parts found) lines
  pub names : (x : ℕ) → Names parts.base canon.units lines x
  pub clean : HasNoFindings lines

-- `DumpsParts`, and the number of frame entries that are left out
pub record Assembles (full : Bool) (parts : ImageParts) (name : List ℕ) (lines : List SymLine) (text : List ℕ) (count : ℕ) : Type 0 where
  pub dumps : DumpsParts full parts name lines text
  pub counted : (found : DebugSays) → debug_says parts ≡ Ok found → count ≡ length (omitted parts.code found.first found.second)

-- `DumpsParts` for the image that is given for a source
pub record DumpsGiven (source : ElfSource) (given : Result ImageParts Verdict) (lines : List SymLine) (text : List ℕ) : Type 0 where
  pub parts : ImageParts
  pub image_is : given ≡ Ok parts
  pub dumps : DumpsParts source.full parts (module_name source.elf) lines text

-- `DumpsParts` for the image that the files give
abbrev pub DumpsSource : ElfSource → Files → List SymLine → List ℕ → Type 0
DumpsSource source files lines text = DumpsGiven source (given_image source files) lines text

-- what a dump promises about its judgement, by the image that the files give. Either it refuses and writes nothing to out; or it has status 0 and the
-- canonical text of records, which reads back as these records. If the store's files are known, the refusal or the records are those of the image
abbrev pub ImagePromises : (Files → Result ImageParts Verdict) → ElfSource → Option Files → Judgement → Type 0
ImagePromises given source files j = Judges j
    (λ err. Tells files (λ f. IsGivenVerdict source (given f) (refused err)))
    (λ lines err. (reading (canon_text lines) ≡ Ok lines) × Tells files (λ f. DumpsGiven source (given f) lines err))

abbrev pub DumpPromises : ElfSource → Option Files → Judgement → Type 0
DumpPromises source files j = ImagePromises (given_image source) source files j
