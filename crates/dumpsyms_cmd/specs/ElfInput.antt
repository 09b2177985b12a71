-- The image that is dumped, or the verdict if the files give no image. It is the image of one ELF file, or of a stripped binary and its separate
-- debug file. If `full`, the supplementary file (DWARF 5, 7.3.6) to which the file with the debugging information links is read too.
use Rattle.std.specs.Prelude.{ℕ, nat_lt, Bool, true, false, if◌then◌else◌, List, [], ◌∷◌, Option, Some, None, Result, Ok, Err, length}
use Rattle.std.specs.Option.{option_to_list}
use Rattle.sym_edges.specs.Outside.{Files}
use Rattle.sym_edges.specs.Results.{◌>>=◌}
use Rattle.elf_sections.specs.Image.{ImageParts}
use Rattle.elf_sections.specs.declared.fault.ElfFault.{ElfFault}
use Rattle.elf_sections.specs.Supplement.{with_sup}
use Rattle.full_image.specs.FullImage.{any_image}
use Rattle.full_image.specs.SupImage.{sup_image}
use Rattle.debug_pair.specs.DebugPath.{debug_path}
use Rattle.debug_pair.specs.Pairing.{pair_of}
use Rattle.debug_pair.specs.SupLink.{SupLink, sup_link, is_of_link}
use Rattle.debug_pair.specs.SupPath.{sup_path}
use Rattle.debug_pair.specs.declared.fault.PairFault.TheVariants.{NoBuildId}
use Rattle.debug_pair.specs.declared.fault.SupFault.{SupFault}
use Rattle.debug_pair.specs.declared.fault.SupFault.TheVariants.{Link, BuildId}
use Rattle.dumpsyms_cmd.specs.Refusals.{elf_line, debug_elf_line, pair_line, short_id_line, sup_elf_line, sup_line, too_long_line}
use Rattle.dumpsyms_cmd.specs.Verdict.{Verdict, refused, unread_file, LIMIT}

-- where the separate debug file of a binary is: at a path, or below a root directory, at a place that the binary's build id gives
pub data DebugFile : Type 0 where
  at_path : (path : List ℕ) → DebugFile
  below_root : (root : List ℕ) → DebugFile

-- which image is dumped: that of an ELF file, with a debug file or without one; `full` says whether compressed sections are read
pub record ElfSource : Type 0 where
  pub full : Bool
  pub elf : List ℕ
  pub debug : Option DebugFile

-- a fault becomes a refusal with the line for the fault
abbrev pub or_refused : {A F : Type 0} → (F → List ℕ) → Result A F → Result A Verdict
or_refused line (Ok found) = Ok found
or_refused line (Err fault) = Err (refused (line fault))

-- a file above the size limit is refused
abbrev pub unless_longer : Bool → Result ImageParts Verdict → Result ImageParts Verdict
unless_longer true read = Err (refused too_long_line)
unless_longer false read = read

-- the image of the file `name`, or the verdict if the file is missing, too long or faulty
abbrev pub file_by : Bool → (List ℕ → Result ImageParts ElfFault) → (ElfFault → List ℕ) → List ℕ → Option (List ℕ) → Result ImageParts Verdict
file_by full image line name None = Err (unread_file full name)
file_by full image line name (Some bytes) = unless_longer (nat_lt LIMIT (length bytes)) (or_refused line (image bytes))

-- the image of a file; its compressed sections are read if `full`
abbrev pub file_image : Bool → (ElfFault → List ℕ) → List ℕ → Option (List ℕ) → Result ImageParts Verdict
file_image full line name file = file_by full (any_image full) line name file

-- the image of the ELF file alone
abbrev pub elf_image : ElfSource → Files → Result ImageParts Verdict
elf_image source files = file_image source.full elf_line source.elf (files source.elf)

-- the path of a debug file below a root directory, by the build id
abbrev pub or_short : Option (List ℕ) → Result (List ℕ) Verdict
or_short None = Err (refused short_id_line)
or_short (Some path) = Ok path

abbrev pub path_below : List ℕ → Option (List ℕ) → Result (List ℕ) Verdict
path_below root None = Err (refused (pair_line NoBuildId))
path_below root (Some id) = or_short (debug_path root id)

-- the path of a binary's debug file
abbrev pub path_of : DebugFile → ImageParts → Result (List ℕ) Verdict
path_of (at_path path) binary = Ok path
path_of (below_root root) binary = path_below root binary.build_id

-- the root directory below which debug files are looked for, if it is given
abbrev pub root_of : Option DebugFile → Option (List ℕ)
root_of None = None
root_of (Some (at_path path)) = None
root_of (Some (below_root root)) = Some root

-- the path of the supplementary file to which the file `name` links
abbrev pub or_nowhere : Option (List ℕ) → Result (List ℕ) Verdict
or_nowhere None = Err (refused (sup_line Link))
or_nowhere (Some path) = Ok path

abbrev pub sup_place : Option DebugFile → List ℕ → SupLink → Result (List ℕ) Verdict
sup_place debug name link = or_nowhere (sup_path (root_of debug) name link.path)

-- an image joined with that of its supplementary file, which must have the id of the link
abbrev pub joined : ImageParts → SupLink → ImageParts → Result ImageParts Verdict
joined image link sup = if is_of_link link sup then Ok (with_sup image sup) else Err (refused (sup_line BuildId))

-- an image joined with that of the supplementary file at a path
abbrev pub with_sup_file : Bool → ImageParts → SupLink → List ℕ → Files → Result ImageParts Verdict
with_sup_file full image link path files = file_by full sup_image sup_elf_line path (files path) >>= joined image link

-- what is read at a path, if there is a path
abbrev pub then_path : (List ℕ → Files → Result ImageParts Verdict) → Result (List ℕ) Verdict → Files → Result ImageParts Verdict
then_path reads found files = found >>= (λ path. reads path files)

-- an image joined with the supplementary file to which the file `name` links; without a link the image is used alone
abbrev pub with_link : ElfSource → List ℕ → ImageParts → Result (Option SupLink) SupFault → Files → Result ImageParts Verdict
with_link source name image (Ok None) files = Ok image
with_link source name image (Ok (Some link)) files = then_path (with_sup_file source.full image link) (sup_place source.debug name link) files
with_link source name image (Err fault) files = Err (refused (sup_line fault))

-- links are followed if `full`
abbrev pub then_sup : ElfSource → List ℕ → ImageParts → Files → Result ImageParts Verdict
then_sup source name image files = if source.full then with_link source name image (sup_link image) files else Ok image

-- the link of an image is followed, if there is an image
abbrev pub then_link : ElfSource → List ℕ → Result ImageParts Verdict → Files → Result ImageParts Verdict
then_link source name read files = read >>= (λ image. then_sup source name image files)

-- the image of a binary and its debug file
abbrev pub then_pair : ImageParts → Result ImageParts Verdict → Result ImageParts Verdict
then_pair binary read = read >>= (λ debug. or_refused pair_line (pair_of binary debug))

abbrev pub debug_given : ImageParts → Result ImageParts ElfFault → Result ImageParts Verdict
debug_given binary read = then_pair binary (or_refused debug_elf_line read)

abbrev pub file_pair : ElfSource → ImageParts → List ℕ → Files → Result ImageParts Verdict
file_pair source binary path files = then_pair binary (file_image source.full debug_elf_line path (files path))

abbrev pub with_file : ElfSource → ImageParts → List ℕ → Files → Result ImageParts Verdict
with_file source binary path files = then_link source path (file_pair source binary path files) files

-- the image of a binary with its debug file, or alone
abbrev pub with_debug : ElfSource → Option DebugFile → ImageParts → Files → Result ImageParts Verdict
with_debug source None binary files = then_sup source source.elf binary files
with_debug source (Some debug) binary files = then_path (with_file source binary) (path_of debug binary) files

abbrev pub then_debug : ElfSource → Result ImageParts Verdict → Files → Result ImageParts Verdict
then_debug source read files = read >>= (λ binary. with_debug source source.debug binary files)

-- the image that the files give. They are read in order, and the first step that fails gives the verdict
abbrev pub given_image : ElfSource → Files → Result ImageParts Verdict
given_image source files = then_debug source (elf_image source files) files

-- a list of the path, if there is one
abbrev pub path_names : Result (List ℕ) Verdict → List (List ℕ)
path_names (Ok path) = path ∷ []
path_names (Err ended) = []

-- the name that is asked for after the file of an image: that of its supplementary file
abbrev pub link_names : ElfSource → List ℕ → Result (Option SupLink) SupFault → List (List ℕ)
link_names source name (Ok None) = []
link_names source name (Ok (Some link)) = path_names (sup_place source.debug name link)
link_names source name (Err fault) = []

abbrev pub sup_names : ElfSource → List ℕ → ImageParts → List (List ℕ)
sup_names source name image = if source.full then link_names source name (sup_link image) else []

abbrev pub read_names : ElfSource → List ℕ → Result ImageParts Verdict → List (List ℕ)
read_names source name (Ok image) = sup_names source name image
read_names source name (Err ended) = []

-- the names that are asked for after a binary
abbrev pub pair_names : ElfSource → ImageParts → Result (List ℕ) Verdict → Files → List (List ℕ)
pair_names source binary (Ok path) files = path ∷ read_names source path (file_pair source binary path files)
pair_names source binary (Err ended) files = []

abbrev pub debug_names : ElfSource → Option DebugFile → ImageParts → Files → List (List ℕ)
debug_names source None binary files = sup_names source source.elf binary
debug_names source (Some debug) binary files = pair_names source binary (path_of debug binary) files

abbrev pub names_behind : ElfSource → Result ImageParts Verdict → Files → List (List ℕ)
names_behind source (Ok binary) files = debug_names source source.debug binary files
names_behind source (Err ended) files = []

-- what is unknown if the store's files are not known: the binary's build id, and the path in the link to a supplementary file, if there is a link
pub record Untold : Type 0 where
  pub id : List ℕ
  pub link : Option (List ℕ)

-- the name of the supplementary file, given the path in the link
abbrev pub untold_sup : ElfSource → List ℕ → Option (List ℕ) → List (List ℕ)
untold_sup source name None = []
untold_sup source name (Some link) = if source.full then option_to_list (sup_path (root_of source.debug) name link) else []

abbrev pub untold_file : ElfSource → Untold → Option (List ℕ) → List (List ℕ)
untold_file source untold None = []
untold_file source untold (Some path) = path ∷ untold_sup source path untold.link

-- the path of the debug file of a binary with an unknown build id, and then the name of the supplementary file
abbrev pub untold_names : ElfSource → Option DebugFile → Untold → List (List ℕ)
untold_names source None untold = untold_sup source source.elf untold.link
untold_names source (Some (at_path path)) untold = untold_file source untold (Some path)
untold_names source (Some (below_root root)) untold = untold_file source untold (debug_path root untold.id)

-- the names that are asked for after the ELF file, whether the store's files are known or not
abbrev pub debug_told : Option Files → ElfSource → Untold → List (List ℕ)
debug_told None source untold = untold_names source source.debug untold
debug_told (Some files) source untold = names_behind source (elf_image source files) files

-- all names that are asked for, in the order in which the files are read
abbrev pub elf_names : Option Files → ElfSource → Untold → List (List ℕ)
elf_names files source untold = source.elf ∷ debug_told files source untold
