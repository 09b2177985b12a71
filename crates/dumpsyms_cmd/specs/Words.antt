-- The command-line arguments, and the command that they ask for.
use Rattle.std.specs.Prelude.{◌≡◌, ℕ, ◌≤◌, ◌==◌, ◌^◌, ◌&&◌, Bool, true, false, not, nat_le, length, List, [], ◌∷◌, ◌++◌, Option, Some, None, Result, Ok, Err, codes, if◌then◌else◌}
use Rattle.std.specs.List.{after_last, list_all}
use Rattle.std.specs.Option.{option_map}
use Rattle.std.specs.Str.{bytes_eq}
use Rattle.std.specs.Str.Parse.{digits_value}
use Rattle.sym_edges.specs.Outside.{Files}
use Rattle.elf_sections.specs.Image.{ImageParts}
use Rattle.debug_read.specs.DebugSays.{DebugSays, debug_says}
use Rattle.debug_read.specs.declared.fault.DebugFault.{DebugFault}
use Rattle.sym_rules.specs.RuleReading.{is_digit}
use Rattle.sym_records.specs.FieldReading.{hex_value}
use Rattle.sym_grammar.specs.Input.{file_reading}
use Rattle.sym_grammar.specs.declared.refusal.SymRefusal.{SymRefusal}
use Rattle.sym_records.specs.declared.line.SymLine.{SymLine}
use Rattle.stack_text.specs.Lines.{line}
use Rattle.dumpsyms_cmd.specs.Refusals.{unread_lines}
use Rattle.dumpsyms_cmd.specs.Verdict.{Verdict}
use Rattle.dumpsyms_cmd.specs.ElfInput.{DebugFile, at_path, below_root, ElfSource, Untold, given_image, elf_names}
use Rattle.dumpsyms_cmd.specs.declared.words.Command.{Command}
use Rattle.dumpsyms_cmd.specs.declared.words.Command.TheVariants.{Dump, Symbols, States, Sample, Judge, Stacks}
use Rattle.dumpsyms_cmd.specs.declared.words.ElfPlace.{ElfPlace}
use Rattle.dumpsyms_cmd.specs.declared.words.SymQuery.{SymQuery}
use Rattle.dumpsyms_cmd.specs.declared.words.SymQuery.TheVariants.{Check, Lookup, Names}
use Rattle.dumpsyms_cmd.specs.declared.words.StateQuery.{StateQuery}
use Rattle.dumpsyms_cmd.specs.declared.words.StateQuery.TheVariants.{Frame, Walk}
use Rattle.dumpsyms_cmd.specs.declared.words.DebugPlace.{DebugPlace}
use Rattle.dumpsyms_cmd.specs.declared.words.DebugPlace.TheVariants.{File, Root}

-- a command: what the program is asked for
pub data Asked : Type 0 where
  -- the symbol file of an ELF file, or of an ELF file and its separate debug file, made by this many workers
  dump : (source : ElfSource) → (workers : ℕ) → Asked
  -- what a checker finds in a symbol file
  check : (sym : List ℕ) → Asked
  -- what a symbol file names at an address
  lookup : (sym : List ℕ) → (address : ℕ) → Asked
  -- what the rules of a symbol file evaluate to at an address, given the state in a state file
  frame : (sym : List ℕ) → (address : ℕ) → (state : List ℕ) → Asked
  -- the counts of a dump, by this many workers, of the generated ELF file with this many units
  sample : (units : ℕ) → (workers : ℕ) → Asked
  -- the frames of a stack by the rules of a symbol file, from the state in a state file
  walk : (sym : List ℕ) → (state : List ℕ) → Asked
  -- whether a symbol file says the same as what `dump` writes
  judge : (source : ElfSource) → (sym : List ℕ) → Asked
  -- a symbol file with its Rust names in readable form
  names : (sym : List ℕ) → Asked
  -- the stacks of a core file's threads, by the symbol files in a folder
  stacks : (core : List ℕ) → (folder : List ℕ) → Asked

-- all commands except `sample` read files
abbrev pub reads_files : Asked → Bool
reads_files (dump source workers) = true
reads_files (check sym) = true
reads_files (lookup sym address) = true
reads_files (frame sym address state) = true
reads_files (sample units workers) = false
reads_files (walk sym state) = true
reads_files (judge source sym) = true
reads_files (names sym) = true
reads_files (stacks core folder) = true

abbrev pub ReadsFiles : Option Asked → Type 0
ReadsFiles None = ⊥
ReadsFiles (Some asked) = reads_files asked ≡ true

-- with `--full`, compressed sections are read, and the line for an unreadable file has its name
abbrev pub is_full : Option Asked → Bool
is_full (Some (dump source workers)) = source.full
is_full (Some (judge source sym)) = source.full
is_full other = false

-- the name that was asked for last
abbrev pub last_name : List (List ℕ) → List ℕ
last_name [] = []
last_name (name ∷ []) = name
last_name (name ∷ other ∷ rest) = last_name (other ∷ rest)

-- the line for a file that could not be read, given the names that were asked for
abbrev pub not_read_line : Option Asked → List (List ℕ) → List ℕ
not_read_line command asked = unread_lines (is_full command) (last_name asked)

-- the meaning of parsed arguments: the place of a debug file, the image to dump, a query of a symbol file, a query of a symbol file and a state file,
-- and a command
abbrev pub debug_view : DebugPlace → DebugFile
debug_view (File path) = at_path path.now
debug_view (Root root) = below_root root.now

abbrev pub source_view : ElfPlace → ElfSource
source_view place = record { full = place.full; elf = place.elf.now; debug = option_map debug_view place.debug }

abbrev pub sym_command : SymQuery → List ℕ → Asked
sym_command Check sym = check sym
sym_command (Lookup address) sym = lookup sym address
sym_command Names sym = names sym

abbrev pub state_command : StateQuery → List ℕ → List ℕ → Asked
state_command (Frame address) sym state = frame sym address state
state_command Walk sym state = walk sym state

abbrev pub command_view : Command → Asked
command_view (Dump source workers) = dump (source_view source) workers
command_view (Symbols sym query) = sym_command query sym.now
command_view (States sym query state) = state_command query sym.now state.now
command_view (Sample units workers) = sample units workers
command_view (Judge source sym) = judge (source_view source) sym.now
command_view (Stacks core folder) = stacks core.now folder.now

-- a number is decimal digits without a sign, and does not begin with 0
abbrev pub is_number : List ℕ → Bool
is_number [] = false
is_number (digit ∷ digits) = not (digit == 48) && list_all is_digit (digit ∷ digits)

-- the number that an argument spells, if it is at most `most`
unfoldable pub number_upto : ℕ → List ℕ → Option ℕ
number_upto most word = if is_number word && nat_le (digits_value 10 word) most then Some (digits_value 10 word) else None

-- the number of workers if the arguments name none, and the greatest number that they may name
abbrev pub USUAL_WORKERS : ℕ
USUAL_WORKERS = 4

abbrev pub MOST_WORKERS : ℕ
MOST_WORKERS = 64

-- how many units a generated file may have
abbrev pub MOST_UNITS : ℕ
MOST_UNITS = 20000

-- the `sample` command, if both numbers are valid
abbrev pub sample_of : Option ℕ → Option ℕ → Option Asked
sample_of (Some units) (Some workers) = Some (sample units workers)
sample_of None workers = None
sample_of (Some units) None = None

-- the address that an argument spells: 1 to 16 hexadecimal digits of either case
unfoldable pub address_of : List ℕ → Option ℕ
address_of word = if length word == 0 then None else hex_value word

-- an ELF file alone, and one with a debug file
abbrev pub alone : Bool → List ℕ → ElfSource
alone full elf = record { full = full; elf = elf; debug = None }

abbrev pub with_file_at : Bool → List ℕ → List ℕ → ElfSource
with_file_at full elf path = record { full = full; elf = elf; debug = Some (at_path path) }

abbrev pub with_root : Bool → List ℕ → List ℕ → ElfSource
with_root full elf root = record { full = full; elf = elf; debug = Some (below_root root) }

-- the two arguments that name a debug file: `--debug FILE` or `--debug-root DIR`
abbrev pub debug_words : Bool → List ℕ → List ℕ → List ℕ → Option ElfSource
debug_words full elf word place =
    if bytes_eq word (codes "--debug") then Some (with_file_at full elf place)
    else if bytes_eq word (codes "--debug-root") then Some (with_root full elf place)
    else None

-- a dump by the usual number of workers
abbrev pub dump_usual : ElfSource → Asked
dump_usual source = dump source USUAL_WORKERS

-- a `dump` command with two arguments after the ELF file: `--workers N`, `--debug FILE` or `--debug-root DIR`
abbrev pub dump_words : Bool → List ℕ → List ℕ → List ℕ → Option Asked
dump_words full elf word value =
    if bytes_eq word (codes "--workers") then option_map (dump (alone full elf)) (number_upto MOST_WORKERS value)
    else option_map dump_usual (debug_words full elf word value)

-- a `judge` command with two arguments after the symbol file: `--debug FILE` or `--debug-root DIR`
abbrev pub judge_by : List ℕ → ElfSource → Asked
judge_by sym source = judge source sym

abbrev pub judge_words : Bool → List ℕ → List ℕ → List ℕ → List ℕ → Option Asked
judge_words full elf sym word value = option_map (judge_by sym) (debug_words full elf word value)

-- two arguments: `dump ELF`, `check SYM`, `sample N` and `names SYM`
abbrev pub two_words : List ℕ → List ℕ → Option Asked
two_words word name =
    if bytes_eq word (codes "dump") then Some (dump_usual (alone false name))
    else if bytes_eq word (codes "check") then Some (check name)
    else if bytes_eq word (codes "sample") then sample_of (number_upto MOST_UNITS name) (Some USUAL_WORKERS)
    else if bytes_eq word (codes "names") then Some (names name)
    else None

-- three arguments: `lookup SYM ADDR`, `walk SYM STATE`, `judge ELF SYM`, `stacks CORE STORE` and `dump --full ELF`
abbrev pub three_words : List ℕ → List ℕ → List ℕ → Option Asked
three_words word name third =
    if bytes_eq word (codes "lookup") then option_map (lookup name) (address_of third)
    else if bytes_eq word (codes "walk") then Some (walk name third)
    else if bytes_eq word (codes "judge") then Some (judge (alone false name) third)
    else if bytes_eq word (codes "stacks") then Some (stacks name third)
    else if bytes_eq word (codes "dump") && bytes_eq name (codes "--full") then Some (dump_usual (alone true third))
    else None

-- four arguments: `dump ELF` with two more, `sample N --workers W`, `frame SYM ADDR STATE` and `judge --full ELF SYM`
abbrev pub four_words : List ℕ → List ℕ → List ℕ → List ℕ → Option Asked
four_words word name third fourth =
    if bytes_eq word (codes "dump") then dump_words false name third fourth
    else if bytes_eq word (codes "sample") && bytes_eq third (codes "--workers") then sample_of (number_upto MOST_UNITS name) (number_upto MOST_WORKERS fourth)
    else if bytes_eq word (codes "frame") then option_map (λ address. frame name address fourth) (address_of third)
    else if bytes_eq word (codes "judge") && bytes_eq name (codes "--full") then Some (judge (alone true third) fourth)
    else None

-- five arguments: `dump --full ELF` with two more, and `judge ELF SYM` with two more
abbrev pub five_words : List ℕ → List ℕ → List ℕ → List ℕ → List ℕ → Option Asked
five_words word name third fourth fifth =
    if bytes_eq word (codes "dump") && bytes_eq name (codes "--full") then dump_words true third fourth fifth
    else if bytes_eq word (codes "judge") then judge_words false name third fourth fifth
    else None

-- six arguments: `judge --full ELF SYM` with two more
abbrev pub six_words : List ℕ → List ℕ → List ℕ → List ℕ → List ℕ → List ℕ → Option Asked
six_words word name third fourth fifth sixth =
    if bytes_eq word (codes "judge") && bytes_eq name (codes "--full") then judge_words true third fourth fifth sixth
    else None

-- the command that the arguments ask for; all other arguments are invalid
abbrev pub command_of : List (List ℕ) → Option Asked
command_of [] = None
command_of (word ∷ []) = None
command_of (word ∷ name ∷ []) = two_words word name
command_of (word ∷ name ∷ third ∷ []) = three_words word name third
command_of (word ∷ name ∷ third ∷ fourth ∷ []) = four_words word name third fourth
command_of (word ∷ name ∷ third ∷ fourth ∷ fifth ∷ []) = five_words word name third fourth fifth
command_of (word ∷ name ∷ third ∷ fourth ∷ fifth ∷ sixth ∷ []) = six_words word name third fourth fifth sixth
command_of (word ∷ name ∷ third ∷ fourth ∷ fifth ∷ sixth ∷ more ∷ words) = None

-- the line for invalid arguments
abbrev pub usage_line : List ℕ
usage_line = line (codes "usage: dumpsyms dump ELF, check SYM, lookup SYM ADDR, frame SYM ADDR STATE, sample N, walk SYM STATE, judge ELF SYM, names SYM, dump --full ELF, stacks CORE STORE")

-- a dump has 1 to 64 workers. A sample has 1 to 64 workers, too, and at most `MOST_UNITS` units
abbrev pub HasWorkers : Option Asked → Type 0
HasWorkers None = Unit {0}
HasWorkers (Some (dump source workers)) = (1 ≤ workers) × (workers ≤ MOST_WORKERS)
HasWorkers (Some (sample units workers)) = (units ≤ MOST_UNITS) × ((1 ≤ workers) × (workers ≤ MOST_WORKERS))
HasWorkers (Some other) = Unit {0}

-- the second file of a command is read only if the first, a symbol file, has records
abbrev pub if_records : Result (List SymLine) SymRefusal → List ℕ → List (List ℕ)
if_records (Ok lines) name = name ∷ []
if_records (Err why) name = []

abbrev pub second_of : Option (List ℕ) → List ℕ → List (List ℕ)
second_of None name = []
second_of (Some bytes) name = if_records (file_reading (2 ^ 29) bytes) name

abbrev pub second_told : Option Files → List ℕ → List ℕ → List (List ℕ)
second_told None first name = name ∷ []
second_told (Some files) first name = second_of (files first) name

-- the symbol file of `judge` is read only if the ELF file can be dumped
abbrev pub if_dumped : Result DebugSays DebugFault → List ℕ → List (List ℕ)
if_dumped (Ok found) name = name ∷ []
if_dumped (Err fault) name = []

abbrev pub if_image : Result ImageParts Verdict → List ℕ → List (List ℕ)
if_image (Ok parts) name = if_dumped (debug_says parts) name
if_image (Err ended) name = []

abbrev pub dumped_told : Option Files → ElfSource → List ℕ → List (List ℕ)
dumped_told None source name = name ∷ []
dumped_told (Some files) source name = if_image (given_image source files) name

-- the files that a command asks for, in the order in which they are read. If the store's files are not known, the debug file below a root directory
-- is that for some build id, and a supplementary file is that for some link. The symbol files of `stacks` are not listed: which ones it asks for
-- depends on the steps that it finds
abbrev pub files_of : Option Asked → Option Files → Untold → List (List ℕ)
files_of None files untold = []
files_of (Some (dump source workers)) files untold = elf_names files source untold
files_of (Some (check sym)) files untold = sym ∷ []
files_of (Some (lookup sym address)) files untold = sym ∷ []
files_of (Some (frame sym address state)) files untold = sym ∷ second_told files sym state
files_of (Some (sample units workers)) files untold = []
files_of (Some (walk sym state)) files untold = sym ∷ second_told files sym state
files_of (Some (judge source sym)) files untold = elf_names files source untold ++ dumped_told files source sym
files_of (Some (names sym)) files untold = sym ∷ []
files_of (Some (stacks core folder)) files untold = core ∷ []

-- the byte is a slash
abbrev pub is_slash : ℕ → Bool
is_slash b = b == 47

-- the part of a path after its last slash, or the whole path if it has no slash
unfoldable pub module_name : List ℕ → List ℕ
module_name path = after_last is_slash path
