-- The records of a module: those of the symbol file that a folder has for the module's name and build id.
use Rattle.std.specs.Prelude.{ℕ, Bool, false, List, ◌∷◌, Option, None, Some, Result, Ok, Err, if◌then◌else◌, slice_get}
use Rattle.std.specs.Option.{option_map, option_and_then}
use Rattle.std.specs.Str.{bytes_eq, is_utf8}
use Rattle.elf_sections.specs.Identity.{front16}
use Rattle.debug_pair.specs.ModuleId.{module_id}
use Rattle.debug_pair.specs.SymbolPath.{symbol_path}
use Rattle.sym_records.specs.declared.line.SymLine.{SymLine}
use Rattle.sym_records.specs.declared.line.SymLine.TheVariants as line
use Rattle.core_file.specs.declared.modules.Module.{Module}
use Rattle.stack_walk.specs.Records.{ModuleRecords}
use Rattle.stack_walk.specs.declared.steps.WalkEnd.{WalkEnd}
use Rattle.stack_walk.specs.declared.steps.WalkEnd.TheVariants.{NoModule, NoSymbols}
use Rattle.module_stacks.specs.SymbolFiles.{Found}
use Rattle.module_stacks.specs.ModuleAt.{module_at}
use Rattle.module_stacks.specs.declared.names.SymbolName.{SymbolName}
use Rattle.module_stacks.specs.declared.lack.Lack.{Lack}
use Rattle.module_stacks.specs.declared.lack.Lack.TheVariants.{NoBuildId, Missing, Refused, OtherModule}

-- for a module with a build id: the path of its symbol file, if the module's name is UTF-8, and the
-- id that the file's MODULE must have
abbrev pub path_by : List ℕ → List ℕ → List ℕ → Option (List ℕ)
path_by folder name identity = if is_utf8 name then Some (symbol_path folder name identity) else None

abbrev pub name_by : List ℕ → List ℕ → List ℕ → SymbolName
name_by folder name build_id = record { path = path_by folder name (front16 build_id); id = module_id (front16 build_id) }

unfoldable pub name_of : List ℕ → Module → Option SymbolName
name_of folder m = option_map (name_by folder m.name) m.build_id

-- the first record is a MODULE with this id
abbrev pub is_of : List ℕ → List SymLine → Bool
is_of id (line.Module binary ∷ lines) = bytes_eq binary.id id
is_of id _ = false

-- the records, given what was found under the path, or why there are none
abbrev pub by_found : List ℕ → Found → Result (List SymLine) Lack
by_found id None = Err Missing
by_found id (Some (Err why)) = Err (Refused why)
by_found id (Some (Ok lines)) = if is_of id lines then Ok lines else Err OtherModule

abbrev pub by_path : (List ℕ → Found) → List ℕ → Option (List ℕ) → Result (List SymLine) Lack
by_path found id None = Err Missing
by_path found id (Some path) = by_found id (found path)

abbrev pub by_name : (List ℕ → Found) → Option SymbolName → Result (List SymLine) Lack
by_name found None = Err NoBuildId
by_name found (Some name) = by_path found name.id name.path

-- the symbols of a module, given what was found under each path
unfoldable pub symbols_of : (List ℕ → Found) → List ℕ → Module → Result (List SymLine) Lack
symbols_of found folder m = by_name found (name_of folder m)

-- the records of a module, with its base
abbrev pub records_by : ℕ → Result (List SymLine) Lack → Result ModuleRecords WalkEnd
records_by base (Err lack) = Err NoSymbols
records_by base (Ok lines) = Ok (record { base = base; lines = lines })

-- the records at an address of the process
abbrev pub records_in : (List ℕ → Found) → List ℕ → Option Module → Result ModuleRecords WalkEnd
records_in found folder None = Err NoModule
records_in found folder (Some m) = records_by m.base (symbols_of found folder m)

abbrev pub holder_of : List Module → ℕ → Option Module
holder_of modules a = option_and_then (slice_get modules) (module_at modules a)

unfoldable pub records_at : (List ℕ → Found) → List ℕ → List Module → ℕ → Result ModuleRecords WalkEnd
records_at found folder modules a = records_in found folder (holder_of modules a)
