-- Which addresses are code, as a step map.
use Rattle.std.specs.Prelude.{◌≡◌, ℕ, ◌^◌, ◌<◌, List, [], Option, None, is_some}
use Rattle.std.specs.Option.{option_map_or}
use Rattle.step_maps.specs.Stepping.{Stepping, value_at}
use Rattle.step_maps.specs.declared.stretch.FirstItem.{FirstItem}
use Rattle.core_file.specs.declared.modules.Module.{Module}
use Rattle.core_file.specs.MappedFiles.{MappedFile, files_of}
use Rattle.core_file.specs.Memory.{Memory}
use Rattle.core_file.specs.Code.{is_code}

-- the step map has a value at an address exactly if the address is code
abbrev pub IsCodeMap : Memory → List Module → Stepping (Option FirstItem) → Type 0
IsCodeMap memory modules steps = (a : ℕ) → a < 2 ^ 64 → is_some (value_at None steps a) ≡ is_code memory modules a

-- the mappings of a note, if there is one
abbrev pub files_by : Option (List ℕ) → List MappedFile
files_by note = option_map_or files_of note []
