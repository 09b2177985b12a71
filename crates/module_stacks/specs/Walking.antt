-- A process, its folder of symbol files, and what was found of the symbol files that were asked for.
use Rattle.std.specs.Prelude.{◌≡◌, ℕ, true, is_some, slice_get, List, Option, None, Some}
use Rattle.std.specs.List.{AllByRecursion}
use Rattle.std.specs.Option.{option_and_then}
use Rattle.core_file.specs.Core.{CoreParts}
use Rattle.stack_walk.specs.declared.steps.WalkStep.{WalkStep}
use Rattle.module_stacks.specs.SymbolFiles.{Found, seen_in}
use Rattle.module_stacks.specs.Symbols.{name_of, holder_of}
use Rattle.module_stacks.specs.declared.names.SymbolName.{SymbolName}

pub record Walking : Type 0 where
  pub core : CoreParts
  pub folder : List ℕ
  -- each name that was asked for, with what was found under it
  pub known : List (List ℕ × Found)

-- what was found under a path; nothing if the path was not asked for
abbrev pub known_found : List (List ℕ × Found) → List ℕ → Found
known_found known path = option_and_then (λ (found : Found). found) (seen_in known path)

abbrev pub IsPathSeen : List (List ℕ × Found) → Option (List ℕ) → Type 0
IsPathSeen known None = Unit {0}
IsPathSeen known (Some path) = is_some (seen_in known path) ≡ true

abbrev pub IsNameSeen : List (List ℕ × Found) → Option SymbolName → Type 0
IsNameSeen known None = Unit {0}
IsNameSeen known (Some name) = IsPathSeen known name.path

-- the symbol file of the module that counts at an address was asked for, if it has a path
abbrev pub IsAsked : Walking → ℕ → Type 0
IsAsked w a = IsNameSeen w.known (option_and_then (name_of w.folder) (holder_of w.core.modules a))

-- the same for the address that each step looks up
abbrev pub AreAsked : Walking → List WalkStep → Type 0
AreAsked w steps = AllByRecursion (λ step. IsAsked w step.at) steps

-- the name is the path of the symbol file of one of the modules
abbrev pub path_of : Option SymbolName → Option (List ℕ)
path_of None = None
path_of (Some name) = name.path

abbrev pub IsPathOf : Walking → List ℕ → Type 0
IsPathOf w name = (place : ℕ) × (option_and_then (λ m. path_of (name_of w.folder m)) (slice_get w.core.modules place) ≡ Some name)
