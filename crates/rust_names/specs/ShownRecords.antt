-- Records whose names are replaced by their readable forms: FUNC, INLINE_ORIGIN and PUBLIC (Breakpad's symbol_files.md). All else stays.
use Rattle.std.specs.Prelude.{◌≡◌, ◌⊎◌, ℕ, List, map}
use Rattle.std.specs.Option.{option_map}
use Rattle.sym_records.specs.declared.line.SymLine.{SymLine}
use Rattle.sym_records.specs.declared.line.SymLine.TheVariants.{Origin, Func, Public}
use Rattle.sym_meaning.specs.TextNames.{Found, Call}
use Rattle.rust_names.specs.Shown.{IsShown, IsPlainName}

-- a record with another name
abbrev pub renamed : (List ℕ → List ℕ) → SymLine → SymLine
renamed f (Func many address size params name) = Func many address size params (f name)
renamed f (Origin number name) = Origin number (f name)
renamed f (Public many address params name) = Public many address params (f name)
renamed f s = s

-- a name is replaced by its readable form or, if it has none, by itself
abbrev pub IsNameFor : List ℕ → List ℕ → Type 0
IsNameFor name new = IsShown name new ⊎ (IsPlainName name × (new ≡ name))

-- the records in which each name is replaced in this way
pub record HaveShownNames (lines new : List SymLine) : Type 0 where
  pub names : List ℕ → List ℕ
  pub shown : (name : List ℕ) → IsNameFor name (names name)
  pub all : new ≡ map (renamed names) lines

-- what a look-up finds, with other names: a FUNC with the records after it, and an inlined call
abbrev pub renamed_found : (List ℕ → List ℕ) → Found → Found
renamed_found f found = record { func = renamed f found.func; behind = map (renamed f) found.behind }

abbrev pub renamed_call : (List ℕ → List ℕ) → Call → Call
renamed_call f call = record call { name = option_map f call.name }
