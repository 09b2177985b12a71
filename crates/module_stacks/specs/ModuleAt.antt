-- Which module of a process counts at an address. One module may lie within another, for example if the file of a loader is mapped into a gap of a
-- larger file.
use Rattle.std.specs.Prelude.{ℕ, ◌+◌, List, [], ◌∷◌, Option, None, Some, nat_lt, if◌then◌else◌}
use Rattle.std.specs.Option.{option_map}
use Rattle.core_file.specs.Modules.{lies_in}
use Rattle.core_file.specs.declared.modules.Module.{Module}

-- a module that contains an address: its place among the modules, and its start
pub record Holder : Type 0 where
  pub place : ℕ
  pub start : ℕ

-- of a module and a later one in the list, the one with the greater start; if their starts are
-- equal, the later one
abbrev pub greater : Holder → Option Holder → Option Holder
greater own None = Some own
greater own (Some later) = if nat_lt later.start own.start then Some own else Some later

-- among the modules that contain an address, the one with the greatest start; if several have that
-- start, the last of them. The first of `modules` has the number `place`
unfoldable pub holder_from : ℕ → List Module → ℕ → Option Holder
holder_from place [] a = None
holder_from place (m ∷ modules) a =
    if lies_in m a then greater (record { place = place; start = m.start }) (holder_from (place + 1) modules a)
    else holder_from (place + 1) modules a

-- the place of the module that counts at an address
unfoldable pub module_at : List Module → ℕ → Option ℕ
module_at modules a = option_map (λ holder. holder.place) (holder_from 0 modules a)
