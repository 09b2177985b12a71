-- Registers by their names, as the code looks for them.
use Rattle.std.specs.Prelude.{ℕ, List, ◌∷◌, Option}
use Rattle.std.specs.List.{position_from}
use Rattle.std.specs.Str.{bytes_eq}
use Rattle.sym_edges.specs.Abi.{register_names}

-- the number of one of the sixteen registers, given its name without `$`
abbrev pub register_in : List ℕ → Option ℕ
register_in name = position_from (bytes_eq (36 ∷ name)) 0 register_names
