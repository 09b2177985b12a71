-- The directories of a line table as the code stores them.
use Rattle.std.specs.Prelude.{ℕ, Bool, if◌then◌else◌, List, [], ◌∷◌, map}
use Rattle.line_program.specs.FileFields.{FileFields}
use Rattle.line_program.specs.Paths.{joined}

-- the directory `root`, and the entries relative to it; none unless `some`
abbrev pub directories_in : Bool → List ℕ → List FileFields → List (List ℕ)
directories_in some root entries = if some then root ∷ map (λ d. joined root d.path) entries else []
