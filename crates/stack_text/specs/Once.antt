-- Lists without repetitions.
use Rattle.std.specs.Prelude.{ℕ, not, List, [], ◌∷◌}
use Rattle.std.specs.List.{filter}
use Rattle.std.specs.Str.{bytes_eq}

-- each text of a list once, at its first place
unfoldable pub once : List (List ℕ) → List (List ℕ)
once [] = []
once (text ∷ texts) = text ∷ filter (λ other. not (bytes_eq other text)) (once texts)
