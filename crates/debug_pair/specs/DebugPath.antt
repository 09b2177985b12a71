-- The path of the debug file of a build below a root directory (GDB manual, "Debugging Information in Separate Files").
use Rattle.std.specs.Prelude.{ℕ, List, [], ◌∷◌, ◌++◌, Option, Some, None, codes}
use Rattle.hex.specs.Hex.{encode_lower}

-- the path, given the build id in lower-case hexadecimal: its first byte names a directory, and the other bytes name the file in it. For an id of
-- fewer than two bytes there is no path
abbrev pub debug_path : List ℕ → List ℕ → Option (List ℕ)
debug_path root [] = None
debug_path root (first ∷ []) = None
debug_path root (first ∷ second ∷ id) =
    Some (root ++ codes "/.build-id/" ++ encode_lower (first ∷ []) ++ codes "/" ++ encode_lower (second ∷ id) ++ codes ".debug")
