-- The id of a module in a symbol file (Breakpad's symbol_files.md, "MODULE").
use Rattle.std.specs.Prelude.{ℕ, List, [], ◌∷◌, ◌++◌, map, slice_index, codes}
use Rattle.hex.specs.Hex.{encode_upper}

-- the identity in the byte order in which a GUID is written: its first four bytes, the next two and the next two are each reversed
unfoldable pub turned : List ℕ → List ℕ
turned id = map (slice_index id) (3 ∷ 2 ∷ 1 ∷ 0 ∷ 5 ∷ 4 ∷ 7 ∷ 6 ∷ 8 ∷ 9 ∷ 10 ∷ 11 ∷ 12 ∷ 13 ∷ 14 ∷ 15 ∷ [])

-- the module's id: the turned identity in upper-case hexadecimal, and then the age 0
unfoldable pub module_id : List ℕ → List ℕ
module_id identity = encode_upper (turned identity) ++ codes "0"
