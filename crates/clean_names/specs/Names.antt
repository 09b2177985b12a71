-- What a name is: the bytes at the end of a line of a text (Breakpad's symbol_files.md).
use Rattle.std.specs.Prelude.{ℕ, ◌-◌, ◌==◌, ◌&&◌, Bool, not, nat_lt, if◌then◌else◌, List, [], ◌∷◌, length, slice_index}
use Rattle.std.specs.List.{list_all}

abbrev pub is_space : ℕ → Bool
is_space b = b == 32

-- a byte that may be in a line: it is not LF
abbrev pub is_within_line : ℕ → Bool
is_within_line b = not (b == 10)

-- a list without its leading members for which p is true
unfoldable pub skip : (ℕ → Bool) → List ℕ → List ℕ
skip p [] = []
skip p (x ∷ xs) = if p x then skip p xs else x ∷ xs

-- a name: not empty, no space as the first byte, no CR as the last byte, and no LF
unfoldable pub is_name : List ℕ → Bool
is_name bytes = nat_lt 0 (length bytes) && not (slice_index bytes 0 == 32) && not (slice_index bytes (length bytes - 1) == 13) && list_all is_within_line bytes
