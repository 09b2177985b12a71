-- How a text is cut into lines, and a line into fields (Breakpad's symbol_files.md).
use Rattle.std.specs.Prelude.{ℕ, ◌==◌, ◌||◌, ◌&&◌, Bool, false, not, if◌then◌else◌, List, [], ◌∷◌}
use Rattle.std.specs.List.{list_all}
pub use Rattle.clean_names.specs.Names.{is_space, is_within_line}
unfoldable pub use Rattle.clean_names.specs.Names.{skip}

abbrev pub is_cr : ℕ → Bool
is_cr b = b == 13

-- a byte that a line may have besides its fields: a space or CR
abbrev pub is_margin : ℕ → Bool
is_margin b = is_space b || is_cr b

-- the bytes before the first byte b, or all bytes if there is none
unfoldable pub before : ℕ → List ℕ → List ℕ
before b [] = []
before b (x ∷ xs) = if x == b then [] else x ∷ before b xs

-- the bytes from the first byte b on, or none if there is no b
unfoldable pub from : ℕ → List ℕ → List ℕ
from b [] = []
from b (x ∷ xs) = if x == b then x ∷ xs else from b xs

-- bytes without those at the end for which p is true
unfoldable pub trim_end : (ℕ → Bool) → List ℕ → List ℕ
trim_end p [] = []
trim_end p (x ∷ xs) = if list_all p (x ∷ xs) then [] else x ∷ trim_end p xs

-- adds a member at the front of the first of several lists, for example a byte to the first line
abbrev pub onto : {A : Type 0} → A → List (List A) → List (List A)
onto x [] = (x ∷ []) ∷ []
onto x (first ∷ later) = (x ∷ first) ∷ later

-- the lines of a text: the last line is the bytes after the last LF, and it may be empty
unfoldable pub split_lines : List ℕ → List (List ℕ)
split_lines [] = [] ∷ []
split_lines (b ∷ bytes) = if b == 10 then [] ∷ split_lines bytes else onto b (split_lines bytes)

-- whether the list is not empty and p is true for its last member
unfoldable pub last_is : {A : Type 0} → (A → Bool) → List A → Bool
last_is p [] = false
last_is p (x ∷ []) = p x
last_is p (x ∷ y ∷ ys) = last_is p (y ∷ ys)

-- a byte that may be in a field: neither space nor LF
abbrev pub is_within_field : ℕ → Bool
is_within_field b = not (b == 32) && not (b == 10)
