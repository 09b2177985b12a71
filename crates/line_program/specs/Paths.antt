-- The paths of a line table's files (DWARF 5, 6.2.4; DWARF 4, 6.2.4).
use Rattle.std.specs.Prelude.{ℕ, ◌-◌, ◌==◌, ◌||◌, Bool, if◌then◌else◌, List, [], ◌∷◌, ◌++◌, length, map, slice_index, Option, Some, None}
use Rattle.std.specs.List.{slice_get}
use Rattle.std.specs.Str.{bytes_eq}
use Rattle.clean_names.specs.Cleaning.{cleaned}
use Rattle.line_program.specs.FileFields.{FileFields}

-- whether a path begins with a slash, and whether a directory ends with one
abbrev pub is_rooted : List ℕ → Bool
is_rooted path = slice_index path 0 == 47

abbrev pub ends_in_slash : List ℕ → Bool
ends_in_slash directory = slice_index directory (length directory - 1) == 47

-- a path in a directory
unfoldable pub joined : List ℕ → List ℕ → List ℕ
joined directory path =
    if length directory == 0 || is_rooted path then path else
    if length path == 0 then directory else
    if ends_in_slash directory then directory ++ path else directory ++ 47 ∷ path

-- directory 0 of version 5: its path, joined with the compilation directory unless both are equal
unfoldable pub root_of : List ℕ → List ℕ → List ℕ
root_of comp_dir path = if bytes_eq path comp_dir then path else joined comp_dir path

-- the directories of version 5, from number 0 on; all but the first are relative to the first
abbrev pub rooted_directories : List ℕ → List FileFields → List (List ℕ)
rooted_directories comp_dir [] = []
rooted_directories comp_dir (root ∷ directories) =
    root_of comp_dir root.path ∷ map (λ d. joined (root_of comp_dir root.path) d.path) directories

-- the directories, from number 0 on. In versions 2 to 4 directory 0 is the compilation directory, and the others are relative to it
unfoldable pub directories_of : ℕ → List ℕ → List FileFields → List (List ℕ)
directories_of version comp_dir directories =
    if version == 5 then rooted_directories comp_dir directories else
    comp_dir ∷ map (λ d. joined comp_dir d.path) directories

abbrev pub path_under : Option (List ℕ) → List ℕ → List ℕ
path_under None path = path
path_under (Some directory) path = joined directory path

-- a file's path: joined with its directory if the table has that directory, and then cleaned
unfoldable pub file_path : List (List ℕ) → FileFields → List ℕ
file_path directories file = cleaned (path_under (slice_get directories file.directory) file.path)

-- the number of the first file
abbrev pub first_file : ℕ → ℕ
first_file version = if version == 5 then 0 else 1
