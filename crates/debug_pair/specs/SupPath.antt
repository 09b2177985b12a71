-- The path of a supplementary file (GDB manual, "Debugging Information in Separate Files"). Distributions keep the supplementary files of several
-- packages in folders `.dwz` below the directory of debug files.
use Rattle.std.specs.Prelude.{ℕ, ◌+◌, Bool, List, [], ◌++◌, Option, Some, None, length, take, drop, find, reverse, nat_eq, codes, if◌then◌else◌}
use Rattle.std.specs.List.{range_with_len, starts_with}
use Rattle.std.specs.Option.{option_map, is_some}

-- a text has `part` at this place
abbrev pub stands_at : List ℕ → List ℕ → ℕ → Bool
stands_at part text at = starts_with nat_eq (drop at text) part

-- the last place at which a text has `part`
unfoldable pub last_place : List ℕ → List ℕ → Option ℕ
last_place part text = find (stands_at part text) (reverse (range_with_len 0 (length text)))

-- the text before the last `part`, and the text after it
unfoldable pub before_last : List ℕ → List ℕ → Option (List ℕ)
before_last part text = option_map (λ at. take at text) (last_place part text)

unfoldable pub behind_last : List ℕ → List ℕ → Option (List ℕ)
behind_last part text = option_map (λ at. drop (at + length part) text) (last_place part text)

-- a component of the path is `..`
unfoldable pub has_parent : List ℕ → Bool
has_parent path = is_some (last_place (codes "/../") (codes "/" ++ path ++ codes "/"))

-- the directory of debug files: the given root; without one, what comes before the last
-- `/.build-id/` in the name of the file that links
abbrev pub debug_root : Option (List ℕ) → List ℕ → Option (List ℕ)
debug_root (Some root) name = Some root
debug_root None name = before_last (codes "/.build-id/") name

-- the path below such a directory: the linked path from its last `/.dwz/` on. There is no path if
-- the linked path has no `/.dwz/`, or has a component `..` after the last one
abbrev pub path_below : List ℕ → Option (List ℕ) → Option (List ℕ)
path_below root None = None
path_below root (Some rest) = if has_parent rest then None else Some (root ++ codes "/.dwz/" ++ rest)

-- without such a directory, the path is used as it is if it begins with `/`; otherwise it is
-- relative to the folder of the file that links
abbrev pub folder_of : Option (List ℕ) → List ℕ
folder_of None = []
folder_of (Some folder) = folder ++ codes "/"

unfoldable pub path_beside : List ℕ → List ℕ → List ℕ
path_beside name path = if starts_with nat_eq path (codes "/") then path else folder_of (before_last (codes "/") name) ++ path

abbrev pub path_by : Option (List ℕ) → List ℕ → List ℕ → Option (List ℕ)
path_by None name path = Some (path_beside name path)
path_by (Some root) name path = path_below root (behind_last (codes "/.dwz/") path)

-- the path of the supplementary file to which the file `name` links by `path`, or `None` if there
-- is a directory of debug files and no path below it
unfoldable pub sup_path : Option (List ℕ) → List ℕ → List ℕ → Option (List ℕ)
sup_path root name path = path_by (debug_root root name) name path
