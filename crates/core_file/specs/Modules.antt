-- The modules of the process: the files that it had loaded, given its mapped files and their own headers in memory.
use Rattle.std.specs.Prelude.{ℕ, ◌-◌, ◌==◌, ◌&&◌, Bool, false, not, List, [], ◌∷◌, ◌++◌, Option, None, Some, length, take, drop, codes, nat_lt, nat_le, if◌then◌else◌}
use Rattle.std.specs.List.{list_any}
use Rattle.std.specs.Option.{option_map}
use Rattle.std.specs.Str.{bytes_eq}
use Rattle.clean_names.specs.Cleaning.{cleaned}
use Rattle.core_file.specs.CoreNumbers.{page_size}
use Rattle.core_file.specs.MappedFiles.{MappedFile}
use Rattle.core_file.specs.Memory.{Memory}
use Rattle.core_file.specs.LoadedImages.{LoadedImage, image_at, image_end, image_base, image_id, place_of, page_down, is_load}
use Rattle.core_file.specs.declared.segments.Segment.{Segment}
use Rattle.core_file.specs.declared.modules.Module.{Module}

-- what follows the last slash, or the whole text if it has no slash
unfoldable pub behind_slash : List ℕ → List ℕ
behind_slash [] = []
behind_slash (b ∷ text) = if list_any (λ c. c == 47) text then behind_slash text else if b == 47 then text else b ∷ text

-- the words that Linux adds to the name of a deleted file
abbrev pub deleted_words : List ℕ
deleted_words = codes " (deleted)"

unfoldable pub without_deleted : List ℕ → List ℕ
without_deleted name =
    if nat_le 10 (length name) && bytes_eq (drop (length name - 10) name) deleted_words then take (length name - 10) name else name

-- the name of a module, given the name of its file
unfoldable pub module_name : List ℕ → List ℕ
module_name text = cleaned (without_deleted (behind_slash text))

-- the end of a module that begins with a mapping of the file `text` up to `end`, given the mappings
-- after it. While these are of the same file and not of its start, they belong to the module, and
-- its end is the end of the last of them
unfoldable pub end_behind : List ℕ → ℕ → List MappedFile → ℕ
end_behind text end [] = end
end_behind text end (f ∷ files) = if bytes_eq f.text text && nat_lt 0 f.offset then end_behind text f.end files else end

-- the module that begins with a mapping. Its own headers in memory give its end, base and build id.
-- Without them it ends with its mappings, and has no build id
abbrev pub module_by : Memory → MappedFile → List MappedFile → Option LoadedImage → Module
module_by memory f later None = record {
  start = f.start;
  end = end_behind f.text f.end later;
  base = f.start;
  name = module_name f.text;
  build_id = None;
}
module_by memory f later (Some image) = record {
  start = f.start;
  end = image_end f.start image;
  base = image_base f.start image;
  name = module_name f.text;
  build_id = image_id memory f.start image;
}

unfoldable pub module_of : Memory → MappedFile → List MappedFile → Module
module_of memory f later = module_by memory f later (image_at memory f.start)

-- the page at which a loaded segment begins, if the segment has the first page of the file
unfoldable pub first_page_of : ℕ → LoadedImage → Segment → Option ℕ
first_page_of start image s =
    if is_load s && nat_lt s.offset page_size then option_map page_down (place_of start image s) else None

-- the address `a` is this page
abbrev pub is_page : ℕ → Option ℕ → Bool
is_page a None = false
is_page a (Some page) = page == a

-- the address is the page of such a segment of a loaded file
abbrev pub has_first_page : ℕ → ℕ → Option LoadedImage → Bool
has_first_page a start None = false
has_first_page a start (Some image) = list_any (λ s. is_page a (first_page_of start image s)) image.headers

-- the address lies in the module
abbrev pub lies_in : Module → ℕ → Bool
lies_in m a = nat_le m.start a && nat_lt a m.end

-- the address lies in one of the modules, and the module's own headers say that the first page of
-- its file was mapped there. Linkers can map this page several times
unfoldable pub is_own_page : Memory → List Module → ℕ → Bool
is_own_page memory modules a = list_any (λ m. lies_in m a && has_first_page a m.start (image_at memory m.start)) modules

-- a mapping begins a module if it is of the start of its file, and does not belong to a module
-- before it
unfoldable pub begins_module : Memory → List Module → MappedFile → Bool
begins_module memory before f = (f.offset == 0) && not (is_own_page memory before f.start)

-- the modules that begin with these mappings, given the modules `before` them
unfoldable pub modules_from : Memory → List Module → List MappedFile → List Module
modules_from memory before [] = []
modules_from memory before (f ∷ later) =
    if begins_module memory before f
    then module_of memory f later ∷ modules_from memory (before ++ module_of memory f later ∷ []) later
    else modules_from memory before later

-- the first `limit` modules
unfoldable pub modules_in : ℕ → Memory → List MappedFile → List Module
modules_in limit memory files = take limit (modules_from memory [] files)
