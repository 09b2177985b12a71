-- Which addresses are code: those in executable segments (System V gABI, PF_X), of the core or of a module's own headers.
use Rattle.std.specs.Prelude.{ℕ, ◌+◌, ◌==◌, ◌||◌, ◌&&◌, Bool, false, not, List, Option, None, Some, nat_lt, nat_le, bit_and}
use Rattle.std.specs.List.{list_any}
use Rattle.core_file.specs.CoreNumbers.{pf_x}
use Rattle.core_file.specs.Memory.{Memory}
use Rattle.core_file.specs.LoadedImages.{LoadedImage, image_at, page_down, page_up, is_load}
use Rattle.core_file.specs.declared.segments.Segment.{Segment}
use Rattle.core_file.specs.declared.modules.Module.{Module}

-- a loaded segment that may be executed
unfoldable pub is_executable : Segment → Bool
is_executable s = is_load s && not (bit_and s.flags pf_x == 0)

-- the address lies in an executable segment, by its size in memory
unfoldable pub has_code : ℕ → Segment → Bool
has_code a s = is_executable s && (nat_le s.address a && nat_lt a (s.address + s.memory_size))

-- the address lies in the pages of an executable segment of a file that was loaded at `start`
unfoldable pub has_page : ℕ → LoadedImage → ℕ → Segment → Bool
has_page start image a s = is_executable s && (nat_lt 0 s.memory_size
    && (nat_le (page_down (start + s.address)) (a + page_down image.first) && nat_lt (a + page_down image.first) (page_up (start + s.address + s.memory_size))))

abbrev pub has_code_by : ℕ → ℕ → Option LoadedImage → Bool
has_code_by start a None = false
has_code_by start a (Some image) = list_any (has_page start image a) image.headers

-- the address is code by the module's own headers
unfoldable pub module_has : Memory → ℕ → Module → Bool
module_has memory a m = has_code_by m.start a (image_at memory m.start)

-- the address is code
unfoldable pub is_code : Memory → List Module → ℕ → Bool
is_code memory modules a = list_any (has_code a) memory.segments || list_any (module_has memory a) modules
