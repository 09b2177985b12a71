-- What a module's own headers in memory say: its file header and its program headers (System V gABI, "ELF Header" and "Program Header").
use Rattle.std.specs.Prelude.{ℕ, ◌+◌, ◌-◌, ◌*◌, ◌/◌, ◌==◌, ◌&&◌, Bool, List, [], Option, None, Some, length, take, map, filter, find, fold, max, slice_index, nat_lt, nat_le, if◌then◌else◌}
use Rattle.std.specs.List.{flat_map}
use Rattle.std.specs.Option.{option_map_or}
use Rattle.std.specs.Str.{bytes_eq}
use Rattle.elf_sections.specs.ElfNumbers.{ei_class, elfclass64, ei_data, elfdata2lsb, pt_load, file_header_size, program_header_size}
use Rattle.elf_sections.specs.FileHeader.{magic, header_of}
use Rattle.elf_sections.specs.Notes.{NoteParts, notes, first_id}
use Rattle.core_file.specs.CoreNumbers.{pt_note, page_size, address_end}
use Rattle.core_file.specs.Segments.{segments_from}
use Rattle.core_file.specs.Memory.{Memory, front_at}
use Rattle.core_file.specs.declared.segments.Segment.{Segment}

-- the start of the page of an address, and the first start of a page at or above an address
unfoldable pub page_down : ℕ → ℕ
page_down a = a / page_size * page_size

unfoldable pub page_up : ℕ → ℕ
page_up a = (a + (page_size - 1)) / page_size * page_size

abbrev pub is_load : Segment → Bool
is_load s = s.kind == pt_load

-- the bytes are a whole file header, of a 64-bit file with the lowest byte first and with program headers of 56 bytes
unfoldable pub is_file_header : List ℕ → Bool
is_file_header head = (length head == file_header_size) && (bytes_eq (take 4 head) magic && ((slice_index head ei_class == elfclass64)
    && ((slice_index head ei_data == elfdata2lsb) && ((header_of head).program_size == program_header_size))))

-- the table of program headers that a file header describes, as far as it is in memory
unfoldable pub table_at : Memory → ℕ → List ℕ → List ℕ
table_at memory start head =
    front_at memory (start + (header_of head).program_table) (program_header_size * (header_of head).program_count)

-- the program headers, if the file header and all of them are in memory; else none
unfoldable pub headers_by : Memory → ℕ → List ℕ → List Segment
headers_by memory start head =
    if is_file_header head && (length (table_at memory start head) == program_header_size * (header_of head).program_count)
    then segments_from (table_at memory start head) 0 (header_of head).program_count else []

unfoldable pub headers_at : Memory → ℕ → List Segment
headers_at memory start = headers_by memory start (front_at memory start file_header_size)

-- a loaded file: the address that its headers give for its first loaded segment, and its program headers
pub record LoadedImage : Type 0 where
  pub first : ℕ
  pub headers : List Segment

-- the greatest end of a loaded segment, or 0 if there is none
unfoldable pub top : List Segment → ℕ
top headers = fold max 0 (map (λ s. s.address + s.memory_size) (filter is_load headers))

-- the end of the file in whole pages, if it is loaded at `start`
unfoldable pub image_end : ℕ → LoadedImage → ℕ
image_end start image = page_up (start + top image.headers - page_down image.first)

-- the address of the file's first loaded segment in the process; the addresses of the file's symbols count from there
unfoldable pub image_base : ℕ → LoadedImage → ℕ
image_base start image = start + image.first - page_down image.first

-- the file, given its first loaded segment; `None` if there is no such segment, or if the end or the base of the file is not below 2^64
abbrev pub image_by : ℕ → List Segment → Option Segment → Option LoadedImage
image_by start headers None = None
image_by start headers (Some s) =
    if nat_lt (image_end start (record { first = s.address; headers = headers })) address_end
    && nat_lt (image_base start (record { first = s.address; headers = headers })) address_end
    then Some (record { first = s.address; headers = headers }) else None

-- the file that was loaded at an address, if its headers are in memory there
unfoldable pub image_at : Memory → ℕ → Option LoadedImage
image_at memory start = image_by start (headers_at memory start) (find is_load (headers_at memory start))

-- where a segment of a file was loaded, or `None` if that is below address 0
unfoldable pub place_of : ℕ → LoadedImage → Segment → Option ℕ
place_of start image s =
    if nat_le (page_down image.first) (start + s.address) then Some (start + s.address - page_down image.first) else None

-- the notes of a segment of notes, as far as they are in memory; a note that is not wholly in memory ends them
unfoldable pub image_notes_of : Memory → ℕ → LoadedImage → Segment → List NoteParts
image_notes_of memory start image s =
    if s.kind == pt_note then option_map_or (λ a. notes (front_at memory a s.file_size)) (place_of start image s) [] else []

-- the first build id among these notes
unfoldable pub image_id : Memory → ℕ → LoadedImage → Option (List ℕ)
image_id memory start image = first_id (flat_map (image_notes_of memory start image) image.headers)
