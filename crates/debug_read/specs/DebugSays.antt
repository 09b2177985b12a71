-- What the debugging information of a file says, or its first fault.
use Rattle.std.specs.Prelude.{◌≡◌, List, ◌++◌, Result, Ok, Err}
use Rattle.sym_edges.specs.Addresses.{Range}
use Rattle.sym_edges.specs.Results.{◌>>=◌}
use Rattle.sym_edges.specs.declared.located.Located.{Located}
use Rattle.sym_edges.specs.declared.part.Sect.TheVariants.{EhFrame, DebugFrame}
use Rattle.elf_sections.specs.Image.{ImageParts}
use Rattle.abbrev_units.specs.declared.fault.DwarfKind.{DwarfKind}
use Rattle.abbrev_units.specs.DebugSections.{DebugSections}
use Rattle.abbrev_units.specs.declared.unit.Unit.{Unit}
use Rattle.abbrev_units.specs.Units.{units_in}
use Rattle.frame_entries.specs.declared.description.Entry.{Entry}
use Rattle.frame_entries.specs.declared.fault.FrameKind.{FrameKind}
use Rattle.frame_entries.specs.FrameEntries.{frame_entries}
use Rattle.abbrev_units.specs.UnitPlaces.{read_units}
use Rattle.debug_read.specs.declared.fault.DebugFault.{DebugFault}
use Rattle.debug_read.specs.declared.fault.DebugFault.TheVariants.{Dwarf, Sup, Frame}
use Rattle.debug_read.specs.declared.found.DebugRead.{DebugRead}
use Rattle.debug_read.specs.Each.{each_of, Match, Says}
use Rattle.debug_read.specs.ImageSections.{sections_of, sup_sections_of}
use Rattle.debug_read.specs.UnitSays.{UnitSays, unit_says}
use Rattle.debug_read.specs.UnitsRead.{IsUnitRead}

-- the headers of the units of a file, and what the units that are read say
pub record FileSays : Type 0 where
  pub headers : List Unit
  pub units : List UnitSays

-- what a file says, or its first fault: of a header, or else of the units, in their order
unfoldable pub file_says : DebugSections → Result FileSays (Located DwarfKind)
file_says sections =
    units_in sections.info >>= λ headers.
    each_of (unit_says sections) (read_units headers) >>= λ units.
    Ok (record { headers = headers; units = units })

-- the headers of the units of a file and of its supplementary file, and what the units that are
-- read say, those of the file first
pub record BothSays : Type 0 where
  pub headers : List Unit
  pub sup_headers : List Unit
  pub units : List UnitSays

-- what `BothSays` has, and the entries of `.eh_frame` (`first`) and of `.debug_frame` (`second`)
pub record DebugSays : Type 0 where
  pub headers : List Unit
  pub sup_headers : List Unit
  pub units : List UnitSays
  pub first : List Entry
  pub second : List Entry

-- a fault of the file's debugging information (`as_dwarf`), of its supplementary file's (`as_sup`)
-- or of a frame section (`as_frame`), as a fault of the file
abbrev pub as_dwarf : {A : Type 0} → Result A (Located DwarfKind) → Result A DebugFault
as_dwarf (Ok x) = Ok x
as_dwarf (Err fault) = Err (Dwarf fault)

abbrev pub as_sup : {A : Type 0} → Result A (Located DwarfKind) → Result A DebugFault
as_sup (Ok x) = Ok x
as_sup (Err fault) = Err (Sup fault)

abbrev pub as_frame : {A : Type 0} → Result A (Located FrameKind) → Result A DebugFault
as_frame (Ok x) = Ok x
as_frame (Err fault) = Err (Frame fault)

-- the units of a file and of its supplementary file (DWARF 5, 7.3.6), or the first fault; faults of the file come first
unfoldable pub both_says : ImageParts → Result BothSays DebugFault
both_says image =
    as_dwarf (file_says (sections_of image)) >>= λ own.
    as_sup (file_says (sup_sections_of image.sup)) >>= λ sup.
    Ok (record { headers = own.headers; sup_headers = sup.headers; units = own.units ++ sup.units })

-- what a file says, or its first fault after its image was read: of the units, of `.eh_frame`, or of `.debug_frame`, in this order
unfoldable pub debug_says : ImageParts → Result DebugSays DebugFault
debug_says image =
    both_says image >>= λ both.
    as_frame (frame_entries image.eh_frame.bytes image.eh_frame.address EhFrame) >>= λ first.
    as_frame (frame_entries image.debug_frame.bytes image.debug_frame.address DebugFrame) >>= λ second.
    Ok (record { headers = both.headers; sup_headers = both.sup_headers; units = both.units; first = first; second = second })

-- what is kept of a file that says `says`, if the addresses `code` are code
pub record IsKept (code : List Range) (says : DebugSays) (read : DebugRead) : Type 0 where
  pub headers : read.headers ≡ says.headers
  pub sup_headers : read.sup_headers ≡ says.sup_headers
  pub units : Match (IsUnitRead code) says.units read.units
  pub first : read.first ≡ says.first
  pub second : read.second ≡ says.second

-- what is kept of the debugging information of an image
abbrev pub IsDebugRead : ImageParts → DebugRead → Type 0
IsDebugRead image read = Says (IsKept image.code) (debug_says image) read
