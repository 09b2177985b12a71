-- The frame description entries (FDEs) of a section, each with its fields or the first reason to leave it out (DWARF 5, 6.4.1; LSB Core,
-- ".eh_frame").
use Rattle.std.specs.Prelude.{ℕ, ◌+◌, ◌-◌, ◌%◌, ◌^◌, ◌==◌, not, nat_le, Bool, if◌then◌else◌, List, map, filter, find, drop, Option, Some, None, option_and_then, Result, Ok, Err}
use Rattle.sym_edges.specs.declared.part.Sect.{Sect}
use Rattle.sym_edges.specs.declared.part.Sect.TheVariants.{EhFrame, DebugFrame}
use Rattle.sym_edges.specs.declared.reason.Reason.{Reason}
use Rattle.sym_edges.specs.declared.reason.Reason.TheVariants as reason
use Rattle.leb_cursor.specs.declared.fault.CursorFault.{CursorFault}
use Rattle.sym_edges.specs.Results.{◌>>=◌}
use Rattle.sym_edges.specs.declared.located.Located.{Located}
use Rattle.frame_entries.specs.declared.fault.FrameKind.{FrameKind}
use Rattle.frame_entries.specs.declared.cie.Cie.{Cie}
use Rattle.frame_entries.specs.declared.description.Body.{Body}
use Rattle.frame_entries.specs.declared.description.Body.TheVariants.{Good, Bad}
use Rattle.frame_entries.specs.declared.description.Entry.{Entry}
use Rattle.frame_entries.specs.Pointers.{format_of, number_at, pointer_at}
use Rattle.frame_entries.specs.Raw.{Raw}
use Rattle.frame_entries.specs.Listing.{is_eh, from_start, listed_at}
use Rattle.frame_entries.specs.CieFields.{CieFields}
use Rattle.frame_entries.specs.Cies.{augmentation_at, cie_of}
use Rattle.frame_entries.specs.FdeFields.{FdeFields}

-- the two sections of frame entries
abbrev pub IsFrameSection : Sect → Type 0
IsFrameSection EhFrame = Unit {0}
IsFrameSection DebugFrame = Unit {0}
IsFrameSection _ = ⊥

-- the id of a CIE: 0 in `.eh_frame`; in `.debug_frame` the greatest number of four bytes, or of eight bytes in the 64-bit format. An entry with any
-- other id is an FDE
unfoldable pub cie_id : Sect → Bool → ℕ
cie_id which wide = if is_eh which then 0 else (if wide then 0xffffffffffffffff else 0xffffffff)

unfoldable pub is_cie : Sect → Raw → Bool
is_cie which raw = raw.id == cie_id which raw.wide

-- the CIEs of a section, each with its place
abbrev pub cie_at : Raw → Cie
cie_at raw = record { at = raw.at; parts = cie_of raw.body }

unfoldable pub cies_of : Sect → List Raw → List Cie
cies_of which raws = map cie_at (filter (is_cie which) raws)

-- where the CIE of an FDE starts: in `.eh_frame` the id is the distance from the CIE to the id itself, in `.debug_frame` it is the place of the CIE
-- in the section
unfoldable pub cie_place : Sect → Raw → Option ℕ
cie_place which raw =
    if is_eh which then (if nat_le raw.id raw.id_at then Some (raw.id_at - raw.id) else None) else Some raw.id

-- the CIE that starts at a place, if there is one
unfoldable pub cie_from : List Cie → ℕ → Option Cie
cie_from cies place = find (λ cie. cie.at == place) cies

-- the CIE of an FDE, if there is one
unfoldable pub cie_named : Sect → List Cie → Raw → Option Cie
cie_named which cies raw = option_and_then (cie_from cies) (cie_place which raw)

-- the address of a place that is counted from the address `base`, modulo 2^64
unfoldable pub address_at : ℕ → ℕ → ℕ
address_at base place = (base + place) % 2 ^ 64

-- the fields of an FDE, given the place of its CIE, the fields of the CIE, the address of the FDE's body, and the body; the FDE's own instructions
-- are the rest of the body
unfoldable pub fde_of : ℕ → CieFields → ℕ → List ℕ → Result FdeFields CursorFault
fde_of place cie base body =
    pointer_at cie.encoding base (from_start body) >>= λ start.
    number_at (format_of cie.encoding) start.1 >>= λ size.
    augmentation_at cie.augmented size.1 >>= λ augmentation.
    Ok (record {
      cie = place;
      start = start.0;
      size = size.0;
      code_align = cie.code_align;
      data_align = cie.data_align;
      encoding = cie.encoding;
      initial_instructions = cie.initial_instructions;
      instructions = drop augmentation.1.at body;
      instructions_address = address_at base augmentation.1.at;
    })

-- the result for an FDE: its fields, or the first reason to leave it out
abbrev pub body_read : Result FdeFields CursorFault → Body
body_read (Ok fde) = Good fde
body_read (Err fault) = Bad reason.Entry

abbrev pub body_under : ℕ → Result CieFields Reason → ℕ → List ℕ → Body
body_under place (Ok cie) base body = body_read (fde_of place cie base body)
body_under place (Err why) base body = Bad why

abbrev pub body_by : Option Cie → ℕ → List ℕ → Body
body_by (Some cie) base body = body_under cie.at cie.parts base body
body_by None base body = Bad reason.Cie

-- the reason to leave an entry out, if there is one
abbrev pub reason_in : Body → Option Reason
reason_in (Good fde) = None
reason_in (Bad why) = Some why

-- the reasons that come from the fields of a CIE or an FDE; the others come from instructions and ranges
abbrev pub IsOfFields : Reason → Type 0
IsOfFields reason.Cie = Unit {0}
IsOfFields reason.Augmentation = Unit {0}
IsOfFields reason.Encoding = Unit {0}
IsOfFields reason.Column = Unit {0}
IsOfFields reason.Entry = Unit {0}
IsOfFields _ = ⊥

-- an FDE, given the address at which its section is loaded, and the CIEs of the section
unfoldable pub entry_of : Sect → ℕ → List Cie → Raw → Entry
entry_of which address cies raw = record {
  section = which;
  at = raw.at;
  body = body_by (cie_named which cies raw) (address_at address raw.body_at) raw.body;
}

-- the FDEs among the entries of a section, in their order
unfoldable pub entries_of : Sect → ℕ → List Raw → List Entry
entries_of which address raws =
    map (entry_of which address (cies_of which raws)) (filter (λ raw. not (is_cie which raw)) raws)

-- the FDEs of a section, or its first fault
unfoldable pub frame_entries : List ℕ → ℕ → Sect → Result (List Entry) (Located FrameKind)
frame_entries bytes address which =
    listed_at which (from_start bytes) >>= λ raws. Ok (entries_of which address raws)
