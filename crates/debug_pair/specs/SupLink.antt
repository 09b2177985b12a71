-- The link of a file to its supplementary file: the path and the id of that file (DWARF 5, 7.3.6; `.gnu_debugaltlink` is an older GNU extension).
use Rattle.std.specs.Prelude.{ℕ, ◌==◌, ◌&&◌, ◌||◌, Bool, true, false, not, List, length, Option, Some, None, Result, Ok, Err, if◌then◌else◌}
use Rattle.std.specs.Option.{option_map}
use Rattle.std.specs.Str.{bytes_eq, is_utf8}
use Rattle.sym_edges.specs.Results.{◌>>=◌}
use Rattle.leb_cursor.specs.Ahead.{Ahead}
use Rattle.leb_cursor.specs.Readings.{fixed_at, uleb_at, text_at, take_at}
use Rattle.leb_cursor.specs.declared.fault.CursorFault.{CursorFault}
use Rattle.elf_sections.specs.SupLinks.{LinkPart, Missing, Unreadable, Held}
use Rattle.elf_sections.specs.Image.{ImageParts}
use Rattle.debug_pair.specs.declared.fault.SupFault.{SupFault}
use Rattle.debug_pair.specs.declared.fault.SupFault.TheVariants.{Link}

-- the path of a supplementary file, and its id: its build id if `by_build_id`, otherwise the id in
-- its `.debug_sup`
pub record SupLink : Type 0 where
  pub path : List ℕ
  pub id : List ℕ
  pub by_build_id : Bool

-- a fault in reading the fields of a section becomes the fault `Link`
abbrev pub or_bad : {A : Type 0} → Result A CursorFault → Result A SupFault
or_bad (Ok x) = Ok x
or_bad (Err fault) = Err Link

-- the bytes of a section, none of which has been read
abbrev pub all_ahead : List ℕ → Ahead
all_ahead bytes = record { bytes = bytes; at = 0 }

-- the first two fields of `.debug_sup`: whether the version is 5 and the second field is `kind`.
-- The second field says whether the file itself is a supplementary file
unfoldable pub sup_front_at : ℕ → Ahead → Result (Bool × Ahead) SupFault
sup_front_at kind c =
    or_bad (fixed_at 2 c) >>= λ version.
    or_bad (fixed_at 1 version.1) >>= λ is_supplementary.
    Ok (version.0 == 5 && is_supplementary.0 == kind, is_supplementary.1)

-- the fields after these: a name, the length of an id, and the id
unfoldable pub sup_name_at : Ahead → Result (List ℕ × List ℕ) SupFault
sup_name_at c =
    or_bad (text_at c) >>= λ name.
    or_bad (uleb_at name.1) >>= λ size.
    or_bad (take_at size.0 size.1) >>= λ id.
    Ok (name.0, id.0)

-- the name and the id in `.debug_sup`, if its version is 5 and its second field is `kind`
unfoldable pub sup_fields : ℕ → List ℕ → Result (Option (List ℕ × List ℕ)) SupFault
sup_fields kind bytes =
    sup_front_at kind (all_ahead bytes) >>= λ front.
    if front.0 then (sup_name_at front.1 >>= λ found. Ok (Some found)) else Ok None

-- a link must have a path, which is UTF-8, and an id; neither may be empty
unfoldable pub checked : SupLink → Result (Option SupLink) SupFault
checked l = if length l.path == 0 || (length l.id == 0 || not (is_utf8 l.path)) then Err Link else Ok (Some l)

-- the link in `.gnu_debugaltlink`: a path, and after its zero byte the build id
unfoldable pub link_in_altlink : List ℕ → Result (Option SupLink) SupFault
link_in_altlink bytes = or_bad (text_at (all_ahead bytes)) >>= λ path. checked (record { path = path.0; id = path.1.bytes; by_build_id = true })

abbrev pub link_by_fields : Option (List ℕ × List ℕ) → Result (Option SupLink) SupFault
link_by_fields None = Ok None
link_by_fields (Some fields) = checked (record { path = fields.0; id = fields.1; by_build_id = false })

-- the link in `.debug_sup`. There is none if the section has another version, or says that the file
-- itself is a supplementary one
abbrev pub link_in_sup : LinkPart → Result (Option SupLink) SupFault
link_in_sup Missing = Ok None
link_in_sup Unreadable = Err Link
link_in_sup (Held bytes) = sup_fields 0 bytes >>= link_by_fields

-- the link in two sections: that of `.gnu_debugaltlink` if there is this section, otherwise that of
-- `.debug_sup`
abbrev pub link_in : LinkPart → LinkPart → Result (Option SupLink) SupFault
link_in Missing sup = link_in_sup sup
link_in Unreadable sup = Err Link
link_in (Held bytes) sup = link_in_altlink bytes

-- the link of a file. A file without entries has none, since a stripped binary keeps the section
-- with the link
unfoldable pub sup_link : ImageParts → Result (Option SupLink) SupFault
sup_link i = if length i.info.bytes == 0 then Ok None else link_in i.altlink i.debug_sup

-- the id in a supplementary file's own `.debug_sup`
abbrev pub id_by_fields : Result (Option (List ℕ × List ℕ)) SupFault → Option (List ℕ)
id_by_fields (Ok found) = option_map (λ fields. fields.1) found
id_by_fields (Err fault) = None

abbrev pub own_id : LinkPart → Option (List ℕ)
own_id Missing = None
own_id Unreadable = None
own_id (Held bytes) = id_by_fields (sup_fields 1 bytes)

-- the id of a supplementary file, to be compared with that of a link: its build id, or the id in
-- its `.debug_sup`
abbrev pub sup_id : ImageParts → Bool → Option (List ℕ)
sup_id i true = i.build_id
sup_id i false = own_id i.debug_sup

abbrev pub is_id : List ℕ → Option (List ℕ) → Bool
is_id id None = false
is_id id (Some own) = bytes_eq own id

-- the file is the one to which a link leads: it has the id of the link
unfoldable pub is_of_link : SupLink → ImageParts → Bool
is_of_link l sup = is_id l.id (sup_id sup l.by_build_id)
