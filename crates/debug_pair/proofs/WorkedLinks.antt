-- Worked examples: links to supplementary files, whole and cut, and the files that they mean.
use Rattle.std.proofs.Common.{◌≡◌, ℕ, Bool, true, false, List, [], ◌∷◌, map, codes, Option, Some, None, Result, Ok, Err, refl}
use Rattle.sym_edges.proofs.Hex.{bytes}
use Rattle.elf_sections.specs.SupLinks.{LinkPart, Missing, Unreadable, Held}
use Rattle.elf_sections.specs.Image.{SectionPart, ImageParts}
use Rattle.debug_pair.specs.declared.fault.SupFault.{SupFault}
use Rattle.debug_pair.specs.declared.fault.SupFault.TheVariants.{Link}
use Rattle.debug_pair.specs.SupLink.{SupLink, sup_link, is_of_link}
use Rattle.debug_pair.proofs.Computing.{debug_pair_computes}

abbrev part : List ℕ → SectionPart
part content = record { bytes = content; address = 0 }

-- An image with these entries, this build id, and these two sections.
abbrev image : List ℕ → Option (List ℕ) → LinkPart → LinkPart → ImageParts
image info build_id altlink debug_sup = record {
  info = part info;
  abbrevs = part [];
  line = part [];
  line_str = part [];
  str = part [];
  str_offsets = part [];
  addr = part [];
  ranges = part [];
  rnglists = part [];
  debug_frame = part [];
  eh_frame = part [];
  text = part [];
  base = 0;
  code = [];
  build_id = build_id;
  identity = [];
  symbols = [];
  altlink = altlink;
  debug_sup = debug_sup;
  sup = None;
}

-- The link of a file with entries.
abbrev link : LinkPart → LinkPart → Result (Option SupLink) SupFault
link altlink debug_sup = sup_link (image (codes "x") None altlink debug_sup)

-- A section with these bytes.
abbrev held : List ℕ → LinkPart
held text = Held (bytes text)

-- A link to the path `s` with the id 0a 0b.
abbrev to_s : Bool → Result (Option SupLink) SupFault
to_s by_build_id = Ok (Some (record { path = codes "s"; id = 10 ∷ 11 ∷ []; by_build_id = by_build_id }))

-- Whole links of both kinds.
abbrev altlink : LinkPart
altlink = held (codes "73 00 0a 0b")

abbrev debug_sup : LinkPart
debug_sup = held (codes "0500 00 73 00 02 0a 0b")

by_altlink : link altlink Missing ≡ to_s true
unfolding debug_pair_computes bytes
by_altlink = refl

by_debug_sup : link Missing debug_sup ≡ to_s false
unfolding debug_pair_computes bytes
by_debug_sup = refl

-- Bytes after the id of a `.debug_sup` are ignored.
bytes_behind : link Missing (held (codes "0500 00 73 00 02 0a 0b 0c")) ≡ to_s false
unfolding debug_pair_computes bytes
bytes_behind = refl

-- The length of the id, padded to two bytes.
padded_length : link Missing (held (codes "0500 00 73 00 82 00 0a 0b")) ≡ to_s false
unfolding debug_pair_computes bytes
padded_length = refl

neither : link Missing Missing ≡ Ok None
unfolding debug_pair_computes bytes
neither = refl

-- A file without entries has no link, whatever its sections hold.
without_entries : sup_link (image [] None altlink Missing) ∷ sup_link (image [] None Unreadable Unreadable) ∷ [] ≡ Ok None ∷ Ok None ∷ []
unfolding debug_pair_computes bytes
without_entries = refl

-- If there is a `.gnu_debugaltlink`, it counts.
altlink_first : link altlink (held (codes "05")) ∷ link (held (codes "73")) debug_sup ∷ link Unreadable debug_sup ∷ [] ≡ to_s true ∷ Err Link ∷ Err Link ∷ []
unfolding debug_pair_computes bytes
altlink_first = refl

unreadable : link Missing Unreadable ≡ Err Link
unfolding debug_pair_computes bytes
unreadable = refl

-- An empty section; no zero byte, no id, no path; and a path that is not UTF-8.
cut_altlinks : (link (held (codes "")) Missing) ∷ (link (held (codes "73")) Missing) ∷ (link (held (codes "73 00")) Missing) ∷ (link (held (codes "00 0a")) Missing) ∷ (link (held (codes "ff 00 0a")) Missing) ∷ [] ≡ Err Link ∷ Err Link ∷ Err Link ∷ Err Link ∷ Err Link ∷ []
unfolding debug_pair_computes bytes
cut_altlinks = refl

-- A `.debug_sup` cut before and in each of its fields.
cut_sups : (link Missing (held (codes ""))) ∷ (link Missing (held (codes "05"))) ∷ (link Missing (held (codes "0500"))) ∷ (link Missing (held (codes "0500 00"))) ∷ (link Missing (held (codes "0500 00 73"))) ∷ (link Missing (held (codes "0500 00 73 00"))) ∷ (link Missing (held (codes "0500 00 73 00 82"))) ∷ (link Missing (held (codes "0500 00 73 00 02 0a"))) ∷ [] ≡ Err Link ∷ Err Link ∷ Err Link ∷ Err Link ∷ Err Link ∷ Err Link ∷ Err Link ∷ Err Link ∷ []
unfolding debug_pair_computes bytes
cut_sups = refl

-- A length of more than ten bytes.
long_length : link Missing (held (codes "0500 00 73 00 80 80 80 80 80 80 80 80 80 80 00 0a")) ≡ Err Link
unfolding debug_pair_computes bytes
long_length = refl

-- No path, a path that is not UTF-8, and no id.
bad_sups : (link Missing (held (codes "0500 00 00 02 0a 0b"))) ∷ (link Missing (held (codes "0500 00 ff 00 02 0a 0b"))) ∷ (link Missing (held (codes "0500 00 73 00 00"))) ∷ [] ≡ Err Link ∷ Err Link ∷ Err Link ∷ []
unfolding debug_pair_computes bytes
bad_sups = refl

-- Another version or another second field: there is no link, whatever follows.
other_sups : (link Missing (held (codes "0400 00 73 00 02 0a 0b"))) ∷ (link Missing (held (codes "0501 00 73 00 02 0a 0b"))) ∷ (link Missing (held (codes "0500 01 73 00 02 0a 0b"))) ∷ (link Missing (held (codes "0500 02"))) ∷ (link Missing (held (codes "0600 00"))) ∷ [] ≡ Ok None ∷ Ok None ∷ Ok None ∷ Ok None ∷ Ok None ∷ []
unfolding debug_pair_computes bytes
other_sups = refl

-- Both of these fields must be there.
short_of_other_version : (link Missing (held (codes "04"))) ∷ (link Missing (held (codes "0400"))) ∷ [] ≡ Err Link ∷ Err Link ∷ []
unfolding debug_pair_computes bytes
short_of_other_version = refl

-- Links to a file with the id 0a 0b.
abbrev by_id : Bool → SupLink
by_id by_build_id = record { path = codes "s"; id = 10 ∷ 11 ∷ []; by_build_id = by_build_id }

-- Whether the link means a file with this build id, or with this `.debug_sup`.
abbrev by_build_id : Option (List ℕ) → Bool
by_build_id id = is_of_link (by_id true) (image [] id Missing (held (codes "0500 01 73 00 02 0a 0b")))

abbrev by_own_id : LinkPart → Bool
by_own_id section = is_of_link (by_id false) (image [] (Some (10 ∷ 11 ∷ [])) Missing section)

-- All bytes of the build id count.
build_ids : map by_build_id (Some (10 ∷ 11 ∷ []) ∷ Some (10 ∷ 12 ∷ []) ∷ Some (10 ∷ 11 ∷ 0 ∷ []) ∷ Some (10 ∷ []) ∷ None ∷ []) ≡ true ∷ false ∷ false ∷ false ∷ false ∷ []
unfolding debug_pair_computes bytes
build_ids = refl

-- The id of a `.debug_sup` of version 5 that says that the file is a supplementary one, under any
-- name.
own_ids : map by_own_id (held (codes "0500 01 00 02 0a 0b") ∷ held (codes "0500 01 ff 00 02 0a 0b") ∷ held (codes "0500 01 6e 00 02 0a 0b 0c") ∷ held (codes "0500 01 6e 00 02 0a 0c") ∷ held (codes "0500 01 6e 00 01 0a") ∷ held (codes "0500 01 6e 00 02 0a") ∷ held (codes "0500 01 6e 00 82") ∷ held (codes "0500 01 6e") ∷ held (codes "0500 00 6e 00 02 0a 0b") ∷ held (codes "0400 01 6e 00 02 0a 0b") ∷ held (codes "0500") ∷ Missing ∷ Unreadable ∷ []) ≡ true ∷ true ∷ true ∷ false ∷ false ∷ false ∷ false ∷ false ∷ false ∷ false ∷ false ∷ false ∷ false ∷ []
unfolding debug_pair_computes bytes
own_ids = refl
