-- How a table stores a kept entry: as a head and, if there is more, as a site, or as a wide entry with all that does not fit into a head.
use Rattle.std.specs.Prelude.{ℕ, ◌<◌, ◌≤◌, ◌≡◌, ◌==◌, ◌/◌, ◌%◌, ◌^◌, ◌*◌, ◌+◌, Bool, true, false, if◌then◌else◌, List, [], ◌∷◌, ◌++◌, length, drop, get_or, ◌-◌, Option, None, Some, unwrap_or}
use Rattle.std.specs.List.{slice_get}
use Rattle.std.specs.Option.{option_and_then}
use Rattle.text_table.specs.Spaces.{held_front}
use Rattle.abbrev_units.specs.DebugSections.{DebugSections}
use Rattle.abbrev_units.specs.Picks.{PickFields}
use Rattle.die_walk.specs.declared.heads.Head.{Head}
use Rattle.die_walk.specs.declared.entry_heads.Links.{Links}
use Rattle.die_walk.specs.declared.entry_heads.Parts.{Parts}
use Rattle.die_walk.specs.declared.heads.Home.{Home}
use Rattle.die_walk.specs.declared.heads.Home.TheVariants as home
use Rattle.abbrev_units.specs.Attributes.{as_reference, as_flag, as_number, is_elsewhere, is_yes, line_of, or_else}
use Rattle.die_walk.specs.EntryTable.{DieFields}
use Rattle.die_walk.specs.internal.Sites.{SiteFields, WideFields, Homes, HeldEntries}
use Rattle.die_walk.specs.Picking.{text_by, die_by}
use Rattle.abbrev_units.specs.declared.unit.Unit.{Unit}

-- the sections that have texts
abbrev pub homes_of : DebugSections → Homes
homes_of sections = record { info = sections.info; strs = sections.strs; line_strs = sections.line_str; sup_strs = unwrap_or sections.sup_strs [] }

-- what is held of the text at a place: up to the next zero byte, or else up to the end of the section
abbrev pub text_from : List ℕ → ℕ → Option (List ℕ)
text_from bytes place = Some (held_front (drop place bytes))

-- a text, given its section and its place there
abbrev pub text_at_home : Homes → Home → ℕ → Option (List ℕ)
text_at_home homes home.Missing place = None
text_at_home homes home.Strs place = text_from homes.strs place
text_at_home homes home.LineStrs place = text_from homes.line_strs place
text_at_home homes home.Info place = text_from homes.info place
text_at_home homes home.SupStrs place = text_from homes.sup_strs place
text_at_home homes home.Elsewhere place = None

abbrev pub is_text_home : Home → Bool
is_text_home home.Missing = false
is_text_home home.Strs = true
is_text_home home.LineStrs = true
is_text_home home.Info = true
is_text_home home.SupStrs = true
is_text_home home.Elsewhere = false

abbrev pub is_elsewhere_home : Home → Bool
is_elsewhere_home home.Missing = false
is_elsewhere_home home.Strs = false
is_elsewhere_home home.LineStrs = false
is_elsewhere_home home.Info = false
is_elsewhere_home home.SupStrs = false
is_elsewhere_home home.Elsewhere = true

abbrev pub no_site : SiteFields
no_site = record { low = None; high = None; ranges = None; call_file = None; call_line = 0 }

-- the site of an entry with these picks
abbrev pub site_by : PickFields → SiteFields
site_by picks = record {
  low = picks.low;
  high = picks.high;
  ranges = picks.ranges;
  call_file = option_and_then as_number picks.call_file;
  call_line = line_of (option_and_then as_number picks.call_line);
}

-- the value if the condition holds, otherwise none
abbrev pub where_said : {A : Type 0} → Bool → A → Option A
where_said true x = Some x
where_said false x = None

-- the four numbers in a head's flags: whether the entry has a parent; whether it is a declaration; what the target is (0 nothing, 1 the origin, 2 the
-- declaration); and where the rest is (0 nowhere, 1 in a site, 2 in a wide entry)
abbrev pub has_parent : Head → Bool
has_parent head = head.flags % 2 == 1

abbrev pub is_declaration : Head → Bool
is_declaration head = head.flags / 2 % 2 == 1

abbrev pub link_of : Head → ℕ
link_of head = head.flags / 4 % 4

abbrev pub rest_of : Head → ℕ
rest_of head = head.flags / 16

-- the head after its rest was added, given the kind of the rest (1 or 2) and its index
abbrev pub with_rest : Head → ℕ → ℕ → Head
with_rest head rest number = record head { flags = head.flags + 16 * rest; number = number }

-- the target of a head as the origin of the entry, and as its declaration; none if the target is
-- not of that kind
abbrev pub origin_said : ℕ → ℕ → Option ℕ
origin_said link n = where_said (link == 1) n

abbrev pub spec_said : ℕ → ℕ → Option ℕ
spec_said link n = where_said (link == 2) n

-- an entry, given its head and its site; and an entry, given its head and its wide entry
abbrev pub slim : Homes → Head → SiteFields → DieFields
slim homes head site = record {
  at = head.at;
  tag = head.tag;
  parent = where_said (has_parent head) head.parent;
  declaration = is_declaration head;
  low = site.low;
  high = site.high;
  ranges = site.ranges;
  origin = origin_said (link_of head) head.target;
  spec = spec_said (link_of head) head.target;
  name = text_at_home homes head.name_in head.name;
  name_elsewhere = is_elsewhere_home head.name_in;
  linkage = text_at_home homes head.linkage_in head.linkage;
  call_file = site.call_file;
  call_line = site.call_line;
}

abbrev pub broad : Homes → Head → WideFields → DieFields
broad homes head wide = record (slim homes head wide.site) { tag = wide.tag; origin = wide.origin; spec = wide.spec }

-- the rest of a head, if it has the kind `rest`; and the entry of a head
abbrev pub found_in : {A : Type 0} → ℕ → Head → List A → Option A
found_in rest head xs = if rest_of head == rest then slice_get xs head.number else None

abbrev pub held_by : Homes → Head → Option SiteFields → Option WideFields → DieFields
held_by homes head site None = slim homes head (unwrap_or site no_site)
held_by homes head site (Some wide) = broad homes head wide

abbrev pub held_in : Homes → List SiteFields → List WideFields → Head → DieFields
held_in homes sites wides head = held_by homes head (found_in 1 head sites) (found_in 2 head wides)

-- the site or the wide entry to which a head refers is in its list
abbrev pub IsThere : ℕ → ℕ → Head → Type 0
IsThere sites wides head = (rest_of head ≡ 1 → head.number < sites) × (rest_of head ≡ 2 → head.number < wides)

abbrev pub AreThere : ℕ → ℕ → List Head → Type 0
AreThere sites wides [] = Prim.Unit {0}
AreThere sites wides (head ∷ heads) = IsThere sites wides head × AreThere sites wides heads

-- if the condition holds, the last byte is zero
abbrev pub IsClosed : Bool → List ℕ → Type 0
IsClosed true bytes = get_or bytes (length bytes - 1) 1 ≡ 0
IsClosed false bytes = Prim.Unit {0}

-- no section of texts is longer than 2^29 bytes, so places in it fit into four bytes
pub record AreSmall (homes : Homes) : Type 0 where
  pub info : length homes.info ≤ 2 ^ 29
  pub strs : length homes.strs ≤ 2 ^ 29
  pub line_strs : length homes.line_strs ≤ 2 ^ 29
  pub sup_strs : length homes.sup_strs ≤ 2 ^ 29

-- a place at which a section has the text, or none if there is no text
abbrev pub FitsPlace : List ℕ → Option ℕ → Option (List ℕ) → Type 0
FitsPlace bytes None text = text ≡ None
FitsPlace bytes (Some place) text = text ≡ text_from bytes place

-- the links of an entry are those that a target gives
abbrev pub IsTarget : ℕ → ℕ → Links → Type 0
IsTarget link place links = (origin_said link place ≡ links.origin) × (spec_said link place ≡ links.spec)

-- a head without a rest has the values of an entry's parts, except the tag and the target
pub record IsHead (head : Head) (parts : Parts) : Type 0 where
  pub at : head.at ≡ parts.frame.at
  pub parent : where_said (has_parent head) head.parent ≡ parts.frame.parent
  pub declaration : is_declaration head ≡ parts.declaration
  pub name_in : head.name_in ≡ parts.names.name.home
  pub name : head.name ≡ parts.names.name.place
  pub linkage_in : head.linkage_in ≡ parts.names.linkage.home
  pub linkage : head.linkage ≡ parts.names.linkage.place
  pub flags : head.flags < 16

-- a head as in `IsHead`, which also has the entry's tag and target
pub record IsWhole (head : Head) (parts : Parts) (tag : ℕ) : Type 0 where
  pub says : IsHead head parts
  pub tagged : head.tag ≡ tag
  pub target : IsTarget (link_of head) head.target parts.links

-- the parts of an entry have the values of its picks
pub record Says (sections : DebugSections) (unit : Unit) (base : Option ℕ) (picks : PickFields) (parts : Parts) : Type 0 where
  pub declared : parts.declaration ≡ is_yes (option_and_then as_flag picks.declaration)
  pub name : text_at_home (homes_of sections) parts.names.name.home parts.names.name.place ≡ text_by sections unit base picks.name
  pub elsewhere : is_elsewhere_home parts.names.name.home ≡ is_elsewhere sections picks.name
  pub linkage : text_at_home (homes_of sections) parts.names.linkage.home parts.names.linkage.place ≡ or_else (text_by sections unit base picks.linkage) (text_by sections unit base picks.old_linkage)
  pub origin : parts.links.origin ≡ option_and_then (as_reference sections unit) picks.origin
  pub spec : parts.links.spec ≡ option_and_then (as_reference sections unit) picks.spec

-- one entry was added. It is the entry of these picks, if the parts have the values of the picks
abbrev pub IsAdded : HeldEntries → HeldEntries → Parts → ℕ → PickFields → Type 0
IsAdded before after parts tag picks =
    (sections : DebugSections) (unit : Unit) (base : Option ℕ) → before.homes ≡ homes_of sections → Says sections unit base picks parts
    → after.dies ≡ before.dies ++ die_by sections unit base parts.frame.at parts.frame.parent tag picks ∷ []
