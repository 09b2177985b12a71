-- The picks of an entry give the same attributes as the list of its values.
use Rattle.std.proofs.Common.{◌≡◌, ◌+◌, ℕ, List, Option, None, Some, option_and_then, refl}
use Rattle.abbrev_units.specs.declared.unit.Unit.{Unit}
use Rattle.abbrev_units.specs.declared.value.Value.{Value}
use Rattle.abbrev_units.specs.declared.value.Value.TheVariants as value
use Rattle.abbrev_units.specs.declared.value.Given.{Given}
use Rattle.abbrev_units.specs.DebugSections.{DebugSections, first_place}
use Rattle.abbrev_units.specs.Texts.{text_of}
use Rattle.abbrev_units.specs.Attributes.{entry_text, first_of, as_place, as_reference, as_flag, as_number, is_elsewhere, text_in_entry}
use Rattle.abbrev_units.specs.Picks.{as_count, as_link, as_said, as_offset, as_text, picks_of}
use Rattle.die_walk.specs.EntryTable.{base_of, die_of, root_of}
use Rattle.die_walk.specs.Picking.{text_by, base_by, die_by, root_by}
use Rattle.die_walk.specs.Steps.{kept_at, root_at}

-- A value gives the same attributes after a slot has kept it.
record Same (sections : DebugSections) (unit : Unit) (base : Option ℕ) (x : Option Value) : Type 0 where
  said : option_and_then as_flag (option_and_then as_said x) ≡ option_and_then as_flag x
  link : option_and_then (as_reference sections unit) (option_and_then as_link x) ≡ option_and_then (as_reference sections unit) x
  count : option_and_then as_number (option_and_then as_count x) ≡ option_and_then as_number x
  offset : option_and_then as_place (option_and_then as_offset x) ≡ option_and_then as_place x
  text : text_by sections unit base (option_and_then as_text x) ≡ option_and_then (entry_text sections unit base) x
  elsewhere : is_elsewhere sections (option_and_then as_text x) ≡ is_elsewhere sections x

same_value : (sections : DebugSections) (unit : Unit) (base : Option ℕ) (x : Option Value) → Same sections unit base x
unfolding text_of
same_value sections unit base None = record { said = refl; link = refl; count = refl; offset = refl; text = refl; elsewhere = refl }
same_value sections unit base (Some (value.Addr n)) = record { said = refl; link = refl; count = refl; offset = refl; text = refl; elsewhere = refl }
same_value sections unit base (Some _) = record { said = refl; link = refl; count = refl; offset = refl; text = refl; elsewhere = refl }

same : (sections : DebugSections) (unit : Unit) (base : Option ℕ) (values : List Given) (attribute : ℕ) → Same sections unit base (first_of attribute values)
same sections unit base values attribute = same_value sections unit base (first_of attribute values)

pub base_same : (sections : DebugSections) (unit : Unit) (values : List Given) → base_by (picks_of values) ≡ base_of values
base_same sections unit values = (same sections unit None values 0x72).offset

pub die_same : (sections : DebugSections) (unit : Unit) (base : Option ℕ) (at : ℕ) (parent : Option ℕ) (tag : ℕ) (values : List Given) → die_by sections unit base (first_place sections.is_sup + at) parent tag (picks_of values) ≡ die_of sections unit base (kept_at at parent tag values)
unfolding die_by die_of text_in_entry
die_same sections unit base at parent tag values =
    let declared = (same sections unit base values 0x3c).said in
    let origin = (same sections unit base values 0x31).link in
    let spec = (same sections unit base values 0x47).link in
    let name = (same sections unit base values 0x03).text in
    let elsewhere = (same sections unit base values 0x03).elsewhere in
    let linkage = (same sections unit base values 0x6e).text in
    let old_linkage = (same sections unit base values 0x2007).text in
    let file = (same sections unit base values 0x58).count in
    let line = (same sections unit base values 0x59).count in
    cc

pub root_same : (sections : DebugSections) (unit : Unit) (at : ℕ) (values : List Given) → root_by sections unit at (picks_of values) ≡ root_of sections unit (root_at at values)
unfolding root_by root_of text_in_entry
root_same sections unit at values =
    let base = base_same sections unit values in
    let lines = (same sections unit None values 0x10).offset in
    let folder = (same sections unit (base_of values) values 0x1b).text in
    let addresses = (same sections unit None values 0x73).offset in
    let ranges = (same sections unit None values 0x74).offset in
    cc
