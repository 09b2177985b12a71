-- The attributes of entries, by the classes of their values (DWARF 5, 7.5.4 and table 7.5).
use Rattle.std.specs.Prelude.{ℕ, ◌+◌, ◌%◌, ◌^◌, ◌==◌, nat_lt, Bool, true, false, if◌then◌else◌, List, find, Option, None, Some, option_and_then, is_none, is_some}
use Rattle.std.specs.Option.{option_map}
use Rattle.std.specs.Int.{w64, cast_unsigned}
use Rattle.abbrev_units.specs.declared.unit.Unit.{Unit}
use Rattle.abbrev_units.specs.declared.value.Value.{Value}
use Rattle.abbrev_units.specs.declared.value.Value.TheVariants as value
use Rattle.abbrev_units.specs.DebugSections.{DebugSections, place_in}
use Rattle.abbrev_units.specs.Texts.{text_in, text_of}
use Rattle.abbrev_units.specs.declared.value.Given.{Given}

-- the value of an attribute: the first one, if the entry has several
unfoldable pub first_of : ℕ → List Given → Option Value
first_of attribute values = option_map (λ given. given.value) (find (λ given. given.attribute == attribute) values)

-- the value of low_pc, high_pc or ranges; none if the standard does not give the attribute a value
-- of this class
abbrev pub as_low : Value → Option Value
as_low (value.Addr n) = Some (value.Addr n)
as_low (value.AddrIndex n) = Some (value.AddrIndex n)
as_low _ = None

abbrev pub as_high : Value → Option Value
as_high (value.Addr n) = Some (value.Addr n)
as_high (value.AddrIndex n) = Some (value.AddrIndex n)
as_high (value.Num n) = Some (value.Num n)
as_high (value.Signed n) = Some (value.Signed n)
as_high _ = None

abbrev pub as_ranges : Value → Option Value
as_ranges (value.SecOffset n) = Some (value.SecOffset n)
as_ranges (value.Num n) = Some (value.Num n)
as_ranges (value.ListIndex n) = Some (value.ListIndex n)
as_ranges _ = None

-- a place in a section
abbrev pub as_place : Value → Option ℕ
as_place (value.SecOffset n) = Some n
as_place (value.Num n) = Some n
as_place _ = None

-- the place of the entry to which a reference leads, in `.debug_info` of this file or of the supplementary file. There is none if a reference
-- relative to the unit's start exceeds u64, or if it leads into a supplementary file that was not read
abbrev pub as_reference : DebugSections → Unit → Value → Option ℕ
as_reference sections unit (value.UnitRef n) = if nat_lt (unit.start + n) (2 ^ 64) then Some (place_in sections.is_sup (unit.start + n)) else None
as_reference sections unit (value.InfoRef n) = Some (place_in sections.is_sup n)
as_reference sections unit (value.SupRefAt n) = if is_some sections.sup_strs then Some (place_in true n) else None
as_reference sections unit _ = None

abbrev pub as_flag : Value → Option Bool
as_flag (value.Flag said) = Some said
as_flag _ = None

-- a number, modulo 2^64
abbrev pub as_number : Value → Option ℕ
as_number (value.Num n) = Some n
as_number (value.Signed n) = Some (cast_unsigned w64 n)
as_number _ = None

-- the value of an attribute, if it has the given class
abbrev pub picked : {A : Type 0} → (Value → Option A) → ℕ → List Given → Option A
picked class attribute values = option_and_then class (first_of attribute values)

-- whether a text is in a supplementary file (DWARF 5, 7.3.6) that was not read. The form of such a
-- text is DW_FORM_strp_sup, or the older DW_FORM_GNU_strp_alt of dwz
abbrev pub is_elsewhere : DebugSections → Option Value → Bool
is_elsewhere sections (Some (value.SupStrAt place)) = is_none sections.sup_strs
is_elsewhere sections _ = false

-- whether a flag is there and is true
abbrev pub is_yes : Option Bool → Bool
is_yes (Some true) = true
is_yes _ = false

-- a line number, modulo 2^32; 0 if there is none
abbrev pub line_of : Option ℕ → ℕ
line_of None = 0
line_of (Some n) = n % 2 ^ 32

-- the first value or, if there is none, the second
abbrev pub or_else : {A : Type 0} → Option A → Option A → Option A
or_else (Some x) other = Some x
or_else None other = other

-- the text of a value of class string in an entry: a text of this file or of the supplementary file. `base` is the unit's str_offsets_base
abbrev pub entry_text : DebugSections → Unit → Option ℕ → Value → Option (List ℕ)
entry_text sections unit base (value.SupStrAt place) = option_and_then (λ strs. text_in strs place) sections.sup_strs
entry_text sections unit base value = text_of sections sections.info unit.wide base value

-- the text of an attribute of class string
unfoldable pub text_in_entry : DebugSections → Unit → Option ℕ → ℕ → List Given → Option (List ℕ)
text_in_entry sections unit base attribute values = picked (entry_text sections unit base) attribute values
