-- The needed values of an entry (DWARF 5, 7.5.4 and table 7.5): the first value of each needed attribute, if the standard gives the attribute values
-- of this class.
use Rattle.std.specs.Prelude.{◌≡◌, ℕ, ◌==◌, ◌||◌, not, Bool, false, List, Option, None, Some, option_and_then, Result, Ok, Err}
use Rattle.std.specs.Int.{w64, cast_signed}
use Rattle.leb_cursor.specs.Ahead.{Ahead}
use Rattle.abbrev_units.specs.declared.fault.FormFault.{FormFault}
use Rattle.abbrev_units.specs.declared.value.Value.{Value}
use Rattle.abbrev_units.specs.declared.value.Value.TheVariants as value
use Rattle.abbrev_units.specs.declared.value.Given.{Given}
use Rattle.abbrev_units.specs.declared.slots.Class.{Class}
use Rattle.abbrev_units.specs.declared.slots.Class.TheVariants as class
use Rattle.abbrev_units.specs.declared.slots.Slot.{Slot}
use Rattle.abbrev_units.specs.declared.slots.Slot.TheVariants as slot
use Rattle.abbrev_units.specs.Attributes.{first_of, as_low, as_high, as_ranges}
use Rattle.abbrev_units.specs.SpecFields.{SpecFields}
use Rattle.abbrev_units.specs.Values.{values_at}

-- the value of each needed attribute, or none
pub record PickFields : Type 0 where
  pub low : Option Value
  pub high : Option Value
  pub ranges : Option Value
  pub call_file : Option Value
  pub call_line : Option Value
  pub origin : Option Value
  pub spec : Option Value
  pub name : Option Value
  pub linkage : Option Value
  pub old_linkage : Option Value
  pub declaration : Option Value
  pub stmt_list : Option Value
  pub comp_dir : Option Value
  pub str_offsets_base : Option Value
  pub addr_base : Option Value
  pub rnglists_base : Option Value

-- the first values; the comments name the attributes without DW_AT_
abbrev pub first_values : List Given → PickFields
first_values values = record {
  low = first_of 0x11 values;  -- low_pc
  high = first_of 0x12 values;  -- high_pc
  ranges = first_of 0x55 values;  -- ranges
  call_file = first_of 0x58 values;  -- call_file
  call_line = first_of 0x59 values;  -- call_line
  origin = first_of 0x31 values;  -- abstract_origin
  spec = first_of 0x47 values;  -- specification
  name = first_of 0x03 values;  -- name
  linkage = first_of 0x6e values;  -- linkage_name
  old_linkage = first_of 0x2007 values;  -- MIPS_linkage_name
  declaration = first_of 0x3c values;  -- declaration
  stmt_list = first_of 0x10 values;  -- stmt_list
  comp_dir = first_of 0x1b values;  -- comp_dir
  str_offsets_base = first_of 0x72 values;  -- str_offsets_base
  addr_base = first_of 0x73 values;  -- addr_base
  rnglists_base = first_of 0x74 values;  -- rnglists_base
}

-- the value, if it is a constant (`as_count`), a reference (`as_link`), a flag (`as_said`) or a
-- place in a section (`as_offset`)
abbrev pub as_count : Value → Option Value
as_count (value.Num n) = Some (value.Num n)
as_count (value.Signed n) = Some (value.Signed n)
as_count _ = None

abbrev pub as_link : Value → Option Value
as_link (value.UnitRef n) = Some (value.UnitRef n)
as_link (value.InfoRef n) = Some (value.InfoRef n)
as_link (value.SupRefAt n) = Some (value.SupRefAt n)
as_link _ = None

abbrev pub as_said : Value → Option Value
as_said (value.Flag said) = Some (value.Flag said)
as_said _ = None

abbrev pub as_offset : Value → Option Value
as_offset (value.SecOffset n) = Some (value.SecOffset n)
as_offset (value.Num n) = Some (value.Num n)
as_offset _ = None

-- the value, if it is a text
abbrev pub as_text : Value → Option Value
as_text (value.InlineText n) = Some (value.InlineText n)
as_text (value.StrAt n) = Some (value.StrAt n)
as_text (value.LineStrAt n) = Some (value.LineStrAt n)
as_text (value.SupStrAt n) = Some (value.SupStrAt n)
as_text (value.StrIndex n) = Some (value.StrIndex n)
as_text _ = None

-- the first values, without those whose class the standard does not give to their attribute
abbrev pub kept_of : PickFields → PickFields
kept_of first = record {
  low = option_and_then as_low first.low;
  high = option_and_then as_high first.high;
  ranges = option_and_then as_ranges first.ranges;
  call_file = option_and_then as_count first.call_file;
  call_line = option_and_then as_count first.call_line;
  origin = option_and_then as_link first.origin;
  spec = option_and_then as_link first.spec;
  name = option_and_then as_text first.name;
  linkage = option_and_then as_text first.linkage;
  old_linkage = option_and_then as_text first.old_linkage;
  declaration = option_and_then as_said first.declaration;
  stmt_list = option_and_then as_offset first.stmt_list;
  comp_dir = option_and_then as_text first.comp_dir;
  str_offsets_base = option_and_then as_offset first.str_offsets_base;
  addr_base = option_and_then as_offset first.addr_base;
  rnglists_base = option_and_then as_offset first.rnglists_base;
}

abbrev pub picks_of : List Given → PickFields
picks_of values = kept_of (first_values values)

abbrev pub no_picks : PickFields
no_picks = record {
  low = None;
  high = None;
  ranges = None;
  call_file = None;
  call_line = None;
  origin = None;
  spec = None;
  name = None;
  linkage = None;
  old_linkage = None;
  declaration = None;
  stmt_list = None;
  comp_dir = None;
  str_offsets_base = None;
  addr_base = None;
  rnglists_base = None;
}

-- the picks of the values that were read
abbrev pub with_picks : {F : Type 0} → Result (List Given × Ahead) F → Result (PickFields × Ahead) F
with_picks (Ok x) = Ok (picks_of x.0, x.1)
with_picks (Err fault) = Err fault

unfoldable pub picks_at : List SpecFields → Ahead → Result (PickFields × Ahead) FormFault
picks_at specs c = with_picks (values_at specs c)

-- the value that a class and a number stand for
abbrev pub value_in : Class → ℕ → Option Value
value_in class.Missing n = None
value_in class.Addr n = Some (value.Addr n)
value_in class.AddrIndex n = Some (value.AddrIndex n)
value_in class.Num n = Some (value.Num n)
value_in class.Signed n = Some (value.Signed (cast_signed w64 n))
value_in class.SecOffset n = Some (value.SecOffset n)
value_in class.ListIndex n = Some (value.ListIndex n)
value_in class.Flag n = Some (value.Flag (not (n == 0)))
value_in class.StrAt n = Some (value.StrAt n)
value_in class.LineStrAt n = Some (value.LineStrAt n)
value_in class.SupStrAt n = Some (value.SupStrAt n)
value_in class.StrIndex n = Some (value.StrIndex n)
value_in class.UnitRef n = Some (value.UnitRef n)
value_in class.InfoRef n = Some (value.InfoRef n)
value_in class.SupRefAt n = Some (value.SupRefAt n)
value_in class.InlineText n = Some (value.InlineText n)

-- the pick of a slot
abbrev pub pick_of : Slot → PickFields → Option Value
pick_of slot.Low picks = picks.low
pick_of slot.High picks = picks.high
pick_of slot.Ranges picks = picks.ranges
pick_of slot.CallFile picks = picks.call_file
pick_of slot.CallLine picks = picks.call_line
pick_of slot.Origin picks = picks.origin
pick_of slot.Specification picks = picks.spec
pick_of slot.Name picks = picks.name
pick_of slot.Linkage picks = picks.linkage
pick_of slot.OldLinkage picks = picks.old_linkage
pick_of slot.Declaration picks = picks.declaration
pick_of slot.StmtList picks = picks.stmt_list
pick_of slot.CompDir picks = picks.comp_dir
pick_of slot.StrOffsetsBase picks = picks.str_offsets_base
pick_of slot.AddrBase picks = picks.addr_base
pick_of slot.RnglistsBase picks = picks.rnglists_base
pick_of slot.Passed picks = None

-- the picks with another value in a slot
abbrev pub put_in : Slot → Option Value → PickFields → PickFields
put_in slot.Low value picks = record picks { low = value }
put_in slot.High value picks = record picks { high = value }
put_in slot.Ranges value picks = record picks { ranges = value }
put_in slot.CallFile value picks = record picks { call_file = value }
put_in slot.CallLine value picks = record picks { call_line = value }
put_in slot.Origin value picks = record picks { origin = value }
put_in slot.Specification value picks = record picks { spec = value }
put_in slot.Name value picks = record picks { name = value }
put_in slot.Linkage value picks = record picks { linkage = value }
put_in slot.OldLinkage value picks = record picks { old_linkage = value }
put_in slot.Declaration value picks = record picks { declaration = value }
put_in slot.StmtList value picks = record picks { stmt_list = value }
put_in slot.CompDir value picks = record picks { comp_dir = value }
put_in slot.StrOffsetsBase value picks = record picks { str_offsets_base = value }
put_in slot.AddrBase value picks = record picks { addr_base = value }
put_in slot.RnglistsBase value picks = record picks { rnglists_base = value }
put_in slot.Passed value picks = picks

-- what a slot keeps of a value: nothing, if the attribute does not have values of this class
abbrev pub kept_by : Slot → Value → Option Value
kept_by slot.Low value = as_low value
kept_by slot.High value = as_high value
kept_by slot.Ranges value = as_ranges value
kept_by slot.CallFile value = as_count value
kept_by slot.CallLine value = as_count value
kept_by slot.Origin value = as_link value
kept_by slot.Specification value = as_link value
kept_by slot.Name value = as_text value
kept_by slot.Linkage value = as_text value
kept_by slot.OldLinkage value = as_text value
kept_by slot.Declaration value = as_said value
kept_by slot.StmtList value = as_offset value
kept_by slot.CompDir value = as_text value
kept_by slot.StrOffsetsBase value = as_offset value
kept_by slot.AddrBase value = as_offset value
kept_by slot.RnglistsBase value = as_offset value
kept_by slot.Passed value = None

-- whether an attribute is needed (DWARF 5, table 7.5, and DW_AT_MIPS_linkage_name of older
-- compilers)
abbrev pub is_asked : ℕ → Bool
is_asked attribute = attribute == 0x11 || (attribute == 0x12 || (attribute == 0x55 || (attribute == 0x31 || (attribute == 0x47 || (attribute == 0x03 || (attribute == 0x6e || (attribute == 0x2007 || (attribute == 0x3c || (attribute == 0x58 || (attribute == 0x59 || (attribute == 0x10 || (attribute == 0x1b || (attribute == 0x72 || (attribute == 0x73 || (attribute == 0x74)))))))))))))))

-- the slot of each attribute; `Passed` for those that are not needed
abbrev pub IsSlot : Slot → ℕ → Type 0
IsSlot slot.Low attribute = attribute ≡ 0x11
IsSlot slot.High attribute = attribute ≡ 0x12
IsSlot slot.Ranges attribute = attribute ≡ 0x55
IsSlot slot.CallFile attribute = attribute ≡ 0x58
IsSlot slot.CallLine attribute = attribute ≡ 0x59
IsSlot slot.Origin attribute = attribute ≡ 0x31
IsSlot slot.Specification attribute = attribute ≡ 0x47
IsSlot slot.Name attribute = attribute ≡ 0x03
IsSlot slot.Linkage attribute = attribute ≡ 0x6e
IsSlot slot.OldLinkage attribute = attribute ≡ 0x2007
IsSlot slot.Declaration attribute = attribute ≡ 0x3c
IsSlot slot.StmtList attribute = attribute ≡ 0x10
IsSlot slot.CompDir attribute = attribute ≡ 0x1b
IsSlot slot.StrOffsetsBase attribute = attribute ≡ 0x72
IsSlot slot.AddrBase attribute = attribute ≡ 0x73
IsSlot slot.RnglistsBase attribute = attribute ≡ 0x74
IsSlot slot.Passed attribute = is_asked attribute ≡ false

-- the result of a reading of picks: a fault, or the picks and what is left ahead
abbrev pub left_with : {U F : Type 0} → Result U F → PickFields → Ahead → Result (PickFields × Ahead) F
left_with (Ok done) picks c = Ok (picks, c)
left_with (Err fault) picks c = Err fault
