-- The forms of attribute values (DWARF 5, 7.5.6 and table 7.6, and two of the GNU tools), each with the layout and the class of its operand.
use Rattle.std.specs.Prelude.{ℕ, ◌==◌, Bool, if◌then◌else◌, List, [], ◌∷◌, map, find, Option}
use Rattle.code_table.specs.declared.kind.Kind.{Kind}
use Rattle.code_table.specs.declared.kind.Kind.TheVariants.{Nothing, U8, U16, U24, U32, U64, Bytes16, Uleb, Sleb, ZeroText, Block1, Block2, Block4, BlockUleb}
use Rattle.code_table.specs.declared.code_row.CodeRow.{CodeRow}
use Rattle.code_table.specs.declared.forms.FormClass.{FormClass}
use Rattle.code_table.specs.declared.forms.FormClass.TheVariants as is
use Rattle.code_table.specs.declared.forms.FormRow.{FormRow}

-- one row: a form with the layout and the class of its operand
abbrev pub form : ℕ → Kind → FormClass → FormRow
form code layout class = record { code = code; layout = layout; class = class }

-- a place in a section: four bytes, or eight in the 64-bit format (DWARF 5, 7.4)
abbrev pub place : Bool → Kind
place wide = if wide then U64 else U32

-- the table; `wide` means in units of the 64-bit format
unfoldable pub forms : Bool → List FormRow
forms wide =
    form 0x01 U64 is.Address  -- DW_FORM_addr
    ∷ form 0x03 Block2 is.Block  -- DW_FORM_block2
    ∷ form 0x04 Block4 is.Block  -- DW_FORM_block4
    ∷ form 0x05 U16 is.Constant  -- DW_FORM_data2
    ∷ form 0x06 U32 is.Constant  -- DW_FORM_data4
    ∷ form 0x07 U64 is.Constant  -- DW_FORM_data8
    ∷ form 0x08 ZeroText is.InlineText  -- DW_FORM_string
    ∷ form 0x09 BlockUleb is.Block  -- DW_FORM_block
    ∷ form 0x0a Block1 is.Block  -- DW_FORM_block1
    ∷ form 0x0b U8 is.Constant  -- DW_FORM_data1
    ∷ form 0x0c U8 is.Flag  -- DW_FORM_flag
    ∷ form 0x0d Sleb is.Signed  -- DW_FORM_sdata
    ∷ form 0x0e (place wide) is.TextPlace  -- DW_FORM_strp
    ∷ form 0x0f Uleb is.Constant  -- DW_FORM_udata
    ∷ form 0x10 (place wide) is.InfoReference  -- DW_FORM_ref_addr
    ∷ form 0x11 U8 is.UnitReference  -- DW_FORM_ref1
    ∷ form 0x12 U16 is.UnitReference  -- DW_FORM_ref2
    ∷ form 0x13 U32 is.UnitReference  -- DW_FORM_ref4
    ∷ form 0x14 U64 is.UnitReference  -- DW_FORM_ref8
    ∷ form 0x15 Uleb is.UnitReference  -- DW_FORM_ref_udata
    ∷ form 0x16 Uleb is.Indirect  -- DW_FORM_indirect
    ∷ form 0x17 (place wide) is.SectionPlace  -- DW_FORM_sec_offset
    ∷ form 0x18 BlockUleb is.Block  -- DW_FORM_exprloc
    ∷ form 0x19 Nothing is.Present  -- DW_FORM_flag_present
    ∷ form 0x1a Uleb is.TextIndex  -- DW_FORM_strx
    ∷ form 0x1b Uleb is.AddressIndex  -- DW_FORM_addrx
    ∷ form 0x1c U32 is.SupReference  -- DW_FORM_ref_sup4
    ∷ form 0x1d (place wide) is.SupTextPlace  -- DW_FORM_strp_sup
    ∷ form 0x1e Bytes16 is.Other  -- DW_FORM_data16
    ∷ form 0x1f (place wide) is.LineTextPlace  -- DW_FORM_line_strp
    ∷ form 0x20 U64 is.Other  -- DW_FORM_ref_sig8
    ∷ form 0x21 Nothing is.Implicit  -- DW_FORM_implicit_const
    ∷ form 0x22 Uleb is.Other  -- DW_FORM_loclistx
    ∷ form 0x23 Uleb is.ListIndex  -- DW_FORM_rnglistx
    ∷ form 0x24 U64 is.SupReference  -- DW_FORM_ref_sup8
    ∷ form 0x25 U8 is.TextIndex  -- DW_FORM_strx1
    ∷ form 0x26 U16 is.TextIndex  -- DW_FORM_strx2
    ∷ form 0x27 U24 is.TextIndex  -- DW_FORM_strx3
    ∷ form 0x28 U32 is.TextIndex  -- DW_FORM_strx4
    ∷ form 0x29 U8 is.AddressIndex  -- DW_FORM_addrx1
    ∷ form 0x2a U16 is.AddressIndex  -- DW_FORM_addrx2
    ∷ form 0x2b U24 is.AddressIndex  -- DW_FORM_addrx3
    ∷ form 0x2c U32 is.AddressIndex  -- DW_FORM_addrx4
    ∷ form 0x1f20 (place wide) is.SupReference  -- DW_FORM_GNU_ref_alt
    ∷ form 0x1f21 (place wide) is.SupTextPlace  -- DW_FORM_GNU_strp_alt
    ∷ []

-- the row of a form, if there is one
unfoldable pub form_row : ℕ → List FormRow → Option FormRow
form_row code rows = find (λ row. row.code == code) rows

-- the table of forms with their layouts but without their classes
unfoldable pub form_layouts : Bool → List CodeRow
form_layouts wide = map (λ row. record { code = row.code; shape = record { first = row.layout; second = Nothing } }) (forms wide)
