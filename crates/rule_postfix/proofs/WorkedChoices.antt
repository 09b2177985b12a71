-- Worked examples: which entries of two sections are written, and which are left out.
use Rattle.std.proofs.Common.{◌≡◌, [], ◌∷◌, Ok, refl}
use Rattle.std.specs.Prelude.{slice_set}
use Rattle.sym_edges.specs.declared.part.Sect.TheVariants.{EhFrame, DebugFrame}
use Rattle.sym_edges.specs.declared.reason.Reason.TheVariants as reason
use Rattle.rule_postfix.proofs.WorkedSections.{framed, fde, section, translated_all, left, from_to, sections}

-- A range is written once, by its first entry.
the_same_range_in_both_sections : translated_all (from_to 0x1000 0x1100 ∷ []) (framed) (section DebugFrame (fde 0x1000 0x20 "" ∷ []))
    ≡ Ok ("STACK CFI INIT 1000 20 .cfa: $rsp 8 + .ra: .cfa -8 + ^\nSTACK CFI 1001 .cfa: $rsp 16 + $rbp: .cfa -16 + ^\nSTACK CFI 1004 .cfa: $rbp 16 +\nSTACK CFI 100e .cfa: $rsp 8 +\n", left DebugFrame 0x18 reason.Overlap ∷ [])
unfolding sections
the_same_range_in_both_sections = refl

-- The entries are written in order, those of `.eh_frame` first.
both_sections : translated_all (from_to 0x1000 0x1100 ∷ []) (section EhFrame (fde 0x1020 0x10 "" ∷ fde 0x1000 0x10 "" ∷ fde 0x1008 0x30 "" ∷ [])) (section DebugFrame (fde 0x101f 2 "" ∷ fde 0x1010 0x10 "" ∷ fde 0x100f 1 "" ∷ fde 0x1030 8 "" ∷ []))
    ≡ Ok ("STACK CFI INIT 1020 10 .cfa: $rsp 8 + .ra: .cfa -8 + ^\nSTACK CFI INIT 1000 10 .cfa: $rsp 8 + .ra: .cfa -8 + ^\nSTACK CFI INIT 1010 10 .cfa: $rsp 8 + .ra: .cfa -8 + ^\nSTACK CFI INIT 1030 8 .cfa: $rsp 8 + .ra: .cfa -8 + ^\n", left EhFrame 0x48 reason.Overlap ∷ left DebugFrame 0x18 reason.Overlap ∷ left DebugFrame 0x48 reason.Overlap ∷ [])
unfolding sections
both_sections = refl

-- An entry that is left out takes no range.
a_reason_of_its_own_and_outside : translated_all (from_to 0x1000 0x1010 ∷ []) (section EhFrame (fde 0x1000 0x10 "0b" ∷ fde 0x0ff8 0x10 "" ∷ fde 0x1008 8 "" ∷ [])) ([])
    ≡ Ok ("STACK CFI INIT 1008 8 .cfa: $rsp 8 + .ra: .cfa -8 + ^\n", left EhFrame 0x18 reason.State ∷ left EhFrame 0x31 reason.Outside ∷ [])
unfolding sections
a_reason_of_its_own_and_outside = refl

-- An entry is code if it is in one range of code.
ranges_side_by_side : translated_all (from_to 0x1100 0x1200 ∷ from_to 0x1000 0x1100 ∷ from_to 0xffffffffffffff00 0xffffffffffffffff ∷ []) (section EhFrame (fde 0x1000 0 "" ∷ fde 0x10f8 0x10 "" ∷ fde 0x11ff 1 "" ∷ fde 0x11ff 2 "" ∷ fde 0x2000 1 "" ∷ fde 0xffffffffffffff00 0x100 "" ∷ fde 0xffffffffffffff00 0xff "" ∷ [])) ([])
    ≡ Ok ("STACK CFI INIT 11ff 1 .cfa: $rsp 8 + .ra: .cfa -8 + ^\nSTACK CFI INIT ffffffffffffff00 ff .cfa: $rsp 8 + .ra: .cfa -8 + ^\n", left EhFrame 0x18 reason.Outside ∷ left EhFrame 0x30 reason.Outside ∷ left EhFrame 0x60 reason.Outside ∷ left EhFrame 0x78 reason.Outside ∷ left EhFrame 0x90 reason.Outside ∷ [])
unfolding sections
ranges_side_by_side = refl

-- The first reason counts: first that of the fields, then that of the instructions, then that of
-- the range.
instructions_before_the_range : translated_all (from_to 0x1000 0x1100 ∷ []) (section EhFrame (fde 0x1000 0 "3f" ∷ fde 0xfffffffffffffff0 0x20 "0b" ∷ fde 0x5000 1 "41 0d10" ∷ fde 0x1000 1 "" ∷ fde 0x1000 1 "0b" ∷ [])) ([])
    ≡ Ok ("STACK CFI INIT 1000 1 .cfa: $rsp 8 + .ra: .cfa -8 + ^\n", left EhFrame 0x18 reason.Instruction ∷ left EhFrame 0x31 reason.State ∷ left EhFrame 0x4a reason.Register ∷ left EhFrame 0x7d reason.State ∷ [])
unfolding sections
instructions_before_the_range = refl

fields_before_all : translated_all (from_to 0x1000 0x1100 ∷ []) (slice_set framed 40 0x7f) ([])
    ≡ Ok ("", left EhFrame 0x18 reason.Entry ∷ [])
unfolding sections
fields_before_all = refl

no_entries : translated_all ([]) ([]) ([]) ≡ Ok ("", [])
unfolding sections
no_entries = refl
