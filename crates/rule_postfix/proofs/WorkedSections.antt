-- Sections of frame entries for worked examples, and what is translated from them.
use Rattle.std.proofs.Common.{ℕ, ◌+◌, if◌then◌else◌, List, [], ◌∷◌, ◌++◌, length, codes, Option, Result, Ok, Err, Some, None}
use Prim.Native.String.{String}
use Rattle.std.specs.Prelude.{⊤}
use Rattle.sym_edges.specs.Addresses.{Range}
use Rattle.sym_edges.specs.Results.{◌>>=◌}
use Rattle.sym_edges.specs.declared.part.Sect.{Sect}
use Rattle.sym_edges.specs.declared.part.Sect.TheVariants.{EhFrame, DebugFrame}
use Rattle.sym_edges.specs.declared.reason.Reason.{Reason}
use Rattle.sym_edges.specs.declared.located.Located.{Located}
use Rattle.sym_edges.proofs.Hex.{bytes, little}
use Rattle.sym_edges.proofs.Shown.{shown}
use Rattle.frame_entries.specs.declared.fault.FrameKind.{FrameKind}
use Rattle.frame_entries.specs.declared.description.Body.{Body}
use Rattle.frame_entries.specs.declared.description.Body.TheVariants.{Good, Bad}
use Rattle.frame_entries.specs.declared.description.Entry.{Entry}
use Rattle.frame_entries.specs.Listing.{is_eh}
use Rattle.frame_entries.specs.FrameEntries.{frame_entries}
use Rattle.frame_rows.specs.Rows.{row_at, rows_fault}
use Rattle.sym_records.specs.Canon.{canon_text}
use Rattle.rule_postfix.specs.declared.omission.Omission.{Omission}
use Rattle.rule_postfix.specs.FrameLines.{frame_lines}
use Rattle.rule_postfix.specs.Written.{written, omitted, written_lines}
use Rattle.rule_postfix.proofs.Computing.{rule_postfix_computes}

unfoldable pub hex : String → List ℕ
hex digits = bytes (codes digits)

-- `.eh_frame`, loaded at 2000. It has a CIE (version 1, zR, pointers 1b, def_cfa rsp 8, offset ra
-- 1), an FDE of that CIE at 18, for the address 1000 with the size 20, and the zero that ends the
-- section.
unfoldable pub framed : List ℕ
unfolding hex
framed =
    hex "14000000 00000000 01 7a5200 01 78 10 01 1b 0c0708 9001 0000 1c000000 1c000000 e0efffff 20000000 00 41 0e10 8602 43 0d06 4a 0c0708 000000 00000000"

-- An FDE: its address range and its instructions.
pub record Fde : Type 0 where
  pub start : ℕ
  pub size : ℕ
  pub instructions : List ℕ

abbrev pub fde : ℕ → ℕ → String → Fde
fde start size instructions = record { start = start; size = size; instructions = hex instructions }

-- The FDEs of the CIE at 0; the first is at the given place.
unfoldable pub fdes_from : Sect → ℕ → List Fde → List ℕ
fdes_from which place [] = []
fdes_from which place (f ∷ fs) =
    little 4 (20 + length f.instructions) ++ little 4 (if is_eh which then place + 4 else 0) ++ little 8 f.start ++ little 8 f.size
    ++ f.instructions ++ fdes_from which (place + 24 + length f.instructions) fs

-- A section with a CIE (version 1, no augmentation, code alignment 1, data alignment -8, return
-- address in column 16; def_cfa rsp 8, offset ra 1 and six nops) and with FDEs, the first of which
-- is at 18.
unfoldable pub section : Sect → List Fde → List ℕ
unfolding hex
section which fs =
    little 4 20 ++ (if is_eh which then hex "00000000" else hex "ffffffff") ++ hex "01 00 01 78 10 0c0708 9001 000000000000" ++ fdes_from which 24 fs

-- The text of an entry's records, with addresses counted from a base, or the reason for which the
-- entry has none.
abbrev pub unless_reason : Option Reason → String → Result String Reason
unless_reason None text = Ok text
unless_reason (Some why) text = Err why

abbrev pub body_text : ℕ → Body → Result String Reason
body_text base (Good e) = unless_reason (rows_fault e) (shown (canon_text (frame_lines e (row_at e) e.start e.size base)))
body_text base (Bad why) = Err why

abbrev pub first_text : ℕ → Result (List Entry) (Located FrameKind) → Result String Reason
first_text base (Ok (entry ∷ entries)) = body_text base entry.body
first_text base _ = Ok ""

-- The result for the first entry of `.eh_frame` at 2000.
unfoldable pub translated : ℕ → List ℕ → Result String Reason
translated base section = first_text base (frame_entries section 0x2000 EhFrame)

-- The result for an entry at 1000 with the size 20 and these instructions.
unfoldable pub says : String → Result String Reason
says instructions = translated 0 (section EhFrame (fde 0x1000 0x20 instructions ∷ []))

-- The text of all records of two sections, and the entries that are left out.
abbrev pub Told : Type 0
Told = Result (String × List Omission) (Located FrameKind)

unfoldable pub translated_all : List Range → List ℕ → List ℕ → Told
translated_all code eh debug =
    frame_entries eh 0x2000 EhFrame >>= λ first.
    frame_entries debug 0x2000 DebugFrame >>= λ second.
    Ok (shown (canon_text (written_lines 0 (written code first second))), omitted code first second)

abbrev pub left : Sect → ℕ → Reason → Omission
left which place why = record { section = which; at = place; reason = why }

abbrev pub from_to : ℕ → ℕ → Range
from_to start end = record { start = start; end = end }

unfoldable pub sections : ⊤
unfolding rule_postfix_computes hex framed fdes_from section translated says translated_all
sections = tt
