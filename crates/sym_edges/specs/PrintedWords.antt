-- The printed words for sections, and for the reasons to leave a frame entry out.
use Rattle.std.specs.Prelude.{ℕ, List, codes}
use Rattle.sym_edges.specs.declared.part.Sect.{Sect}
use Rattle.sym_edges.specs.declared.part.Sect.TheVariants as sect
use Rattle.sym_edges.specs.declared.reason.Reason.{Reason}
use Rattle.sym_edges.specs.declared.reason.Reason.TheVariants as reason

-- the word for a section: its name without the leading point
abbrev pub section_word : Sect → List ℕ
section_word sect.Info = codes "debug_info"
section_word sect.Abbrev = codes "debug_abbrev"
section_word sect.Line = codes "debug_line"
section_word sect.LineStr = codes "debug_line_str"
section_word sect.Str = codes "debug_str"
section_word sect.StrOffsets = codes "debug_str_offsets"
section_word sect.Addr = codes "debug_addr"
section_word sect.Ranges = codes "debug_ranges"
section_word sect.Rnglists = codes "debug_rnglists"
section_word sect.DebugFrame = codes "debug_frame"
section_word sect.EhFrame = codes "eh_frame"
section_word sect.Text = codes "text"

-- the word for a reason to leave a frame entry out
abbrev pub reason_word : Reason → List ℕ
reason_word reason.Cie = codes "cie"
reason_word reason.Augmentation = codes "augmentation"
reason_word reason.Encoding = codes "encoding"
reason_word reason.Column = codes "column"
reason_word reason.Entry = codes "entry"
reason_word reason.Expression = codes "expression"
reason_word reason.Instruction = codes "instruction"
reason_word reason.Register = codes "register"
reason_word reason.State = codes "state"
reason_word reason.Range = codes "range"
reason_word reason.Cfa = codes "cfa"
reason_word reason.Outside = codes "outside"
reason_word reason.Overlap = codes "overlap"
