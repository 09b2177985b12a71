-- The words that are printed for the faults of a section of frame entries.
use Rattle.std.specs.Prelude.{ℕ, List, codes}
use Rattle.frame_entries.specs.declared.fault.FrameKind.{FrameKind}
use Rattle.frame_entries.specs.declared.fault.FrameKind.TheVariants.{Length, Format64}

-- the word for a fault
abbrev pub kind_word : FrameKind → List ℕ
kind_word Length = codes "length"
kind_word Format64 = codes "format64"
