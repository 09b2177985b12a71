-- Faults of a part of a file, as faults of the file.
use Rattle.sym_edges.specs.declared.fault.Stop.{Stop}
use Rattle.sym_edges.specs.declared.fault.Stop.TheVariants.{Fault, NoMemory}
use Rattle.sym_edges.specs.declared.located.Located.{Located}
use Rattle.abbrev_units.specs.declared.fault.DwarfKind.{DwarfKind}
use Rattle.frame_entries.specs.declared.fault.FrameKind.{FrameKind}
use Rattle.debug_read.specs.declared.fault.DebugFault.{DebugFault}
use Rattle.debug_read.specs.declared.fault.DebugFault.TheVariants.{Dwarf, Sup, Frame}

abbrev pub dwarf_stop : Stop (Located DwarfKind) → Stop DebugFault
dwarf_stop (Fault fault) = Fault (Dwarf fault)
dwarf_stop NoMemory = NoMemory

abbrev pub sup_stop : Stop (Located DwarfKind) → Stop DebugFault
sup_stop (Fault fault) = Fault (Sup fault)
sup_stop NoMemory = NoMemory

abbrev pub frame_stop : Stop (Located FrameKind) → Stop DebugFault
frame_stop (Fault fault) = Fault (Frame fault)
frame_stop NoMemory = NoMemory
