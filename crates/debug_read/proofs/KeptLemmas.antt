-- What a file says, if it was read, and what is kept of it; for the laws of this crate and for the
-- records of a file.
use Rattle.std.proofs.Common.{◌≡◌, Result, Ok, Err, refl}
use Rattle.elf_sections.specs.Image.{ImageParts}
use Rattle.debug_read.specs.DebugSays.{DebugSays, debug_says, IsKept, IsDebugRead}
use Rattle.debug_read.specs.Each.{Match, Says}
use Rattle.debug_read.specs.UnitsRead.{IsUnitRead}
use Rattle.debug_read.specs.declared.fault.DebugFault.{DebugFault}
use Rattle.debug_read.specs.declared.found.DebugRead.{DebugRead}

-- What a file says, if it was read.
pub record Kept (image : ImageParts) (read : DebugRead) : Type 0 where
  pub says : DebugSays
  pub says_is : debug_says image ≡ Ok says
  pub headers : read.headers ≡ says.headers
  pub sup_headers : read.sup_headers ≡ says.sup_headers
  pub units : Match (IsUnitRead image.code) says.units read.units
  pub first : read.first ≡ says.first
  pub second : read.second ≡ says.second

kept_by : (image : ImageParts) (read : DebugRead) (says : Result DebugSays DebugFault) → debug_says image ≡ says → Says (IsKept image.code) says read → Kept image read
kept_by image read (Ok says) is kept = record { says = says; says_is = is; headers = kept.headers; sup_headers = kept.sup_headers; units = kept.units; first = kept.first; second = kept.second }
kept_by image read (Err fault) is kept = absurd kept

pub kept : (image : ImageParts) (read : DebugRead) → IsDebugRead image read → Kept image read
kept image read is = kept_by image read (debug_says image) refl is
