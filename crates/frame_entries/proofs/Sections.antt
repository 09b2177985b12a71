-- Sections for the worked examples, and what the examples compare of their entries.
use Rattle.std.proofs.Common.{ℕ, ◌+◌, ◌%◌, ◌/◌, List, [], ◌∷◌, ◌++◌, length, map, Option, None, Some, Result, Ok, Err}
use Prim.Native.String.{String}
use Rattle.std.specs.Prelude.{⊤, slice_set}
use Rattle.sym_edges.specs.Results.{◌>>=◌}
use Rattle.sym_edges.specs.declared.part.Sect.{Sect}
use Rattle.sym_edges.specs.declared.part.Sect.TheVariants.{EhFrame, DebugFrame}
use Rattle.sym_edges.specs.declared.reason.Reason.{Reason}
use Rattle.sym_edges.specs.declared.located.Located.{Located}
use Rattle.frame_entries.specs.declared.fault.FrameKind.{FrameKind}
use Rattle.frame_entries.specs.declared.description.Body.{Body}
use Rattle.frame_entries.specs.declared.description.Body.TheVariants.{Good, Bad}
use Rattle.frame_entries.specs.FrameEntries.{frame_entries}
use Rattle.sym_edges.proofs.Hex.{hex}
use Rattle.frame_entries.proofs.Computing.{frame_entries_computes}

-- What an example compares of an entry: the start and the size of its address range, or the reason
-- to leave it out.
abbrev pub Seen : Type 0
Seen = Result (ℕ × ℕ) Reason

abbrev pub seen : Body → Seen
seen (Good fde) = Ok (fde.start, fde.size)
seen (Bad why) = Err why

-- The entries of a section that is loaded at an address, each with its place.
abbrev pub Places : Type 0
Places = Result (List (ℕ × Seen)) (Located FrameKind)

unfoldable pub entries : Sect → ℕ → List ℕ → Places
entries which address section =
    frame_entries section address which >>= λ found. Ok (map {B = ℕ × Seen} (λ entry. (entry.at, seen entry.body)) found)

-- The only entry, if there is exactly one.
abbrev pub only : Places → Option Seen
only (Ok (entry ∷ [])) = Some entry.1
only _ = None

-- The place of a section's fault.
abbrev pub fault_place : Places → Option ℕ
fault_place (Ok found) = None
fault_place (Err fault) = Some fault.at

-- A number as four bytes, the lowest first.
unfoldable pub word : ℕ → List ℕ
word n = n % 256 ∷ n / 256 % 256 ∷ n / 65536 % 256 ∷ n / 16777216 % 256 ∷ []

-- An `.eh_frame` that is loaded at 2000. It has a CIE (version 1, zR, pointers 1b), an FDE at 18
-- for the 20 bytes from 1000 on, and the zero that ends it.
unfoldable pub small : List ℕ
unfolding hex
small =
    hex "14000000 00000000 01 7a5200 01 78 10 01 1b 0c0708 9001 0000 1c000000 1c000000 e0efffff 20000000 00 41 0e10 8602 43 0d06 4a 0c0708 000000 00000000"

-- The same section with one byte changed.
unfoldable pub changed : ℕ → ℕ → Places
changed place byte = entries EhFrame 0x2000 (slice_set small place byte)

-- A `.debug_frame` that has a CIE with this body, and an FDE for the 20 bytes from 1000 on, whose
-- addresses have eight bytes. The FDE's last byte is 0.
unfoldable pub under : String → Option Seen
unfolding hex word
under body =
    only (entries DebugFrame 0
    (word (length (hex body) + 4) ++ hex "ffffffff" ++ hex body ++ hex "15000000 00000000 00100000 00000000 20000000 00000000 00"))

unfoldable pub sections : ⊤
unfolding frame_entries_computes entries word small changed under
sections = tt
