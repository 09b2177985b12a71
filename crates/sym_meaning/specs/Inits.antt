-- Which addresses the INIT records of a symbol file cover, and where its STACK CFI records may be (Breakpad's symbol_files.md, "STACK CFI INIT" and
-- "STACK CFI").
use Rattle.std.specs.Prelude.{ℕ, ◌+◌, ◌<◌, ◌&&◌, nat_lt, nat_le, Bool, true, false, List, [], ◌∷◌, count_by}
use Rattle.sym_records.specs.declared.line.SymLine.{SymLine}
use Rattle.sym_records.specs.declared.line.SymLine.TheVariants.{Init, Change}

-- an INIT covers the addresses of its range
abbrev pub init_covers : ℕ → SymLine → Bool
init_covers x (Init address size rules) = nat_le address x && nat_lt x (address + size)
init_covers x line = false

-- how many INITs cover an address
unfoldable pub inits_at : List SymLine → ℕ → ℕ
inits_at lines x = count_by (init_covers x) lines

-- no INIT is empty. Each STACK CFI directly follows an INIT or another STACK CFI, is inside the
-- range of the INIT, and has an address above that of the record before it. The records `lines`
-- follow a frame record at the address `last`, in a range that ends at `end`
abbrev pub AreNested : ℕ → ℕ → List SymLine → Type 0
AreNested last end [] = Unit {0}
AreNested last end (Init address size rules ∷ lines) = (0 < size) × AreNested address (address + size) lines
AreNested last end (Change address rules ∷ lines) = (last < address) × ((address < end) × AreNested address end lines)
AreNested last end (line ∷ lines) = AreNested 0 0 lines

-- a record that is not about frames
abbrev pub is_frameless : SymLine → Bool
is_frameless (Init address size rules) = false
is_frameless (Change address rules) = false
is_frameless line = true
