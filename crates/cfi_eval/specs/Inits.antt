-- The index of the INIT whose rules apply at an address (Breakpad's symbol_files.md, "STACK CFI
-- INIT").
use Rattle.std.specs.Prelude.{ℕ, Bool, false, List, Option}
use Rattle.std.specs.List.{position}
use Rattle.sym_records.specs.declared.line.SymLine.{SymLine}
use Rattle.sym_records.specs.declared.line.SymLine.TheVariants.{Init}
use Rattle.cfi_eval.specs.TextRules.{covers}

-- whether the record is an INIT that covers the address
abbrev pub is_init_at : ℕ → SymLine → Bool
is_init_at x (Init address size rules) = covers x address size
is_init_at x _ = false

-- the index of the first such record
unfoldable pub init_place : List SymLine → ℕ → Option ℕ
init_place lines x = position (is_init_at x) lines
