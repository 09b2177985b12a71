-- What a look-up names at each address of a text with the records of functions.
use Rattle.std.specs.Prelude.{◌≡◌, ℕ, ◌+◌, List, map, Option, Some}
use Rattle.std.specs.Option.{option_map}
use Rattle.sym_records.specs.declared.line.SymLine.{SymLine}
use Rattle.sym_meaning.specs.TextNames.{text_owner, text_line, Call, text_chain}
use Rattle.debug_units.specs.declared.unit_read.UnitRead.{UnitRead}
use Rattle.die_names.specs.Names.{entry_name}
use Rattle.debug_units.specs.Owners.{Covering, owner, chain, line}
use Rattle.debug_units.specs.CallPaths.{path_of_call}

abbrev pub name_of : List UnitRead → Covering → List ℕ
name_of units c = entry_name units c.unit c.entry

-- a known path, and a line
abbrev pub found_line : List ℕ × ℕ → Option (List ℕ) × ℕ
found_line at = (Some at.0, at.1)

-- the call of an inlined copy: the name of the called function, and the path and the line of the call
abbrev pub call_in : List UnitRead → Covering → Call
call_in units c = record { name = Some (entry_name units c.unit c.entry); path = Some (path_of_call units c.unit c.die); line = c.die.call_line }

-- at an address of the text, the first FUNC that covers it has the name of the function that owns the address in the file. If no function owns it, no
-- FUNC covers it. The INLINE records give the calls of the address's chain, by INLINE_ORIGIN and FILE records that are there. The line record has the
-- path and the line of the address. If the address has no line, no line record covers it
pub record Names (base : ℕ) (units : List UnitRead) (lines : List SymLine) (x : ℕ) : Type 0 where
  pub function : text_owner lines x ≡ option_map (name_of units) (owner units (x + base))
  pub chain : text_chain lines x ≡ map (call_in units) (chain units (x + base))
  pub line : text_line lines x ≡ option_map found_line (line units (x + base))
