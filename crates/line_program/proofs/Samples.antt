-- Line tables for the worked examples, made field by field.
use Rattle.std.proofs.Common.{ℕ, false, None, nat_lt, ◌==◌, cond, List, [], ◌∷◌, ◌++◌, length, map, codes, Option, Result, Ok}
use Rattle.std.specs.Prelude.{⊤}
use Prim.Native.String.{String}
use Rattle.std.specs.Option.{option_map}
use Rattle.sym_edges.proofs.Hex.{hex, little}
use Rattle.sym_edges.proofs.Shown.{shown}
use Rattle.sym_edges.specs.Results.{◌>>=◌}
use Rattle.range_set.specs.Enclosing.{encloses}
use Rattle.abbrev_units.specs.DebugSections.{DebugSections}
use Rattle.line_program.specs.Faults.{Fault}
use Rattle.line_program.specs.LineAt.{Lines, line_at}
use Rattle.line_program.specs.LineTables.{unit_lines}

-- Bytes with their count in front.
unfoldable pub counted : ℕ → List ℕ → List ℕ
unfolding little
counted width bytes = little width (length bytes) ++ bytes

-- The fields between header_length and the tables: minimum_instruction_length,
-- maximum_operations_per_instruction (from version 4 on), default_is_stmt 1, line_base -3,
-- line_range 12, opcode_base 13 and the operand counts of the standard's opcodes.
unfoldable pub fields : ℕ → List ℕ
unfolding hex
fields version = hex "01" ++ (cond (nat_lt version 4) [] (hex "01") ++ hex "01 fd 0c 0d 00 01 01 01 01 00 00 00 01 00 00 01")

-- The sizes of an address and of a segment selector, in version 5.
unfoldable pub sizes : ℕ → List ℕ
unfolding hex
sizes version = cond (version == 5) (hex "08 00") []

-- A table after its length: these fields, the tables of directories and files, and a program.
unfoldable pub contents : ℕ → List ℕ → List ℕ → List ℕ → List ℕ
unfolding little sizes counted
contents version between tables program = little 2 version ++ (sizes version ++ (counted 4 (between ++ tables) ++ program))

unfoldable pub table : ℕ → String → String → List ℕ
unfolding hex fields contents counted
table version tables program = counted 4 (contents version (fields version) (hex tables) (hex program))

-- The same table in the 64-bit format.
unfoldable pub wide_table : ℕ → String → String → List ℕ
unfolding hex little fields sizes counted
wide_table version tables program = hex "ffffffff" ++ counted 8 (little 2 version ++ (sizes version ++ (counted 8 (fields version ++ hex tables) ++ hex program)))

-- The section of line tables, and texts in the two sections of texts.
unfoldable pub sections : List ℕ → DebugSections
unfolding hex
sections line = record {
  info = [];
  abbrevs = [];
  line = line;
  line_str = hex "00 6c2e6300";
  strs = hex "00 7300 732e6300";
  str_offsets = hex "01000000";
  addr = [];
  ranges = [];
  rnglists = [];
  sup_strs = None;
  is_sup = false;
}

-- The table at an offset, read for a unit whose root is at b.
unfoldable pub read_at : ℕ → String → List ℕ → Result Lines Fault
unfolding sections
read_at offset comp_dir line = unit_lines (sections line) offset 0xb (codes comp_dir)

-- The number of the table's first file.
unfoldable pub first_file : ℕ → List ℕ → Result ℕ Fault
unfolding read_at
first_file offset line = read_at offset "/s" line >>= λ lines. Ok lines.first

-- The paths of the files.
unfoldable pub paths : String → List ℕ → Result (List String) Fault
unfolding read_at shown
paths comp_dir line = read_at 0 comp_dir line >>= λ lines. Ok (map shown lines.files)

abbrev named : Option (List ℕ × ℕ) → Option (String × ℕ)
named at = option_map (λ l. (shown l.0, l.1)) at

-- The lines of some addresses, if 1000 to 2000 and 2000 to 3000 are code.
unfoldable pub lines : List ℕ → List ℕ → Result (List (Option (String × ℕ))) Fault
unfolding read_at shown
lines addresses line =
    read_at 0 "/s" line >>= λ read. Ok (map {B = Option (String × ℕ)} (λ a. named (line_at (encloses (record { start = 0x1000; end = 0x2000 } ∷ record { start = 0x2000; end = 0x3000 } ∷ [])) read a)) addresses)

unfoldable pub tables_compute : ⊤
unfolding counted fields sizes contents table wide_table sections read_at first_file paths lines hex little
tables_compute = tt
