-- Worked examples: the call paths of inlined copies, and the records of a piece with its copies.
use Rattle.std.proofs.Common.{◌≡◌, ℕ, false, List, [], ◌∷◌, Option, Some, None, codes, refl}
use Rattle.sym_edges.specs.Addresses.{Range}
use Rattle.sym_records.specs.declared.line.SymLine.TheVariants.{File, Origin, Func, Inline, Line}
use Rattle.die_walk.specs.EntryTable.{DieFields}
use Rattle.debug_units.specs.declared.unit_read.UnitRead.{UnitRead}
use Rattle.debug_units.proofs.MadeUnits.{bare_entry, bare_unit}
use Rattle.func_flatten.specs.LineRuns.{unit_paths}
use Rattle.func_flatten.proofs.Computing.{func_flatten_computes}
use Rattle.func_records.specs.FuncRecords.{Part, call_path, number_in, file_lines, origin_lines, part_lines}
use Rattle.debug_units.specs.CallPaths.{no_path, path_of_call}

-- An entry with this tag and this linkage name, and with a call in this file and line.
unfoldable entry : ℕ → List ℕ → Option ℕ → ℕ → DieFields
entry tag name file line = record (bare_entry tag) { parent = Some 0; linkage = Some name; call_file = file; call_line = line }

-- A unit with a function and three inlined copies, whose files are numbered from `first` on.
unfoldable unit : ℕ → UnitRead
unit first = record (bare_unit (entry 0x2e (codes "f") None 0 ∷ entry 0x1d (codes "g") (Some 1) 7 ∷ entry 0x1d (codes "h") None 0 ∷ entry 0x1d (codes "g") (Some 0) 8 ∷ []) []) {
  lines = record { lines = record { stops = []; values = [] }; first = first; paths = codes "a.c" ∷ codes "b.h" ∷ [] };
}

-- Files are numbered from 1 in the first unit, and from 0 in the second.
unfoldable units : List UnitRead
units = unit 1 ∷ unit 0 ∷ []

from_one : call_path units 0 1 ≡ codes "a.c"
unfolding units unit entry func_flatten_computes no_path path_of_call
from_one = refl

from_zero : call_path units 1 1 ≡ codes "b.h"
unfolding units unit entry func_flatten_computes no_path path_of_call
from_zero = refl

without_a_file : call_path units 0 2 ≡ codes "<name omitted>"
unfolding units unit entry func_flatten_computes no_path path_of_call
without_a_file = refl

-- File 0 is only in a table whose files are numbered from 0.
file_zero : call_path units 0 3 ≡ codes "<name omitted>"
unfolding units unit entry func_flatten_computes no_path path_of_call
file_zero = refl

first_file : call_path units 1 3 ≡ codes "a.c"
unfolding units unit entry func_flatten_computes no_path path_of_call
first_file = refl

without_an_entry : call_path units 0 4 ≡ codes "<name omitted>"
unfolding units unit entry func_flatten_computes no_path path_of_call
without_an_entry = refl

abbrev on : ℕ → ℕ → Range
on start end = record { start = start; end = end }

unfoldable part : Part
part = record {
  piece = record { unit = 0; entry = 0; start = 0x1010; end = 0x1050; many = false };
  copies = record { level = 0; entry = 1; spans = on 0x1014 0x1018 ∷ on 0x1020 0x1030 ∷ [] } ∷ record { level = 1; entry = 2; spans = on 0x1024 0x1028 ∷ [] } ∷ [];
  lines = record { start = 0x1010; end = 0x1050; path = 1; line = 3 } ∷ [];
}

-- Numbers are in the order of bytes, and the base is subtracted from all addresses.
unfoldable paths : List (List ℕ)
paths = codes "<name omitted>" ∷ codes "a.c" ∷ codes "b.h" ∷ []

unfoldable names : List (List ℕ)
names = codes "g" ∷ codes "h" ∷ []

records_of_a_piece : part_lines 0x1000 paths names units (part ∷ [])
    ≡ Func false 0x10 0x40 0 (codes "f")
    ∷ Inline 0 7 1 0 (record { address = 0x14; size = 4 } ∷ record { address = 0x20; size = 0x10 } ∷ [])
    ∷ Inline 1 0 0 1 (record { address = 0x24; size = 4 } ∷ [])
    ∷ Line 0x10 0x40 3 2
    ∷ []
unfolding part paths names units unit entry func_flatten_computes unit_paths no_path path_of_call number_in
records_of_a_piece = refl

records_of_texts : file_lines 0 paths ≡ File 0 (codes "<name omitted>") ∷ File 1 (codes "a.c") ∷ File 2 (codes "b.h") ∷ []
unfolding paths
records_of_texts = refl

records_of_names : origin_lines 0 names ≡ Origin 0 (codes "g") ∷ Origin 1 (codes "h") ∷ []
unfolding names
records_of_names = refl
