-- Worked examples: the lines in a piece. There is a character for each address, in order: a digit
-- for a line of the first path, a letter for a line of the second path, or a point if there is no
-- line.
use Rattle.std.proofs.Common.{◌≡◌, ℕ, ◌+◌, ◌*◌, map, List, [], ◌∷◌, Option, Some, None, codes, rules}
use Rattle.std.specs.List.{range_with_len}
use Prim.Native.String.{String}
use Rattle.sym_edges.proofs.Shown.{shown}
use Rattle.step_maps.specs.Runs.{between}
use Rattle.line_program.specs.declared.path_line.PathLine.{PathLine}
use Rattle.debug_units.specs.declared.unit_read.UnitRead.{UnitRead}
use Rattle.debug_units.proofs.MadeUnits.{bare_unit}
use Rattle.func_flatten.specs.LineRuns.{unit_number_line, unit_line}
use Rattle.func_flatten.proofs.Computing.{func_flatten_computes}

abbrev at : ℕ → ℕ → PathLine
at path line = record { path = path; line = line }

-- Line 1 of the first path from 2 on, its line 3 from 4 on, no line from 6 on, line 3 of the second
-- path from 8 on, the same line again from 9 on, and no line from 11 on.
unfoldable lines : List UnitRead
lines = record (bare_unit [] []) {
  lines = record {
    lines = record { stops = 2 ∷ 4 ∷ 6 ∷ 8 ∷ 9 ∷ 11 ∷ []; values = at 0 1 ∷ at 0 3 ∷ at 0 0 ∷ at 1 3 ∷ at 1 3 ∷ at 0 0 ∷ [] };
    first = 1;
    paths = codes "a.c" ∷ codes "b.c" ∷ [];
  };
} ∷ []

abbrev sign : Option (ℕ × ℕ) → ℕ
sign None = 46
sign (Some m) = 48 + m.1 + m.0 * 48

unfoldable seen : ℕ → ℕ → ℕ → String
seen unit start end = shown (map (λ a. sign (between start end (unit_number_line lines unit) a)) (range_with_len 0 13))

record Signs : Type 0 where
  whole : seen 0 0 13 ≡ "..1133..ccc.."
  -- Lines that reach across the ends of the piece.
  within : seen 0 3 9 ≡ "...133..c...."
  -- A unit that does not exist.
  no_unit : seen 1 0 13 ≡ "............."
  by_path : unit_line lines 0 9 ≡ Some (codes "b.c", 3)
  without_a_line : unit_line lines 0 7 ≡ None

signs : Signs
unfolding seen lines func_flatten_computes
signs = search rules
