-- The paths that are noted from stop to stop are those of the runs; for src/line_paths.rt.
use Rattle.std.proofs.Common.{◌≡◌, ℕ, ◌<◌, ◌≤◌, Bool, true, false, ◌&&◌, ◌||◌, ◌==◌, if◌then◌else◌, length, drop, List, [], ◌∷◌, Option, None, Some, unwrap_or, arith, refl, sym, ap, ◌∙◌}
use Rattle.std.proofs.lemmas.Bool.Decides.{nat_tests}
use Rattle.std.specs.List.{slice_get}
use Rattle.std.specs.Str.{bytes_eq}
use Rattle.sym_edges.specs.Rising.{RisesFrom}
use Rattle.step_maps.proofs.SteppingLemmas.{Point}
use Rattle.std.proofs.lemmas.Slice.Eq.{bytes_eq-Decides}
use Rattle.line_program.specs.LineMaps.{LineMap, numbered_line}
use Rattle.debug_units.specs.declared.unit_read.UnitRead.{UnitRead}
use Rattle.func_flatten.specs.declared.piece.Piece.{Piece}
use Rattle.func_flatten.specs.declared.line_run.LineRun.{LineRun}
use Rattle.func_flatten.specs.LineRuns.{paths_in, unit_paths}
use Rattle.func_flatten.specs.internal.Growing.{continues, with_run_after, with_run, with_part, IsKnown}
use Rattle.func_flatten.proofs.LineLemmas.{walks_start, walks_on, walks_end, walks_out, lines_some, lines_none, lines_empty}
use Rattle.func_records.specs.FuncRecords.{path_in}
use Rattle.func_records.specs.declared.path_list.PathRef.{PathRef}
use Rattle.inline_chain.specs.InlineRuns.{InlineParts}
use Rattle.func_records.specs.internal.Calls.{AreKnown}
use Rattle.func_records.specs.internal.Gathering.{has_path, any_run, any_call, AddsPiece}
use Rattle.func_records.specs.internal.Noting.{has_line, Noting, Noted, AddsLines}
use Rattle.func_records.proofs.ListLemmas.{or_assoc, or_false}

pub one_number : (units : List UnitRead) (unit number other : ℕ) (path : List ℕ) → number ≡ other → bytes_eq path (path_in units unit number) ≡ bytes_eq path (path_in units unit other)
one_number units unit number other path same = ap (λ k. bytes_eq path (path_in units unit k)) same

-- A path that the next line has too.
pub left_to_next : (units : List UnitRead) (unit : ℕ) (line next : Option (ℕ × ℕ)) (old : List PathRef) (path : List ℕ) → has_line units unit line path ≡ has_line units unit next path → (has_path units old path || has_line units unit next path) ≡ ((has_path units old path || has_line units unit line path) || has_line units unit next path)
left_to_next units unit line next old path same =
    twice (has_path units old path) (has_line units unit next path)
    ∙ ap (λ b. (has_path units old path || b) || has_line units unit next path) (sym same)
  where
    twice : (b c : Bool) → (b || c) ≡ ((b || c) || c)
    twice true c = refl
    twice false true = refl
    twice false false = refl

pub noted_now : (units : List UnitRead) (unit : ℕ) (line next : Option (ℕ × ℕ)) (old new : List PathRef) (path : List ℕ) → has_path units new path ≡ (has_path units old path || has_line units unit line path) → (has_path units new path || has_line units unit next path) ≡ ((has_path units old path || has_line units unit line path) || has_line units unit next path)
noted_now units unit line next old new path is = ap (λ b. b || has_line units unit next path) is

and_right : (p q : Bool) → (p && q) ≡ true → q ≡ true
and_right true q is = is
and_right false q is = absurd (cc)

-- The paths of runs, after one run was added.
any_after : (units : List UnitRead) (unit : ℕ) (paths : List (List ℕ)) → unit_paths units unit ≡ paths → (x : LineRun) (xs : List LineRun) (r : LineRun) (path : List ℕ) → any_run units unit (with_run_after paths x xs r) path ≡ (any_run units unit (x ∷ xs) path || bytes_eq path (path_in units unit r.path))
any_after units unit paths its x [] r path = go (continues paths x r) refl
  where
    joined : (b c : Bool) → b ≡ c → (b || false) ≡ ((b || false) || c)
    joined true c is = refl
    joined false true is = absurd (cc)
    joined false false is = refl

    beside : (b c : Bool) → (b || (c || false)) ≡ ((b || false) || c)
    beside true c = refl
    beside false c = or_false c

    got : (k : ℕ) → path_in units unit k ≡ unwrap_or (slice_get paths k) []
    got k = ap (λ ps. unwrap_or (slice_get ps k) []) its

    go : (b : Bool) → continues paths x r ≡ b → any_run units unit (if b then record { start = x.start; end = r.end; path = x.path; line = x.line } ∷ [] else x ∷ r ∷ []) path ≡ (any_run units unit (x ∷ []) path || bytes_eq path (path_in units unit r.path))
    go true on =
        let alike : bytes_eq (unwrap_or (slice_get paths x.path) []) (unwrap_or (slice_get paths r.path) []) ≡ true = and_right (x.line == r.line) _ (and_right (x.end == r.start) _ on) in
        let text : unwrap_or (slice_get paths x.path) [] ≡ unwrap_or (slice_get paths r.path) [] = (bytes_eq-Decides _ _).0 alike in
        joined (bytes_eq path (path_in units unit x.path)) (bytes_eq path (path_in units unit r.path)) (ap (bytes_eq path) (got x.path ∙ text ∙ sym (got r.path)))
    go false on = beside (bytes_eq path (path_in units unit x.path)) (bytes_eq path (path_in units unit r.path))
any_after units unit paths its x (y ∷ ys) r path =
    ap (λ b. bytes_eq path (path_in units unit x.path) || b) (any_after units unit paths its y ys r path)
    ∙ sym (or_assoc (bytes_eq path (path_in units unit x.path)) (any_run units unit (y ∷ ys) path) (bytes_eq path (path_in units unit r.path)))

any_with : (units : List UnitRead) (unit : ℕ) (paths : List (List ℕ)) → unit_paths units unit ≡ paths → (runs : List LineRun) (r : LineRun) (path : List ℕ) → any_run units unit (with_run paths runs r) path ≡ (any_run units unit runs path || bytes_eq path (path_in units unit r.path))
any_with units unit paths its [] r path = or_false (bytes_eq path (path_in units unit r.path))
any_with units unit paths its (x ∷ xs) r path = any_after units unit paths its x xs r path

any_part : (units : List UnitRead) (unit : ℕ) (paths : List (List ℕ)) → unit_paths units unit ≡ paths → (line : Option (ℕ × ℕ)) (start end : ℕ) (runs : List LineRun) (path : List ℕ) → any_run units unit (with_part paths line start end runs) path ≡ (any_run units unit runs path || has_line units unit line path)
any_part units unit paths its None start end runs path = sym (or_false (any_run units unit runs path))
any_part units unit paths its (Some m) start end runs path = any_with units unit paths its runs (record { start = start; end = end; path = m.0; line = m.1 }) path

-- The path of the line at the current stop was added.
part_noted : (table : LineMap) (unit start end stop : ℕ) (line : Option (ℕ × ℕ)) (rest : List ℕ) (old mid : List PathRef) (n : Noting table unit start end line rest old mid) (units : List UnitRead) (path : List ℕ) → unit_paths units unit ≡ table.paths → (has_path units mid path || has_line units unit line path) ≡ (has_path units old path || any_run units unit (with_part table.paths line n.reached stop n.lines) path)
part_noted table unit start end stop line rest old mid n units path its =
    n.same units path its
    ∙ or_assoc (has_path units old path) (any_run units unit n.lines path) (has_line units unit line path)
    ∙ ap (λ b. has_path units old path || b) (sym (any_part units unit table.paths its line n.reached stop n.lines path))

-- From the start to the next stop, and to the end.
pub noting_start : (table : LineMap) (stops : List ℕ) (unit k start end : ℕ) (line : Option (ℕ × ℕ)) (old : List PathRef) → stops ≡ table.lines.stops → start < end → RisesFrom 0 table.lines.stops → k ≤ length stops → Point stops start k → line ≡ numbered_line table start → IsKnown (length table.paths) line → Noting table unit start end line (drop k stops) old old
noting_start table stops unit k start end line old same some rising few point is known = record {
  reached = start;
  lines = [];
  walks = walks_start table stops k start end line same some rising few point is known;
  same = λ units path its. ap (λ b. b || has_line units unit line path) (sym (or_false (has_path units old path)));
}

pub noting_on : (table : LineMap) (unit start end stop : ℕ) (line next : Option (ℕ × ℕ)) (stops rest : List ℕ) (old mid new : List PathRef) → stops ≡ stop ∷ rest → Noting table unit start end line stops old mid → stop < end → next ≡ numbered_line table stop → IsKnown (length table.paths) next
    → ((units : List UnitRead) (path : List ℕ) → (has_path units new path || has_line units unit next path) ≡ ((has_path units mid path || has_line units unit line path) || has_line units unit next path))
    → Noting table unit start end next rest old new
noting_on table unit start end stop line next stops rest old mid new part n more is known adds = record {
  reached = stop;
  lines = with_part table.paths line n.reached stop n.lines;
  walks = walks_on table.paths (numbered_line table) start end n.reached stop line next stops rest n.lines part n.walks more is known;
  same = λ units path its. adds units path ∙ ap (λ b. b || has_line units unit next path) (part_noted table unit start end stop line stops old mid n units path its);
}

pub noting_end : (table : LineMap) (unit start end stop : ℕ) (line : Option (ℕ × ℕ)) (stops rest : List ℕ) (old mid new : List PathRef) → stops ≡ stop ∷ rest → Noting table unit start end line stops old mid → end ≤ stop
    → ((units : List UnitRead) (path : List ℕ) → has_path units new path ≡ (has_path units mid path || has_line units unit line path))
    → Noted table unit start end old new
noting_end table unit start end stop line stops rest old mid new part n last adds = record {
  lines = with_part table.paths line n.reached end n.lines;
  runs = (walks_end table.paths (numbered_line table) start end n.reached stop line stops rest n.lines part n.walks last).0;
  starts = (walks_end table.paths (numbered_line table) start end n.reached stop line stops rest n.lines part n.walks last).1;
  same = λ units path its. adds units path ∙ part_noted table unit start end end line stops old mid n units path its;
}

pub noting_out : (table : LineMap) (unit start end : ℕ) (line : Option (ℕ × ℕ)) (rest : List ℕ) (old mid new : List PathRef) → Noting table unit start end line rest old mid → rest ≡ []
    → ((units : List UnitRead) (path : List ℕ) → has_path units new path ≡ (has_path units mid path || has_line units unit line path))
    → Noted table unit start end old new
noting_out table unit start end line rest old mid new n all adds = record {
  lines = with_part table.paths line n.reached end n.lines;
  runs = (walks_out table.paths (numbered_line table) start end n.reached line rest n.lines n.walks all).0;
  starts = (walks_out table.paths (numbered_line table) start end n.reached line rest n.lines n.walks all).1;
  same = λ units path its. adds units path ∙ part_noted table unit start end end line rest old mid n units path its;
}

-- The paths of the lines of a piece.
pub adds_some : (units : List UnitRead) (piece : Piece) (part : UnitRead) (old new : List PathRef) → Some part ≡ slice_get units piece.unit → Noted part.lines piece.unit piece.start piece.end old new → AddsLines units piece old new
unfolding unit_paths
adds_some units piece part old new is noted = record {
  lines = noted.lines;
  runs = lines_some units piece noted.lines part is (noted.runs, noted.starts);
  same = λ path. noted.same units path (ap paths_in (sym is));
}

pub adds_none : (units : List UnitRead) (piece : Piece) (old : List PathRef) → None ≡ slice_get units piece.unit → AddsLines units piece old old
adds_none units piece old is = record { lines = []; runs = lines_none units piece is; same = λ path. sym (or_false (has_path units old path)) }

pub adds_empty : (units : List UnitRead) (piece : Piece) (old : List PathRef) → piece.end ≤ piece.start → AddsLines units piece old old
adds_empty units piece old none = record { lines = []; runs = lines_empty units piece none; same = λ path. sym (or_false (has_path units old path)) }

-- The paths of the calls of its copies are added.
pub adds_piece : (units : List UnitRead) (piece : Piece) (copies : List InlineParts) (old mid new : List PathRef) → AddsLines units piece old mid → AreKnown units piece.unit copies → ((path : List ℕ) → has_path units new path ≡ (has_path units mid path || any_call units piece.unit copies path)) → AddsPiece units piece copies old new
adds_piece units piece copies old mid new lines known calls = record {
  lines = lines.lines;
  runs = lines.runs;
  known = known;
  same = λ path. calls path ∙ ap (λ b. b || any_call units piece.unit copies path) (lines.same path);
}
