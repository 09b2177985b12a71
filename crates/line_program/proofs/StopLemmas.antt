-- The line at a stop is the value stored with it.
use Rattle.std.proofs.Common.{◌≡◌, ◌≢◌, ◌<◌, ◌≤◌, ◌^◌, ℕ, zero, suc, ◌+◌, ◌==◌, Bool, true, false, cond, List, [], ◌∷◌, length, get_or, Some, None, refl, sym, ◌∙◌, ap, subst, arith}
use Rattle.std.specs.Option.{IfSome}
use Rattle.std.proofs.lemmas.Bool.Decides.{nat_tests}
use Rattle.sym_edges.specs.Rising.{RisesFrom}
use Rattle.sym_edges.proofs.RisingLemmas.{rises_apart}
use Rattle.step_maps.specs.Stepping.{Stepping, value_at, last_from, IsStepping}
use Rattle.step_maps.proofs.PieceLemmas.{start_low}
use Rattle.step_maps.proofs.SteppingLemmas.{held_at_index}
use Rattle.line_program.specs.declared.path_line.PathLine.{PathLine}
use Rattle.line_program.specs.LineMaps.{LineMap, no_line, shown, numbered_line, AreNamed}

up_to_last : (from low : ℕ) (stops : List ℕ) (i : ℕ) → RisesFrom from stops → i < length stops → get_or stops i 0 ≤ last_from low stops
up_to_last from low [] i up inside = absurd (omega arith)
up_to_last from low (s ∷ stops) zero up inside = start_low s stops up.1
up_to_last from low (s ∷ stops) (suc i) up inside = up_to_last (s + 1) s stops i up.1 (omega arith)

pub stop_fits : (lines : Stepping PathLine) (i : ℕ) → IsStepping lines.stops lines.values → i < length lines.stops → get_or lines.stops i 0 < 2 ^ 64
stop_fits lines i stepping inside = omega (arith, stepping.fits, up_to_last 0 0 lines.stops i stepping.rising inside)

pub values_there : (lines : Stepping PathLine) (values : List PathLine) (i : ℕ) → IsStepping lines.stops lines.values → values ≡ lines.values → i < length lines.stops → i < length values
values_there lines values i stepping is inside = omega (arith, stepping.paired, ap (λ (l : List PathLine). length l) is)

pub stop_line : (lines : Stepping PathLine) (values : List PathLine) (i : ℕ) (d : PathLine) → IsStepping lines.stops lines.values → values ≡ lines.values → i < length lines.stops → get_or values i d ≡ value_at no_line lines (get_or lines.stops i 0)
stop_line lines values i d stepping is inside =
    ap (λ l. get_or l i d) is
    ∙ sym (held_at_index no_line d lines.stops lines.values i (get_or lines.stops i 0) stepping inside (omega arith) (λ more. rises_apart 0 lines.stops stepping.rising i (i + 1) 0 0 (omega arith) more))

named_by : (t : Bool) (v : PathLine) (bound : ℕ) → (v.line == 0) ≡ t → (v.line ≢ 0 → v.path < bound) → IfSome {T = ℕ × ℕ} (cond t None (Some (v.path, v.line))) (λ line. line.0 < bound)
named_by true v bound is below = tt
named_by false v bound is below = below (grind (arith, nat_tests))

pub stop_named : (v : PathLine) (bound : ℕ) → (v.line ≢ 0 → v.path < bound) → IfSome (shown v) (λ line. line.0 < bound)
stop_named v bound below = named_by (v.line == 0) v bound refl below

-- The value stored with a stop of a table.
abbrev view_of : Stepping PathLine → ℕ → List (List ℕ) → LineMap
view_of lines first paths = record { lines = lines; first = first; paths = paths }

pub value_there : (lines : Stepping PathLine) (first : ℕ) (paths : List (List ℕ)) (table : LineMap) (values : List PathLine) (i : ℕ) → view_of lines first paths ≡ table → IsStepping lines.stops lines.values → values ≡ lines.values → i < length table.lines.stops → i < length values
value_there lines first paths table values i view stepping is inside =
    values_there lines values i stepping is (subst (λ (t : LineMap). i < length t.lines.stops) (sym view) inside)

pub line_there : (lines : Stepping PathLine) (first : ℕ) (paths : List (List ℕ)) (table : LineMap) (values : List PathLine) (i : ℕ) (d : PathLine) → view_of lines first paths ≡ table → IsStepping lines.stops lines.values → values ≡ lines.values → i < length table.lines.stops → shown (get_or values i d) ≡ numbered_line table (get_or table.lines.stops i 0)
line_there lines first paths table values i d view stepping is inside =
    ap shown (stop_line lines values i d stepping is (subst (λ (t : LineMap). i < length t.lines.stops) (sym view) inside))
    ∙ ap (λ (t : LineMap). numbered_line t (get_or t.lines.stops i 0)) view

pub named_there : (lines : Stepping PathLine) (first : ℕ) (paths : List (List ℕ)) (table : LineMap) (values : List PathLine) (i : ℕ) (d : PathLine) → view_of lines first paths ≡ table → AreNamed lines paths → IsStepping lines.stops lines.values → values ≡ lines.values → i < length table.lines.stops → IfSome (shown (get_or values i d)) (λ line. line.0 < length table.paths)
named_there lines first paths table values i d view named stepping is inside =
    let here : i < length lines.stops = subst (λ (t : LineMap). i < length t.lines.stops) (sym view) inside in
    let at : get_or values i d ≡ value_at no_line lines (get_or lines.stops i 0) = stop_line lines values i d stepping is here in
    subst (λ (t : LineMap). IfSome (shown (get_or values i d)) (λ line. line.0 < length t.paths)) view
    (stop_named (get_or values i d) (length paths)
    (subst (λ (v : PathLine). v.line ≢ 0 → v.path < length paths) (sym at) (named (get_or lines.stops i 0) (stop_fits lines i stepping here))))
